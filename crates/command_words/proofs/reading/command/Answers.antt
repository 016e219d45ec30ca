use Rattle.std.proofs.Common.{◌≡◌, ◌∙◌, ap, ap₂, codes, rules, true}
use Rattle.std.proofs.lemmas.Result.{IfOk-weaker}
use Rattle.clap.specs.Words.{App, app_of, new_app, rule_of, with_rule}
use Rattle.clap.specs.Simple.{app_of_fields, on_top}
use Rattle.command_words.specs.Words.{component_rule, file_rule}
use Rattle.command_words.proofs.reading.command.Goals as goal

abbrev without_help : App → App
without_help = on_top (λ s. record s { disable_help_flag = true })

pub returns : goal.returns
returns c =
    let file_is : rule_of c.new-file.result ≡ file_rule = search rules in
    let component_is : rule_of c.long-component.result ≡ component_rule = search rules in
    let bare_is : app_of c.disable_help_flag-bare.result ≡ without_help (new_app (codes "slintrun")) =
    ap app_of_fields c.disable_help_flag-bare.ensures ∙ ap without_help c.new-2.ensures.app in
    let first_is : app_of c.in_ok-arg.field-0 ≡ with_rule (without_help (new_app (codes "slintrun"))) file_rule =
    c.in_ok-arg.ensures.shape (search rules) ∙ ap₂ with_rule bare_is file_is in
    IfOk-weaker c.arg-2.result _ _ (λ made adds. adds.shape (search rules) ∙ ap₂ with_rule first_is component_is) c.arg-2.ensures
