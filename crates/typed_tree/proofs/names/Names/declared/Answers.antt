use Rattle.std.specs.Prelude.{slice_get}
use Rattle.std.proofs.Common.{sym, ◌∙◌, ap}
use Rattle.typed_tree.specs.Files.{declared_among, names_in}
use Rattle.typed_tree.specs.Finding.{declared_in}
use Rattle.typed_tree.proofs.Listed.{declared_of, undeclared_of}
use Rattle.typed_tree.proofs.names.Names.declared.Goals as goal

pub returns-in-Some : goal.returns-in-Some
returns-in-Some c = c.declared_at.ensures ∙ ap (λ names. declared_in (slice_get names c.in-Some.number)) c.names_of_file.ensures
    ∙ ap (λ o. declared_in (slice_get (names_in (slice_get o.files c.args.file)) c.in-Some.number)) (sym c.self.view_is)
    ∙ declared_of c.self.inside.outline.files c.as_slice.result.now c.args.file c.args.name.now c.in-Some.number (c.as_slice.ensures ∙ c.self.invariant.names.files) (sym c.first_in.ensures ∙ c.in-Some.is)
    ∙ ap (λ o. declared_among c.args.name.now (names_in (slice_get o.files c.args.file))) c.self.view_is

pub returns-in-None : goal.returns-in-None
returns-in-None c = undeclared_of c.self.inside.outline.files c.as_slice.result.now c.args.file c.args.name.now (c.as_slice.ensures ∙ c.self.invariant.names.files) (sym c.first_in.ensures ∙ c.in-None.is)
    ∙ ap (λ o. declared_among c.args.name.now (names_in (slice_get o.files c.args.file))) c.self.view_is
