-- What the words of the command line say: `slintrun FILE [--component NAME]`, as `clap` reads such words.
use Rattle.std.specs.Prelude.{ℕ, true, List, [], ◌∷◌, Option, Some, None, codes}
use Rattle.std.specs.Option.{option_map}
use Rattle.clap.specs.Words.{App, Kinds, Row, Rule, fault_of, first_of, matches_of, new_app, new_rule, with_rule}
use Rattle.clap.specs.Simple.{on_top}
use Rattle.slint_base.specs.Names.{normal_name}
use Rattle.command_words.specs.declared.reading.Words.{Words}

-- FILE: a positional argument, which `clap` itself doesn't ask for
abbrev pub file_rule : Rule
file_rule = new_rule (codes "file")

-- --component NAME: an option with one value, which may be left out and isn't given twice
abbrev pub component_rule : Rule
component_rule = record (new_rule (codes "component")) { long = Some (codes "component") }

-- the command: these two arguments and no other, so no help and no version, no subcommand, and neither names the other
abbrev pub program : App
program = with_rule (with_rule (on_top (λ s. record s { disable_help_flag = true }) (new_app (codes "slintrun"))) file_rule) component_rule

-- what readable words say: the main file's name, and the normal name of the component that they ask for
pub record WordsOf : Type 0 where
  pub file : List ℕ
  pub component : Option (List ℕ)

-- what the values of the two arguments say; without FILE nothing
abbrev pub said_by : Option (List ℕ) → Option (List ℕ) → Option WordsOf
said_by None name = None
said_by (Some file) name = Some (record { file = file; component = option_map normal_name name })

-- what the matches of the two arguments say
abbrev pub words_in : List Row → Option WordsOf
words_in rows = said_by (first_of (codes "file") rows) (first_of (codes "component") rows)

-- what is found, unless `clap` has a kind of error
abbrev pub unless_refused : Kinds → Option WordsOf → Option WordsOf
unless_refused [] found = found
unless_refused (kind ∷ kinds) found = None

-- what the words say, of which the first is the program's own name: nothing where `clap` refuses them or FILE isn't there
unfoldable pub words_of : List (List ℕ) → Option WordsOf
words_of ws = unless_refused (fault_of program ws) (words_in (matches_of program ws))

-- what the words say that the program has read
abbrev pub words_seen : Words → WordsOf
words_seen words = record { file = words.file; component = words.component }
