use Rattle.script_lines.proofs.Trims.{after_blanks-trim}
use Rattle.script_lines.proofs.Cuts.{word_of-cut, after_word-cut, word_of-uncut, after_word-uncut}
use Rattle.script_lines.proofs.words.split_word.Goals as goal

pub returns-in-Some-clause-word : goal.returns-in-Some-clause-word
returns-in-Some-clause-word c =
    let cut = c.in-Some.ensures.cases in
    word_of-cut c.args.text.now c.in-Some.word.now cut.0 cut.1 cut.2 cut.3

pub returns-in-Some-clause-rest : goal.returns-in-Some-clause-rest
returns-in-Some-clause-rest c =
    let cut = c.in-Some.ensures.cases in
    after_word-cut c.args.text.now c.in-Some.rest.now c.trim_start_matches.result.now cut.0 cut.1 cut.2 cut.4
    (after_blanks-trim c.in-Some.rest.now c.trim_start_matches.result.now c.trim_start_matches.ensures.matches)

pub returns-in-None-clause-word : goal.returns-in-None-clause-word
returns-in-None-clause-word c = word_of-uncut c.args.text.now c.in-None.ensures.cases

pub returns-in-None-clause-rest : goal.returns-in-None-clause-rest
returns-in-None-clause-rest c = after_word-uncut c.args.text.now c.in-None.ensures.cases
