use Rattle.std.proofs.Common.{◌≡◌, ◌+◌, ◌<◌, List, [], ◌∷◌, length, take, slice_get, Some, None, Option, Ok, Err, string_bytes, refl, sym, ap, ◌∙◌, subst, arith, rules, length-append}
use Rattle.std.specs.Prelude.{⊤}
use Rattle.std.specs.Option.{option_map}
use Rattle.std.proofs.lemmas.Result.{err_from_is_err_and}
use Rattle.io_edge.specs.Files.{FileList}
use Rattle.file_exports.specs.Imports.{Import, import_of, imports_among, onto_some}
use Rattle.import_resolver.specs.declared.tables.SeenFile.{SeenFile}
use Rattle.import_resolver.specs.Loads.{Every, closed}
use Rattle.import_resolver.specs.Tables.{Ended, Went, asked_of, done_of_file, missing_of, seen_of_file, span_of, state_of}
use Rattle.import_resolver.proofs.Fitting.{at-grown, length-grown, unseen}
use Rattle.import_resolver.proofs.Lines.{short_of}
use Rattle.import_resolver.proofs.LoadSteps.{Begins, at-within, asks-below, asks-unopened, asks-within, begun-at, begun-right, count-after, count-err, every-item_ended, every-start, every-turn, item-asks_counted, item-asks_ended, item-asks_of, item-file_ended, item-missing_ended, item-none_of, item-taken, whole-closed, whole-every_ended, whole-known, whole-next_ended}
use Rattle.import_resolver.proofs.Parts.{some_same}
use Rattle.import_resolver.proofs.loading.+loading.Goals as goal

-- ---- a file

pub load_whole-returns-then-is_done-clause-ended : goal.load_whole-returns-then-is_done-clause-ended
load_whole-returns-then-is_done-clause-ended g t c = whole-known _ _ _ _ _ c.requires.1.1.1.0 (sym c.is_done.ensures ∙ c.if-is_done.true)

pub load_whole-next_file-requires : goal.load_whole-next_file-requires
load_whole-next_file-requires g t c =
    let right = c.requires.1.1.1.0 in
    let undone = sym c.is_done.ensures ∙ c.if-is_done.false in record {
      within = c.requires.1.1.1.1.1.1;
      short = short_of right.fitted;
      fresh = undone;
      new = unseen _ _ _ _ right.covered undone c.requires.1.1.1.1.1.0;
      few = right.few;
    }

pub load_whole-returns-in_err-file-clause-ended : goal.load_whole-returns-in_err-file-clause-ended
load_whole-returns-in_err-file-clause-ended g t c =
    let p = err_from_is_err_and c.from_residual.result c.from_residual.ensures.1 in
    rw (p.1, p.2) (whole-next_ended _ _ _ _ _ c.in_err-file.field-0.0 c.requires.1.1.1.0 c.in_err-file.ensures.next)

pub load_whole-returns-in_err-file-clause-counted : goal.load_whole-returns-in_err-file-clause-counted
load_whole-returns-in_err-file-clause-counted g t c =
    let p = err_from_is_err_and c.from_residual.result c.from_residual.ensures.1 in
    rw (p.1, p.2) (count-err SeenFile ⊤ c.in_err-file.field-0.0 _ _ _ _ c.in_err-file.ensures.counted)

pub load_whole-returns-in_err-begin-clause-ended : goal.load_whole-returns-in_err-begin-clause-ended
load_whole-returns-in_err-begin-clause-ended g t c =
    let p = err_from_is_err_and c.from_residual-in_err-begin.result c.from_residual-in_err-begin.ensures.1 in
    rw (p.1, p.2) tt

pub load_whole-returns-in_err-begin-clause-counted : goal.load_whole-returns-in_err-begin-clause-counted
load_whole-returns-in_err-begin-clause-counted g t c =
    let p = err_from_is_err_and c.from_residual-in_err-begin.result c.from_residual-in_err-begin.ensures.1 in
    rw (p.1, p.2) c.in_ok-file.ensures.counted.0

pub load_whole-load_every-requires : goal.load_whole-load_every-requires
load_whole-load_every-requires g t c =
    let right = c.requires.1.1.1.0 in
    let undone = sym c.is_done.ensures ∙ c.if-is_done.false in
    let begins : Begins _ c.args.table.now c.args.name.now c.in_ok-file.file c.begin.new.self =
    record { undone = undone; next = c.in_ok-file.ensures.next; files = c.in_ok-begin.ensures.files; done = c.in_ok-begin.ensures.done; loading = c.in_ok-begin.ensures.loading } in
    let new = unseen _ _ _ _ right.covered undone c.requires.1.1.1.1.1.0 in
    let len : length c.begin.new.self.files ≡ length c.args.table.now.files + 1 = omega (arith, ap length begins.files, length-append c.args.table.now.files (c.in_ok-file.file ∷ [])) in
    let room : length c.args.table.now.files < 64 = begins.next.room in
    λ k within. (omega (arith, len, room, c.requires.1.0), (within, (begun-right _ _ _ _ _ _ right c.requires.1.1.1.1.0 new begins, omega (arith, c.len-number.ensures))))

pub load_whole-returns-in_err-load_every-clause-ended : goal.load_whole-returns-in_err-load_every-clause-ended
load_whole-returns-in_err-load_every-clause-ended g t c =
    let undone = sym c.is_done.ensures ∙ c.if-is_done.false in
    let begins : Begins (g.F.Files.held c.args.files.now) c.args.table.now c.args.name.now c.in_ok-file.file c.begin.new.self =
    record { undone = undone; next = c.in_ok-file.ensures.next; files = c.in_ok-begin.ensures.files; done = c.in_ok-begin.ensures.done; loading = c.in_ok-begin.ensures.loading } in
    let at : slice_get c.begin.new.self.files c.len-number.result ≡ Some c.in_ok-file.file = ap (slice_get c.begin.new.self.files) c.len-number.ensures ∙ begun-at _ _ _ _ _ begins in
    let Halts : Option FileList → Type 0 = λ held. Ended c.args.main.now held c.begin.new.self (Every (seen_of_file c.in_ok-file.file) (imports_among c.in_ok-file.file.tree.items)) (Err c.in_err-load_every.field-0.0) c.load_every.new.table in
    let p = err_from_is_err_and c.from_residual-in_err-load_every.result c.from_residual-in_err-load_every.ensures.1 in
    rw (p.1, p.2) (whole-every_ended _ _ _ _ _ _ _ _ c.in_err-load_every.field-0.0 begins (subst Halts c.in_ok-file.ensures.same_map (c.in_err-load_every.ensures.ended c.in_ok-file.file at)))

pub load_whole-returns-in_err-load_every-clause-counted : goal.load_whole-returns-in_err-load_every-clause-counted
load_whole-returns-in_err-load_every-clause-counted g t c =
    let p = err_from_is_err_and c.from_residual-in_err-load_every.result c.from_residual-in_err-load_every.ensures.1 in
    rw (p.1, p.2) (count-after c.in_err-load_every.field-0.0 _ _ _ _ _ _ c.in_ok-file.ensures.counted.0 c.in_ok-file.ensures.counted.1 c.in_err-load_every.ensures.counted)

pub load_whole-returns-in_err-close-clause-ended : goal.load_whole-returns-in_err-close-clause-ended
load_whole-returns-in_err-close-clause-ended g t c =
    let p = err_from_is_err_and c.from_residual-in_err-close.result c.from_residual-in_err-close.ensures.1 in
    rw (p.1, p.2) tt

pub load_whole-returns-in_err-close-clause-counted : goal.load_whole-returns-in_err-close-clause-counted
load_whole-returns-in_err-close-clause-counted g t c =
    let p = err_from_is_err_and c.from_residual-in_err-close.result c.from_residual-in_err-close.ensures.1 in
    rw (p.1, p.2) (c.in_ok-load_every.ensures.counted.0 ∙ c.in_ok-file.ensures.counted.0)

pub load_whole-close-requires : goal.load_whole-close-requires
load_whole-close-requires g t c =
    let undone = sym c.is_done.ensures ∙ c.if-is_done.false in
    let begins : Begins (g.F.Files.held c.args.files.now) c.args.table.now c.args.name.now c.in_ok-file.file c.begin.new.self =
    record { undone = undone; next = c.in_ok-file.ensures.next; files = c.in_ok-begin.ensures.files; done = c.in_ok-begin.ensures.done; loading = c.in_ok-begin.ensures.loading } in
    let at : slice_get c.begin.new.self.files c.len-number.result ≡ Some c.in_ok-file.file = ap (slice_get c.begin.new.self.files) c.len-number.ensures ∙ begun-at _ _ _ _ _ begins in
    let went = c.in_ok-load_every.ensures.ended c.in_ok-file.file at in
    let more = length-grown _ _ went.grown in
    let len : length c.begin.new.self.files ≡ length c.args.table.now.files + 1 = omega (arith, ap length begins.files, length-append c.args.table.now.files (c.in_ok-file.file ∷ [])) in
    record { within = omega (arith, c.len-number.ensures, more, len); below = went.right.below }

pub load_whole-returns-clause-ended : goal.load_whole-returns-clause-ended
load_whole-returns-clause-ended g t c =
    let undone = sym c.is_done.ensures ∙ c.if-is_done.false in
    let begins : Begins (g.F.Files.held c.args.files.now) c.args.table.now c.args.name.now c.in_ok-file.file c.begin.new.self =
    record { undone = undone; next = c.in_ok-file.ensures.next; files = c.in_ok-begin.ensures.files; done = c.in_ok-begin.ensures.done; loading = c.in_ok-begin.ensures.loading } in
    let at : slice_get c.begin.new.self.files c.len-number.result ≡ Some c.in_ok-file.file = ap (slice_get c.begin.new.self.files) c.len-number.ensures ∙ begun-at _ _ _ _ _ begins in
    let Goes : Option FileList → Type 0 = λ held. Went c.args.main.now held c.begin.new.self (Every (seen_of_file c.in_ok-file.file) (imports_among c.in_ok-file.file.tree.items)) c.load_every.new.table in
    let went = subst Goes c.in_ok-file.ensures.same_map (c.in_ok-load_every.ensures.ended c.in_ok-file.file at) in
    let there = at-grown _ _ _ _ went.grown at in
    let closes = c.in_ok-close.ensures.closed c.in_ok-file.file there ∙ ap (λ n. closed c.args.main.now n (seen_of_file c.in_ok-file.file) (state_of c.load_every.new.table)) c.len-number.ensures in
    whole-closed _ _ _ _ _ _ _ _ _ begins went c.in_ok-close.ensures.files c.in_ok-close.ensures.loading closes

-- ---- the items of a file

pub load_every-loop-item-init : goal.load_every-loop-item-init
load_every-loop-item-init g t c = record {
  went = λ file at. every-start _ _ _ file c.requires.1.1.1.0;
  faults = refl;
  misses = refl;
  same_map = refl;
  steady = λ still. still;
}

pub load_every-load_item-requires : goal.load_every-load_item-requires
load_every-load_item-requires g t c =
    let file = at-within c.args.table.now.files c.args.importer c.requires.1.1.1.1 in
    let went = c.loop-item.invariant.went file.0 file.1 in
    let more = length-grown c.args.table.now.files c.loop-item.table.files went.grown in
    let count = c.item_count-count.ensures file.0 file.1 in
    let now = at-grown _ _ _ _ went.grown file.1 in
    let within_file : c.loop-item.item < length file.0.tree.items = omega (arith, count, c.loop-item-test.true) in
    λ k within. (omega (arith, more, c.requires.1.0), (within, (went.right, (omega (arith, more, c.requires.1.1.1.1), λ other at. subst (λ (f : SeenFile). c.loop-item.item < length f.tree.items) (some_same (sym now ∙ at)) within_file))))

pub load_every-returns-in_err-load_item-clause-ended : goal.load_every-returns-in_err-load_item-clause-ended
load_every-returns-in_err-load_item-clause-ended g t c =
    let p = err_from_is_err_and c.from_residual.result c.from_residual.ensures.1 in
    rw (p.1, p.2) (λ file at.
    let went = c.loop-item.invariant.went file at in
    let count = c.item_count-count.ensures file at in
    let item = at-within file.tree.items c.loop-item.item (omega (arith, count, c.loop-item-test.true)) in
    let now = at-grown _ _ _ _ went.grown at in
    let Halts : Option FileList → Type 0 = λ held. Ended c.args.main.now held c.loop-item.table (Every (seen_of_file file) (imports_among (item.0 ∷ []))) (Err c.in_err-load_item.field-0.0) c.load_item.new.table in
    every-item_ended _ _ _ _ _ file c.loop-item.item item.0 c.in_err-load_item.field-0.0 item.1 went (subst Halts c.loop-item.invariant.same_map (c.in_err-load_item.ensures.ended file item.0 now item.1)))

pub load_every-returns-in_err-load_item-clause-counted : goal.load_every-returns-in_err-load_item-clause-counted
load_every-returns-in_err-load_item-clause-counted g t c =
    let p = err_from_is_err_and c.from_residual.result c.from_residual.ensures.1 in
    rw (p.1, p.2) (count-after c.in_err-load_item.field-0.0 _ _ _ _ _ _ c.loop-item.invariant.faults c.loop-item.invariant.misses c.in_err-load_item.ensures.counted)

pub load_every-loop-item-preserved : goal.load_every-loop-item-preserved
load_every-loop-item-preserved g t c =
    let before = c.loop-item.invariant in
    let turn = c.in_ok-load_item.ensures in record {
      went = λ file at.
          let went = before.went file at in
          let count = c.item_count-count.ensures file at in
          let item = at-within file.tree.items c.loop-item.item (omega (arith, count, c.loop-item-test.true)) in
          let now = at-grown _ _ _ _ went.grown at in
          let Goes : Option FileList → Type 0 = λ held. Went c.args.main.now held c.loop-item.table (Every (seen_of_file file) (imports_among (item.0 ∷ []))) c.load_item.new.table in
          every-turn _ _ _ _ _ file c.loop-item.item item.0 item.1 went (subst Goes before.same_map (turn.ended file item.0 now item.1));
      faults = turn.counted.0 ∙ before.faults;
      misses = turn.counted.1 ∙ before.misses;
      same_map = turn.same_map ∙ before.same_map;
      steady = λ still. (turn.steady (before.steady still)).0;
    }

-- ---- one item

pub load_item-import_target-requires : goal.load_item-import_target-requires
load_item-import_target-requires g t c = let right = c.requires.1.1.1.0 in record { below = right.below; short = short_of right.fitted; there = c.requires.1.1.1.1.0 }

pub load_item-returns-in_err-asked-clause-ended : goal.load_item-returns-in_err-asked-clause-ended
load_item-returns-in_err-asked-clause-ended g t c =
    let p = err_from_is_err_and c.from_residual.result c.from_residual.ensures.1 in
    rw (p.1, p.2) (λ file item at its. item-asks_ended _ _ _ _ file (import_of item) c.in_err-asked.field-0.0 c.requires.1.1.1.0 (c.in_err-asked.ensures file item at its))

pub load_item-returns-in_err-asked-clause-counted : goal.load_item-returns-in_err-asked-clause-counted
load_item-returns-in_err-asked-clause-counted g t c =
    let file = at-within c.args.table.now.files c.args.importer c.requires.1.1.1.1.0 in
    let item = at-within file.0.tree.items c.args.item (c.requires.1.1.1.1.1 file.0 file.1) in
    let p = err_from_is_err_and c.from_residual.result c.from_residual.ensures.1 in
    rw (p.1, p.2) (item-asks_counted c.args.main.now c.args.table.now c.args.importer file.0 (import_of item.0) c.in_err-asked.field-0.0 _ _ (c.in_err-asked.ensures file.0 item.0 file.1 item.1))

pub load_item-returns-in-None-clause-ended : goal.load_item-returns-in-None-clause-ended
load_item-returns-in-None-clause-ended g t c = λ file item at its. item-none_of _ _ _ _ file (import_of item) c.in_ok-asked.asked c.requires.1.1.1.0 (c.in_ok-asked.ensures file item at its) c.in-None.is

pub load_item-load_whole-requires : goal.load_item-load_whole-requires
load_item-load_whole-requires g t c =
    let file = at-within c.args.table.now.files c.args.importer c.requires.1.1.1.1.0 in
    let item = at-within file.0.tree.items c.args.item (c.requires.1.1.1.1.1 file.0 file.1) in
    let asks = item-asks_of c.args.main.now c.args.table.now c.args.importer file.0 (import_of item.0) c.in_ok-asked.asked c.in-Some.target c.as_str.result.now (c.in_ok-asked.ensures file.0 item.0 file.1 item.1) c.in-Some.is c.as_str.ensures.value in
    λ k within. (omega (arith, c.requires.1.1.1.0.few), (within, (c.requires.1.1.1.0, (asks-below _ _ _ _ _ _ _ asks.2, (asks-unopened _ _ _ _ _ _ _ asks.2, asks-within _ _ _ _ _ _ _ asks.2 c.requires.1.1.1.1.0)))))

pub load_item-returns-in_err-load_whole-clause-ended : goal.load_item-returns-in_err-load_whole-clause-ended
load_item-returns-in_err-load_whole-clause-ended g t c =
    let p = err_from_is_err_and c.from_residual-in_err-load_whole.result c.from_residual-in_err-load_whole.ensures.1 in
    rw (p.1, p.2) (λ file item at its.
    let asks = item-asks_of c.args.main.now c.args.table.now c.args.importer file (import_of item) c.in_ok-asked.asked c.in-Some.target c.as_str.result.now (c.in_ok-asked.ensures file item at its) c.in-Some.is c.as_str.ensures.value in
    let Halts : Option Import → Type 0 = λ import. Ended c.args.main.now (g.F.Files.held c.args.files.now) c.args.table.now (Every (seen_of_file file) (onto_some import [])) (Err c.in_err-load_whole.field-0.0) c.load_whole.new.table in
    subst Halts (sym asks.1) (item-file_ended _ _ _ _ _ file asks.0 _ _ c.in_err-load_whole.field-0.0 asks.2 at c.in_err-load_whole.ensures.ended))

pub load_item-returns-in_err-load_whole-clause-counted : goal.load_item-returns-in_err-load_whole-clause-counted
load_item-returns-in_err-load_whole-clause-counted g t c =
    let p = err_from_is_err_and c.from_residual-in_err-load_whole.result c.from_residual-in_err-load_whole.ensures.1 in
    rw (p.1, p.2) c.in_err-load_whole.ensures.counted

pub load_item-refused-requires-clause-short : goal.load_item-refused-requires-clause-short
load_item-refused-requires-clause-short g t c = short_of c.in_ok-load_whole.ensures.ended.right.fitted

pub load_item-returns-in-Some-missing_name-clause-ended : goal.load_item-returns-in-Some-missing_name-clause-ended
load_item-returns-in-Some-missing_name-clause-ended g t c = λ file item at its.
    let asks = item-asks_of c.args.main.now c.args.table.now c.args.importer file (import_of item) c.in_ok-asked.asked c.in-Some.target c.as_str.result.now (c.in_ok-asked.ensures file item at its) c.in-Some.is c.as_str.ensures.value in
    let Halts : Option Import → Type 0 = λ import. Ended c.args.main.now (g.F.Files.held c.args.files.now) c.args.table.now (Every (seen_of_file file) (onto_some import [])) (Err c.refused.result) c.load_whole.new.table in
    let went = c.in_ok-load_whole.ensures.ended in
    let now = at-grown _ _ _ _ went.grown at in
    let same : c.as_str.result.now ≡ c.as_str-2.result.now = c.as_str.ensures.value ∙ sym c.as_str-2.ensures.value in
    let missing = ap (λ n. option_map span_of (missing_of c.load_whole.new.table n asks.0)) same ∙ sym (c.in-Some-missing_name.ensures file item asks.0 now its asks.1) in
    subst Halts (sym asks.1) (item-missing_ended _ _ _ _ _ file asks.0 _ _ c.in-Some-missing_name.span c.refused.result asks.2 at went missing c.refused.ensures)

pub load_item-returns-clause-ended : goal.load_item-returns-clause-ended
load_item-returns-clause-ended g t c = λ file item at its.
    let asks = item-asks_of c.args.main.now c.args.table.now c.args.importer file (import_of item) c.in_ok-asked.asked c.in-Some.target c.as_str.result.now (c.in_ok-asked.ensures file item at its) c.in-Some.is c.as_str.ensures.value in
    let Goes : Option Import → Type 0 = λ import. Went c.args.main.now (g.F.Files.held c.args.files.now) c.args.table.now (Every (seen_of_file file) (onto_some import [])) c.load_whole.new.table in
    let went = c.in_ok-load_whole.ensures.ended in
    let now = at-grown _ _ _ _ went.grown at in
    let same : c.as_str.result.now ≡ c.as_str-2.result.now = c.as_str.ensures.value ∙ sym c.as_str-2.ensures.value in
    let missing = ap (λ n. option_map span_of (missing_of c.load_whole.new.table n asks.0)) same ∙ sym (c.in-None-missing_name.ensures file item asks.0 now its asks.1) in
    subst Goes (sym asks.1) (item-taken _ _ _ _ _ file asks.0 _ _ asks.2 at went missing)
