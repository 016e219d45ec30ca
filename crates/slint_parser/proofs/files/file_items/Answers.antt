use Rattle.slint_parser.proofs.Among.{unlike}
use Rattle.slint_parser.proofs.ChosenFiles.{begun_file, whole_file, next_file_item, no_file_item}
use Rattle.slint_parser.proofs.files.file_items.Goals as goal

pub returns-then-shows : goal.returns-then-shows
returns-then-shows c = whole_file c.args.cursor.now c.items.cursor c.items.all c.items.invariant (c.shows.ensures.0 c.if-shows.true)

pub returns-in_err-file_item : goal.returns-in_err-file_item
returns-in_err-file_item c =
    no_file_item c.args.cursor.now c.items.cursor c.items.all _ c.from_residual.result c.from_residual.ensures.1 c.items.invariant (unlike c.shows.result c.if-shows.false c.shows.ensures.1) c.in_err-file_item.ensures

pub items-init : goal.items-init
items-init c = begun_file c.args.cursor.now c.new-all.result c.new-all.ensures

pub items-smaller : goal.items-smaller
items-smaller c =
    (next_file_item c.args.cursor.now c.items.cursor c.file_item.new.cursor c.items.all c.push.new.self c.in_ok-file_item.field-0 c.items.invariant (unlike c.shows.result c.if-shows.false c.shows.ensures.1) c.in_ok-file_item.ensures c.in_ok-push.ensures.ok).1

pub items-preserved : goal.items-preserved
items-preserved c =
    (next_file_item c.args.cursor.now c.items.cursor c.file_item.new.cursor c.items.all c.push.new.self c.in_ok-file_item.field-0 c.items.invariant (unlike c.shows.result c.if-shows.false c.shows.ensures.1) c.in_ok-file_item.ensures c.in_ok-push.ensures.ok).0
