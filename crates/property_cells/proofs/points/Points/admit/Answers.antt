use Rattle.std.proofs.Common.{◌≤◌, ◌-◌, length, arith}
use Rattle.std.specs.Prelude.{vec_len}
use Rattle.property_cells.proofs.PointLemmas.{threaded_admitted, resized}
use Rattle.property_cells.proofs.points.Points.admit.Goals as goal

pub returns-in_ok-resize-clause-threaded : goal.returns-in_ok-resize-clause-threaded
returns-in_ok-resize-clause-threaded c =
    let old = c.args.self.now.lasts in let new = c.resize.new.self in
    let short : length old.items ≤ c.args.cells = omega (arith, old.ok.0, c.len.ensures, c.if-len-cells.true) in
    let longer : length old.items ≤ length new.items = omega (arith, old.ok.0, new.ok.0, c.in_ok-resize.ensures.len, c.len.ensures, c.if-len-cells.true) in
    threaded_admitted c.args.self.now.entries.items old.items (c.args.cells - vec_len old) new.items c.requires
    (resized old.items c.args.cells new.items (c.args.cells - vec_len old) short c.in_ok-resize.ensures.items) longer
