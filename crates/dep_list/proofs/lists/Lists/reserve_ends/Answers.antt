use Rattle.std.proofs.Common.{◌-◌}
use Rattle.std.specs.Prelude.{vec_len}
use Rattle.dep_list.specs.Lists.{state}
use Rattle.dep_list.proofs.GrowLemmas.{more_readers, more_points}
use Rattle.dep_list.proofs.lists.Lists.reserve_ends.Goals as goal

pub returns-in_err-admit-clause-held : goal.returns-in_err-admit-clause-held
returns-in_err-admit-clause-held c =
    more_readers (state c.args.self.now) c.requires c.admit.new.ends.items (vec_len c.admit.new.ends - vec_len c.args.self.now.readers) c.admit.ensures.items c.admit.ensures.grown

pub returns-in_err-admit-2-clause-held : goal.returns-in_err-admit-2-clause-held
returns-in_err-admit-2-clause-held c =
    let s = state c.args.self.now in
    let K = more_readers s c.requires c.admit.new.ends.items (vec_len c.admit.new.ends - vec_len c.args.self.now.readers) c.admit.ensures.items c.admit.ensures.grown in
    more_points (record s { readers = c.admit.new.ends.items }) K c.admit-2.new.ends.items (vec_len c.admit-2.new.ends - vec_len c.args.self.now.points) c.admit-2.ensures.items c.admit-2.ensures.grown

pub returns-clause-held : goal.returns-clause-held
returns-clause-held c =
    let s = state c.args.self.now in
    let K = more_readers s c.requires c.admit.new.ends.items (vec_len c.admit.new.ends - vec_len c.args.self.now.readers) c.admit.ensures.items c.admit.ensures.grown in
    more_points (record s { readers = c.admit.new.ends.items }) K c.admit-2.new.ends.items (vec_len c.admit-2.new.ends - vec_len c.args.self.now.points) c.admit-2.ensures.items c.admit-2.ensures.grown
