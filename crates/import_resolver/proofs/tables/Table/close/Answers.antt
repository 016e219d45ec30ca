use Rattle.std.proofs.Common.{refl}
use Rattle.import_resolver.proofs.Lists.{closes, popped}
use Rattle.import_resolver.proofs.tables.Table.close.Goals as goal

pub returns : goal.returns
returns c = record {
  files = refl;
  loading = popped c.args.self.now.loading c.pop.new.self c.pop.result c.pop.ensures;
  closed = λ file there.
      closes c.args.main.now c.args.number file c.args.self.now (record { files = c.args.self.now.files; done = c.push.new.self; loading = c.pop.new.self }) c.in_ok-done.done refl c.in_ok-push.ensures.ok
      (c.in_ok-done.ensures file there);
}
