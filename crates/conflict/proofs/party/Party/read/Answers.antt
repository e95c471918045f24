use Rattle.std.proofs.Common.{arith, subst, sym}
use Rattle.conflict.specs.Tracked.{Ascending, Party}
use Rattle.conflict.proofs.Places.{read_ok, read_new, read_past}
use Rattle.conflict.proofs.party.Party.read.Goals as goal

pub put-requires : goal.put-requires
put-requires g c = subst (λ (p : Party). Ascending p.outs) (sym c.self.view_is) c.requires

pub returns-then-writer-begun-clause-ok : goal.returns-then-writer-begun-clause-ok
returns-then-writer-begun-clause-ok g c = read_past c.args.begun c.args.writer c.args.self.now (omega (arith, c.if-writer-begun.true))

pub returns-clause-ok : goal.returns-clause-ok
returns-clause-ok g c = read_ok c.put.result _ c.args.self.now c.put.new.numbers.items c.self.view_is c.args.begun c.args.writer (omega (arith, c.if-writer-begun.false)) c.put.ensures.ok

pub returns-clause-new : goal.returns-clause-new
returns-clause-new g c = read_new c.put.result _ c.args.self.now c.put.new.numbers.items c.self.view_is c.args.writer c.put.ensures.new
