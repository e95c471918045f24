use Rattle.std.proofs.Common.{arith, subst, sym}
use Rattle.conflict.specs.Tracked.{Ascending, Party}
use Rattle.conflict.proofs.Places.{be_read_ok, be_read_new, be_read_past}
use Rattle.conflict.proofs.party.Party.be_read.Goals as goal

pub put-requires : goal.put-requires
put-requires g c = subst (λ (p : Party). Ascending p.ins) (sym c.self.view_is) c.requires

pub returns-then-reader-begun-clause-ok : goal.returns-then-reader-begun-clause-ok
returns-then-reader-begun-clause-ok g c = be_read_past c.args.begun c.args.reader c.args.self.now (omega (arith, c.if-reader-begun.true))

pub returns-clause-ok : goal.returns-clause-ok
returns-clause-ok g c = be_read_ok c.put.result _ c.args.self.now c.put.new.numbers.items c.self.view_is c.args.begun c.args.reader (omega (arith, c.if-reader-begun.false)) c.put.ensures.ok

pub returns-clause-new : goal.returns-clause-new
returns-clause-new g c = be_read_new c.put.result _ c.args.self.now c.put.new.numbers.items c.self.view_is c.args.reader c.put.ensures.new
