use Rattle.std.proofs.Common.{subst, sym}
use Rattle.conflict.specs.Tracked.{Ascending, Party}
use Rattle.conflict.proofs.Places.{be_unread_is}
use Rattle.conflict.proofs.party.Party.be_unread.Goals as goal

pub take_out-requires : goal.take_out-requires
take_out-requires g c = subst (λ (p : Party). Ascending p.ins) (sym c.self.view_is) c.requires

pub returns : goal.returns
returns g c = be_unread_is _ c.args.self.now c.args.reader c.take_out.new.numbers.items c.self.view_is c.take_out.ensures
