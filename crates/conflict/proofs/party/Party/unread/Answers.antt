use Rattle.std.proofs.Common.{subst, sym}
use Rattle.conflict.specs.Tracked.{Ascending, Party}
use Rattle.conflict.proofs.Places.{unread_is}
use Rattle.conflict.proofs.party.Party.unread.Goals as goal

pub take_out-requires : goal.take_out-requires
take_out-requires g c = subst (λ (p : Party). Ascending p.outs) (sym c.self.view_is) c.requires

pub returns : goal.returns
returns g c = unread_is _ c.args.self.now c.args.writer c.take_out.new.numbers.items c.self.view_is c.take_out.ensures
