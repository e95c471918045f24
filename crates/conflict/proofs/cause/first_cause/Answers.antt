use Rattle.std.proofs.Common.{◌∙◌}
use Rattle.conflict.proofs.WalkedCause.{walked_is}
use Rattle.conflict.proofs.cause.first_cause.Goals as goal

pub walked_cause-requires : goal.walked_cause-requires
walked_cause-requires g c = c.requires.0.0

pub returns : goal.returns
returns g c = c.walked_cause.ensures ∙ walked_is c.args.commit.txn c.args.commit.number c.args.committer.now c.args.parties.now c.requires
