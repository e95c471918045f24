use Rattle.std.proofs.Common.{subst}
use Rattle.transactions.specs.Polls.{IsToldSpoilt}
use Rattle.transactions.proofs.world.World.decide_open.Goals as goal

pub returns-in-Poll-clause-reply : goal.returns-in-Poll-clause-reply
returns-in-Poll-clause-reply g c = λ d X. rw c.in-Poll.is (c.poll.ensures.reply d X)

pub poll-requires-clause-told : goal.poll-requires-clause-told
poll-requires-clause-told g c = subst (λ a. IsToldSpoilt c.args.self.now.txns c.args.transaction.now a c.args.spoilt) c.in-Poll.is c.requires.told
