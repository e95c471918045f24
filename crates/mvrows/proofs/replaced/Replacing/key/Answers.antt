use Rattle.mvrows.proofs.ReplacingLemmas.{left-taken, ok-holds}
use Rattle.mvrows.proofs.replaced.Replacing.key.Goals as goal

pub returns-in-Some-clause-place : goal.returns-in-Some-clause-place
returns-in-Some-clause-place g c =
    ok-holds c.of.result _ (left-taken c.args.self.now.table c.args.place.now c.args.changes.now c.args.chain.now c.in-Some.change.now c.in-Some.ensures.change)
