use Rattle.scarcity_tests.proofs.NextCommit.{pruned_so}
use Rattle.scarcity_tests.proofs.versions.Versions.prune.Goals as goal

pub invariant_of-self : goal.invariant_of-self
invariant_of-self g c = pruned_so c.prune.result c.self.inside.next c.args.oldest c.self.inside.rows c.prune.new.self c.prune.ensures.ok c.prune.ensures.err c.self.invariant
