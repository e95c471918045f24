use Rattle.mvrows.specs.Settling.{Needed}
use Rattle.scarcity_tests.proofs.NextCommit.{committed}
use Rattle.scarcity_tests.proofs.versions.Versions.commit.Goals as goal

pub invariant_of-self-2 : goal.invariant_of-self-2
invariant_of-self-2 g c =
    let needed : Needed = record { oldest = 0; snapshots = c.as_slice.result.now } in
    committed c.self.inside.next needed c.args.changes.now c.self.inside.rows c.install.new.self c.in_ok-install.ensures.ok c.self.invariant
