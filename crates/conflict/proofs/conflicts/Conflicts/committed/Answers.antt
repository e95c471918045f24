use Rattle.conflict.proofs.Kept.{commit_none, commit_proper, commit_some}
use Rattle.conflict.proofs.conflicts.Conflicts.committed.Goals as goal

pub invariant_of-self : goal.invariant_of-self
invariant_of-self g c =
    commit_proper _ c.args.self.now _ c.args.txn.0 c.self.view_is c.self.invariant c.requires.none
    (commit_some _ c.args.self.now c.args.txn.0 c.in-Some.commit c.args.number c.commit.new.parties.items c.self.view_is c.requires.number c.in-Some.is c.commit.ensures)

pub invariant_of-self-in-None : goal.invariant_of-self-in-None
invariant_of-self-in-None g c =
    commit_proper _ c.args.self.now _ c.args.txn.0 c.self.view_is c.self.invariant c.requires.none
    (commit_none _ c.args.self.now c.args.txn.0 0 c.args.number c.commit-in-None.new.parties.items c.self.view_is c.requires.number c.in-None.is c.commit-in-None.ensures)

pub returns-in-None : goal.returns-in-None
returns-in-None g c = commit_none _ c.args.self.now c.args.txn.0 0 c.args.number c.commit-in-None.new.parties.items c.self.view_is c.requires.number c.in-None.is c.commit-in-None.ensures
