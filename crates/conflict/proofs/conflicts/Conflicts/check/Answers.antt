use Rattle.std.proofs.Common.{◌∙◌, ap, sym, ◌+◌}
use Rattle.value.specs.Isolation.{edge_of, first_cause}
use Rattle.conflict.specs.Tracked.{after_commit, edge, node, node_after, reads, with_commit}
use Rattle.conflict.proofs.Kept.{committer_found, nobody_makes}
use Rattle.value.proofs.Structures.{cause-map}
use Rattle.conflict.proofs.conflicts.Conflicts.check.Goals as goal

pub first_cause-requires : goal.first_cause-requires
first_cause-requires g c = committer_found _ c.args.txn.0 c.in-Some.committer.now c.as_slice.result.now c.as_slice-in-Some.result.now c.self.invariant c.as_slice.ensures.value c.in-Some.ensures.some c.as_slice-in-Some.ensures.value

pub returns-in-Some : goal.returns-in-Some
returns-in-Some g c =
    c.first_cause.ensures
    ∙ ap (first_cause (node_after c.args.txn.0 (c.self.inside.commits + 1)) (edge_of (node_after c.args.txn.0 (c.self.inside.commits + 1)) reads)) c.as_slice-in-Some.ensures.value
    ∙ sym (cause-map (with_commit c.args.txn.0 (c.self.inside.commits + 1)) node edge c.self.inside.parties.items)
    ∙ ap (λ s. first_cause node edge (after_commit c.args.txn.0 s).parties) c.self.view_is

pub returns-in-None : goal.returns-in-None
returns-in-None g c = nobody_makes _ c.args.self.now c.args.txn.0 c.as_slice.result.now c.self.view_is c.self.invariant c.as_slice.ensures.value c.in-None.ensures.none
