use Rattle.std.proofs.Common.{◌∙◌, arith}
use Rattle.std.specs.List.{filter}
use Rattle.value.specs.Isolation.{edge_of}
use Rattle.transactions.proofs.WalkLemmas.{first_part-least, passing_part-end, passing_part-least, passing_part-step}
use Rattle.transactions.proofs.conflicts.keys.first_committed.Goals as goal

pub loop-left-init : goal.loop-left-init
loop-left-init g c =
    let node = g.T.Party.node in
    let edge = edge_of g.T.Party.node g.T.Party.reads in
    rw c.commit_of-least.ensures (first_part-least node edge c.args.transaction.now (filter (λ t. (node t).committed) c.args.transactions.now), omega arith)

pub loop-left-preserved : goal.loop-left-preserved
loop-left-preserved g c =
    let node = g.T.Party.node in
    let edge = edge_of g.T.Party.node g.T.Party.reads in
    let t = c.args.transaction.now in (
      passing_part-step node edge (λ u. (node u).committed) t c.loop-left.left.now c.other-item.result c.in-len1-up.len_at_least c.other-item.is c.loop-left.least c.lesser_committed-least.result c.lesser_committed-least.ensures ∙ c.loop-left.invariant.0,
      passing_part-least node edge (λ u. (node u).committed) t c.other-item.result c.loop-left.least c.lesser_committed-least.result c.lesser_committed-least.ensures c.loop-left.invariant.1,
    )

pub returns : goal.returns
returns g c =
    let node = g.T.Party.node in
    let edge = edge_of g.T.Party.node g.T.Party.reads in
    passing_part-end node edge (λ u. (node u).committed) c.args.transaction.now c.loop-left.left.now c.loop-left.least (omega arith) c.loop-left.invariant.1 ∙ c.loop-left.invariant.0
