use Rattle.std.proofs.Common.{◌∙◌, arith}
use Rattle.value.specs.Isolation.{edge_of}
use Rattle.transactions.proofs.WalkLemmas.{first_part-least, first_part-step, lesser-least, first_part-end}
use Rattle.transactions.proofs.conflicts.isolation.first_part.Goals as goal

pub loop-left-init : goal.loop-left-init
loop-left-init g c =
    let node = g.T.Party.node in
    let edge = edge_of g.T.Party.node g.T.Party.reads in
    rw c.commit_of-least.ensures (first_part-least node edge c.args.transaction.now c.args.transactions.now, omega arith)

pub loop-left-preserved : goal.loop-left-preserved
loop-left-preserved g c =
    let node = g.T.Party.node in
    let edge = edge_of g.T.Party.node g.T.Party.reads in
    let t = c.args.transaction.now in (
      first_part-step node edge t c.loop-left.left.now c.other-item.result c.in-len1-up.len_at_least c.other-item.is c.loop-left.least c.lesser-least.result c.lesser-least.ensures ∙ c.loop-left.invariant.0,
      lesser-least node edge t c.other-item.result c.loop-left.least c.lesser-least.result c.lesser-least.ensures c.loop-left.invariant.1,
    )

pub returns : goal.returns
returns g c =
    let node = g.T.Party.node in
    let edge = edge_of g.T.Party.node g.T.Party.reads in
    first_part-end node edge c.args.transaction.now c.loop-left.left.now c.loop-left.least (omega arith) c.loop-left.invariant.1 ∙ c.loop-left.invariant.0
