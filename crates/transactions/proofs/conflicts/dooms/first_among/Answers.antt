use Rattle.std.proofs.Common.{◌∙◌, sym, ap, Some, arith}
use Rattle.std.specs.Option.{option_map}
use Rattle.value.specs.Isolation.{is_first}
use Rattle.value.proofs.Basics.{find-next}
use Rattle.transactions.proofs.WalkLemmas.{find-here}
use Rattle.transactions.proofs.conflicts.dooms.first_among.Goals as goal

pub returns-then-is_first : goal.returns-then-is_first
returns-then-is_first g c =
    let node = g.T.Party.node in
    let test = is_first node g.T.Party.reads c.args.committer.now c.args.causes.now c.args.pivot.now in
    ap Some c.facts.ensures
    ∙ ap (option_map node) (sym (find-here test c.args.transactions.now c.loop-first.first-index c.first-item.result (omega arith) c.first-item.is c.loop-first.invariant (sym c.is_first.ensures ∙ c.if-is_first.true)))

pub loop-first-preserved : goal.loop-first-preserved
loop-first-preserved g c =
    let test = is_first g.T.Party.node g.T.Party.reads c.args.committer.now c.args.causes.now c.args.pivot.now in
    find-next test c.args.transactions.now c.loop-first.first-index c.first-item.result (omega arith) c.first-item.is c.loop-first.invariant (sym c.is_first.ensures ∙ c.if-is_first.false)
