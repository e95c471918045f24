use Rattle.std.proofs.Common.{ap, sym, arith, ◌∙◌}
use Rattle.std.specs.Option.{option_copied}
use Rattle.mvrows.proofs.LeavesLemmas.{next-here, next-later, next-past}
use Rattle.mvrows.proofs.table.next_in.Goals as goal

pub returns-in-Some : goal.returns-in-Some
returns-in-Some g c = next-here c.args.snapshot c.args.bound c.args.leaves.now c.loop-leaf.leaf-index c.leaf-item.result c.page.result.now c.in-Some.row.now (omega arith) c.leaf-item.is c.page.ensures c.in-Some.ensures c.loop-leaf.invariant

pub loop-leaf-preserved : goal.loop-leaf-preserved
loop-leaf-preserved g c = next-later c.args.snapshot c.args.bound c.args.leaves.now c.loop-leaf.leaf-index c.leaf-item.result c.page.result.now (omega arith) c.leaf-item.is c.page.ensures (sym c.next_row.ensures ∙ ap option_copied c.in_default.is) c.loop-leaf.invariant

pub returns : goal.returns
returns g c = next-past c.args.snapshot c.args.bound c.args.leaves.now c.loop-leaf.leaf-index c.loop-leaf-test.false c.loop-leaf.invariant
