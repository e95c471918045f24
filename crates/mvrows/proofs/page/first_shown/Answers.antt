use Rattle.std.proofs.Common.{ap, sym, arith, ◌∙◌}
use Rattle.std.specs.Option.{option_copied}
use Rattle.mvrows.proofs.PageLemmas.{first-here, first-later, first-none}
use Rattle.mvrows.proofs.page.first_shown.Goals as goal

pub returns-in-Some : goal.returns-in-Some
returns-in-Some g c = sym (first-here c.args.snapshot c.loop-chain.chain-index c.args.chains.now c.chain-item.result c.in-Some.row.now (omega arith) c.chain-item.is (sym c.in-Some.ensures) c.loop-chain.invariant)

pub loop-chain-preserved : goal.loop-chain-preserved
loop-chain-preserved g c = first-later c.args.snapshot c.loop-chain.chain-index c.args.chains.now c.chain-item.result (omega arith) c.chain-item.is (sym c.row_at.ensures ∙ ap option_copied c.in_default.is) c.loop-chain.invariant

pub returns : goal.returns
returns g c = sym (first-none c.args.snapshot c.loop-chain.chain-index c.args.chains.now c.loop-chain-test.false c.loop-chain.invariant)
