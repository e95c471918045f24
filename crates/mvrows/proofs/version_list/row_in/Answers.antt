use Rattle.std.proofs.Common.{sym, arith, ◌∙◌}
use Rattle.mvrows.proofs.ChainLemmas.{found-here, found-later, found-none}
use Rattle.mvrows.proofs.version_list.row_in.Goals as goal

pub returns-then-version-snapshot : goal.returns-then-version-snapshot
returns-then-version-snapshot g c =
    c.as_ref.ensures.value
    ∙ sym (found-here c.args.snapshot c.args.versions.now c.loop-version.version-index c.version-item.result (omega arith) c.version-item.is c.if-version-snapshot.true c.loop-version.invariant)

pub loop-version-preserved : goal.loop-version-preserved
loop-version-preserved g c = found-later c.args.snapshot c.args.versions.now c.loop-version.version-index c.version-item.result (omega arith) c.version-item.is c.if-version-snapshot.false c.loop-version.invariant

pub returns : goal.returns
returns g c = sym (found-none c.args.snapshot c.args.versions.now c.loop-version.version-index c.loop-version-test.false c.loop-version.invariant)
