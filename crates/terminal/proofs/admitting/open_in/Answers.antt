use Rattle.std.proofs.Common.{◌≡◌, ap, arith, ◌∙◌}
use Rattle.terminal.specs.Admitted.{open_in}
use Rattle.terminal.proofs.AdmittedLemmas.{open_more}
use Rattle.terminal.proofs.admitting.open_in.Goals as goal

pub loop-number-preserved : goal.loop-number-preserved
loop-number-preserved g c = (open_more c.args.shell.now c.loop-number.number c.loop-number.open c.in_ok-one.one c.loop-number.invariant.0 c.in_ok-one.ensures.one, omega (arith, c.loop-number.invariant.1, c.in_ok-one.ensures.few))

pub returns-clause-count : goal.returns-clause-count
returns-clause-count g c =
    let all : c.loop-number.number ≡ 64 = omega (arith, c.loop-number-test.false, c.loop-number.auto.number-end) in
    c.loop-number.invariant.0 ∙ ap (open_in c.args.shell.now) all
