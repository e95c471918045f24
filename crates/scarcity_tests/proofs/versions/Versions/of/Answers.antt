use Rattle.std.proofs.Common.{rules, ◌≡◌, length, arith}
use Rattle.std.proofs.lemmas.Bool.Decides.{nat_tests}
use Rattle.std.proofs.lemmas.Grind.{common_steps}
use Rattle.scarcity_tests.proofs.Opened.{opened_so}
use Rattle.scarcity_tests.proofs.versions.Versions.of.Goals as goal

pub invariant_of-versions : goal.invariant_of-versions
invariant_of-versions g c =
    let three : length c.args.tables ≡ 3 = first_of (search rules, grind (arith, nat_tests, common_steps)) in
    opened_so c.args.tables c.in_ok-rows.rows c.in_ok-rows.ensures.ok three
