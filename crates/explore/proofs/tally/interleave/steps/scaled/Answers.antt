use Rattle.std.proofs.Common.{rules, arith, ◌≡◌, ◌+◌, ◌*◌, ◌/◌, ◌%◌}
use Rattle.explore.proofs.Shares.{scaled_is}
use Rattle.explore.proofs.tally.interleave.steps.scaled.Goals as goal

pub returns-clause-some : goal.returns-clause-some
returns-clause-some c = let e : c.args.number / c.args.by * c.args.times + c.args.number % c.args.by * c.args.times / c.args.by ≡ c.args.number * c.args.times / c.args.by = scaled_is c.args.number c.args.times c.args.by c.requires.positive in search rules

pub returns-clause-none : goal.returns-clause-none
returns-clause-none c = let e : c.args.number / c.args.by * c.args.times + c.args.number % c.args.by * c.args.times / c.args.by ≡ c.args.number * c.args.times / c.args.by = scaled_is c.args.number c.args.times c.args.by c.requires.positive in search rules

pub returns-in_default-clause-none : goal.returns-in_default-clause-none
returns-in_default-clause-none c = let e : c.args.number / c.args.by * c.args.times + c.args.number % c.args.by * c.args.times / c.args.by ≡ c.args.number * c.args.times / c.args.by = scaled_is c.args.number c.args.times c.args.by c.requires.positive in omega (arith, e, c.in_default.ensures)
