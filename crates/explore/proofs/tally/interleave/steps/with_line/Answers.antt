use Rattle.explore.proofs.Shares.{stays_past, grows}
use Rattle.explore.proofs.tally.interleave.steps.with_line.Goals as goal

pub returns-in_default : goal.returns-in_default
returns-in_default c = λ before e p. stays_past c.args.number before c.args.own c.requires.positive c.in_default.is p

pub returns : goal.returns
returns c = λ before e p. grows before c.args.own c.args.all c.in-Some.number c.args.number c.scaled.result c.requires.positive e c.in-Some.is c.scaled.ensures.some c.scaled.ensures.none p
