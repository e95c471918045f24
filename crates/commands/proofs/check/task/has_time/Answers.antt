use Rattle.std.proofs.Common.{◌∙◌, ap, not, codes}
use Rattle.clap.specs.Words.{found_of}
use Rattle.clap.proofs.WalkLemmas.{first_value-rows}
use Rattle.program.specs.CommandLine.{is_yes}
use Rattle.commands.proofs.check.task.has_time.Goals as goal

pub returns-in-Some : goal.returns-in-Some
returns-in-Some c = c.ne.ensures ∙ ap (λ o. not (is_yes o)) (c.in-Some.ensures ∙ first_value-rows (found_of c.args.matches.now) (codes "no-time"))

pub returns-in-None : goal.returns-in-None
returns-in-None c = ap (λ o. not (is_yes o)) (c.in-None.ensures ∙ first_value-rows (found_of c.args.matches.now) (codes "no-time"))
