use Rattle.std.proofs.Common.{◌∙◌, ap}
use Rattle.clap.specs.Words.{found_of}
use Rattle.clap.proofs.WalkLemmas.{first_value-rows}
use Rattle.program.specs.CommandLine.{is_yes}
use Rattle.program.proofs.task.is_set.Goals as goal

pub returns-in-Some : goal.returns-in-Some
returns-in-Some c = c.eq.ensures ∙ ap is_yes (c.in-Some.ensures ∙ first_value-rows (found_of c.args.command.now) c.args.id.now)

pub returns-in-None : goal.returns-in-None
returns-in-None c = ap is_yes (c.in-None.ensures ∙ first_value-rows (found_of c.args.command.now) c.args.id.now)
