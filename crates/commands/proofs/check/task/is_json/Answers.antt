use Rattle.std.proofs.Common.{◌∙◌, ap, codes}
use Rattle.clap.specs.Words.{found_of}
use Rattle.clap.proofs.WalkLemmas.{first_value-rows}
use Rattle.program.specs.CommandLine.{is_yes}
use Rattle.commands.proofs.check.task.is_json.Goals as goal

pub returns-in-Some : goal.returns-in-Some
returns-in-Some c = c.eq.ensures ∙ ap is_yes (c.in-Some.ensures ∙ first_value-rows (found_of c.args.matches.now) (codes "json"))

pub returns-in-None : goal.returns-in-None
returns-in-None c = ap is_yes (c.in-None.ensures ∙ first_value-rows (found_of c.args.matches.now) (codes "json"))
