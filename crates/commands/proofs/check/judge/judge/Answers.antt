use Rattle.std.specs.Option.{option_copied}
use Rattle.commands.proofs.JudgeLemmas.{judged}
use Rattle.commands.proofs.check.judge.judge.Goals as goal

pub returns : goal.returns
returns g c = judged c.judged_text.result (g.F.Stored.held c.args.machine.now.files.now) c.args.task.has_time c.args.text.now (option_copied c.args.opens) c.args.catalog c.in_ok-catalog.catalog c.in_ok-catalog.tables c.in_ok-catalog.ensures.begins c.in_ok-catalog.ensures.sound c.judged_text.ensures.kept c.judged_text.ensures.fit c.judged_text.ensures.reads c.judged_text.ensures.tells
