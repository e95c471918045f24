use Rattle.std.proofs.Common.{sym, ◌∙◌}
use Rattle.statement.proofs.MarksLemmas.{none_marked}
use Rattle.statement.proofs.evaluate.written.Written.mark.Goals as goal

pub returns-then-not-marked-clause-marks : goal.returns-then-not-marked-clause-marks
returns-then-not-marked-clause-marks g c = none_marked c.args.table c.args.columns.now c.args.self.now.marks.items c.args.before.now.0 c.args.after.now.0 c.args.before.now.1 c.args.after.now.1 (sym c.requires.marked ∙ c.if-not-marked.true)
