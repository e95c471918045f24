use Rattle.std.proofs.Common.{◌∙◌, sym, ap}
use Rattle.audit.specs.Course.{gone_on}
use Rattle.audit.proofs.course.Course.go_on.Goals as goal

pub returns-in_ok-answer-in-Run-clause-ok : goal.returns-in_ok-answer-in-Run-clause-ok
returns-in_ok-answer-in-Run-clause-ok g c = c.in_ok-answer-in-Run.ensures.ok c.args.place ∙ ap (λ a. gone_on c.args.place a c.args.entry.now.reply c.args.self.now) (sym c.in-Run.is)

pub returns-in-Import-clause-ok : goal.returns-in-Import-clause-ok
returns-in-Import-clause-ok g c = c.import.ensures c.args.place c.in-Import.field-0 ∙ ap (λ a. gone_on c.args.place a c.args.entry.now.reply c.args.self.now) (sym c.in-Import.is)
