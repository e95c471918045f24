use Rattle.program.proofs.CourseLemmas.{explained_by}
use Rattle.program.proofs.remarks.explained.Goals as goal

pub returns-clause-words : goal.returns-clause-words
returns-clause-words g c = explained_by (λ t. t.items) c.why.result c.args.history.now c.args.lines.now c.args.past.now c.runs.result.now c.args.session c.args.refusal c.requires c.runs.ensures c.why.ensures.words
