use Rattle.std.proofs.Common.{◌∙◌, ap}
use Rattle.std.proofs.lemmas.Result.{IfOk-weaker}
use Rattle.program.specs.Remarks.{bygone}
use Rattle.program.proofs.CourseLemmas.{all_followed, explained_of, known_of}
use Rattle.program.proofs.course.Course.why.Goals as goal

pub followed-requires : goal.followed-requires
followed-requires g c = known_of c.self.inside.core c.history-history.result.now c.self.inside.past c.take.result c.take.ensures.value c.history-history.ensures c.self.invariant

pub invariant_of-self-2 : goal.invariant_of-self-2
invariant_of-self-2 g c = all_followed c.self.inside.core c.in_ok-past.past (c.in_ok-past.ensures.whole ∙ ap bygone c.history-history.ensures)

pub returns-clause-words : goal.returns-clause-words
returns-clause-words g c =
    IfOk-weaker c.explained-text.result _ _
    (λ text is. explained_of c.args.self.now (record { history = c.self.inside.core; lines = c.self.inside.lines.items }) c.history-history.result.now c.as_slice.result.now text.items c.args.session c.args.refusal is c.history-history.ensures c.as_slice.ensures.value c.self.view_is)
    c.explained-text.ensures.words
