use Rattle.std.proofs.Common.{inl, inr}
use Rattle.clap.specs.Words.{kind_of}
use Rattle.program.specs.Files.{writing_of}
use Rattle.program.specs.Outcomes.Ending.{Fails}
use Rattle.program.proofs.EndLemmas.{among, are_help, without_task}
use Rattle.program.proofs.words.done.Goals as goal

pub returns-in-Err-clause-usage : goal.returns-in-Err-clause-usage
returns-in-Err-clause-usage g c told =
    let mistake = c.tell_words.ensures.usage told in
    (kind_of c.in-Err.error, among _ c.in-Err.error c.in-Err.ensures.fails mistake.0, mistake)

pub returns-in-Err-clause-mistake : goal.returns-in-Err-clause-mistake
returns-in-Err-clause-mistake g c mistaken = elim c.in-Err.ensures.fails [
  | inl memory ↦ inr (c.tell_words.ensures.memory memory)
  | inr here ↦ inl (c.tell_words.ensures.mistake (mistaken.1 _ here))
]

pub returns-in-Err-clause-did : goal.returns-in-Err-clause-did
returns-in-Err-clause-did g c told = inl (are_help _ c.in-Err.error c.tell_words.result c.in-Err.ensures.fails c.tell_words.ensures.memory (c.tell_words.ensures.help (inl told)) told)

pub returns-in-Ok-clause-usage : goal.returns-in-Ok-clause-usage
returns-in-Ok-clause-usage g c told = absurd (c.do_task.ensures.usage told)

pub returns-in-Ok-clause-mistake : goal.returns-in-Ok-clause-mistake
returns-in-Ok-clause-mistake g c mistaken = absurd (mistaken.0 c.in-Ok.ensures.fails)

pub returns-in-Ok-clause-did : goal.returns-in-Ok-clause-did
returns-in-Ok-clause-did g c told = inr (c.in-Ok.task, c.in-Ok.ensures.asked, c.do_task.ensures.done told)

pub returns-in-Err-clause-stopped : goal.returns-in-Err-clause-stopped
returns-in-Err-clause-stopped g c other = without_task _ _ (writing_of g.F.Out.OutFile.path g.F.Out.Placed.kept g.F.Out.Device.failures) _ _ _ c.in-Err.error c.tell_words.result _ _ c.in-Err.ensures.fails c.tell_words.ensures.usage c.tell_words.ensures.memory c.tell_words.ensures.help c.tell_words.ensures.silent other

pub returns-in-Ok-clause-stopped : goal.returns-in-Ok-clause-stopped
returns-in-Ok-clause-stopped g c other =
    let ends = c.do_task.ensures.stopped other in
    (Fails ends.0, ends.1, inr (c.in-Ok.task, c.in-Ok.ensures.asked, ends.2))
