use Rattle.std.proofs.Common.{◌∙◌, ap, inl, inr, map, sym}
use Rattle.std.specs.Option.{option_map}
use Rattle.clap.specs.Words.{fault_of, kind_of}
use Rattle.program.specs.Ends.{code}
use Rattle.program.proofs.EndLemmas.{among, only_usage}
use Rattle.command_shell.proofs.WordsLemmas.{all_within, begun_of, none_mistaken, unbegun_by, without}
use Rattle.command_shell.specs.Words.{shell}
use Rattle.command_shell.proofs.words.begin_words.Goals as goal

pub returns-in-Err-clause-unbegun : goal.returns-in-Err-clause-unbegun
returns-in-Err-clause-unbegun g c = inl (without _ c.in-Err.error c.tell_words.result c.code.result c.code.ensures c.in-Err.ensures.fails c.tell_words.ensures.usage c.tell_words.ensures.memory c.tell_words.ensures.help)

pub returns-in-Err-clause-usage : goal.returns-in-Err-clause-usage
returns-in-Err-clause-usage g c two =
    let mistake = c.tell_words.ensures.usage (only_usage c.tell_words.result (sym c.code.ensures ∙ two)) in
    (kind_of c.in-Err.error, among _ c.in-Err.error c.in-Err.ensures.fails mistake.0, mistake)

pub returns-in-Err-clause-mistake : goal.returns-in-Err-clause-mistake
returns-in-Err-clause-mistake g c mistaken = elim c.in-Err.ensures.fails [
  | inl memory ↦ inr (c.code.ensures ∙ ap code (c.tell_words.ensures.memory memory))
  | inr here ↦ inl (c.code.ensures ∙ ap code (c.tell_words.ensures.mistake (mistaken.1 _ here)))
]

pub returns-in-Ok-clause-begun : goal.returns-in-Ok-clause-begun
returns-in-Ok-clause-begun g c = begun_of g.F.Stored.held c.args.machine.now.files.now (map (λ w. w.now) c.args.words.now) (option_map (λ s. s.now) c.in-Ok.task.dump) c.in-Ok.task.most_events c.begin_task.result c.in-Ok.ensures.asked c.begin_task.ensures.files c.begin_task.ensures.begun

pub returns-in-Ok-clause-unbegun : goal.returns-in-Ok-clause-unbegun
returns-in-Ok-clause-unbegun g c = unbegun_by (g.F.Stored.held c.args.machine.now.files.now) (map (λ w. w.now) c.args.words.now) (option_map (λ s. s.now) c.in-Ok.task.dump) c.in-Ok.task.most_events c.begin_task.result c.in-Ok.ensures.asked c.begin_task.ensures.unbegun

pub returns-in-Ok-clause-within : goal.returns-in-Ok-clause-within
returns-in-Ok-clause-within g c = all_within (g.F.Stored.held c.args.machine.now.files.now) (option_map (λ s. s.now) c.in-Ok.task.dump) c.begin_task.result c.begin_task.ensures.unbegun

pub returns-in-Ok-clause-usage : goal.returns-in-Ok-clause-usage
returns-in-Ok-clause-usage g c = none_mistaken (fault_of shell (map (λ w. w.now) c.args.words.now)) (g.F.Stored.held c.args.machine.now.files.now) (option_map (λ s. s.now) c.in-Ok.task.dump) c.begin_task.result c.begin_task.ensures.unbegun

pub returns-in-Ok-clause-mistake : goal.returns-in-Ok-clause-mistake
returns-in-Ok-clause-mistake g c mistaken = absurd (mistaken.0 c.in-Ok.ensures.fails)
