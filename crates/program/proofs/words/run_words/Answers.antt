use Rattle.std.proofs.Common.{◌∙◌, sym, ap, inl, inr}
use Rattle.program.specs.Ends.{code}
use Rattle.program.proofs.EndLemmas.{only_done, only_usage}
use Rattle.program.proofs.words.run_words.Goals as goal

pub returns-clause-usage : goal.returns-clause-usage
returns-clause-usage g c two = c.done-status.ensures.usage (only_usage c.done-status.result (sym c.code.ensures ∙ two))

pub returns-clause-mistake : goal.returns-clause-mistake
returns-clause-mistake g c mistaken = elim (c.done-status.ensures.mistake mistaken) [
  | inl told ↦ inl (c.code.ensures ∙ ap code told)
  | inr refused ↦ inr (c.code.ensures ∙ ap code refused)
]

pub returns-clause-did : goal.returns-clause-did
returns-clause-did g c zero = c.done-status.ensures.did (only_done c.done-status.result (sym c.code.ensures ∙ zero))

pub returns-clause-stopped : goal.returns-clause-stopped
returns-clause-stopped g c other =
    let ends = c.done-status.ensures.stopped (λ told. other (c.code.ensures ∙ ap code told)) in
    (ends.0, c.code.ensures ∙ ap code ends.1, ends.2)
