-- The answer to a line, and what is left where memory is refused.
use Rattle.std.specs.Prelude.{◌≡◌, ℕ, Option, Some, None, List}
use Rattle.value.specs.declared.refusal.Refusal.{Refusal}
use Rattle.value.specs.Refusals.{out_of_memory}
use Rattle.script.specs.Printing.{reply_text}
use Rattle.shell.specs.declared.answer.Answer.{Answer}
use Rattle.shell.specs.declared.answer.Answer.TheVariants.{Text, Reply}

-- Memory was refused, and what was h is as it was.
abbrev pub IsUnchanged : {H : Type 0} → Refusal → H → H → Type 0
IsUnchanged e h k = (e ≡ out_of_memory) × (k ≡ h)

module _ {A : Type 0} where
  -- the text of an answer, whether or not it was made
  abbrev pub answer_text : Answer A → List ℕ
  answer_text (Text text) = text.items
  answer_text (Reply s r) = reply_text s r

  -- the text of an answer where it was made
  abbrev pub made_text : Answer A → Option (List ℕ)
  made_text (Text text) = Some text.items
  made_text (Reply s r) = None
