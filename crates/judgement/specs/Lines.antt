-- The last line of what is printed of a judgement.
use Rattle.std.specs.Prelude.{◌≡◌, ℕ, List, ◌++◌, codes}
use Rattle.orders.specs.declared.search.Answer.{Answer}
use Rattle.orders.specs.declared.search.Answer.TheVariants.{Yes, No, Unknown}

module _ {A : Type 0} where
  abbrev pub answer_line : Answer A → List ℕ
  answer_line (Yes order) = codes "check yes\n"
  answer_line No = codes "check no\n"
  answer_line Unknown = codes "check unknown\n"

  -- The text ends with the line of the answer.
  abbrev pub EndsWith : Answer A → List ℕ → Type 0
  EndsWith a text = (before : List ℕ) × (text ≡ before ++ answer_line a)
