-- Replies that are the same.
use Rattle.std.specs.Prelude.{◌==◌, Bool, true, false, ◌&&◌, List, length, zip}
use Rattle.std.specs.List.{list_all}
use Rattle.value.specs.declared.value.Value.{Value}
use Rattle.schema.specs.Plain.{same}
use Rattle.statement.specs.declared.reply.Reply.{Reply}
use Rattle.statement.specs.declared.reply.Reply.TheVariants.{Inserted, Updated, Deleted, Rows}

module _ {A : Type 0} where
  -- the same values in the same order
  abbrev pub same_values : List (Value A) → List (Value A) → Bool
  same_values vs ws = length vs == length ws && list_all (λ p. same p.0 p.1) (zip vs ws)

  -- the same rows in the same order
  abbrev pub same_rows : List (List (Value A)) → List (List (Value A)) → Bool
  same_rows vs ws = length vs == length ws && list_all (λ p. same_values p.0 p.1) (zip vs ws)

  -- the same answer of a statement, and no refusal
  abbrev pub same_answer : Reply A → Reply A → Bool
  same_answer Inserted Inserted = true
  same_answer (Updated n) (Updated m) = n == m
  same_answer (Deleted n) (Deleted m) = n == m
  same_answer (Rows vs) (Rows ws) = same_rows vs ws
  same_answer _ _ = false
