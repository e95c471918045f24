-- How a check ends, by its parts.
use Rattle.std.proofs.Common.{◌≡◌, ◌⊎◌, ◌∙◌, ℕ, List, [], Result, Err, inl, inr, refl, sym, ap, subst}
use Rattle.schema.specs.Definition.{Catalog}
use Rattle.schema.specs.Inserting.{empty_tables}
use Rattle.schema.specs.declared.tables.Tables.{Tables}
use Rattle.orders.specs.Found.{Tells}
use Rattle.transcript.specs.declared.fault.Reason.{Reason}
use Rattle.transcript.specs.declared.fault.Reason.TheVariants as reason
use Rattle.transcript.specs.declared.traces.Traces.{Traces}
use Rattle.judgement.specs.Telling.{names_of}
use Rattle.judgement.specs.declared.judging.Judgement.{Judgement}
use Rattle.library.specs.Checking.{IsJudged, IsPrinted, IsRefused, end_of_fault}
use Rattle.library.specs.Memory.{RanOut}
use Rattle.library.specs.declared.ending.End.{End}
use Rattle.library.specs.declared.ending.End.TheVariants.{Memory, Refused}

-- a fault ends a check for want of memory, or by its line
by_reason : (r : Reason) (line : ℕ) → (end_of_fault r line ≡ Memory) ⊎ (end_of_fault r line ≡ Refused line)
by_reason reason.Memory line = inl refl
by_reason reason.NoNewline line = inr refl
by_reason reason.CarriageReturn line = inr refl
by_reason reason.NoMark line = inr refl
by_reason reason.NoCommand line = inr refl
by_reason reason.NoTable line = inr refl
by_reason reason.LateTable line = inr refl
by_reason reason.Awaits line = inr refl
by_reason reason.Unasked line = inr refl
by_reason reason.NoReply line = inr refl
by_reason reason.OtherReply line = inr refl
by_reason reason.IsOpen line = inr refl
by_reason reason.Outside line = inr refl
by_reason reason.NoStatement line = inr refl
by_reason reason.NoRow line = inr refl
by_reason reason.RowsMissing line = inr refl

-- The line is refused, unless memory was.
refused : {Y : Type 0} (line : ℕ) (e : End) (text : List ℕ) (ends : Result Y ℕ → Type 0) (answer : Result Y ℕ) → answer ≡ Err line → (IsRefused line e text → ends (Err line)) → text ≡ [] → (e ≡ Memory) ⊎ (e ≡ Refused line) → RanOut e text ⊎ ends answer
refused line e text ends answer at into none (inl memory) = inl (memory, none)
refused line e text ends answer at into none (inr by_line) = inr (subst ends (sym at) (into (by_line, none)))

-- A fault of a text that was read so ends a check.
pub ends_by_fault : {Y : Type 0} (r : Reason) (line : ℕ) (e : End) (text : List ℕ) (ends : Result Y ℕ → Type 0) (answer : Result Y ℕ)
    → (r ≡ reason.Memory) ⊎ (answer ≡ Err line) → e ≡ end_of_fault r line → text ≡ [] → (IsRefused line e text → ends (Err line)) → RanOut e text ⊎ ends answer
ends_by_fault r line e text ends answer (inl memory) is none into = inl (is ∙ ap (λ (q : Reason). end_of_fault q line) memory, none)
ends_by_fault r line e text ends answer (inr at) is none into = refused line e text ends answer at into none (subst (λ (x : End). (x ≡ Memory) ⊎ (x ≡ Refused line)) (sym is) (by_reason r line))

module _ {A : Type 0} where
  -- what was recorded was judged on tables without rows
  pub ends_judged : (c : Catalog) (X : Tables A) (t : Traces A) (j : Judgement A) (e : End) (text : List ℕ) → X ≡ empty_tables c → j.traces ≡ t → Tells c X t.transactions.items j.answer
      → RanOut e text ⊎ IsPrinted j e text → RanOut e text ⊎ IsJudged c (t.transactions.items, names_of t.names.items) e text
  ends_judged c X t j e text empty kept tells (inl out) = inl out
  ends_judged c X t j e text empty kept tells (inr printed) =
      inr (j, ap (λ (u : Traces A). (u.transactions.items, names_of u.names.items)) kept, subst (λ (Y : Tables A). Tells c Y t.transactions.items j.answer) empty tells, printed)
