-- A dump that isn't made.
use Rattle.std.proofs.Common.{◌≡◌, ◌⊎◌, ℕ, List, inl, inr, subst, sym}
use Rattle.value.specs.declared.refusal.Refusal.{Refusal}
use Rattle.value.specs.Refusals.{out_of_memory}
use Rattle.history.specs.Opening.{Recorded}
use Rattle.backup.specs.Backed.{IsNone}
use Rattle.backup.specs.declared.fault.SafeDumpFault.{SafeDumpFault}
use Rattle.backup.specs.declared.fault.SafeDumpFault.TheVariants.{View}
use Rattle.library.specs.Embedding.{IsUnviewed}

-- A dump was refused, since the session may view no tables or since memory was.
pub none_viewed : {A : Type 0} (h : Recorded A) (s : ℕ) (taken : List ℕ) (failures : ℕ) (f : SafeDumpFault) (e : Refusal) (taken_now : List ℕ) (failures_now : ℕ) → f ≡ View e → IsNone h s taken failures f taken_now failures_now → (e ≡ out_of_memory) ⊎ IsUnviewed h s e
none_viewed h s taken failures f e taken_now failures_now is none = go (subst (λ (x : SafeDumpFault). IsNone h s taken failures x taken_now failures_now) is none)
  where
    go : IsNone h s taken failures (View e) taken_now failures_now → (e ≡ out_of_memory) ⊎ IsUnviewed h s e
    go (inl viewed, taken_is, failures_are) = inr (sym viewed)
    go (inr memory, taken_is, failures_are) = inl cc
