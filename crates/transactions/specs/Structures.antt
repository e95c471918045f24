-- Dangerous structures by their first two transactions, and those that all have one transaction among these.
-- Source: Ports and Grittner, "Serializable Snapshot Isolation in PostgreSQL" (VLDB 2012), section 3.2.
use Rattle.std.specs.Prelude.{◌≡◌, ◌⊎◌, Bool, true, List, Option}
use Rattle.std.specs.List.{AllByRecursion, filter}
use Rattle.value.specs.declared.refusal.Cause.{Cause}
use Rattle.value.specs.Isolation.{Node, caused, earliest, first_some, is_dangerous}

module _ {T : Type 0} (node : T → Node) (edge : T → T → Bool) where
  -- the structure of a, b and the first of ts to commit that closes it, if there is one
  abbrev pub closed_pair : List T → T → T → Option Cause
  closed_pair ts a b = caused node edge a b (earliest node edge (filter (is_dangerous node edge a b) ts))

  -- the structure among ts that begins at a, with the least middle one
  abbrev pub begun_cause : List T → T → Option Cause
  begun_cause ts a = first_some (closed_pair ts a) ts

  -- each structure among ts that begins at a has x as its first or its middle one
  abbrev pub BeginHold : T → T → List T → Type 0
  BeginHold x a ts = AllByRecursion (λ b. AllByRecursion (λ c. is_dangerous node edge a b c ≡ true → (a ≡ x) ⊎ (b ≡ x)) ts) ts

  -- each structure among ts has x as its first or its middle one
  abbrev pub StructuresHold : T → List T → Type 0
  StructuresHold x ts = AllByRecursion (λ a. BeginHold x a ts) ts
