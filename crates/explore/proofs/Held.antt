-- What holds of the text of each outcome holds of those that are joined.
use Rattle.std.proofs.Common.{◌≡◌, ℕ, Bool, true, false, cond, List, [], ◌∷◌}
use Rattle.std.specs.Prelude.{bytes_eq}
use Rattle.std.specs.List.{All, AllByRecursion}
use Rattle.std.proofs.lemmas.List.Elements.{All-from_recursion, recursion_from_All}
use Rattle.explore.specs.Outcomes.{Counted, joined, merged}
use Rattle.explore.proofs.Noted.{more}

module _ (P : List ℕ → Type 0) where
  abbrev Held : List Counted → Type 0
  Held os = AllByRecursion (λ o. P o.text) os

  merged-held : (os : List Counted) (p : Counted) → Held os → P p.text → Held (merged os p)
  merged-held [] p a h = (h, tt)
  merged-held (o ∷ os) p a h = go (bytes_eq o.text p.text) (merged-held os p a.1 h)
    where
      go : (b : Bool) → Held (merged os p) → Held (cond b (more p.runs o ∷ os) (o ∷ merged os p))
      go true r = a
      go false r = (a.0, r)

  joined-held : (os ps : List Counted) → Held os → Held ps → Held (joined os ps)
  joined-held os [] a b = a
  joined-held os (p ∷ ps) a b = joined-held (merged os p) ps (merged-held os p a b.0) b.1

  pub held_merged : (os : List Counted) (p : Counted) → All (λ o. P o.text) os → P p.text → All (λ o. P o.text) (merged os p)
  held_merged os p a h = All-from_recursion (λ o. P o.text) (merged os p) (merged-held os p (recursion_from_All (λ o. P o.text) os a) h)

  pub held_joined : (os ps : List Counted) → All (λ o. P o.text) os → All (λ o. P o.text) ps → All (λ o. P o.text) (joined os ps)
  held_joined os ps a b = All-from_recursion (λ o. P o.text) (joined os ps) (joined-held os ps (recursion_from_All (λ o. P o.text) os a) (recursion_from_All (λ o. P o.text) ps b))
