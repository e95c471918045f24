-- An example: a BEGIN of one that may write and a BEGIN READ ONLY of another session, in either order.
use Rattle.std.proofs.Common.{◌≡◌, ◌≢◌, refl, sym, ap, subst, ◌∙◌, ℕ, ◌+◌, true, true≢false, cond, ◌&&◌, inl, inr, [], ◌∷◌, Some, None}
use Rattle.std.proofs.lemmas.Bool.{ne_eqb}
use Rattle.value.proofs.IsolationLemmas.{In}
use Rattle.value.specs.declared.refusal.Mode.{Mode}
use Rattle.value.specs.declared.refusal.Mode.TheVariants.{ReadOnly, ReadWrite}
use Rattle.siread.proofs.AlikeLemmas.{alike_itself}
use Rattle.history.specs.Opening.{Opening}
use Rattle.history.specs.Transactions.{Txn, World}
use Rattle.history.specs.Events.{begun, followed, start, world_of}
use Rattle.alike.specs.Told.{begins}
use Rattle.alike.specs.Worlds.{Alike, AreTwins, HasLike, counts, is_waiting}
use Rattle.alike.proofs.Twins.{has_like, in_active}

module _ {A : Type 0} where
  -- after a BEGIN
  abbrev one : Opening A → ℕ → Mode → World A
  one o s m = record (start o) { txns = begun (start o) s m ∷ []; place = (start o).place + 1 }

  abbrev two : Opening A → ℕ → Mode → ℕ → Mode → World A
  two o s m t k = record (one o s m) { txns = begun (start o) s m ∷ begun (one o s m) t k ∷ []; place = (one o s m).place + 1 }

  both_begun : (o : Opening A) (s t : ℕ) (m k : Mode) → s ≢ t → world_of o (begins s m ∷ begins t k ∷ []) ≡ two o s m t k
  both_begun o s t m k n = ap (λ b. followed (one o s m) (begins t k) (cond (b && true) (Some (begun (start o) s m)) None)) (ne_eqb s t n)

  module _ (o : Opening A) (s t : ℕ) where
    abbrev w : World A
    w = two o s ReadWrite t ReadOnly

    abbrev v : World A
    v = two o t ReadOnly s ReadWrite

    none_waits : (x : Txn A) → In x w.txns → is_waiting x ≡ true → ⊥
    none_waits x (inl e) p = true≢false (sym p ∙ ap is_waiting e)
    none_waits x (inr (inl e)) p = true≢false (sym p ∙ ap is_waiting e)
    none_waits x (inr (inr e)) p = e

    none_waits_there : (x : Txn A) → In x v.txns → is_waiting x ≡ true → ⊥
    none_waits_there x (inl e) p = true≢false (sym p ∙ ap is_waiting e)
    none_waits_there x (inr (inl e)) p = true≢false (sym p ∙ ap is_waiting e)
    none_waits_there x (inr (inr e)) p = e

    there : HasLike w v
    there = has_like w v go (λ a i. absurd i)
      where
        go : (x : Txn A) → In x w.txns → counts x ≡ true → (y : Txn A) × In y v.txns × AreTwins w v x y
        go x (inl e) c = (
          begun (one o t ReadOnly) s ReadWrite,
          inr (inl refl),
          subst (λ x. AreTwins w v x (begun (one o t ReadOnly) s ReadWrite)) (sym e) (
            refl,
            (
              record { mode = refl; snapshot = refl; commit = refl; reads = alike_itself []; changes = refl; marks = refl },
              record { known = refl; asked = refl },
              in_active w v (begun (start o) s ReadWrite) (begun (one o t ReadOnly) s ReadWrite) (λ a b i j p q n. absurd (none_waits a i p)),
              refl,
            ),
          ),
        )
        go x (inr (inl e)) c = (
          begun (start o) t ReadOnly,
          inl refl,
          subst (λ x. AreTwins w v x (begun (start o) t ReadOnly)) (sym e) (
            refl,
            (
              record { mode = refl; snapshot = refl; commit = refl; reads = alike_itself []; changes = refl; marks = refl },
              record { known = refl; asked = refl },
              in_active w v (begun (one o s ReadWrite) t ReadOnly) (begun (start o) t ReadOnly) (λ a b i j p q n. absurd (none_waits a i p)),
              refl,
            ),
          ),
        )
        go x (inr (inr e)) c = absurd e

    back : HasLike v w
    back = has_like v w go (λ a i. absurd i)
      where
        go : (x : Txn A) → In x v.txns → counts x ≡ true → (y : Txn A) × In y w.txns × AreTwins v w x y
        go x (inl e) c = (
          begun (one o s ReadWrite) t ReadOnly,
          inr (inl refl),
          subst (λ x. AreTwins v w x (begun (one o s ReadWrite) t ReadOnly)) (sym e) (
            refl,
            (
              record { mode = refl; snapshot = refl; commit = refl; reads = alike_itself []; changes = refl; marks = refl },
              record { known = refl; asked = refl },
              in_active v w (begun (start o) t ReadOnly) (begun (one o s ReadWrite) t ReadOnly) (λ a b i j p q n. absurd (none_waits_there a i p)),
              refl,
            ),
          ),
        )
        go x (inr (inl e)) c = (
          begun (start o) s ReadWrite,
          inl refl,
          subst (λ x. AreTwins v w x (begun (start o) s ReadWrite)) (sym e) (
            refl,
            (
              record { mode = refl; snapshot = refl; commit = refl; reads = alike_itself []; changes = refl; marks = refl },
              record { known = refl; asked = refl },
              in_active v w (begun (one o t ReadOnly) s ReadWrite) (begun (start o) s ReadWrite) (λ a b i j p q n. absurd (none_waits_there a i p)),
              refl,
            ),
          ),
        )
        go x (inr (inr e)) c = absurd e

    two_alike : Alike w v
    two_alike = record { catalog = refl; last = refl; identifiers = refl; tables = refl; writers = refl; there = there; back = back }

  pub begins_alike : (o : Opening A) (s t : ℕ) → s ≢ t → Alike (world_of o (begins s ReadWrite ∷ begins t ReadOnly ∷ [])) (world_of o (begins t ReadOnly ∷ begins s ReadWrite ∷ []))
  begins_alike o s t n = subst (λ r. Alike r (world_of o (begins t ReadOnly ∷ begins s ReadWrite ∷ []))) (sym (both_begun o s t ReadWrite ReadOnly n))
      (subst (Alike (two o s ReadWrite t ReadOnly)) (sym (both_begun o t s ReadOnly ReadWrite (λ e. n (sym e)))) (two_alike o s t))
