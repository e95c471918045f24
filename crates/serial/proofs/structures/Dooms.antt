-- What a commit's dooms leave of the other transactions: each is as it was, or was open and is over now.
use Rattle.std.proofs.Common.{◌≡◌, refl, sym, ap, subst, ℕ, suc, Bool, true, false, cond, inl, inr, List, [], ◌∷◌, length, map, Option, Some, None, eqb}
use Rattle.std.specs.List.{find}
use Rattle.value.specs.declared.refusal.Cause.{Cause}
use Rattle.value.proofs.IsolationLemmas.{In}
use Rattle.history.specs.Transactions.{Standing, Open, Doomed, Failed, Aborted, Done, Txn, is_open, is_done}
use Rattle.history.specs.Events.{doomed_by, doomed_with}

open_or_done : (st : Standing) → is_done st ≡ true → is_open st ≡ false
open_or_done Open d = sym d
open_or_done (Doomed c) d = refl
open_or_done Failed d = refl
open_or_done Aborted d = refl
open_or_done Done d = refl

module _ {A : Type 0} where
  pub data Fate (place : ℕ) (t : Txn A) : Txn A → Type 0 where
    Spared : Fate place t t
    Over : (c : Cause) → is_open t.standing ≡ true → Fate place t (record t { standing = Doomed c; end = place })

  pub fate : (place : ℕ) (cs : List Cause) (t : Txn A) → Fate place t (doomed_by place cs t)
  fate place cs t = go (is_open t.standing) refl (find (λ c. eqb c.b.0 t.number) cs)
    where
      chosen : is_open t.standing ≡ true → (o : Option Cause) → Fate place t (doomed_with place o t)
      chosen e None = Spared
      chosen e (Some c) = Over c e

      go : (b : Bool) → is_open t.standing ≡ b → (o : Option Cause) → Fate place t (doomed_with place (cond b o None) t)
      go true e o = chosen e o
      go false e o = Spared

  pub In-doomed : (place : ℕ) (cs : List Cause) (u : Txn A) (ts : List (Txn A)) → In u (map (doomed_by place cs) ts) → (t : Txn A) × In t ts × Fate place t u
  In-doomed place cs u [] i = absurd i
  In-doomed place cs u (t ∷ ts) (inl p) = (t, inl refl, subst (Fate place t) (sym p) (fate place cs t))
  In-doomed place cs u (t ∷ ts) (inr i) = let r = In-doomed place cs u ts i in (r.0, inr r.1, r.2)

  pub In-made : (place : ℕ) (cs : List Cause) (u : Txn A) (ts : List (Txn A)) → In u (map (doomed_by place cs) ts) → (t : Txn A) × In t ts × (u ≡ doomed_by place cs t)
  In-made place cs u [] i = absurd i
  In-made place cs u (t ∷ ts) (inl p) = (t, inl refl, p)
  In-made place cs u (t ∷ ts) (inr i) = let r = In-made place cs u ts i in (r.0, inr r.1, r.2)

  pub doomed-In : (place : ℕ) (cs : List Cause) (t : Txn A) (ts : List (Txn A)) → In t ts → In (doomed_by place cs t) (map (doomed_by place cs) ts)
  doomed-In place cs t [] i = absurd i
  doomed-In place cs t (u ∷ ts) (inl p) = inl (ap (doomed_by place cs) p)
  doomed-In place cs t (u ∷ ts) (inr i) = inr (doomed-In place cs t ts i)

  -- a committed one stays
  pub done-doomed : (place : ℕ) (cs : List Cause) (t : Txn A) → is_done t.standing ≡ true → doomed_by place cs t ≡ t
  done-doomed place cs t d = ap (λ b. doomed_with place (cond b (find (λ c. eqb c.b.0 t.number) cs) None) t) (open_or_done t.standing d)

  pub done-In : (place : ℕ) (cs : List Cause) (t : Txn A) (ts : List (Txn A)) → is_done t.standing ≡ true → In t ts → In t (map (doomed_by place cs) ts)
  done-In place cs t ts d i = subst (λ u. In u (map (doomed_by place cs) ts)) (done-doomed place cs t d) (doomed-In place cs t ts i)

  pub length-doomed : (place : ℕ) (cs : List Cause) (ts : List (Txn A)) → length (map (doomed_by place cs) ts) ≡ length ts
  length-doomed place cs [] = refl
  length-doomed place cs (t ∷ ts) = ap suc (length-doomed place cs ts)

  pub number-doomed : (place : ℕ) (cs : List Cause) (t : Txn A) → (doomed_by place cs t).number ≡ t.number
  number-doomed place cs t = go (doomed_by place cs t) (fate place cs t)
    where
      go : (u : Txn A) → Fate place t u → u.number ≡ t.number
      go u Spared = refl
      go u (Over c e) = refl
