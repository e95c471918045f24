-- The snapshots of transactions that their sessions have still to end, transaction by transaction.
use Rattle.std.proofs.Common.{◌≡◌, refl, sym, ap, ◌∙◌, ℕ, ◌+◌, ◌<◌, ◌≤◌, Bool, true, false, cond, List, [], ◌∷◌, ◌++◌, append_assoc, length, drop, get_or}
use Rattle.std.specs.List.{AllByRecursion}
use Rattle.std.proofs.lemmas.List.{append-nil, drop_all, drop_more}
use Rattle.history.specs.Transactions.{Txn, is_owed}
use Rattle.transactions.specs.Stretches.{IsAround, IsPast}
use Rattle.transactions.specs.Versions.{owed_snapshots}

module _ {A : Type 0} where
  -- ---- one transaction after the other

  drop-one : (ts : List (Txn A)) (i : ℕ) (t : Txn A) → i < length ts → t ≡ get_or ts i t → owed_snapshots (drop i ts) ≡ cond (is_owed t.standing) (t.snapshot ∷ owed_snapshots (drop (i + 1) ts)) (owed_snapshots (drop (i + 1) ts))
  drop-one ts i t lt at = ap owed_snapshots (drop_more ts i t lt ∙ ap (λ u. u ∷ drop (i + 1) ts) (sym at))

  pub owed-pushed : (ts : List (Txn A)) (i : ℕ) (t : Txn A) (made more whole : List ℕ) → i < length ts → t ≡ get_or ts i t → is_owed t.standing ≡ true → more ≡ made ++ t.snapshot ∷ []
      → made ++ owed_snapshots (drop i ts) ≡ whole → more ++ owed_snapshots (drop (i + 1) ts) ≡ whole
  owed-pushed ts i t made more whole lt at owed pushed so_far =
      let rest = owed_snapshots (drop (i + 1) ts) in
      ap (λ ss. ss ++ rest) pushed ∙ append_assoc made (t.snapshot ∷ []) rest
      ∙ ap (λ ss. made ++ ss) (sym (drop-one ts i t lt at ∙ ap (λ b. cond b (t.snapshot ∷ rest) rest) owed)) ∙ so_far

  pub owed-passed : (ts : List (Txn A)) (i : ℕ) (t : Txn A) (made whole : List ℕ) → i < length ts → t ≡ get_or ts i t → is_owed t.standing ≡ false
      → made ++ owed_snapshots (drop i ts) ≡ whole → made ++ owed_snapshots (drop (i + 1) ts) ≡ whole
  owed-passed ts i t made whole lt at over so_far =
      let rest = owed_snapshots (drop (i + 1) ts) in
      ap (λ ss. made ++ ss) (sym (drop-one ts i t lt at ∙ ap (λ b. cond b (t.snapshot ∷ rest) rest) over)) ∙ so_far

  pub owed-end : (ts : List (Txn A)) (i : ℕ) (made whole : List ℕ) → length ts ≤ i → made ++ owed_snapshots (drop i ts) ≡ whole → made ≡ whole
  owed-end ts i made whole past so_far = sym (ap (λ us. made ++ owed_snapshots us) (drop_all i ts past) ∙ append-nil made) ∙ so_far

  -- ---- around a stretch

  owed-append : (ts us : List (Txn A)) → owed_snapshots (ts ++ us) ≡ owed_snapshots ts ++ owed_snapshots us
  owed-append [] us = refl
  owed-append (t ∷ ts) us = go (is_owed t.standing) (owed-append ts us)
    where
      go : (b : Bool) → owed_snapshots (ts ++ us) ≡ owed_snapshots ts ++ owed_snapshots us
          → cond b (t.snapshot ∷ owed_snapshots (ts ++ us)) (owed_snapshots (ts ++ us)) ≡ cond b (t.snapshot ∷ owed_snapshots ts) (owed_snapshots ts) ++ owed_snapshots us
      go true e = ap (λ ss. t.snapshot ∷ ss) e
      go false e = e

  owed-none : (n p : ℕ) (ts : List (Txn A)) → AllByRecursion (IsPast n p) ts → owed_snapshots ts ≡ []
  owed-none n p [] all = refl
  owed-none n p (t ∷ ts) all = ap (λ b. cond b (t.snapshot ∷ owed_snapshots ts) (owed_snapshots ts)) all.0.over ∙ owed-none n p ts all.1

  pub owed-around : (n p : ℕ) (ts f b : List (Txn A)) → IsAround n p ts f b → owed_snapshots f ++ owed_snapshots b ≡ owed_snapshots ts
  owed-around n p ts f b r =
      sym (ap owed_snapshots r.whole ∙ owed-append f (r.between ++ b) ∙ ap (λ ss. owed_snapshots f ++ ss) (owed-append r.between b ∙ ap (λ ss. ss ++ owed_snapshots b) (owed-none n p r.between r.past)))
