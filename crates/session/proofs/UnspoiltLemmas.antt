-- Snapshots that no commit has spoilt, after further commits.
use Rattle.std.proofs.Common.{◌≡◌, refl, sym, ap, subst, ◌∙◌, ℕ, zero, suc, Bool, true, false, true≢false, cond, ◌||◌, List, [], ◌∷◌, ◌++◌, set, eqb}
use Rattle.std.proofs.lemmas.Bool.{eqb-true}
use Rattle.std.proofs.lemmas.List.Folds.{list_any-append}
use Rattle.std.specs.List.{list_any}
use Rattle.session.specs.Unspoilt.{AreUnspoilt, is_spoilt_by, spoils, unspoilt_after, unspoilt_in_place}

-- nothing spoils where nothing has committed
pub none_spoilt : (ns : List ℕ) → AreUnspoilt [] ns
none_spoilt [] = tt
none_spoilt (n ∷ ns) = (refl, none_spoilt ns)

module _ (ks : List (ℕ × (ℕ × ℕ × ℕ))) where
  -- one of them isn't spoilt
  pub one_unspoilt : (n : ℕ) (ns : List ℕ) → AreUnspoilt ks ns → list_any (λ m. eqb m n) ns ≡ true → is_spoilt_by ks n ≡ false
  one_unspoilt n [] h e = absurd (true≢false (sym e))
  one_unspoilt n (m ∷ ns) h e = go (eqb m n) refl (one_unspoilt n ns h.1) e
    where
      go : (b : Bool) → eqb m n ≡ b → (list_any (λ i. eqb i n) ns ≡ true → is_spoilt_by ks n ≡ false) → (b || list_any (λ i. eqb i n) ns) ≡ true → is_spoilt_by ks n ≡ false
      go true q rest f = subst (λ i. is_spoilt_by ks i ≡ false) (eqb-true m n q) h.0
      go false q rest f = rest f

  -- another in the place of one
  pub unspoilt_set : (i n : ℕ) (ns : List ℕ) → AreUnspoilt ks ns → is_spoilt_by ks n ≡ false → AreUnspoilt ks (set ns i n)
  unspoilt_set i n [] h e = tt
  unspoilt_set zero n (m ∷ ns) h e = (e, h.1)
  unspoilt_set (suc i) n (m ∷ ns) h e = (h.0, unspoilt_set i n ns h.1 e)

  -- one commit more, where no commit is above a number
  in_place : (k : ℕ × (ℕ × ℕ × ℕ)) (c n : ℕ) → is_spoilt_by ks n ≡ false → is_spoilt_by (ks ++ k ∷ []) c ≡ false → is_spoilt_by (ks ++ k ∷ []) (unspoilt_in_place k.1 c n) ≡ false
  in_place k c n h e = go (spoils n k.1) refl
    where
      go : (b : Bool) → spoils n k.1 ≡ b → is_spoilt_by (ks ++ k ∷ []) (cond b c n) ≡ false
      go true q = e
      go false q = list_any-append (λ (x : ℕ × (ℕ × ℕ × ℕ)). spoils n x.1) ks (k ∷ []) ∙ ap (λ b. b || (spoils n k.1 || false)) h ∙ ap (λ b. b || false) q

  pub one_more : (k : ℕ × (ℕ × ℕ × ℕ)) (c : ℕ) (ns : List ℕ) → AreUnspoilt ks ns → is_spoilt_by (ks ++ k ∷ []) c ≡ false → AreUnspoilt (ks ++ k ∷ []) (unspoilt_after k.1 c ns)
  one_more k c [] h e = tt
  one_more k c (n ∷ ns) h e = (in_place k c n h.0 e, one_more k c ns h.1 e)
