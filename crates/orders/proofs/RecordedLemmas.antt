-- The least ends and the earliest begins, found one by one.
use Rattle.std.proofs.Common.{◌≡◌, ◌⊎◌, refl, sym, ap, ◌∙◌, subst, ℕ, zero, suc, ◌+◌, ◌-◌, ◌^◌, ◌<◌, ◌≤◌, min, List, [], ◌∷◌, ◌++◌, inl, inr, length, slice_get, slice_set, Some, None, arith}
use Rattle.std.proofs.lemmas.Bool.{cases_eq}
use Rattle.std.proofs.lemmas.Option.{same_Some}
use Rattle.orders.specs.Explains.{Trace}
use Rattle.orders.specs.Turns.{AreEarliestOfRest, AreLeast, IsEarliest, IsEarliestOfRest, IsLeastFrom, begin_at, end_at}
use Rattle.orders.proofs.PlaceLemmas.{get-other, get-set}
use Rattle.orders.proofs.TimeLemmas.{end-past, get-past}

module _ {A : Type 0} (ts : List (Trace A)) where
  -- ---- ends

  -- those from a place on are found
  pub record AreFrom (place least : ℕ) (ends : List ℕ) : Type 0 where
    pub count : length ends ≡ length ts
    pub within : place ≤ length ts
    pub from : IsLeastFrom ts place least
    pub each : (k e : ℕ) → place ≤ k → slice_get ends k ≡ Some e → IsLeastFrom ts k e

  -- none is found yet
  pub none-from : (ends : List ℕ) → length ends ≡ length ts → AreFrom (length ts) (2 ^ 64 - 1) ends
  none-from ends e = record {
    count = e;
    within = omega arith;
    from = λ j l. subst (λ n. 2 ^ 64 - 1 ≤ n) (end-past ts j l) (omega arith);
    each = λ k m l g. absurd (past k m l (sym e) g);
  }
    where
      past : (k m : ℕ) → length ts ≤ k → length ts ≡ length ends → slice_get ends k ≡ Some m → ⊥
      past k m l q g = none-some (sym (get-past ts ends k (omega (arith, l, q))) ∙ g)
        where
          none-some : {B : Type 0} {x : B} → None ≡ Some x → ⊥
          none-some r = cc

  length-set : (xs : List ℕ) (i x : ℕ) → length (slice_set xs i x) ≡ length xs
  length-set [] i x = refl
  length-set (y ∷ ys) zero x = refl
  length-set (y ∷ ys) (suc i) x = ap suc (length-set ys i x)

  some-at : (xs : List ℕ) (i : ℕ) → i < length xs → (x : ℕ) × (slice_get xs i ≡ Some x)
  some-at [] i l = absurd (omega (arith, l))
  some-at (y ∷ ys) zero l = (y, refl)
  some-at (y ∷ ys) (suc i) l = some-at ys i (omega (arith, l))

  -- one more is found
  pub one-from : (above place least m : ℕ) (ends now : List ℕ) → above ≡ place + 1 → AreFrom above least ends → m ≡ min least (end_at (slice_get ts place)) → now ≡ slice_set ends place m → AreFrom place m now
  one-from above place least m ends now u h e q = record {
    count = ap length q ∙ length-set ends place m ∙ h.count;
    within = omega (arith, u, h.within);
    from = reaches;
    each = λ k n l g. go k n (cases_eq k place) l (ap (λ x. slice_get x k) (sym q) ∙ g);
  }
    where
      reaches : IsLeastFrom ts place m
      reaches j l = at (cases_eq j place)
        where
          at : (j ≡ place) ⊎ (j ≡ place → ⊥) → m ≤ end_at (slice_get ts j)
          at (inl p) = subst (λ i. m ≤ end_at (slice_get ts i)) (sym p) (omega (arith, e))
          at (inr p) = let k = h.from j (omega (arith, u, p, l)) in omega (arith, e, k)

      go : (k n : ℕ) → (k ≡ place) ⊎ (k ≡ place → ⊥) → place ≤ k → slice_get (slice_set ends place m) k ≡ Some n → IsLeastFrom ts k n
      go k n (inl p) l g = subst (λ i. IsLeastFrom ts i n) (sym p) (subst (IsLeastFrom ts place) (same_Some m n (sym (is-set) ∙ ap (slice_get (slice_set ends place m)) (sym p) ∙ g)) reaches)
        where
          is-set : slice_get (slice_set ends place m) place ≡ Some m
          is-set = let s = some-at ends place (omega (arith, u, h.within, h.count)) in get-set ends place s.0 m s.1
      go k n (inr p) l g = h.each k n (omega (arith, u, p, l)) (sym (get-other ends place k m p) ∙ g)

  pub all-from : (least : ℕ) (ends : List ℕ) → AreFrom 0 least ends → AreLeast ts ends
  all-from least ends h = (h.count, λ k e g. h.each k e (omega arith) g)

  -- of a place beyond them
  pub least-past : (place : ℕ) → length ts ≤ place → IsLeastFrom ts place (2 ^ 64 - 1)
  least-past place l j m = subst (λ n. 2 ^ 64 - 1 ≤ n) (end-past ts j (omega (arith, l, m))) (omega arith)

  -- ---- begins

  pub begin-past : (i : ℕ) → length ts ≤ i → 2 ^ 64 - 1 ≡ begin_at (slice_get ts i)
  begin-past i l = sym (ap begin_at (get-past ts ts i l))

  pub earliest-past : (place : ℕ) → length ts ≤ place → IsEarliest ts place (2 ^ 64 - 1)
  earliest-past place l j m _ = subst (λ n. 2 ^ 64 - 1 ≤ n) (begin-past j (omega (arith, l, m))) (omega arith)

  -- one more of the few
  pub earliest-more : (from place b m : ℕ) → ((j : ℕ) → from ≤ j → j < place → b ≤ begin_at (slice_get ts j)) → m ≡ min b (begin_at (slice_get ts place)) → (j : ℕ) → from ≤ j → j < place + 1 → m ≤ begin_at (slice_get ts j)
  earliest-more from place b m h e j f l = go (cases_eq j place)
    where
      go : (j ≡ place) ⊎ (j ≡ place → ⊥) → m ≤ begin_at (slice_get ts j)
      go (inl p) = subst (λ i. m ≤ begin_at (slice_get ts i)) (sym p) (omega (arith, e))
      go (inr p) = let k = h j f (omega (arith, p, l)) in omega (arith, e, k)

  -- those before a place are found
  abbrev pub AreBefore : ℕ → List ℕ → Type 0
  AreBefore place begins = (length begins ≡ place) × ((k b : ℕ) → slice_get begins k ≡ Some b → IsEarliest ts k b)

  push-get : (xs : List ℕ) (x k b : ℕ) → slice_get (xs ++ x ∷ []) k ≡ Some b → (slice_get xs k ≡ Some b) ⊎ ((k ≡ length xs) × (x ≡ b))
  push-get [] x zero b g = inr (refl, same_Some x b g)
  push-get [] x (suc k) b g = cc
  push-get (y ∷ ys) x zero b g = inl g
  push-get (y ∷ ys) x (suc k) b g = next (push-get ys x k b g)
    where
      next : (slice_get ys k ≡ Some b) ⊎ ((k ≡ length ys) × (x ≡ b)) → (slice_get ys k ≡ Some b) ⊎ ((suc k ≡ suc (length ys)) × (x ≡ b))
      next (inl e) = inl e
      next (inr e) = inr (ap suc e.0, e.1)

  pub begins-more : (place b : ℕ) (begins now : List ℕ) → AreBefore place begins → IsEarliest ts place b → now ≡ begins ++ b ∷ [] → AreBefore (place + 1) now
  begins-more place b begins now h e q = (ap length q ∙ length-push begins b ∙ ap (λ n. n + 1) h.0, λ k m g. go k m (push-get begins b k m (ap (λ x. slice_get x k) (sym q) ∙ g)))
    where
      length-push : (xs : List ℕ) (x : ℕ) → length (xs ++ x ∷ []) ≡ length xs + 1
      length-push [] x = refl
      length-push (y ∷ ys) x = let k = length-push ys x in omega (arith, k)

      go : (k m : ℕ) → (slice_get begins k ≡ Some m) ⊎ ((k ≡ length begins) × (b ≡ m)) → IsEarliest ts k m
      go k m (inl g) = h.1 k m g
      go k m (inr g) = subst (λ i. IsEarliest ts i m) (sym (g.0 ∙ h.0)) (subst (IsEarliest ts place) g.1 e)

  -- ---- the earliest begin of all from a place on

  -- those from a place on are found
  pub record BeginsFrom (place earliest : ℕ) (begins : List ℕ) : Type 0 where
    pub count : length begins ≡ length ts
    pub within : place ≤ length ts
    pub from : IsEarliestOfRest ts place earliest
    pub each : (k e : ℕ) → place ≤ k → slice_get begins k ≡ Some e → IsEarliestOfRest ts k e

  -- none is found yet
  pub none-begins : (begins : List ℕ) → length begins ≡ length ts → BeginsFrom (length ts) (2 ^ 64 - 1) begins
  none-begins begins e = record {
    count = e;
    within = omega arith;
    from = λ j l. subst (λ n. 2 ^ 64 - 1 ≤ n) (begin-past j l) (omega arith);
    each = λ k m l g. absurd (past k m l (sym e) g);
  }
    where
      past : (k m : ℕ) → length ts ≤ k → length ts ≡ length begins → slice_get begins k ≡ Some m → ⊥
      past k m l q g = none-some (sym (get-past ts begins k (omega (arith, l, q))) ∙ g)
        where
          none-some : {B : Type 0} {x : B} → None ≡ Some x → ⊥
          none-some r = cc

  -- one more is found
  pub one-begins : (above place earliest m : ℕ) (begins now : List ℕ) → above ≡ place + 1 → BeginsFrom above earliest begins → m ≡ min earliest (begin_at (slice_get ts place)) → now ≡ slice_set begins place m → BeginsFrom place m now
  one-begins above place earliest m begins now u h e q = record {
    count = ap length q ∙ length-set begins place m ∙ h.count;
    within = omega (arith, u, h.within);
    from = reaches;
    each = λ k n l g. go k n (cases_eq k place) l (ap (λ x. slice_get x k) (sym q) ∙ g);
  }
    where
      reaches : IsEarliestOfRest ts place m
      reaches j l = at (cases_eq j place)
        where
          at : (j ≡ place) ⊎ (j ≡ place → ⊥) → m ≤ begin_at (slice_get ts j)
          at (inl p) = subst (λ i. m ≤ begin_at (slice_get ts i)) (sym p) (omega (arith, e))
          at (inr p) = let k = h.from j (omega (arith, u, p, l)) in omega (arith, e, k)

      go : (k n : ℕ) → (k ≡ place) ⊎ (k ≡ place → ⊥) → place ≤ k → slice_get (slice_set begins place m) k ≡ Some n → IsEarliestOfRest ts k n
      go k n (inl p) l g = subst (λ i. IsEarliestOfRest ts i n) (sym p) (subst (IsEarliestOfRest ts place) (same_Some m n (sym (is-set) ∙ ap (slice_get (slice_set begins place m)) (sym p) ∙ g)) reaches)
        where
          is-set : slice_get (slice_set begins place m) place ≡ Some m
          is-set = let s = some-at begins place (omega (arith, u, h.within, h.count)) in get-set begins place s.0 m s.1
      go k n (inr p) l g = h.each k n (omega (arith, u, p, l)) (sym (get-other begins place k m p) ∙ g)

  pub all-begins : (earliest : ℕ) (begins : List ℕ) → BeginsFrom 0 earliest begins → AreEarliestOfRest ts begins
  all-begins earliest begins h = (h.count, λ k e g. h.each k e (omega arith) g)

  -- of a place beyond them
  pub rest-past : (place : ℕ) → length ts ≤ place → IsEarliestOfRest ts place (2 ^ 64 - 1)
  rest-past place l j m = subst (λ n. 2 ^ 64 - 1 ≤ n) (begin-past j (omega (arith, l, m))) (omega arith)
