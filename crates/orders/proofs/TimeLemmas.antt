-- Who may come next by time, found by the least end of those that aren't done.
use Rattle.std.proofs.Common.{◌≡◌, ◌⊎◌, refl, sym, ap, ◌∙◌, subst, ℕ, zero, suc, ◌+◌, ◌-◌, ◌^◌, ◌<◌, ◌≤◌, Bool, true, false, true≢false, ◌&&◌, ◌||◌, not, if◌then◌else◌, zip, inl, inr, List, [], ◌∷◌, length, slice_get, Option, Some, None, is_some, nat_lt, arith}
use Rattle.std.proofs.lemmas.Bool.{le-ltb, lt-ltb, cases_eq, cases_lt}
use Rattle.std.specs.List.{list_all}
use Rattle.std.proofs.lemmas.Option.{same_Some}
use Rattle.orders.specs.Explains.{Trace, precedes, ended_before}
use Rattle.orders.specs.Turns.{AreLate, AreSet, IsEarliest, IsEarliestOfRest, IsLeastEnd, IsLeastFrom, are_done, begin_at, behind_few, comes, comes_so, end_at, end_or_last, lesser_end, settled}
use Rattle.orders.proofs.WalkLemmas.{free-at, free-from}

and-both : (a b : Bool) → a ≡ true → b ≡ true → (a && b) ≡ true
and-both a b h k = ap (λ x. x && b) h ∙ k

and-not : (a b : Bool) → b ≡ false → (a && b) ≡ false
and-not true b h = h
and-not false b h = refl

module _ {A : Type 0} where
  settled-none : (o : Option (Trace A)) → settled o None ≡ true
  settled-none None = refl
  settled-none (Some t) = refl

  pub all-settled : (us : List (Trace A)) (done : List Bool) → ((j : ℕ) → j < length us → settled (slice_get us j) (slice_get done j) ≡ true) → are_done us done ≡ true
  all-settled [] done h = refl
  all-settled (u ∷ us) [] h = refl
  all-settled (u ∷ us) (d ∷ done) h = and-both (d || not (is_some u.end)) (are_done us done) (h 0 (omega arith)) (all-settled us done (λ j l. h (suc j) (omega (arith, l))))

  pub not-settled : (us : List (Trace A)) (done : List Bool) (j : ℕ) → settled (slice_get us j) (slice_get done j) ≡ false → are_done us done ≡ false
  not-settled [] done j e = absurd (true≢false e)
  not-settled (u ∷ us) [] j e = absurd (true≢false (sym (settled-none (slice_get (u ∷ us) j)) ∙ e))
  not-settled (u ∷ us) (d ∷ done) zero e = ap (λ b. b && are_done us done) e
  not-settled (u ∷ us) (d ∷ done) (suc j) e = and-not (d || not (is_some u.end)) (are_done us done) (not-settled us done j e)

module _ {A : Type 0} (ts : List (Trace A)) where
  abbrev waits : List Bool → Trace A → Bool
  waits done t = list_all (λ p. p.1 || not (precedes p.0 t)) (zip ts done)

  ends-later : (a t : Trace A) → t.begin ≤ end_or_last a.end → precedes a t ≡ false
  ends-later a t l = go a.end refl l
    where
      go : (o : Option ℕ) → a.end ≡ o → t.begin ≤ end_or_last o → precedes a t ≡ false
      go None e l = ap (λ o. ended_before o t.begin && not t.imported) e
      go (Some n) e l = ap (λ o. ended_before o t.begin && not t.imported) e ∙ ap (λ b. b && not t.imported) (le-ltb n t.begin l)

  ends-sooner : (a t : Trace A) → t.begin < 2 ^ 64 → t.imported ≡ false → end_or_last a.end < t.begin → precedes a t ≡ true
  ends-sooner a t fits i l = go a.end refl l
    where
      go : (o : Option ℕ) → a.end ≡ o → end_or_last o < t.begin → precedes a t ≡ true
      go None e l = absurd (omega (arith, l, fits))
      go (Some n) e l = ap (λ o. ended_before o t.begin && not t.imported) e ∙ ap (λ b. b && not t.imported) (lt-ltb n t.begin l) ∙ ap (λ b. not b) i

  imported-waits : (a t : Trace A) → t.imported ≡ true → precedes a t ≡ false
  imported-waits a t i = ap (λ b. ended_before a.end t.begin && not b) i ∙ and-false (ended_before a.end t.begin)
    where
      and-false : (b : Bool) → (b && false) ≡ false
      and-false true = refl
      and-false false = refl

  none-waits : (done : List Bool) (e : ℕ) (t : Trace A) → t.begin < 2 ^ 64 → t.imported ≡ false → IsLeastEnd ts done e → e < t.begin → waits done t ≡ true → ⊥
  none-waits done e t fits i least l w = go least.1
    where
      go : (e ≡ 2 ^ 64 - 1) ⊎ ((j : ℕ) × (slice_get done j ≡ Some false) × (e ≡ end_at (slice_get ts j))) → ⊥
      go (inl m) = omega (arith, l, fits, m)
      go (inr s) = at (slice_get ts s.0) refl s.2
        where
          at : (o : Option (Trace A)) → slice_get ts s.0 ≡ o → e ≡ end_at o → ⊥
          at None g m = omega (arith, l, fits, m)
          at (Some a) g m = true≢false (sym (ends-sooner a t fits i (subst (λ n. n < t.begin) m l)) ∙ free-at ts t ts done w s.0 a g s.1)

  is-false : (b : Bool) → (b ≡ true → ⊥) → b ≡ false
  is-false true h = absurd (h refl)
  is-false false h = refl

  pub waits-least : (done : List Bool) (e : ℕ) (t : Trace A) → t.begin < 2 ^ 64 → IsLeastEnd ts done e → (t.imported || not (nat_lt e t.begin)) ≡ waits done t
  waits-least done e t fits least = go t.imported refl (cases_lt e t.begin)
    where
      go : (b : Bool) → t.imported ≡ b → (e < t.begin) ⊎ (t.begin ≤ e) → (b || not (nat_lt e t.begin)) ≡ waits done t
      go true i o = sym (free-from ts t ts done (λ j a g l. imported-waits a t i))
      go false i (inl l) = ap not (lt-ltb e t.begin l) ∙ sym (is-false (waits done t) (none-waits done e t fits i least l))
      go false i (inr l) =
          ap not (le-ltb e t.begin l)
          ∙ sym (free-from ts t ts done (λ j a g d. ends-later a t (omega (arith, l, subst (λ o. e ≤ end_at o) g (least.0 j d)))))

  -- ---- the least end, found one by one

  -- of the first so many
  abbrev pub IsLeastOf : List Bool → ℕ → ℕ → Type 0
  IsLeastOf done n e =
      ((j : ℕ) → j < n → slice_get done j ≡ Some false → e ≤ end_at (slice_get ts j)) × ((e ≡ 2 ^ 64 - 1) ⊎ ((j : ℕ) × (slice_get done j ≡ Some false) × (e ≡ end_at (slice_get ts j))))

  within-get : {T : Type 0} (xs : List T) (i : ℕ) (x : T) → slice_get xs i ≡ Some x → i < length xs
  within-get [] i x e = cc
  within-get (y ∷ ys) zero x e = omega arith
  within-get (y ∷ ys) (suc i) x e = let h = within-get ys i x e in omega (arith, h)

  least-next : (done : List Bool) (n e m : ℕ) (o : Option Bool) → slice_get done n ≡ o → IsLeastOf done n e → m ≡ lesser_end o (end_at (slice_get ts n)) e → IsLeastOf done (n + 1) m
  least-next done n e m (Some false) d h q = (λ j l f. go j f (cases_eq j n) l, at (cases_lt (end_at (slice_get ts n)) e))
    where
      go : (j : ℕ) → slice_get done j ≡ Some false → (j ≡ n) ⊎ (j ≡ n → ⊥) → j < n + 1 → m ≤ end_at (slice_get ts j)
      go j f (inl p) l = subst (λ k. m ≤ end_at (slice_get ts k)) (sym p) (omega (arith, q))
      go j f (inr p) l = let k = h.0 j (omega (arith, p, l)) f in omega (arith, q, k)

      at : (end_at (slice_get ts n) < e) ⊎ (e ≤ end_at (slice_get ts n)) → (m ≡ 2 ^ 64 - 1) ⊎ ((j : ℕ) × (slice_get done j ≡ Some false) × (m ≡ end_at (slice_get ts j)))
      at (inl l) = inr (n, d, omega (arith, q, l))
      at (inr l) = let is : m ≡ e = omega (arith, q, l) in subst (λ k. (k ≡ 2 ^ 64 - 1) ⊎ ((j : ℕ) × (slice_get done j ≡ Some false) × (k ≡ end_at (slice_get ts j)))) (sym is) h.1
  least-next done n e m (Some true) d h q = (λ j l f. go j f (cases_eq j n) l, subst (λ k. (k ≡ 2 ^ 64 - 1) ⊎ ((j : ℕ) × (slice_get done j ≡ Some false) × (k ≡ end_at (slice_get ts j)))) (sym q) h.1)
    where
      go : (j : ℕ) → slice_get done j ≡ Some false → (j ≡ n) ⊎ (j ≡ n → ⊥) → j < n + 1 → m ≤ end_at (slice_get ts j)
      go j f (inl p) l = absurd (true≢false (same_Some true false (sym d ∙ ap (slice_get done) (sym p) ∙ f)))
      go j f (inr p) l = subst (λ k. k ≤ end_at (slice_get ts j)) (sym q) (h.0 j (omega (arith, p, l)) f)
  least-next done n e m None d h q = (λ j l f. go j f (cases_eq j n) l, subst (λ k. (k ≡ 2 ^ 64 - 1) ⊎ ((j : ℕ) × (slice_get done j ≡ Some false) × (k ≡ end_at (slice_get ts j)))) (sym q) h.1)
    where
      go : (j : ℕ) → slice_get done j ≡ Some false → (j ≡ n) ⊎ (j ≡ n → ⊥) → j < n + 1 → m ≤ end_at (slice_get ts j)
      go j f (inl p) l = absurd (none-some (sym d ∙ ap (slice_get done) (sym p) ∙ f))
        where
          none-some : {B : Type 0} {x : B} → None ≡ Some x → ⊥
          none-some r = cc
      go j f (inr p) l = subst (λ k. k ≤ end_at (slice_get ts j)) (sym q) (h.0 j (omega (arith, p, l)) f)

  pub least-more : (done : List Bool) (n e m : ℕ) → IsLeastOf done n e → m ≡ lesser_end (slice_get done n) (end_at (slice_get ts n)) e → IsLeastOf done (n + 1) m
  least-more done n e m h q = least-next done n e m (slice_get done n) refl h q

  pub least-all : (done : List Bool) (n e : ℕ) → length done ≤ n → IsLeastOf done n e → IsLeastEnd ts done e
  least-all done n e l h = (λ j f. let k = within-get done j false f in h.0 j (omega (arith, k, l)) f, h.1)

  -- before a place all are done
  pub least-first : (done : List Bool) (first : ℕ) → AreSet done first → IsLeastOf done first (2 ^ 64 - 1)
  least-first done first s = (λ j l f. absurd (true≢false (same_Some true false (sym (s j l) ∙ f))), inl refl)

  -- none ends sooner from a place on
  pub least-rest : (done : List Bool) (n e m : ℕ) → IsLeastOf done n e → IsLeastFrom ts n m → e ≤ m → IsLeastEnd ts done e
  least-rest done n e m h r l = (λ j f. go j f (cases_lt j n), h.1)
    where
      go : (j : ℕ) → slice_get done j ≡ Some false → (j < n) ⊎ (n ≤ j) → e ≤ end_at (slice_get ts j)
      go j f (inl k) = h.0 j k f
      go j f (inr k) = let q = r j k in omega (arith, l, q)

  -- ---- whether one comes

  comes-is : (done : List Bool) (e i : ℕ) (t : Trace A) (d : Bool) → slice_get ts i ≡ Some t → slice_get done i ≡ Some d → t.begin < 2 ^ 64 → IsLeastEnd ts done e → (not d && (t.imported || not (nat_lt e t.begin))) ≡ comes ts done i
  comes-is done e i t d g l fits least =
      ap (λ b. not d && b) (waits-least done e t fits least) ∙ sym (ap (λ o. comes_so ts done o (slice_get done i)) g ∙ ap (λ o. comes_so ts done (Some t) o) l)

  pub comes-imported : (done : List Bool) (i : ℕ) (t : Trace A) (d : Bool) → slice_get ts i ≡ Some t → slice_get done i ≡ Some d → d ≡ false → t.imported ≡ true → true ≡ comes ts done i
  comes-imported done i t d g l n m =
      sym (ap (λ b. not b && waits done t) n ∙ free-from ts t ts done (λ j a _ _. imported-waits a t m)) ∙ sym (ap (λ o. comes_so ts done o (slice_get done i)) g ∙ ap (λ o. comes_so ts done (Some t) o) l)

  pub comes-begun : (done : List Bool) (e i : ℕ) (t : Trace A) (d b : Bool) → slice_get ts i ≡ Some t → slice_get done i ≡ Some d → d ≡ false → t.imported ≡ false → t.begin < 2 ^ 64 → IsLeastEnd ts done e → b ≡ not (nat_lt e t.begin) → b ≡ comes ts done i
  comes-begun done e i t d b g l n m fits least is =
      is ∙ sym (ap (λ x. not x && (t.imported || not (nat_lt e t.begin))) n ∙ ap (λ x. x || not (nat_lt e t.begin)) m) ∙ comes-is done e i t d g l fits least

  pub comes-done : (done : List Bool) (i : ℕ) (t : Trace A) (d : Bool) → slice_get ts i ≡ Some t → slice_get done i ≡ Some d → d ≡ true → false ≡ comes ts done i
  comes-done done i t d g l n = sym (ap (λ b. not b && waits done t) n) ∙ sym (ap (λ o. comes_so ts done o (slice_get done i)) g ∙ ap (λ o. comes_so ts done (Some t) o) l)

  pub get-past : {T : Type 0} (xs : List T) (i : ℕ) → length xs ≤ i → slice_get xs i ≡ None
  get-past [] i l = refl
  get-past (x ∷ xs) zero l = absurd (omega (arith, l))
  get-past (x ∷ xs) (suc i) l = get-past xs i (omega (arith, l))

  pub comes-past-done : (done : List Bool) (i : ℕ) (t : Trace A) → slice_get ts i ≡ Some t → length done ≤ i → false ≡ comes ts done i
  comes-past-done done i t g l = sym (ap (λ o. comes_so ts done o (slice_get done i)) g ∙ ap (λ o. comes_so ts done (Some t) o) (get-past done i l))

  pub comes-past : (done : List Bool) (i : ℕ) → length ts ≤ i → false ≡ comes ts done i
  comes-past done i l = sym (ap (λ o. comes_so ts done o (slice_get done i)) (get-past ts i l))

  pub end-past : (i : ℕ) → length ts ≤ i → 2 ^ 64 - 1 ≡ end_at (slice_get ts i)
  end-past i l = sym (ap end_at (get-past ts i l))

  -- none from a place on, where there are no more
  pub none-more : (done : List Bool) (from place : ℕ) → length ts ≤ place → ((j : ℕ) → from ≤ j → j < place → comes ts done j ≡ false) → (j : ℕ) → from ≤ j → comes ts done j ≡ false
  none-more done from place l h j f = go (cases_lt j place)
    where
      go : (j < place) ⊎ (place ≤ j) → comes ts done j ≡ false
      go (inl k) = h j f k
      go (inr k) = sym (comes-past done j (omega (arith, l, k)))

  -- nor at the next one
  pub none-next : (done : List Bool) (from place : ℕ) → comes ts done place ≡ false → ((j : ℕ) → from ≤ j → j < place → comes ts done j ≡ false) → (j : ℕ) → from ≤ j → j < place + 1 → comes ts done j ≡ false
  none-next done from place n h j f l = go (cases_eq j place)
    where
      go : (j ≡ place) ⊎ (j ≡ place → ⊥) → comes ts done j ≡ false
      go (inl e) = ap (comes ts done) e ∙ n
      go (inr e) = h j f (omega (arith, e, l))

  -- ---- those that begin too late

  ends-first : (a t : Trace A) → end_or_last a.end < 2 ^ 64 - 1 → t.imported ≡ false → end_or_last a.end < t.begin → precedes a t ≡ true
  ends-first a t fits i l = go a.end refl fits l
    where
      go : (o : Option ℕ) → a.end ≡ o → end_or_last o < 2 ^ 64 - 1 → end_or_last o < t.begin → precedes a t ≡ true
      go None e fits l = absurd (omega (arith, fits))
      go (Some n) e fits l = ap (λ o. ended_before o t.begin && not t.imported) e ∙ ap (λ b. b && not t.imported) (lt-ltb n t.begin l) ∙ ap (λ b. not b) i

  late-waits : (done : List Bool) (e : ℕ) (t : Trace A) → t.imported ≡ false → IsLeastEnd ts done e → e < 2 ^ 64 - 1 → e < t.begin → waits done t ≡ true → ⊥
  late-waits done e t i least fits l w = go least.1
    where
      go : (e ≡ 2 ^ 64 - 1) ⊎ ((j : ℕ) × (slice_get done j ≡ Some false) × (e ≡ end_at (slice_get ts j))) → ⊥
      go (inl m) = omega (arith, fits, m)
      go (inr s) = at (slice_get ts s.0) refl s.2
        where
          at : (o : Option (Trace A)) → slice_get ts s.0 ≡ o → e ≡ end_at o → ⊥
          at None g m = omega (arith, fits, m)
          at (Some a) g m = true≢false (sym (ends-first a t (subst (λ n. n < 2 ^ 64 - 1) m fits) i (subst (λ n. n < t.begin) m l)) ∙ free-at ts t ts done w s.0 a g s.1)

  late-false : (done : List Bool) (e j : ℕ) → IsLeastEnd ts done e → e < 2 ^ 64 - 1 → e < begin_at (slice_get ts j) → comes ts done j ≡ false
  late-false done e j least fits l = go (slice_get ts j) (slice_get done j) l
    where
      waits-not : (t : Trace A) → t.imported ≡ false → e < t.begin → waits done t ≡ false
      waits-not t i l = is-false (waits done t) (late-waits done e t i least fits l)

      begun : (t : Trace A) (b : Bool) → t.imported ≡ b → e < begin_at (Some t) → waits done t ≡ false
      begun t true i l = let k : e < 0 = subst (λ b. e < (if b then 0 else t.begin)) i l in absurd (omega (arith, k))
      begun t false i l = waits-not t i (subst (λ b. e < (if b then 0 else t.begin)) i l)

      go : (o : Option (Trace A)) (d : Option Bool) → e < begin_at o → comes_so ts done o d ≡ false
      go None d l = refl
      go (Some t) None l = refl
      go (Some t) (Some b) l = and-not (not b) (waits done t) (begun t t.imported refl l)

  pub late-none : (done : List Bool) (e from until : ℕ) → IsLeastEnd ts done e → AreLate ts e from until → (j : ℕ) → from ≤ j → j < until → comes ts done j ≡ false
  late-none done e from until least late j f l = let h = late j f l in late-false done e j least h.0 h.1

  pub late-begin : (e from : ℕ) → AreLate ts e from from
  late-begin e from j f l = absurd (omega (arith, f, l))

  -- the next few begin too late as well
  pub late-more : (e from place next b : ℕ) → AreLate ts e from place → IsEarliest ts place b → b < 2 ^ 64 → e < b → next ≡ behind_few place → AreLate ts e from next
  late-more e from place next b h m fits l q j f k = go (cases_lt j place)
    where
      go : (j < place) ⊎ (place ≤ j) → (e < 2 ^ 64 - 1) × (e < begin_at (slice_get ts j))
      go (inl p) = h j f p
      go (inr p) = let r = m j p (subst (λ n. j < n) q k) in (omega (arith, fits, l), omega (arith, l, r))

  -- all from a place on begin too late
  pub late-rest : (e from place until b : ℕ) → AreLate ts e from place → IsEarliestOfRest ts place b → b < 2 ^ 64 → e < b → AreLate ts e from until
  late-rest e from place until b h m fits l j f k = go (cases_lt j place)
    where
      go : (j < place) ⊎ (place ≤ j) → (e < 2 ^ 64 - 1) × (e < begin_at (slice_get ts j))
      go (inl p) = h j f p
      go (inr p) = let r = m j p in (omega (arith, fits, l), omega (arith, l, r))

  -- none up to a place, that one neither, and those behind it begin too late
  pub none-late : (done : List Bool) (e from place next : ℕ) → IsLeastEnd ts done e → comes ts done place ≡ false → AreLate ts e (place + 1) next → ((j : ℕ) → from ≤ j → j < place → comes ts done j ≡ false) → (j : ℕ) → from ≤ j → j < next → comes ts done j ≡ false
  none-late done e from place next least n late h j f l = go (cases_lt j (place + 1))
    where
      go : (j < place + 1) ⊎ (place + 1 ≤ j) → comes ts done j ≡ false
      go (inl k) = none-next done from place n h j f k
      go (inr k) = late-none done e (place + 1) next least late j k l

  -- those that are done don't come
  pub comes-set : (done : List Bool) (first j : ℕ) → AreSet done first → j < first → comes ts done j ≡ false
  comes-set done first j s l = ap (comes_so ts done (slice_get ts j)) (s j l) ∙ go (slice_get ts j)
    where
      go : (o : Option (Trace A)) → comes_so ts done o (Some true) ≡ false
      go None = refl
      go (Some t) = refl

  -- ---- whether all are done

  pub settled-set : (done : List Bool) (first j : ℕ) → AreSet done first → j < first → settled (slice_get ts j) (slice_get done j) ≡ true
  settled-set done first j s l = ap (settled (slice_get ts j)) (s j l) ∙ go (slice_get ts j)
    where
      go : (o : Option (Trace A)) → settled o (Some true) ≡ true
      go None = refl
      go (Some t) = refl

  pub settled-past : (done : List Bool) (i : ℕ) → length ts ≤ i → true ≡ settled (slice_get ts i) (slice_get done i)
  settled-past done i l = sym (ap (λ o. settled o (slice_get done i)) (get-past ts i l))

  pub settled-past-done : (done : List Bool) (i : ℕ) → length done ≤ i → true ≡ settled (slice_get ts i) (slice_get done i)
  settled-past-done done i l = sym (ap (settled (slice_get ts i)) (get-past done i l) ∙ settled-none (slice_get ts i))

  pub next-settled : (done : List Bool) (n : ℕ) → ((j : ℕ) → j < n → settled (slice_get ts j) (slice_get done j) ≡ true) → settled (slice_get ts n) (slice_get done n) ≡ true → (j : ℕ) → j < n + 1 → settled (slice_get ts j) (slice_get done j) ≡ true
  next-settled done n h s j l = go (cases_eq j n)
    where
      go : (j ≡ n) ⊎ (j ≡ n → ⊥) → settled (slice_get ts j) (slice_get done j) ≡ true
      go (inl e) = ap (λ k. settled (slice_get ts k) (slice_get done k)) e ∙ s
      go (inr e) = h j (omega (arith, l, e))
