-- Versions that some snapshot shows: what is left of a key's versions, and how many.
use Rattle.std.proofs.Common.{◌≡◌, refl, sym, ap, ◌∙◌, ℕ, suc, ◌+◌, ◌≤◌, ◌<◌, Bool, true, false, true≢false, cond, ◌&&◌, ◌||◌, ◌⊎◌, inl, inr, List, [], ◌∷◌, length, Some, arith}
use Rattle.std.specs.Prelude.{◌==◌, nat_le, nat_lt, slice_get, filter}
use Rattle.std.specs.List.{list_any}
use Rattle.std.specs.Option.{option_map, option_and_then}
use Rattle.std.proofs.lemmas.Bool.{eqb-true, le-leb, leb-true, leb-false, and_from, ltb-false, ltb-true, lt-ltb}
use Rattle.value.proofs.Basics.{any-weaker}
use Rattle.mvrows.specs.Versions.{Version, version_at, shown_fields, AreBelow}
use Rattle.mvrows.specs.Pruning.{are_some, pruned_versions, KeepsNewest}
use Rattle.mvrows.specs.Settling.{Needed, is_shown_to, shown_versions, read_versions, settled_versions}
use Rattle.mvrows.proofs.PruningLemmas.{shown-pruned_versions, one_left, pruned_versions-below, newest-pruned_versions}

-- a snapshot from a number on, and below another, is one of these
shown-to : (ss : List ℕ) (number n next : ℕ) → list_any (λ s. s == n) ss ≡ true → number ≤ n → n < next → is_shown_to ss number next ≡ true
shown-to ss number n next is from below = any-weaker (λ s. s == n) (λ s. nat_le number s && nat_lt s next) one ss is
  where
    one : (s : ℕ) → (s == n) ≡ true → (nat_le number s && nat_lt s next) ≡ true
    one s e = let same : s ≡ n = eqb-true s n e in and_from (nat_le number s) (nat_lt s next) (le-leb number s (omega (arith, same, from))) (lt-ltb s next (omega (arith, same, below)))

-- ---- how many snapshots are below a number

below : ℕ → List ℕ → ℕ
below n ss = length (filter (λ s. nat_lt s n) ss)

below-bound : (n : ℕ) (ss : List ℕ) → below n ss ≤ length ss
unfolding below
below-bound n [] = omega arith
below-bound n (s ∷ ss) = go (nat_lt s n) (below-bound n ss)
  where
    go : (b : Bool) → length (filter (λ x. nat_lt x n) ss) ≤ length ss → length (cond b (s ∷ filter (λ x. nat_lt x n) ss) (filter (λ x. nat_lt x n) ss)) ≤ suc (length ss)
    go true h = omega arith
    go false h = omega arith

below-rises : (m n : ℕ) (ss : List ℕ) → m ≤ n → below m ss ≤ below n ss
unfolding below
below-rises m n [] le = omega arith
below-rises m n (s ∷ ss) le = go (nat_lt s m) (nat_lt s n) refl refl (below-rises m n ss le)
  where
    xs : List ℕ
    xs = filter (λ x. nat_lt x m) ss

    ys : List ℕ
    ys = filter (λ x. nat_lt x n) ss

    go : (a b : Bool) → nat_lt s m ≡ a → nat_lt s n ≡ b → length (filter (λ x. nat_lt x m) ss) ≤ length (filter (λ x. nat_lt x n) ss)
        → length (cond a (s ∷ filter (λ x. nat_lt x m) ss) (filter (λ x. nat_lt x m) ss)) ≤ length (cond b (s ∷ filter (λ x. nat_lt x n) ss) (filter (λ x. nat_lt x n) ss))
    go true true p q h = omega arith
    go true false p q h = absurd (let k = ltb-true s m p in let l = ltb-false s n q in omega arith)
    go false true p q h = omega arith
    go false false p q h = h

-- one of them is from m on
below-more : (m n : ℕ) (ss : List ℕ) → is_shown_to ss m n ≡ true → below m ss < below n ss
unfolding below
below-more m n [] e = absurd (true≢false (sym e))
below-more m n (s ∷ ss) e = go (nat_le m s) (nat_lt s m) (nat_lt s n) refl refl refl e (below-more m n ss)
  where
    front : ℕ
    front = length (filter (λ x. nat_lt x m) ss)

    whole : ℕ
    whole = length (filter (λ x. nat_lt x n) ss)

    go : (d a b : Bool) → nat_le m s ≡ d → nat_lt s m ≡ a → nat_lt s n ≡ b → ((d && b) || is_shown_to ss m n) ≡ true → (is_shown_to ss m n ≡ true → length (filter (λ x. nat_lt x m) ss) < length (filter (λ x. nat_lt x n) ss))
        → length (cond a (s ∷ filter (λ x. nat_lt x m) ss) (filter (λ x. nat_lt x m) ss)) < length (cond b (s ∷ filter (λ x. nat_lt x n) ss) (filter (λ x. nat_lt x n) ss))
    go true true b p q r f rest = absurd (let k = leb-true m s p in let l = ltb-true s m q in omega arith)
    go true false true p q r f rest = let h = below-rises m n ss (let k = leb-true m s p in let l = ltb-true s n r in omega arith) in omega arith
    go true false false p q r f rest = rest f
    go false true true p q r f rest = let h = rest f in omega arith
    go false true false p q r f rest = absurd (let k = ltb-true s m q in let l = ltb-false s n r in let h = rest f in no-room k l h)
      where
        no-room : s < m → n ≤ s → length (filter (λ x. nat_lt x m) ss) < length (filter (λ x. nat_lt x n) ss) → ⊥
        no-room k l h = let g : length (filter (λ x. nat_lt x n) ss) ≤ length (filter (λ x. nat_lt x m) ss) = below-rises n m ss (omega arith) in omega arith
    go false false true p q r f rest = let h = rest f in omega arith
    go false false false p q r f rest = rest f

module _ {A : Type 0} where
  -- n is one of these snapshots, or no version is above it
  abbrev pub IsReadOf : List ℕ → ℕ → List (Version A) → Type 0
  IsReadOf ss n vs = (list_any (λ s. s == n) ss ≡ true) ⊎ AreBelow (n + 1) vs

  -- ---- what is shown

  find-shown : (ss : List ℕ) (n next : ℕ) (vs : List (Version A)) → list_any (λ s. s == n) ss ≡ true → n < next → version_at n (shown_versions ss next vs) ≡ version_at n vs
  find-shown ss n next [] is lt = refl
  find-shown ss n next (v ∷ vs) is lt = by_tests (nat_le v.number n) (is_shown_to ss v.number next) refl refl (λ k. find-shown ss n k vs is)
    where
      by_tests : (b d : Bool) → nat_le v.number n ≡ b → is_shown_to ss v.number next ≡ d → ((k : ℕ) → n < k → version_at n (shown_versions ss k vs) ≡ version_at n vs)
          → version_at n (cond d (v ∷ shown_versions ss v.number vs) (shown_versions ss next vs)) ≡ cond b (Some v) (version_at n vs)
      by_tests true true e f rest = rw e refl
      by_tests true false e f rest = absurd (true≢false (sym (shown-to ss v.number n next is (leb-true v.number n e) lt) ∙ f))
      by_tests false true e f rest = rw e (rest v.number (leb-false v.number n e))
      by_tests false false e f rest = rest next lt

  shown-read : (ss : List ℕ) (n : ℕ) (vs : List (Version A)) → IsReadOf ss n vs → shown_fields n (read_versions ss vs) ≡ shown_fields n vs
  shown-read ss n [] read = refl
  shown-read ss n (v ∷ vs) read = by_test (nat_le v.number n) refl read
    where
      by_test : (b : Bool) → nat_le v.number n ≡ b → IsReadOf ss n (v ∷ vs)
          → option_and_then (λ w. w.fields) (cond b (Some v) (version_at n (shown_versions ss v.number vs))) ≡ option_and_then (λ w. w.fields) (cond b (Some v) (version_at n vs))
      by_test true e r = refl
      by_test false e (inl is) = ap (option_and_then (λ w. w.fields)) (find-shown ss n v.number vs is (leb-false v.number n e))
      by_test false e (inr low) = absurd (let k = leb-false v.number n e in let l = low.0 in omega arith)

  read-pruned : (ss : List ℕ) (oldest n : ℕ) (vs : List (Version A)) → IsReadOf ss n vs → IsReadOf ss n (pruned_versions oldest vs)
  read-pruned ss oldest n vs (inl is) = inl is
  read-pruned ss oldest n vs (inr low) = inr (pruned_versions-below (n + 1) oldest vs low)

  pub shown-settled_versions : (needed : Needed) (n : ℕ) (vs : List (Version A)) → needed.oldest ≤ n → IsReadOf needed.snapshots n vs → shown_fields n (settled_versions needed vs) ≡ shown_fields n vs
  shown-settled_versions needed n vs le read =
      shown-read needed.snapshots n (pruned_versions needed.oldest vs) (read-pruned needed.snapshots needed.oldest n vs read) ∙ shown-pruned_versions needed.oldest n vs le

  -- ---- the newest stays

  pub read-first : (ss : List ℕ) (vs : List (Version A)) → slice_get (read_versions ss vs) 0 ≡ slice_get vs 0
  read-first ss [] = refl
  read-first ss (v ∷ vs) = refl

  pub read-some : (ss : List ℕ) (vs : List (Version A)) → are_some (read_versions ss vs) ≡ are_some vs
  read-some ss [] = refl
  read-some ss (v ∷ vs) = refl

  pub newest-settled_versions : (needed : Needed) (vs : List (Version A)) → KeepsNewest needed.oldest (option_map (λ v. v.number) (slice_get vs 0)) (option_map (λ v. v.number) (slice_get (settled_versions needed vs) 0))
  newest-settled_versions needed vs = rw (read-first needed.snapshots (pruned_versions needed.oldest vs)) (newest-pruned_versions needed.oldest vs)

  -- ---- what is left

  shown-below : (m : ℕ) (ss : List ℕ) (next : ℕ) (vs : List (Version A)) → AreBelow m vs → AreBelow m (shown_versions ss next vs)
  shown-below m ss next [] low = tt
  shown-below m ss next (v ∷ vs) low = by_test (is_shown_to ss v.number next) (λ k. shown-below m ss k vs low.1)
    where
      by_test : (d : Bool) → ((k : ℕ) → AreBelow m (shown_versions ss k vs)) → AreBelow m (cond d (v ∷ shown_versions ss v.number vs) (shown_versions ss next vs))
      by_test true rest = (low.0, rest v.number)
      by_test false rest = rest next

  read-below : (m : ℕ) (ss : List ℕ) (vs : List (Version A)) → AreBelow m vs → AreBelow m (read_versions ss vs)
  read-below m ss [] low = tt
  read-below m ss (v ∷ vs) low = (low.0, shown-below m ss v.number vs low.1)

  pub settled_versions-below : (next : ℕ) (needed : Needed) (vs : List (Version A)) → AreBelow next vs → AreBelow next (settled_versions needed vs)
  settled_versions-below next needed vs low = read-below next needed.snapshots (pruned_versions needed.oldest vs) (pruned_versions-below next needed.oldest vs low)

  shown-no_more : (p : Version A → Bool) (ss : List ℕ) (next : ℕ) (vs : List (Version A)) → length (filter p (shown_versions ss next vs)) ≤ length (filter p vs)
  shown-no_more p ss next [] = omega arith
  shown-no_more p ss next (v ∷ vs) = by_tests (is_shown_to ss v.number next) (p v) refl (λ k. shown-no_more p ss k vs)
    where
      by_tests : (d b : Bool) → p v ≡ b → ((k : ℕ) → length (filter p (shown_versions ss k vs)) ≤ length (filter p vs))
          → length (filter p (cond d (v ∷ shown_versions ss v.number vs) (shown_versions ss next vs))) ≤ length (cond b (v ∷ filter p vs) (filter p vs))
      by_tests true true e rest = rw e (let h = rest v.number in omega arith)
      by_tests true false e rest = rw e (rest v.number)
      by_tests false true e rest = let h = rest next in omega arith
      by_tests false false e rest = rest next

  read-no_more : (p : Version A → Bool) (ss : List ℕ) (vs : List (Version A)) → length (filter p (read_versions ss vs)) ≤ length (filter p vs)
  read-no_more p ss [] = omega arith
  read-no_more p ss (v ∷ vs) = by_test (p v) (shown-no_more p ss v.number vs)
    where
      by_test : (b : Bool) → length (filter p (shown_versions ss v.number vs)) ≤ length (filter p vs) → length (cond b (v ∷ filter p (shown_versions ss v.number vs)) (filter p (shown_versions ss v.number vs))) ≤ length (cond b (v ∷ filter p vs) (filter p vs))
      by_test true h = omega arith
      by_test false h = h

  pub settled-one_left : (needed : Needed) (vs : List (Version A)) → length (filter (λ v. nat_le v.number needed.oldest) (settled_versions needed vs)) ≤ 1
  settled-one_left needed vs =
      let a = read-no_more (λ v. nat_le v.number needed.oldest) needed.snapshots (pruned_versions needed.oldest vs) in
      let b = one_left needed.oldest vs in omega (arith, a, b)

  -- ---- and how many versions

  shown-few : (ss : List ℕ) (next : ℕ) (vs : List (Version A)) → length (shown_versions ss next vs) ≤ below next ss
  shown-few ss next [] = omega arith
  shown-few ss next (v ∷ vs) = by_test (is_shown_to ss v.number next) refl (λ k. shown-few ss k vs)
    where
      by_test : (d : Bool) → is_shown_to ss v.number next ≡ d → ((k : ℕ) → length (shown_versions ss k vs) ≤ below k ss) → length (cond d (v ∷ shown_versions ss v.number vs) (shown_versions ss next vs)) ≤ below next ss
      by_test true e rest = let h = rest v.number in let l = below-more v.number next ss e in omega arith
      by_test false e rest = rest next

  pub settled-few : (needed : Needed) (vs : List (Version A)) → length (settled_versions needed vs) ≤ length needed.snapshots + 1
  settled-few needed vs = go (pruned_versions needed.oldest vs)
    where
      go : (ws : List (Version A)) → length (read_versions needed.snapshots ws) ≤ length needed.snapshots + 1
      go [] = omega arith
      go (w ∷ ws) = let h = shown-few needed.snapshots w.number ws in let l = below-bound w.number needed.snapshots in omega arith
