-- The least snapshot of some transactions, and what is kept of all of them, walked from the front.
use Rattle.std.proofs.Common.{◌≡◌, refl, sym, ap, subst, ◌∙◌, ℕ, zero, suc, ◌+◌, ◌-◌, ◌<◌, ◌≤◌, min, Bool, true, false, true≢false, cond, not, ◌&&◌, ◌||◌, List, [], ◌∷◌, ◌++◌, length, take, drop, get_or, nat_le, nat_lt, arith}
use Rattle.std.proofs.Math.Bool.{and-false}
use Rattle.std.proofs.lemmas.Bool.{lt-ltb, ltb-true, and_parts}
use Rattle.std.specs.List.{AllByRecursion, filter, list_any}
use Rattle.std.proofs.lemmas.Bool.Decides.{nat_tests}
use Rattle.std.proofs.lemmas.List.{get_or-drop, take-append-drop}
use Rattle.std.proofs.lemmas.List.Filters.{FiltersInPlace}
use Rattle.std.proofs.lemmas.List.Folds.{list_any-append}
use Rattle.history.specs.Transactions.{Txn, edge, is_done, is_owed}
use Rattle.history.specs.Needed.{is_late_reader, is_needed, is_recent}
use Rattle.transactions.specs.Forgetting.{is_left, is_needed_among, number_before}
use Rattle.transactions.specs.Ledger.{Ledger, AreNumbered, IsCounted, nothing}
use Rattle.transactions.specs.Versions.{least_snapshot}
use Rattle.transactions.proofs.LedgerLemmas.{number_at}
use Rattle.std.proofs.lemmas.List.Elements.{filter-append}
use Rattle.value.proofs.Basics.{first_and_rest}

-- what is sought passes the filter
any-filter : {X : Type 0} (q p : X → Bool) → ((x : X) → q x ≡ true → p x ≡ true) → (xs : List X) → list_any q (filter p xs) ≡ list_any q xs
any-filter q p so [] = refl
any-filter {X} q p so (x ∷ xs) = go (p x) refl (q x) refl (any-filter q p so xs)
  where
    go : (b : Bool) → p x ≡ b → (d : Bool) → q x ≡ d → list_any q (filter p xs) ≡ list_any q xs → list_any q (cond b (x ∷ filter p xs) (filter p xs)) ≡ (q x || list_any q xs)
    go true e d f rest = ap (λ r. q x || r) rest
    go false e true f rest = absurd (true≢false (sym (so x f) ∙ e))
    go false e false f rest = rest ∙ ap (λ r. r || list_any q xs) (sym f)

pub filter-shorter : {X : Type 0} (p : X → Bool) (xs : List X) → length (filter p xs) ≤ length xs
filter-shorter p [] = omega arith
filter-shorter {X} p (x ∷ xs) = go (p x) (filter-shorter p xs)
  where
    go : (b : Bool) → length (filter p xs) ≤ length xs → length (cond b (x ∷ filter p xs) (filter p xs)) ≤ length (x ∷ xs)
    go true h = omega arith
    go false h = omega arith

module _ {A : Type 0} where
  -- ---- the least snapshot

  least_at_most : (p : Txn A → Bool) (n : ℕ) (ts : List (Txn A)) → least_snapshot p n ts ≤ n
  least_at_most p n [] = omega arith
  least_at_most p n (t ∷ ts) = go (p t) (least_at_most p n ts)
    where
      go : (b : Bool) → least_snapshot p n ts ≤ n → cond b (min t.snapshot (least_snapshot p n ts)) (least_snapshot p n ts) ≤ n
      go true h = omega arith
      go false h = h

  pub least-start : (p : Txn A → Bool) (n : ℕ) (ts : List (Txn A)) → min n (least_snapshot p n ts) ≡ least_snapshot p n ts
  least-start p n ts = omega (arith, least_at_most p n ts)

  pub least-bound : (p : Txn A → Bool) (t : Txn A) (n least new : ℕ) → new ≡ cond (p t) (min t.snapshot least) least → least ≤ n → new ≤ n
  least-bound p t n least new = go (p t)
    where
      go : (b : Bool) → new ≡ cond b (min t.snapshot least) least → least ≤ n → new ≤ n
      go true e h = omega arith
      go false e h = omega arith

  least_first : (p : Txn A → Bool) (n : ℕ) (t : Txn A) (ts : List (Txn A)) (least new : ℕ) → new ≡ cond (p t) (min t.snapshot least) least → min new (least_snapshot p n ts) ≡ min least (least_snapshot p n (t ∷ ts))
  least_first p n t ts least new = go (p t) (least_snapshot p n ts)
    where
      go : (b : Bool) (rest : ℕ) → new ≡ cond b (min t.snapshot least) least → min new rest ≡ min least (cond b (min t.snapshot rest) rest)
      go true rest e = omega arith
      go false rest e = omega arith

  pub least-step : (p : Txn A → Bool) (n : ℕ) (ts : List (Txn A)) (t : Txn A) → 1 ≤ length ts → t ≡ get_or ts 0 t → (least new : ℕ) → new ≡ cond (p t) (min t.snapshot least) least
      → min new (least_snapshot p n (take (length ts - 1) (drop 1 ts))) ≡ min least (least_snapshot p n ts)
  least-step p n ts t long first least new e =
      least_first p n t (take (length ts - 1) (drop 1 ts)) least new e ∙ ap (λ us. min least (least_snapshot p n us)) (sym (first_and_rest ts t long first))

  -- none are left
  pub least-end : (p : Txn A → Bool) (n : ℕ) (ts : List (Txn A)) (least : ℕ) → length ts < 1 → least ≤ n → least ≡ min least (least_snapshot p n ts)
  least-end p n [] least none h = omega arith
  least-end p n (t ∷ ts) least none h = absurd (omega arith)

  -- ---- what matters

  -- v is recent, and has an edge to u
  abbrev meets : ℕ → Txn A → Txn A → Bool
  meets n u v = is_recent n v && edge v u

  -- what a recent one meets has a commit above the least snapshot of the recent ones
  met_above : (n most : ℕ) (u : Txn A) (ts : List (Txn A)) → list_any (meets n u) ts ≡ true → least_snapshot (is_recent n) most ts < u.commit
  met_above n most u [] e = absurd (true≢false (sym e))
  met_above n most u (v ∷ vs) e = go (meets n u v) refl e (met_above n most u vs)
    where
      rest : ℕ
      rest = least_snapshot (is_recent n) most vs

      below : (b : Bool) → rest < u.commit → cond b (min v.snapshot rest) rest < u.commit
      below true h = omega arith
      below false h = h

      here : is_recent n v ≡ true → v.snapshot < u.commit → cond (is_recent n v) (min v.snapshot rest) rest < u.commit
      here r h = subst (λ b. cond b (min v.snapshot rest) rest < u.commit) (sym r) (omega arith)

      go : (b : Bool) → meets n u v ≡ b → (b || list_any (meets n u) vs) ≡ true → (list_any (meets n u) vs ≡ true → rest < u.commit) → cond (is_recent n v) (min v.snapshot rest) rest < u.commit
      go true p q later =
          let m = and_parts (is_recent n v) (edge v u) p in
          let s = and_parts (not (Rattle.std.specs.Prelude.◌==◌ v.number u.number)) (nat_lt v.snapshot u.commit) (and_parts _ _ m.1).0 in
          here m.0 (ltb-true v.snapshot u.commit s.1)
      go false p q later = below (is_recent n v) (later q)

  met_by : (n most reach : ℕ) (u : Txn A) (ts : List (Txn A)) → reach ≤ least_snapshot (is_recent n) most ts → (nat_lt reach u.commit && list_any (meets n u) ts) ≡ list_any (meets n u) ts
  met_by n most reach u ts e = go (list_any (meets n u) ts) refl
    where
      go : (b : Bool) → list_any (meets n u) ts ≡ b → (nat_lt reach u.commit && b) ≡ b
      go false p = and-false (nat_lt reach u.commit)
      go true p = ap (λ x. x && true) (lt-ltb reach u.commit (let q = met_above n most u ts p in omega arith))

  recent_matters : (n : ℕ) (ts : List (Txn A)) (u v : Txn A) → meets n u v ≡ true → is_needed n ts v ≡ true
  recent_matters n ts u v e = go (is_owed v.standing) (is_recent n v) (and_parts (is_recent n v) (edge v u) e).0
    where
      rest : Bool
      rest = is_done v.standing && list_any (λ x. is_recent n x && edge x v) ts

      go : (a b : Bool) → b ≡ true → (((a || b) || is_late_reader n v) || rest) ≡ true
      go true b p = refl
      go false b p = ap (λ x. (x || is_late_reader n v) || rest) p

  -- Whether one matters is told by those that are kept so far and those that are left.
  pub needed-told : (p : Txn A → Bool) (n most reach : ℕ) (ts us : List (Txn A)) (k i : ℕ) (u : Txn A) → FiltersInPlace p ts us k i → ((v : Txn A) → is_needed n ts v ≡ true → p v ≡ true)
      → reach ≤ least_snapshot (is_recent n) most ts → is_needed_among n reach (take k us ++ drop i us) u ≡ is_needed n ts u
  needed-told p n most reach ts us k i u h so e =
      ap (λ b. ((is_owed u.standing || is_recent n u) || is_late_reader n u) || is_done u.standing && (nat_lt reach u.commit && b)) same
      ∙ ap (λ b. ((is_owed u.standing || is_recent n u) || is_late_reader n u) || is_done u.standing && b) (met_by n most reach u ts e)
    where
      same : list_any (meets n u) (take k us ++ drop i us) ≡ list_any (meets n u) ts
      same =
          ap (λ xs. list_any (meets n u) (xs ++ drop i us)) h.front ∙ ap (λ xs. list_any (meets n u) (filter p (take i ts) ++ xs)) h.rest
          ∙ list_any-append (meets n u) (filter p (take i ts)) (drop i ts)
          ∙ ap (λ b. b || list_any (meets n u) (drop i ts)) (any-filter (meets n u) p (λ v m. so v (recent_matters n ts u v m)) (take i ts))
          ∙ sym (list_any-append (meets n u) (take i ts) (drop i ts)) ∙ ap (list_any (meets n u)) (take-append-drop i ts)

  -- ---- those that are passed at the front

  pub left_so : (k n : ℕ) (ts : List (Txn A)) (u : Txn A) → is_needed n ts u ≡ true → is_left k n ts u ≡ true
  left_so k n ts u e = go (nat_le u.number (number_before k ts)) (is_needed n ts u) e
    where
      go : (a b : Bool) → b ≡ true → (a || b) ≡ true
      go true b e = refl
      go false b e = e

  -- the first k have numbers up to that of the last of them
  numbers_before : (n m k : ℕ) (ts : List (Txn A)) → AreNumbered n m ts → k ≤ length ts → AllByRecursion (λ u. u.number ≤ number_before k ts) (take k ts)
  numbers_before n m zero ts h le = tt
  numbers_before n m (suc k) [] h le = tt
  numbers_before n m (suc zero) (t ∷ ts) h le = (omega arith, tt)
  numbers_before n m (suc (suc k)) (t ∷ ts) h le =
      ((let p = number_at t.number m ts k nothing h.2 (omega arith) in omega arith), numbers_before t.number m (suc k) ts h.2 (omega arith))

  -- the others have numbers above it
  pub number_behind : (n m k i : ℕ) (ts : List (Txn A)) (u : Txn A) → AreNumbered n m ts → k ≤ i → i < length ts → u ≡ get_or ts i u → number_before k ts < u.number
  number_behind n m zero i ts u h le lt e = let p = number_at n m ts i u h lt in let q = ap (λ (x : Txn A). x.number) e in omega arith
  number_behind n m (suc k) i [] u h le lt e = absurd (omega arith)
  number_behind n m (suc k) zero (t ∷ ts) u h le lt e = absurd (omega arith)
  number_behind n m (suc zero) (suc i) (t ∷ ts) u h le lt e = let p = number_at t.number m ts i u h.2 (omega arith) in let q = ap (λ (x : Txn A). x.number) e in omega arith
  number_behind n m (suc (suc k)) (suc i) (t ∷ ts) u h le lt e = number_behind t.number m (suc k) i ts u h.2 (omega arith) (omega arith) e

  pub left_behind : (m k i n : ℕ) (ts : List (Txn A)) (u : Txn A) → AreNumbered 0 m ts → k ≤ i → i < length ts → u ≡ get_or ts i u → is_left k n ts u ≡ is_needed n ts u
  left_behind m k i n ts u h le lt e = ap (λ b. b || is_needed n ts u) (not_at_most u.number (number_before k ts) (number_behind 0 m k i ts u h le lt e))
    where
      not_at_most : (a b : ℕ) → b < a → nat_le a b ≡ false
      not_at_most a b p = grind (arith, nat_tests)

  -- the first k are all left
  pub left_before : (m k n : ℕ) (ts : List (Txn A)) → AreNumbered 0 m ts → k ≤ length ts → filter (is_left k n ts) (take k ts) ≡ take k ts
  left_before m k n ts h le = all (take k ts) (numbers_before 0 m k ts h le)
    where
      at_most : (a b : ℕ) → a ≤ b → nat_le a b ≡ true
      at_most a b p = grind (arith, nat_tests)

      all : (xs : List (Txn A)) → AllByRecursion (λ u. u.number ≤ number_before k ts) xs → filter (is_left k n ts) xs ≡ xs
      all [] a = refl
      all (x ∷ xs) a = ap (λ b. cond (b || is_needed n ts x) (x ∷ filter (is_left k n ts) xs) (filter (is_left k n ts) xs)) (at_most x.number (number_before k ts) a.0) ∙ ap (λ us. x ∷ us) (all xs a.1)

  pub filters-from : (m k n : ℕ) (ts : List (Txn A)) → AreNumbered 0 m ts → k ≤ length ts → FiltersInPlace (is_left k n ts) ts ts k k
  filters-from m k n ts h le = record { front = sym (left_before m k n ts h le); rest = refl; behind = omega arith; within = le; long = refl }

  -- what isn't looked at yet is as it was
  pub same_behind : (ts us : List (Txn A)) (i : ℕ) (u : Txn A) → drop i us ≡ drop i ts → get_or us i u ≡ get_or ts i u
  same_behind ts us i u e = sym (get_or-drop i us 0 u ∙ ap (λ k. get_or us k u) (omega arith)) ∙ ap (λ xs. get_or xs 0 u) e ∙ (get_or-drop i ts 0 u ∙ ap (λ k. get_or ts k u) (omega arith))

  -- the stretch before which all are left
  pub left_whole : (m k n : ℕ) (ts : List (Txn A)) → AreNumbered 0 m ts → k ≤ length ts → filter (is_left k n ts) ts ≡ take k ts ++ filter (is_left k n ts) (drop k ts)
  left_whole m k n ts h le = ap (filter (is_left k n ts)) (sym (take-append-drop k ts)) ∙ filter-append (is_left k n ts) (take k ts) (drop k ts) ∙ ap (λ us. us ++ filter (is_left k n ts) (drop k ts)) (left_before m k n ts h le)

  -- ---- what is counted after it

  numbered_from : (n k m : ℕ) (ts : List (Txn A)) → n ≤ k → AreNumbered k m ts → AreNumbered n m ts
  numbered_from n k m [] le h = tt
  numbered_from n k m (t ∷ ts) le h = ((let p = h.0 in omega arith), h.1, h.2)

  numbered-filter : (p : Txn A → Bool) (n m : ℕ) (ts : List (Txn A)) → AreNumbered n m ts → AreNumbered n m (filter p ts)
  numbered-filter p n m [] h = tt
  numbered-filter p n m (t ∷ ts) h = go (p t) (numbered-filter p t.number m ts h.2)
    where
      go : (b : Bool) → AreNumbered t.number m (filter p ts) → AreNumbered n m (cond b (t ∷ filter p ts) (filter p ts))
      go true rest = (h.0, h.1, rest)
      go false rest = numbered_from n t.number m (filter p ts) (let q = h.0 in omega arith) rest

  -- as many numbers are used up, and some transactions and identifiers are kept
  pub counted-thinned : (l m : Ledger A) (p : Txn A → Bool) → IsCounted l → m.txns ≡ filter p l.txns → m.base.transactions + length m.txns ≡ l.base.transactions + length l.txns → m.base.commits ≡ l.base.commits
      → m.base.identifiers + length m.exports ≡ l.base.identifiers + length l.exports → m.place ≡ l.place → IsCounted m
  counted-thinned l m p h txns transactions commits identifiers place = record {
    numbered = subst (λ k. AreNumbered 0 k m.txns) (sym transactions) (subst (AreNumbered 0 (l.base.transactions + length l.txns)) (sym txns) (numbered-filter p 0 (l.base.transactions + length l.txns) l.txns h.numbered));
    transactions = omega (arith, transactions, place, h.transactions);
    commits = omega (arith, commits, place, h.commits);
    identifiers = omega (arith, identifiers, place, h.identifiers);
    fits = omega (arith, place, h.fits);
  }
