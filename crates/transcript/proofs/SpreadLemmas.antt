-- All sessions, of which those that were asked something are kept by their places.
use Rattle.std.proofs.Common.{◌≡◌, ℕ, zero, suc, ◌+◌, ◌-◌, ◌<◌, ◌≤◌, Bool, true, false, cond, List, [], ◌∷◌, ◌++◌, append-nil, replicate, set, Option, Some, None, refl, sym, ap, ◌∙◌, arith}
use Rattle.std.specs.Prelude.{slice_get, unwrap_or}
use Rattle.std.specs.BTreeMap.{insert_entry, is_at}
use Rattle.std.specs.Cmp.{ranked, ranks}
use Rattle.std.specs.List.{AllByRecursion, cons_option, filter_map}
use Rattle.std.specs.List.Sorted.{IsStrictlySortedBy}
use Rattle.std.specs.Map.{keys_of, lookup, remove_entry}
use Rattle.std.specs.Ordering.{MatchOrdering, is_eq, match_ordering, nat_cmp}
use Rattle.std.specs.declared.cmp.Ordering.{Ordering}
use Rattle.std.specs.declared.cmp.Ordering.TheVariants.{Less, Equal, Greater}
use Rattle.transcript.specs.Reading.{unanswered}
use Rattle.transcript.specs.Sessions.{idle, most_sessions, spread}
use Rattle.transcript.specs.declared.session.Session.{Session}

-- ---- one value many times, and what follows

module _ {X : Type 0} (a : X) where
  get_many : (k i : ℕ) → i < k → slice_get (replicate k a) i ≡ Some a
  get_many zero i l = absurd (omega (arith, l))
  get_many (suc k) zero l = refl
  get_many (suc k) (suc i) l = get_many k i (omega (arith, l))

  get_before : (k i : ℕ) (zs : List X) → i < k → slice_get (replicate k a ++ zs) i ≡ Some a
  get_before zero i zs l = absurd (omega (arith, l))
  get_before (suc k) zero zs l = refl
  get_before (suc k) (suc i) zs l = get_before k i zs (omega (arith, l))

  get_at : (k : ℕ) (y : X) (zs : List X) → slice_get (replicate k a ++ y ∷ zs) k ≡ Some y
  get_at zero y zs = refl
  get_at (suc k) y zs = get_at k y zs

  get_behind : (k i j : ℕ) (y : X) (zs : List X) → i ≡ suc (k + j) → slice_get (replicate k a ++ y ∷ zs) i ≡ slice_get zs j
  get_behind k zero j y zs e = absurd (omega (arith, e))
  get_behind zero (suc i) j y zs e = let same : i ≡ j = omega (arith, e) in ap (slice_get zs) same
  get_behind (suc k) (suc i) j y zs e = get_behind k i j y zs (omega (arith, e))

  set_at : (k : ℕ) (y z : X) (zs : List X) → set (replicate k a ++ y ∷ zs) k z ≡ replicate k a ++ z ∷ zs
  set_at zero y z zs = refl
  set_at (suc k) y z zs = ap (λ xs. a ∷ xs) (set_at k y z zs)

  set_behind : (k i j : ℕ) (y z : X) (zs : List X) → i ≡ suc (k + j) → set (replicate k a ++ y ∷ zs) i z ≡ replicate k a ++ y ∷ set zs j z
  set_behind k zero j y z zs e = absurd (omega (arith, e))
  set_behind zero (suc i) j y z zs e = let same : i ≡ j = omega (arith, e) in ap (λ n. y ∷ set zs n z) same
  set_behind (suc k) (suc i) j y z zs e = ap (λ xs. a ∷ xs) (set_behind k i j y z zs (omega (arith, e)))

  set_before : (k i m : ℕ) (z : X) (zs : List X) → k ≡ suc (i + m) → set (replicate k a ++ zs) i z ≡ replicate i a ++ z ∷ (replicate m a ++ zs)
  set_before zero i m z zs e = absurd (omega (arith, e))
  set_before (suc k) zero m z zs e = let same : k ≡ m = omega (arith, e) in ap (λ n. z ∷ (replicate n a ++ zs)) same
  set_before (suc k) (suc i) m z zs e = ap (λ xs. a ∷ xs) (set_before k i m z zs (omega (arith, e)))

  set_many : (k i m : ℕ) (z : X) → k ≡ suc (i + m) → set (replicate k a) i z ≡ replicate i a ++ z ∷ replicate m a
  set_many zero i m z e = absurd (omega (arith, e))
  set_many (suc k) zero m z e = let same : k ≡ m = omega (arith, e) in ap (λ n. z ∷ replicate n a) same
  set_many (suc k) (suc i) m z e = ap (λ xs. a ∷ xs) (set_many k i m z (omega (arith, e)))

  joined : (k i m : ℕ) (zs : List X) → k ≡ suc (i + m) → replicate k a ++ zs ≡ replicate i a ++ a ∷ (replicate m a ++ zs)
  joined zero i m zs e = absurd (omega (arith, e))
  joined (suc k) zero m zs e = let same : k ≡ m = omega (arith, e) in ap (λ n. a ∷ (replicate n a ++ zs)) same
  joined (suc k) (suc i) m zs e = ap (λ xs. a ∷ xs) (joined k i m zs (omega (arith, e)))

  all_joined : (k i m : ℕ) → k ≡ suc (i + m) → replicate k a ≡ replicate i a ++ a ∷ replicate m a
  all_joined zero i m e = absurd (omega (arith, e))
  all_joined (suc k) zero m e = let same : k ≡ m = omega (arith, e) in ap (λ n. a ∷ replicate n a) same
  all_joined (suc k) (suc i) m e = ap (λ xs. a ∷ xs) (all_joined k i m (omega (arith, e)))

  passed : {Y : Type 0} (f : X → Option Y) → f a ≡ None → (k : ℕ) (zs : List X) → filter_map f (replicate k a ++ zs) ≡ filter_map f zs
  passed f none zero zs = refl
  passed f none (suc k) zs = ap (λ o. cons_option o (filter_map f (replicate k a ++ zs))) none ∙ passed f none k zs

  all_passed : {Y : Type 0} (f : X → Option Y) → f a ≡ None → (k : ℕ) → filter_map f (replicate k a) ≡ []
  all_passed f none zero = refl
  all_passed f none (suc k) = ap (λ o. cons_option o (filter_map f (replicate k a))) none ∙ all_passed f none k

pub set_once : {X : Type 0} (xs : List X) (i : ℕ) (x y : X) → set (set xs i x) i y ≡ set xs i y
set_once [] i x y = refl
set_once (z ∷ xs) zero x y = refl
set_once (z ∷ xs) (suc i) x y = ap (λ l. z ∷ l) (set_once xs i x y)

set_same : {X : Type 0} (xs : List X) (i : ℕ) (x : X) → slice_get xs i ≡ Some x → set xs i x ≡ xs
set_same [] i x e = refl
set_same (z ∷ xs) zero x e = let p : z ≡ x = cc in ap (λ y. y ∷ xs) (sym p)
set_same (z ∷ xs) (suc i) x e = ap (λ l. z ∷ l) (set_same xs i x e)

-- ---- sessions by rising places

each_above : (k : ℕ) (ks : List ℕ) → AllByRecursion (λ q. nat_cmp k q ≡ Less) ks → AllByRecursion (λ q. suc k ≤ q) ks
each_above k [] h = tt
each_above k (q ∷ ks) h = let l : k < q = ranked k q Less (sym h.0) in (omega (arith, l), each_above k ks h.1)

each_from_zero : (ks : List ℕ) → AllByRecursion (λ q. 0 ≤ q) ks
each_from_zero [] = tt
each_from_zero (q ∷ ks) = (omega arith, each_from_zero ks)

module _ {A : Type 0} where
  -- the places rise, from this one on
  abbrev pub IsFrom : ℕ → List (ℕ × Session A) → Type 0
  IsFrom from [] = Unit {0}
  IsFrom from (s ∷ ss) = (from ≤ s.0) × IsFrom (suc s.0) ss

  from_sorted : (from : ℕ) (ss : List (ℕ × Session A)) → AllByRecursion (λ q. from ≤ q) (keys_of ss) → IsStrictlySortedBy nat_cmp (keys_of ss) → IsFrom from ss
  unfolding IsStrictlySortedBy
  from_sorted from [] h s = tt
  from_sorted from (e ∷ ss) h s = (h.0, from_sorted (suc e.0) ss (each_above e.0 (keys_of ss) s.0) s.1)

  pub rising : (ss : List (ℕ × Session A)) → IsStrictlySortedBy nat_cmp (keys_of ss) → IsFrom 0 ss
  rising ss s = from_sorted 0 ss (each_from_zero (keys_of ss)) s

  -- none has a place before all
  absent : (from k : ℕ) (ss : List (ℕ × Session A)) → IsFrom from ss → k < from → lookup (is_at (nat_cmp k)) ss ≡ None
  absent from k [] h l = refl
  absent from k (e ∷ ss) h l = go (λ m. absent (suc e.0) k ss h.1 m) (nat_cmp k e.0) refl (ranks k e.0)
    where
      go : (k < suc e.0 → lookup (is_at (nat_cmp k)) ss ≡ None) → (o : Ordering) → nat_cmp k e.0 ≡ o → MatchOrdering o (k < e.0) (k ≡ e.0) (e.0 < k) → lookup (is_at (nat_cmp k)) (e ∷ ss) ≡ None
      go rest Less f r = ap (λ o. cond (is_eq o) (Some e.1) (lookup (is_at (nat_cmp k)) ss)) f ∙ rest (omega (arith, r))
      go rest Equal f r = let low : from ≤ e.0 = h.0 in absurd (omega (arith, r, l, low))
      go rest Greater f r = let low : from ≤ e.0 = h.0 in absurd (omega (arith, r, l, low))

  -- the session at a place
  there : (from k : ℕ) (ss : List (ℕ × Session A)) → IsFrom from ss → from ≤ k → k < most_sessions → slice_get (spread from ss) (k - from) ≡ Some (unwrap_or (lookup (is_at (nat_cmp k)) ss) idle)
  there from k [] h l most = get_many idle (most_sessions - from) (k - from) (omega (arith, l, most))
  there from k (e ∷ ss) h l most = go (λ m. there (suc e.0) k ss h.1 m most) (nat_cmp k e.0) refl (ranks k e.0)
    where
      low : from ≤ e.0
      low = h.0

      go : (suc e.0 ≤ k → slice_get (spread (suc e.0) ss) (k - suc e.0) ≡ Some (unwrap_or (lookup (is_at (nat_cmp k)) ss) idle)) → (o : Ordering) → nat_cmp k e.0 ≡ o → MatchOrdering o (k < e.0) (k ≡ e.0) (e.0 < k) → slice_get (spread from (e ∷ ss)) (k - from) ≡ Some (unwrap_or (lookup (is_at (nat_cmp k)) (e ∷ ss)) idle)
      go rest Less f r =
          get_before idle (e.0 - from) (k - from) (e.1 ∷ spread (suc e.0) ss) (omega (arith, l, r))
          ∙ ap (λ o. Some (unwrap_or o idle)) (sym (ap (λ o. cond (is_eq o) (Some e.1) (lookup (is_at (nat_cmp k)) ss)) f ∙ absent (suc e.0) k ss h.1 (omega (arith, r))))
      go rest Equal f r =
          let same : k - from ≡ e.0 - from = omega (arith, r) in
          ap (slice_get (spread from (e ∷ ss))) same ∙ get_at idle (e.0 - from) e.1 (spread (suc e.0) ss)
          ∙ ap (λ o. Some (unwrap_or o idle)) (sym (ap (λ o. cond (is_eq o) (Some e.1) (lookup (is_at (nat_cmp k)) ss)) f))
      go rest Greater f r =
          get_behind idle (e.0 - from) (k - from) (k - suc e.0) e.1 (spread (suc e.0) ss) (omega (arith, low, r))
          ∙ rest (omega (arith, r))
          ∙ ap (λ o. Some (unwrap_or o idle)) (sym (ap (λ o. cond (is_eq o) (Some e.1) (lookup (is_at (nat_cmp k)) ss)) f))

  -- an idle one before others
  widened : (from n : ℕ) (ss : List (ℕ × Session A)) → IsFrom (suc n) ss → from ≤ n → n < most_sessions → spread from ss ≡ replicate (n - from) idle ++ idle ∷ spread (suc n) ss
  widened from n [] h l most = all_joined idle (most_sessions - from) (n - from) (most_sessions - suc n) (omega (arith, l, most))
  widened from n (e ∷ ss) h l most =
      let low : suc n ≤ e.0 = h.0 in
      joined idle (e.0 - from) (n - from) (e.0 - suc n) (e.1 ∷ spread (suc e.0) ss) (omega (arith, l, low))

  -- the session at a place is taken out
  removed : (from k : ℕ) (ss : List (ℕ × Session A)) (x : Session A) → IsFrom from ss → from ≤ k → k < most_sessions → lookup (is_at (nat_cmp k)) ss ≡ Some x
      → spread from (remove_entry (is_at (nat_cmp k)) ss) ≡ set (spread from ss) (k - from) idle
  removed from k [] x h l most e = absurd cc
  removed from k (e ∷ ss) x h l most found = go (λ m f. removed (suc e.0) k ss x h.1 m most f) (nat_cmp k e.0) refl (ranks k e.0)
    where
      low : from ≤ e.0
      low = h.0

      go : (suc e.0 ≤ k → lookup (is_at (nat_cmp k)) ss ≡ Some x → spread (suc e.0) (remove_entry (is_at (nat_cmp k)) ss) ≡ set (spread (suc e.0) ss) (k - suc e.0) idle) → (o : Ordering) → nat_cmp k e.0 ≡ o → MatchOrdering o (k < e.0) (k ≡ e.0) (e.0 < k) → spread from (remove_entry (is_at (nat_cmp k)) (e ∷ ss)) ≡ set (spread from (e ∷ ss)) (k - from) idle
      go rest Less f r =
          let none : lookup (is_at (nat_cmp k)) (e ∷ ss) ≡ None = ap (λ o. cond (is_eq o) (Some e.1) (lookup (is_at (nat_cmp k)) ss)) f ∙ absent (suc e.0) k ss h.1 (omega (arith, r)) in
          let never : None ≡ Some x = sym none ∙ found in
          absurd cc
      go rest Equal f r =
          let same : e.0 - from ≡ k - from = omega (arith, r) in
          let within : e.0 < most_sessions = omega (arith, r, most) in
          ap (λ o. spread from (cond (is_eq o) ss (e ∷ remove_entry (is_at (nat_cmp k)) ss))) f
          ∙ widened from e.0 ss h.1 low within
          ∙ sym (set_at idle (e.0 - from) e.1 idle (spread (suc e.0) ss))
          ∙ ap (λ i. set (spread from (e ∷ ss)) i idle) same
      go rest Greater f r =
          let behind : lookup (is_at (nat_cmp k)) ss ≡ Some x = sym (ap (λ o. cond (is_eq o) (Some e.1) (lookup (is_at (nat_cmp k)) ss)) f) ∙ found in
          ap (λ o. spread from (cond (is_eq o) ss (e ∷ remove_entry (is_at (nat_cmp k)) ss))) f
          ∙ ap (λ xs. replicate (e.0 - from) idle ++ e.1 ∷ xs) (rest (omega (arith, r)) behind)
          ∙ sym (set_behind idle (e.0 - from) (k - from) (k - suc e.0) e.1 idle (spread (suc e.0) ss) (omega (arith, low, r)))

  -- the sessions with one more, by how its place compares to the first one's
  abbrev either : ℕ → Session A → ℕ × Session A → List (ℕ × Session A) → Ordering → List (ℕ × Session A)
  either k x e ss o = match_ordering o ((k, x) ∷ e ∷ ss) ((e.0, x) ∷ ss) (e ∷ insert_entry nat_cmp ss k x)

  -- a session is put at a place
  inserted : (from k : ℕ) (ss : List (ℕ × Session A)) (x : Session A) → IsFrom from ss → from ≤ k → k < most_sessions → spread from (insert_entry nat_cmp ss k x) ≡ set (spread from ss) (k - from) x
  inserted from k [] x h l most = sym (set_many idle (most_sessions - from) (k - from) (most_sessions - suc k) x (omega (arith, l, most)))
  inserted from k (e ∷ ss) x h l most = go (λ m. inserted (suc e.0) k ss x h.1 m most) (nat_cmp k e.0) refl (ranks k e.0)
    where
      low : from ≤ e.0
      low = h.0

      go : (suc e.0 ≤ k → spread (suc e.0) (insert_entry nat_cmp ss k x) ≡ set (spread (suc e.0) ss) (k - suc e.0) x) → (o : Ordering) → nat_cmp k e.0 ≡ o → MatchOrdering o (k < e.0) (k ≡ e.0) (e.0 < k) → spread from (either k x e ss (nat_cmp k e.0)) ≡ set (spread from (e ∷ ss)) (k - from) x
      go rest Less f r =
          ap (λ o. spread from (either k x e ss o)) f
          ∙ sym (set_before idle (e.0 - from) (k - from) (e.0 - suc k) x (e.1 ∷ spread (suc e.0) ss) (omega (arith, l, r)))
      go rest Equal f r =
          let same : e.0 - from ≡ k - from = omega (arith, r) in
          ap (λ o. spread from (either k x e ss o)) f
          ∙ sym (set_at idle (e.0 - from) e.1 x (spread (suc e.0) ss))
          ∙ ap (λ i. set (spread from (e ∷ ss)) i x) same
      go rest Greater f r =
          ap (λ o. spread from (either k x e ss o)) f
          ∙ ap (λ xs. replicate (e.0 - from) idle ++ e.1 ∷ xs) (rest (omega (arith, r)))
          ∙ sym (set_behind idle (e.0 - from) (k - from) (k - suc e.0) e.1 x (spread (suc e.0) ss) (omega (arith, low, r)))

  -- what is asked for stands there, and is taken out or wasn't kept
  pub there_first : (k : ℕ) (ss : List (ℕ × Session A)) (o : Option (Session A)) → IsStrictlySortedBy nat_cmp (keys_of ss) → k < most_sessions → o ≡ lookup (is_at (nat_cmp k)) ss → slice_get (spread 0 ss) k ≡ Some (unwrap_or o idle)
  there_first k ss o s most e =
      let same : k ≡ k - 0 = omega arith in
      ap (slice_get (spread 0 ss)) same ∙ there 0 k ss (rising ss s) (omega arith) most ∙ ap (λ p. Some (unwrap_or p idle)) (sym e)

  -- none is taken out where none is there
  kept : (k : ℕ) (ss : List (ℕ × Session A)) → lookup (is_at (nat_cmp k)) ss ≡ None → remove_entry (is_at (nat_cmp k)) ss ≡ ss
  kept k [] none = refl
  kept k (s ∷ ss) none = go (λ n. kept k ss n) (is_eq (nat_cmp k s.0)) refl
    where
      go : (lookup (is_at (nat_cmp k)) ss ≡ None → remove_entry (is_at (nat_cmp k)) ss ≡ ss) → (b : Bool) → is_eq (nat_cmp k s.0) ≡ b → remove_entry (is_at (nat_cmp k)) (s ∷ ss) ≡ s ∷ ss
      go rest true t = let never : Some s.1 ≡ None = sym (ap (λ b. cond b (Some s.1) (lookup (is_at (nat_cmp k)) ss)) t) ∙ none in absurd cc
      go rest false t =
          ap (λ b. cond b ss (s ∷ remove_entry (is_at (nat_cmp k)) ss)) t
          ∙ ap (λ us. s ∷ us) (rest (sym (ap (λ b. cond b (Some s.1) (lookup (is_at (nat_cmp k)) ss)) t) ∙ none))

  pub taken : (k : ℕ) (ss ts : List (ℕ × Session A)) (o : Option (Session A)) → IsStrictlySortedBy nat_cmp (keys_of ss) → k < most_sessions → o ≡ lookup (is_at (nat_cmp k)) ss → ts ≡ remove_entry (is_at (nat_cmp k)) ss → spread 0 ts ≡ set (spread 0 ss) k idle
  taken k ss ts o s most e f = go (lookup (is_at (nat_cmp k)) ss) refl
    where
      go : (p : Option (Session A)) → lookup (is_at (nat_cmp k)) ss ≡ p → spread 0 ts ≡ set (spread 0 ss) k idle
      go (Some x) g =
          let same : k - 0 ≡ k = omega arith in
          ap (spread 0) f ∙ removed 0 k ss x (rising ss s) (omega arith) most g ∙ ap (λ i. set (spread 0 ss) i idle) same
      go None g = ap (spread 0) (f ∙ kept k ss g) ∙ sym (set_same (spread 0 ss) k idle (there_first k ss None s most (sym g)))

  pub given : (k : ℕ) (ss ts : List (ℕ × Session A)) (x : Session A) → IsStrictlySortedBy nat_cmp (keys_of ss) → k < most_sessions → ts ≡ insert_entry nat_cmp ss k x → spread 0 ts ≡ set (spread 0 ss) k x
  given k ss ts x s most f =
      let same : k - 0 ≡ k = omega arith in
      ap (spread 0) f ∙ inserted 0 k ss x (rising ss s) (omega arith) most ∙ ap (λ i. set (spread 0 ss) i x) same

  -- ---- those that may have committed

  idle_passed : unanswered (idle {A = A}) ≡ None
  idle_passed = refl

  pub all_unanswered : (from : ℕ) (ss : List (ℕ × Session A)) → filter_map unanswered (spread from ss) ≡ filter_map (λ s. unanswered s.1) ss
  all_unanswered from [] = all_passed idle unanswered idle_passed (most_sessions - from)
  all_unanswered from (e ∷ ss) = passed idle unanswered idle_passed (e.0 - from) (e.1 ∷ spread (suc e.0) ss) ∙ ap (cons_option (unanswered e.1)) (all_unanswered (suc e.0) ss)
