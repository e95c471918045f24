-- What numbers of rows tell holds of every order that explains the recording.
use Rattle.std.proofs.Common.{◌≡◌, ◌⊎◌, refl, sym, ap, subst, ◌∙◌, ◌<◌, ◌≤◌, ℕ, suc, Bool, true, false, true≢false, not, ◌&&◌, cond, nat_le, nat_lt, inl, inr, List, [], ◌∷◌, length, slice_get, Some, arith}
use Rattle.std.proofs.lemmas.Bool.{cases_Bool, and_parts, and_from, ltb-true, not-true, not_from_false, false_from_ne_true}
use Rattle.std.proofs.lemmas.Option.{same_Some}
use Rattle.std.specs.List.{filter, list_all, list_any}
use Rattle.certificate.specs.Board.{Board}
use Rattle.certificate.specs.Knowledge as known
use Rattle.certificate.specs.Knowledge.{Known, are_apart}
use Rattle.certificate.specs.Order.{Among, Turn, HasWay, Play, Exact, Valid, IsExcluded}
use Rattle.certificate.specs.Sums as sum
use Rattle.certificate.proofs.AmongLemmas.{any-one, one-any, all-each, among-filter, filter-among}
use Rattle.certificate.proofs.SourceLemmas.{there-is, way-left}

module _ {T : Type 0} (p : T → Bool) where
  -- what stands in a filtered list stands in the whole one
  filtered-among : (x : T) (xs : List T) → Among x (filter p xs) → Among x xs
  filtered-among x [] a = absurd a
  filtered-among x (y ∷ ys) a = go (filtered-among x ys) (p y) a
    where
      go : (Among x (filter p ys) → Among x ys) → (b : Bool) → Among x (cond b (y ∷ filter p ys) (filter p ys)) → (x ≡ y) ⊎ Among x ys
      go more true (inl e) = inl e
      go more true (inr h) = inr (more h)
      go more false h = inr (more h)

  none-any : (xs : List T) → ((x : T) → Among x xs → p x ≡ false) → list_any p xs ≡ false
  none-any xs h = false_from_ne_true (list_any p xs) (λ t. let r = any-one p xs t in absurd (true≢false (sym r.2 ∙ h r.0 r.1)))

module _ {T : Type 0} (p q : T → Bool) where
  all-filtered : (xs : List T) → list_all q xs ≡ true → list_all q (filter p xs) ≡ true
  all-filtered [] h = refl
  all-filtered (x ∷ xs) h = let r = and_parts (q x) (list_all q xs) h in go (p x) r.0 (all-filtered xs r.1)
    where
      go : (b : Bool) → q x ≡ true → list_all q (filter p xs) ≡ true → list_all q (cond b (x ∷ filter p xs) (filter p xs)) ≡ true
      go true e f = and_from (q x) (list_all q (filter p xs)) e f
      go false e f = f

below-so : (m n : ℕ) → nat_lt m n ≡ true → m < n
below-so m n h = ltb-true m n h

module _ {W S P : Type 0} (b : Board W S P) where
  apart-filtered : (p : P → Bool) (ss : List P) → are_apart b ss ≡ true → are_apart b (filter p ss) ≡ true
  apart-filtered p [] h = refl
  apart-filtered p (s ∷ ss) h = let r = and_parts (not (list_any (b.same_spot s) ss)) (are_apart b ss) h in go (p s) (not-true (list_any (b.same_spot s) ss) r.0) (apart-filtered p ss r.1)
    where
      go : (t : Bool) → list_any (b.same_spot s) ss ≡ false → are_apart b (filter p ss) ≡ true → are_apart b (cond t (s ∷ filter p ss) (filter p ss)) ≡ true
      go true none more = and_from (not (list_any (b.same_spot s) (filter p ss))) (are_apart b (filter p ss))
          (not_from_false (list_any (b.same_spot s) (filter p ss)) (none-any (b.same_spot s) (filter p ss) (λ u a. false_from_ne_true (b.same_spot s u) (λ t. true≢false (sym (one-any (b.same_spot s) u ss (filtered-among p u ss a) t) ∙ none)))))
          more
      go false none more = more

module _ {W S P : Type 0} (b : Board W S P) (exact : Exact b) (order : List ℕ) (turns : P → ℕ → Turn S) (play : Play b order turns) (k : Known S P) (valid : Valid b order turns k) where
  -- a row that is surely counted was chosen, and one that was chosen may be counted
  chosen-surely : (i y j : ℕ) (s : P) → slice_get order i ≡ Some y → sum.surely_counts b k y j s ≡ true → (turns s i).chosen j ≡ true
  chosen-surely i y j s at h =
      let way = play.ways s i y at in
      way.2.counted j (all-each (λ w. b.counts w j) way.1 (known.left b k y s) h (way-left b exact order turns play k valid y i way.0 s way.1 at way.2))

  chosen-counted : (i y j : ℕ) (s : P) → slice_get order i ≡ Some y → (turns s i).chosen j ≡ true → sum.may_count b k y j s ≡ true
  chosen-counted i y j s at h =
      let way = play.ways s i y at in
      one-any (λ w. b.may_count y s w j) way.1 (known.left b k y s) (way-left b exact order turns play k valid y i way.0 s way.1 at way.2) (way.2.may_count j h)

  -- of spots of one table, each once, as many as are surely counted are no more than the answer tells
  fits-above : (i y j n : ℕ) (s : P) (ss : List P) → slice_get order i ≡ Some y → b.tells y s j n ≡ true → sum.are_of_table b k s ss ≡ true → sum.at_least b k y j ss ≤ n
  fits-above i y j n s ss at told h =
      let r = and_parts (list_all (b.same_table s) ss) (are_apart b ss) h in
      play.no_fewer i y s j n (filter (sum.surely_counts b k y j) ss) at told
      (all-filtered (sum.surely_counts b k y j) (b.same_table s) ss r.0)
      (apart-filtered b (sum.surely_counts b k y j) ss r.1)
      (λ u a. chosen-surely i y j u at (filter-among (sum.surely_counts b k y j) u ss a))

  -- a spot that is among all, and was chosen, is among those that may be counted
  among-counted : (i y j : ℕ) (s u : P) (ss : List P) → slice_get order i ≡ Some y → sum.are_all b k s ss ≡ true → Among u (b.keys s) → (turns u i).chosen j ≡ true
      → (v : P) × Among v ss × (b.same_spot u v ≡ true) × (u ≡ v) × (sum.may_count b k y j v ≡ true)
  among-counted i y j s u ss at all among chosen =
      let r = any-one (b.same_spot u) ss (all-each (λ v. list_any (b.same_spot v) ss) u (b.keys s) all among) in
      let same = exact.spot u r.0 r.2 in
      (r.0, r.1, r.2, same, subst (λ v. sum.may_count b k y j v ≡ true) same (chosen-counted i y j u at chosen))

  fits-below : (i y j n : ℕ) (s : P) (ss : List P) → slice_get order i ≡ Some y → b.tells y s j n ≡ true → sum.are_all b k s ss ≡ true → n ≤ sum.at_most b k y j ss
  fits-below i y j n s ss at told all = play.no_more i y s j n (filter (sum.may_count b k y j) ss) at told (λ u a c.
      let r = among-counted i y j s u ss at all a c in
      one-any (b.same_spot u) r.0 (filter (sum.may_count b k y j) ss) (among-filter (sum.may_count b k y j) r.0 ss r.1 r.4) r.2)

  -- ---- contradictions

  pub not-overfull : (y j n : ℕ) (s : P) (ss : List P) → sum.is_overfull b k y j n s ss ≡ true → ⊥
  not-overfull y j n s ss h =
      let p = and_parts (known.is_present b k y && b.tells y s j n && sum.are_of_table b k s ss) (nat_lt n (sum.at_least b k y j ss)) h in
      let q = and_parts (known.is_present b k y && b.tells y s j n) (sum.are_of_table b k s ss) p.0 in
      let r = and_parts (known.is_present b k y) (b.tells y s j n) q.0 in
      let there = there-is b exact order turns play k valid y r.0 in
      let fits = fits-above there.0 y j n s ss there.1 r.1 q.1 in
      let more = below-so n (sum.at_least b k y j ss) p.1 in
      omega (arith, fits, more)

  pub not-lacking : (y j n : ℕ) (s : P) (ss : List P) → sum.is_lacking b k y j n s ss ≡ true → ⊥
  not-lacking y j n s ss h =
      let p = and_parts (known.is_present b k y && b.tells y s j n && sum.are_all b k s ss) (nat_lt (sum.at_most b k y j ss) n) h in
      let q = and_parts (known.is_present b k y && b.tells y s j n) (sum.are_all b k s ss) p.0 in
      let r = and_parts (known.is_present b k y) (b.tells y s j n) q.0 in
      let there = there-is b exact order turns play k valid y r.0 in
      let fits = fits-below there.0 y j n s ss there.1 r.1 q.1 in
      let less = below-so (sum.at_most b k y j ss) n p.1 in
      omega (arith, fits, less)

  -- ---- ways

  le-so : (m n : ℕ) → nat_le m n ≡ true → m ≤ n
  le-so m n h = grind (arith, h)

  pub overfilling-excluded : (w : W) (m y j n : ℕ) (s : P) (ss : List P) → slice_get (b.ways y s) m ≡ Some w → sum.would_overfill b k w y j n s ss ≡ true
      → IsExcluded b order turns (record { place = y; spot = s; way = m })
  overfilling-excluded w m y j n s ss at-m h i v at way =
      let p = and_parts (b.counts w j && b.tells y s j n && b.same_table s s && sum.are_of_table b k s ss) (nat_le n (sum.at_least b k y j (sum.others b k s ss))) h in
      let q = and_parts (b.counts w j && b.tells y s j n && b.same_table s s) (sum.are_of_table b k s ss) p.0 in
      let r = and_parts (b.counts w j && b.tells y s j n) (b.same_table s s) q.0 in
      let t = and_parts (b.counts w j) (b.tells y s j n) r.0 in
      let same : v ≡ w = same_Some v w (sym way.way ∙ at-m) in
      let chosen : (turns s i).chosen j ≡ true = way.counted j (subst (λ u. b.counts u j ≡ true) (sym same) t.0) in
      let parts = and_parts (list_all (b.same_table s) ss) (are_apart b ss) q.1 in
      let rest : List P = filter (sum.surely_counts b k y j) (sum.others b k s ss) in
      let alone : list_any (b.same_spot s) rest ≡ false = none-any (b.same_spot s) rest (λ u a. not-true (b.same_spot s u) (filter-among (λ z. not (b.same_spot s z)) u ss (filtered-among (sum.surely_counts b k y j) u (sum.others b k s ss) a))) in
      let fits : suc (length rest) ≤ n = play.no_fewer i y s j n (s ∷ rest) at t.1
      (and_from (b.same_table s s) (list_all (b.same_table s) rest) r.1 (all-filtered (sum.surely_counts b k y j) (b.same_table s) (sum.others b k s ss) (all-filtered (λ z. not (b.same_spot s z)) (b.same_table s) ss parts.0)))
      (and_from (not (list_any (b.same_spot s) rest)) (are_apart b rest) (not_from_false (list_any (b.same_spot s) rest) alone) (apart-filtered b (sum.surely_counts b k y j) (sum.others b k s ss) (apart-filtered b (λ z. not (b.same_spot s z)) ss parts.1)))
      (λ u a. go u a chosen) in
      let more : n ≤ length rest = le-so n (length rest) p.1 in
      omega (arith, fits, more)
    where
      go : (u : P) → (u ≡ s) ⊎ Among u (filter (sum.surely_counts b k y j) (sum.others b k s ss)) → (turns s i).chosen j ≡ true → (turns u i).chosen j ≡ true
      go u (inl e) c = subst (λ z. (turns z i).chosen j ≡ true) (sym e) c
      go u (inr a) c = chosen-surely i y j u at (filter-among (sum.surely_counts b k y j) u (sum.others b k s ss) a)

  pub lacking-excluded : (w : W) (m y j n : ℕ) (s : P) (ss : List P) → slice_get (b.ways y s) m ≡ Some w → sum.would_lack b k w y j n s ss ≡ true
      → IsExcluded b order turns (record { place = y; spot = s; way = m })
  lacking-excluded w m y j n s ss at-m h i v at way =
      let p = and_parts (not (b.may_count y s w j) && b.tells y s j n && sum.are_all b k s ss) (nat_lt (sum.at_most b k y j (sum.others b k s ss)) n) h in
      let q = and_parts (not (b.may_count y s w j) && b.tells y s j n) (sum.are_all b k s ss) p.0 in
      let r = and_parts (not (b.may_count y s w j)) (b.tells y s j n) q.0 in
      let same : v ≡ w = same_Some v w (sym way.way ∙ at-m) in
      let unchosen : (turns s i).chosen j ≡ true → ⊥ = (λ c. true≢false (sym (subst (λ u. b.may_count y s u j ≡ true) same (way.may_count j c)) ∙ not-true (b.may_count y s w j) r.0)) in
      let fits : n ≤ length (filter (sum.may_count b k y j) (sum.others b k s ss)) = play.no_more i y s j n (filter (sum.may_count b k y j) (sum.others b k s ss)) at r.1 (λ u a c.
      let f = among-counted i y j s u ss at q.1 a c in
      let apart : b.same_spot s f.0 ≡ false = false_from_ne_true (b.same_spot s f.0) (λ t. unchosen (subst (λ z. (turns z i).chosen j ≡ true) (f.3 ∙ sym (exact.spot s f.0 t)) c)) in
      one-any (b.same_spot u) f.0 (filter (sum.may_count b k y j) (sum.others b k s ss))
      (among-filter (sum.may_count b k y j) f.0 (sum.others b k s ss) (among-filter (λ z. not (b.same_spot s z)) f.0 ss f.1 (not_from_false (b.same_spot s f.0) apart)) f.4)
      f.2) in
      let less = below-so (length (filter (sum.may_count b k y j) (sum.others b k s ss))) n p.1 in
      omega (arith, fits, less)
