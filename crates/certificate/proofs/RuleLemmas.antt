-- What the rules tell holds of every order that explains the recording.
use Rattle.std.proofs.Common.{◌≡◌, ◌⊎◌, refl, sym, ap, subst, ◌∙◌, ◌<◌, ℕ, suc, Bool, true, false, true≢false, not, ◌&&◌, ◌||◌, ◌==◌, inl, inr, List, [], ◌∷◌, slice_get, Option, Some, None, arith}
use Rattle.std.proofs.lemmas.Bool.{cases_order, or_cases, and_parts, and_from, eqb-true, eqb-false, ne_eqb, not-true, not_from_false, false_from_ne_true}
use Rattle.std.proofs.lemmas.Option.{same_Some}
use Rattle.std.specs.List.{list_all}
use Rattle.certificate.specs.Board.{Board, Effect, Keeps, Leaves, Adds, Unknown}
use Rattle.certificate.specs.Knowledge as known
use Rattle.certificate.specs.Knowledge.{Cell, Excluded, Finding, Known, places_below}
use Rattle.certificate.specs.Order.{Among, Turn, Does, Play, Exact, Valid, IsBefore, IsThere, IsExcluded, IsFound, AllKeep, IsUnwritten, IsLeftBy}
use Rattle.certificate.specs.Rules as rule
use Rattle.certificate.proofs.AmongLemmas.{any-one, one-any, all-each, among-filter, filter-among, none-all, among-places}
use Rattle.certificate.proofs.WriterLemmas.{left-by}
use Rattle.certificate.proofs.SourceLemmas.{before-is, there-is, way-left, no-writer, sure-writer, passes-effect, found-is}

module _ {W S P : Type 0} (b : Board W S P) (exact : Exact b) (order : List ℕ) (turns : P → ℕ → Turn S) (play : Play b order turns) (k : Known S P) (valid : Valid b order turns k) where
  -- From whom the transaction at place j has the cell: the opening, or one of the sources.
  abbrev Opened : (S → Bool) → Cell P → ℕ → ℕ → Type 0
  Opened may c j y = (known.may_be_first b k may c y ≡ true) × IsUnwritten b order turns c j

  pub record IsFrom (may : S → Bool) (c : Cell P) (j y i x n : ℕ) (w : W) : Type 0 where
    pub among : Among x (known.sources b k may c y)
    pub passes : known.passes b k may x c.spot (b.effect c.spot w c.column) ≡ true
    pub left : IsLeftBy b order turns c j i x n w

  different : (i j x y : ℕ) → i < j → slice_get order i ≡ Some x → slice_get order j ≡ Some y → (x == y) ≡ false
  different i j x y l at-x at-y = ne_eqb x y (λ e. let same : i ≡ j = play.once i j y (at-x ∙ ap Some e) at-y in absurd (omega (arith, l, same)))

  not-later : (i j x y : ℕ) → i < j → slice_get order i ≡ Some x → slice_get order j ≡ Some y → known.comes_before b k y x ≡ false
  not-later i j x y l at-x at-y = false_from_ne_true (known.comes_before b k y x) (λ t. let g = before-is b exact order turns play k valid y x t j i at-y at-x in absurd (omega (arith, l, g)))

  -- no writer stands between two places between which all keep the cell
  none-between : (c : Cell P) (i j x y z : ℕ) → slice_get order i ≡ Some x → slice_get order j ≡ Some y → AllKeep b order turns c (suc i) j
      → known.is_writer b k c z ≡ true → known.comes_before b k x z ≡ true → known.comes_before b k z y ≡ true → ⊥
  none-between c i j x y z at-x at-y all wr after before =
      let there = there-is b exact order turns play k valid z (and_parts (known.is_present b k z) (known.surely_writes b k z c) wr).0 in
      let l = before-is b exact order turns play k valid x z after i there.0 at-x there.1 in
      let u = before-is b exact order turns play k valid z y before there.0 j there.1 at-y in
      no-writer b exact order turns play k valid c (suc i) j there.0 z all (omega (arith, l)) u there.1 wr

  none-first : (c : Cell P) (j y z : ℕ) → slice_get order j ≡ Some y → AllKeep b order turns c 0 j → known.is_writer b k c z ≡ true → known.comes_before b k z y ≡ true → ⊥
  none-first c j y z at-y all wr before =
      let there = there-is b exact order turns play k valid z (and_parts (known.is_present b k z) (known.surely_writes b k z c) wr).0 in
      let u = before-is b exact order turns play k valid z y before there.0 j there.1 at-y in
      no-writer b exact order turns play k valid c 0 j there.0 z all (omega arith) u there.1 wr

  not-overwritten : (c : Cell P) (i j x y : ℕ) → slice_get order i ≡ Some x → slice_get order j ≡ Some y → AllKeep b order turns c (suc i) j → known.is_overwritten b k c x y ≡ false
  not-overwritten c i j x y at-x at-y all = false_from_ne_true (known.is_overwritten b k c x y) (λ t.
      let z = any-one (λ z. known.comes_before b k x z) (known.writers b k c y) t in
      let h = and_parts (known.comes_before b k z.0 y) (known.is_writer b k c z.0) (filter-among (λ z. known.comes_before b k z y && known.is_writer b k c z) z.0 (places_below b.count) z.1) in
      none-between c i j x y z.0 at-x at-y all h.1 z.2 h.0)

  no-first : (c : Cell P) (j y : ℕ) → slice_get order j ≡ Some y → AllKeep b order turns c 0 j → list_all (λ z. false) (known.writers b k c y) ≡ true
  no-first c j y at-y all = none-all (known.writers b k c y) (λ z a.
      let h = and_parts (known.comes_before b k z y) (known.is_writer b k c z) (filter-among (λ z. known.comes_before b k z y && known.is_writer b k c z) z (places_below b.count) a) in
      none-first c j y z at-y all h.1 h.0)

  not-absent : (i x : ℕ) → slice_get order i ≡ Some x → known.is_among x k.absent ≡ false
  not-absent i x at = false_from_ne_true (known.is_among x k.absent) (λ t.
      let z = any-one (λ j. j == x) k.absent t in
      valid.absent z.0 z.1 (i, at ∙ ap Some (sym (eqb-true z.0 x z.2))))

  pub from-whom : (may : S → Bool) (c : Cell P) (j y : ℕ) → slice_get order j ≡ Some y → may ((turns c.spot j).before c.column) ≡ true
      → Opened may c j y ⊎ ((i x n : ℕ) × (w : W) × IsFrom may c j y i x n w)
  from-whom may c j y at m = go (left-by b order turns play c j y at)
    where
      go : IsUnwritten b order turns c j ⊎ ((i x n : ℕ) × (w : W) × IsLeftBy b order turns c j i x n w) → Opened may c j y ⊎ ((i x n : ℕ) × (w : W) × IsFrom may c j y i x n w)
      go (inl h) = inl (
        and_from (may (b.opening c.spot c.column)) (list_all (λ z. false) (known.writers b k c y))
            (subst (λ s. may s ≡ true) h.state m)
            (no-first c j y at h.kept),
        h,
      )
      go (inr (i, x, n, w, h)) =
          let pass = passes-effect b exact order turns play k valid may c i x (b.effect c.spot w c.column) h.at (subst (λ s. may s ≡ true) h.state m) h.writes (h.way.does c.column) in
          let may-leave = one-any (λ v. known.passes b k may x c.spot (b.effect c.spot v c.column)) w (known.left b k x c.spot) (way-left b exact order turns play k valid x i n c.spot w h.at h.way) pass in
          let may-be = and_from (not (x == y) && not (known.is_among x k.absent) && not (known.comes_before b k y x) && not (known.is_overwritten b k c x y)) (known.may_leave b k may x c)
          (and_from (not (x == y) && not (known.is_among x k.absent) && not (known.comes_before b k y x)) (not (known.is_overwritten b k c x y))
          (and_from (not (x == y) && not (known.is_among x k.absent)) (not (known.comes_before b k y x))
          (and_from (not (x == y)) (not (known.is_among x k.absent))
          (not_from_false (x == y) (different i j x y h.earlier h.at at))
          (not_from_false (known.is_among x k.absent) (not-absent i x h.at)))
          (not_from_false (known.comes_before b k y x) (not-later i j x y h.earlier h.at at)))
          (not_from_false (known.is_overwritten b k c x y) (not-overwritten c i j x y h.at at h.kept)))
          may-leave in
          inr (
            i,
            x,
            n,
            w,
            record {
              among = among-filter (known.may_be_from b k may c y) x (places_below b.count) (among-places x b.count (play.within i x h.at)) may-be;
              passes = pass;
              left = h;
            },
          )

  -- what a transaction asks of a cell, the cell had before it
  asked : (c : Cell P) (j y : ℕ) → slice_get order j ≡ Some y → known.asks b k c y ((turns c.spot j).before c.column) ≡ true
  asked c j y at =
      let way = play.ways c.spot j y at in
      one-any (λ w. b.allows w c.column ((turns c.spot j).before c.column)) way.1 (known.left b k y c.spot) (way-left b exact order turns play k valid y j way.0 c.spot way.1 at way.2) (way.2.allowed c.column)

  -- Where all sources pass a test, and the opening is none, one that passes left the cell.
  pub only-from : (test : ℕ → Bool) (c : Cell P) (j y : ℕ) → slice_get order j ≡ Some y → rule.is_only_from b k test c y ≡ true
      → (i x n : ℕ) × (w : W) × IsFrom (known.asks b k c y) c j y i x n w × (test x ≡ true)
  only-from test c j y at h =
      go (from-whom (known.asks b k c y) c j y at (asked c j y at))
    where
      go : Opened (known.asks b k c y) c j y ⊎ ((i x n : ℕ) × (w : W) × IsFrom (known.asks b k c y) c j y i x n w) → (i x n : ℕ) × (w : W) × IsFrom (known.asks b k c y) c j y i x n w × (test x ≡ true)
      go (inl o) =
          let p = and_parts (known.is_present b k y && list_all test (known.sources b k (known.asks b k c y) c y)) (not (known.may_be_first b k (known.asks b k c y) c y)) h in
          absurd (true≢false (sym o.0 ∙ not-true (known.may_be_first b k (known.asks b k c y) c y) p.1))
      go (inr (i, x, n, w, f)) =
          let p = and_parts (known.is_present b k y && list_all test (known.sources b k (known.asks b k c y) c y)) (not (known.may_be_first b k (known.asks b k c y) c y)) h in
          let q = and_parts (known.is_present b k y) (list_all test (known.sources b k (known.asks b k c y) c y)) p.0 in
          (i, x, n, w, f, all-each test x (known.sources b k (known.asks b k c y) c y) q.1 f.among)

  only-there : (test : ℕ → Bool) (c : Cell P) (y : ℕ) → rule.is_only_from b k test c y ≡ true → IsThere b order turns y
  only-there test c y h =
      let p = and_parts (known.is_present b k y && list_all test (known.sources b k (known.asks b k c y) c y)) (not (known.may_be_first b k (known.asks b k c y) c y)) h in
      there-is b exact order turns play k valid y (and_parts (known.is_present b k y) (list_all test (known.sources b k (known.asks b k c y) c y)) p.0).0

  -- ---- the rules

  pub joined-holds : (x y z : ℕ) → rule.is_joined b k x y z ≡ true → IsBefore b order turns x z
  joined-holds x y z h i j at-x at-z =
      let p = and_parts (known.is_present b k y && known.comes_before b k x y) (known.comes_before b k y z) h in
      let q = and_parts (known.is_present b k y) (known.comes_before b k x y) p.0 in
      let there = there-is b exact order turns play k valid y q.0 in
      let l = before-is b exact order turns play k valid x y q.1 i there.0 at-x there.1 in
      let u = before-is b exact order turns play k valid y z p.1 there.0 j there.1 at-z in
      omega (arith, l, u)

  pub source-there : (x y : ℕ) (c : Cell P) → rule.is_source b k x y c ≡ true → IsThere b order turns x
  source-there x y c h =
      let there = only-there (λ z. z == x) c y h in
      let f = only-from (λ z. z == x) c there.0 y there.1 h in
      (f.0, f.4.left.at ∙ ap Some (eqb-true f.1 x f.5))

  pub source-before : (x y : ℕ) (c : Cell P) → rule.is_source b k x y c ≡ true → IsBefore b order turns x y
  source-before x y c h i j at-x at-y =
      let f = only-from (λ z. z == x) c j y at-y h in
      let same : f.0 ≡ i = play.once f.0 i x (f.4.left.at ∙ ap Some (eqb-true f.1 x f.5)) at-x in
      let l : f.0 < j = f.4.left.earlier in
      omega (arith, same, l)

  pub later-holds : (y x : ℕ) (c : Cell P) → rule.is_later b k y x c ≡ true → IsBefore b order turns y x
  later-holds y x c h i j at-y at-x =
      let p = and_parts (known.is_present b k y && known.surely_writes b k x c && not (x == y)) (list_all (λ z. not (z == x) && known.comes_before b k z x) (known.sources b k (known.asks b k c y) c y)) h in
      let q = and_parts (known.is_present b k y && known.surely_writes b k x c) (not (x == y)) p.0 in
      let sure = (and_parts (known.is_present b k y) (known.surely_writes b k x c) q.0).1 in
      go p.1 sure (not-true (x == y) q.1) (from-whom (known.asks b k c y) c i y at-y (asked c i y at-y)) (cases_order i j)
    where
      go : list_all (λ z. not (z == x) && known.comes_before b k z x) (known.sources b k (known.asks b k c y) c y) ≡ true → known.surely_writes b k x c ≡ true → (x == y) ≡ false
          → Opened (known.asks b k c y) c i y ⊎ ((m z n : ℕ) × (w : W) × IsFrom (known.asks b k c y) c i y m z n w) → (i ≡ j) ⊎ ((i < j) ⊎ (j < i)) → i < j
      go each sure d f (inl e) = absurd (eqb-false x y d (same_Some x y (sym at-x ∙ ap (slice_get order) (sym e) ∙ at-y)))
      go each sure d f (inr (inl l)) = l
      go each sure d (inl o) (inr (inr l)) = absurd (sure-writer b exact order turns play k valid c 0 i j x o.1.kept (omega arith) l at-x sure)
      go each sure d (inr (m, z, n, w, f)) (inr (inr l)) =
          let t = and_parts (not (z == x)) (known.comes_before b k z x) (all-each (λ z. not (z == x) && known.comes_before b k z x) z (known.sources b k (known.asks b k c y) c y) each f.among) in
          let g = before-is b exact order turns play k valid z x t.1 m j f.left.at at-x in
          absurd (sure-writer b exact order turns play k valid c (suc m) i j x f.left.kept (omega (arith, g)) l at-x sure)

  pub earlier-holds : (x z y : ℕ) (c : Cell P) → rule.is_earlier b k x z y c ≡ true → IsBefore b order turns x z
  earlier-holds x z y c h i j at-x at-z =
      let p = and_parts (known.surely_writes b k x c && not (x == z) && known.comes_before b k x y) (rule.is_only_from b k (λ v. v == z) c y) h in
      let q = and_parts (known.surely_writes b k x c && not (x == z)) (known.comes_before b k x y) p.0 in
      let r = and_parts (known.surely_writes b k x c) (not (x == z)) q.0 in
      let there = only-there (λ v. v == z) c y p.1 in
      let f = only-from (λ v. v == z) c there.0 y there.1 p.1 in
      let same : f.0 ≡ j = play.once f.0 j z (f.4.left.at ∙ ap Some (eqb-true f.1 z f.5)) at-z in
      let before = before-is b exact order turns play k valid x y q.1 i there.0 at-x there.1 in
      go there.0 f.0 f.4.left.kept same r.0 (not-true (x == z) r.1) before (cases_order i j)
    where
      go : (t m : ℕ) → AllKeep b order turns c (suc m) t → m ≡ j → known.surely_writes b k x c ≡ true → (x == z) ≡ false → i < t → (i ≡ j) ⊎ ((i < j) ⊎ (j < i)) → i < j
      go t m all same sure d before (inl e) = absurd (eqb-false x z d (same_Some x z (sym at-x ∙ ap (slice_get order) e ∙ at-z)))
      go t m all same sure d before (inr (inl l)) = l
      go t m all same sure d before (inr (inr l)) = absurd (sure-writer b exact order turns play k valid c (suc m) t i x all (omega (arith, same, l)) before at-x sure)

  pub common-holds : (x y : ℕ) (c : Cell P) → rule.is_common b k x y c ≡ true → IsBefore b order turns x y
  common-holds x y c h i j at-x at-y =
      let f = only-from (λ z. z == x || known.comes_before b k x z) c j y at-y h in
      go f.0 f.1 f.4.left.at f.4.left.earlier (or_cases (f.1 == x) (known.comes_before b k x f.1) f.5)
    where
      go : (m z : ℕ) → slice_get order m ≡ Some z → m < j → ((z == x) ≡ true) ⊎ (known.comes_before b k x z ≡ true) → i < j
      go m z at l (inl e) = let same : m ≡ i = play.once m i x (at ∙ ap Some (eqb-true z x e)) at-x in omega (arith, l, same)
      go m z at l (inr t) = let g = before-is b exact order turns play k valid x z t i m at-x at in omega (arith, l, g)

  pub needless-excluded : (w : W) (n : ℕ) (s : P) (column y : ℕ) → slice_get (b.ways y s) n ≡ Some w → rule.is_needless b k w (record { spot = s; column = column }) y ≡ true
      → IsExcluded b order turns (record { place = y; spot = s; way = n })
  needless-excluded w n s column y at-n h i v at way =
      let c : Cell P = record { spot = s; column = column } in
      let p = and_parts (list_all (λ z. false) (known.sources b k (known.one_allows b k (w ∷ []) column) c y)) (not (known.may_be_first b k (known.one_allows b k (w ∷ []) column) c y)) h in
      let same : v ≡ w = same_Some v w (sym way.way ∙ at-n) in
      let allowed : known.one_allows b k (w ∷ []) column ((turns s i).before column) ≡ true = one-any (λ u. b.allows u column ((turns s i).before column)) w (w ∷ []) (inl refl) (subst (λ u. b.allows u column ((turns s i).before column) ≡ true) same (way.allowed column)) in
      go c p (from-whom (known.one_allows b k (w ∷ []) column) c i y at allowed)
    where
      go : (c : Cell P) → (list_all (λ (z : ℕ). false) (known.sources b k (known.one_allows b k (w ∷ []) column) c y) ≡ true) × (not (known.may_be_first b k (known.one_allows b k (w ∷ []) column) c y) ≡ true)
          → Opened (known.one_allows b k (w ∷ []) column) c i y ⊎ ((m x q : ℕ) × (u : W) × IsFrom (known.one_allows b k (w ∷ []) column) c i y m x q u) → ⊥
      go c p (inl o) = absurd (true≢false (sym o.0 ∙ not-true (known.may_be_first b k (known.one_allows b k (w ∷ []) column) c y) p.1))
      go c p (inr (m, x, q, u, f)) = absurd (true≢false (sym (all-each (λ (z : ℕ). false) x (known.sources b k (known.one_allows b k (w ∷ []) column) c y) p.0 f.among)))

  leaves-is : (v : S) (c : Cell P) (i x : ℕ) (e : Effect S) → slice_get order i ≡ Some x → rule.leaves_same b k v x c.spot e ≡ true
      → Does b (turns c.spot i).before c.column ((turns c.spot i).after c.column) e → (turns c.spot i).after c.column ≡ v
  leaves-is v c i x Keeps at h d = absurd (true≢false (sym h))
  leaves-is v c i x (Leaves s) at h d = d ∙ exact.state s v h
  leaves-is v c i x (Adds q z) at h d = go (known.found_in b k x c.spot q) refl h
    where
      go : (o : Option S) → known.found_in b k x c.spot q ≡ o → rule.is_sum b k v z o ≡ true → (turns c.spot i).after c.column ≡ v
      go None e h = absurd (true≢false (sym h))
      go (Some u) e h =
          let p = and_parts (not (b.overflows u z)) (b.same_state (b.plus u z) v) h in
          d ∙ ap (λ s. b.plus s z) (found-is b exact order turns play k valid x i q c.spot u at e) ∙ exact.state (b.plus u z) v p.1
  leaves-is v c i x Unknown at h d = absurd (true≢false (sym h))

  pub found-holds : (v : S) (c : Cell P) (y : ℕ) → rule.is_found b k v c y ≡ true → IsFound b order turns (record { place = y; cell = c; state = v })
  found-holds v c y h i at =
      let p = and_parts (list_all (rule.leaves_only b k (known.asks b k c y) v c) (known.sources b k (known.asks b k c y) c y)) (not (known.may_be_first b k (known.asks b k c y) c y) || b.same_state (b.opening c.spot c.column) v) h in
      go p.0 (or_cases (not (known.may_be_first b k (known.asks b k c y) c y)) (b.same_state (b.opening c.spot c.column) v) p.1) (from-whom (known.asks b k c y) c i y at (asked c i y at))
    where
      go : list_all (rule.leaves_only b k (known.asks b k c y) v c) (known.sources b k (known.asks b k c y) c y) ≡ true
          → (not (known.may_be_first b k (known.asks b k c y) c y) ≡ true) ⊎ (b.same_state (b.opening c.spot c.column) v ≡ true)
          → Opened (known.asks b k c y) c i y ⊎ ((m x n : ℕ) × (w : W) × IsFrom (known.asks b k c y) c i y m x n w) → (turns c.spot i).before c.column ≡ v
      go each (inl d) (inl o) = absurd (true≢false (sym o.0 ∙ not-true (known.may_be_first b k (known.asks b k c y) c y) d))
      go each (inr e) (inl o) = o.1.state ∙ exact.state (b.opening c.spot c.column) v e
      go each first (inr (m, x, n, w, f)) =
          let only = all-each (rule.leaves_only b k (known.asks b k c y) v c) x (known.sources b k (known.asks b k c y) c y) each f.among in
          let left = way-left b exact order turns play k valid x m n c.spot w f.left.at f.left.way in
          let t = all-each (λ u. not (known.passes b k (known.asks b k c y) x c.spot (b.effect c.spot u c.column)) || rule.leaves_same b k v x c.spot (b.effect c.spot u c.column)) w (known.left b k x c.spot) only left in
          f.left.state ∙ leaves m x n w f (or_cases (not (known.passes b k (known.asks b k c y) x c.spot (b.effect c.spot w c.column))) (rule.leaves_same b k v x c.spot (b.effect c.spot w c.column)) t)
        where
          leaves : (m x n : ℕ) (w : W) → IsFrom (known.asks b k c y) c i y m x n w
              → (not (known.passes b k (known.asks b k c y) x c.spot (b.effect c.spot w c.column)) ≡ true) ⊎ (rule.leaves_same b k v x c.spot (b.effect c.spot w c.column) ≡ true) → (turns c.spot m).after c.column ≡ v
          leaves m x n w f (inl d) = absurd (true≢false (sym f.passes ∙ not-true (known.passes b k (known.asks b k c y) x c.spot (b.effect c.spot w c.column)) d))
          leaves m x n w f (inr e) = leaves-is v c m x (b.effect c.spot w c.column) f.left.at e (f.left.way.does c.column)

  -- ---- contradictions

  pub no-cycle : (x y : ℕ) → rule.is_cycle b k x y ≡ true → ⊥
  no-cycle x y h =
      let p = and_parts (known.is_present b k x && known.is_present b k y && known.comes_before b k x y) (known.comes_before b k y x) h in
      let q = and_parts (known.is_present b k x && known.is_present b k y) (known.comes_before b k x y) p.0 in
      let r = and_parts (known.is_present b k x) (known.is_present b k y) q.0 in
      let at-x = there-is b exact order turns play k valid x r.0 in
      let at-y = there-is b exact order turns play k valid y r.1 in
      let l = before-is b exact order turns play k valid x y q.1 at-x.0 at-y.0 at-x.1 at-y.1 in
      let u = before-is b exact order turns play k valid y x p.1 at-y.0 at-x.0 at-y.1 at-x.1 in
      omega (arith, l, u)

  pub not-sourceless : (c : Cell P) (y : ℕ) → rule.is_sourceless b k c y ≡ true → ⊥
  not-sourceless c y h =
      let there = only-there (λ (z : ℕ). false) c y h in
      let f = only-from (λ (z : ℕ). false) c there.0 y there.1 h in
      absurd (true≢false (sym f.5))

  pub not-wayless : (y : ℕ) (s : P) → rule.is_wayless b k y s ≡ true → ⊥
  not-wayless y s h =
      let p = and_parts (known.is_present b k y) (list_all (λ w. false) (known.left b k y s)) h in
      let there = there-is b exact order turns play k valid y p.0 in
      let way = play.ways s there.0 y there.1 in
      absurd (true≢false (sym (all-each (λ w. false) way.1 (known.left b k y s) p.1 (way-left b exact order turns play k valid y there.0 way.0 s way.1 there.1 way.2))))
