-- Pages one after another: where a key belongs, and what a change of one page is to all.
use Rattle.std.proofs.Common.{suc, zero, ◌≡◌, refl, sym, ap, subst, ◌∙◌, ℕ, ◌+◌, ◌-◌, ◌<◌, ◌≤◌, Bool, true, false, true≢false, not, ◌&&◌, List, [], ◌∷◌, ◌++◌, take, drop, length, Some, None, get_or, set, arith, Bor, add-one, append_assoc}
use Rattle.std.proofs.lemmas.Option.{slice_get_within}
use Rattle.std.specs.Prelude.{slice_get, Result, Ok, Err, OnOk, OnErr}
use Rattle.std.specs.List.{AllByRecursion, flat_map}
use Rattle.std.specs.Option.{option_map_or}
use Rattle.std.specs.List.Sorted.{IsStrictlySortedBy, IsPartitionedBy, IsPartitionPoint}
use Rattle.std.specs.Ordering.{is_le}
use Rattle.std.specs.declared.cmp.Ordering.{Ordering}
use Rattle.std.specs.declared.cmp.Ordering.TheVariants.{Less, Equal, Greater}
use Rattle.std.proofs.lemmas.List.{drop_all, take_all, append-nil, take-append-drop}
use Rattle.std.proofs.lemmas.List.Concat.{flat_map-append}
use Rattle.std.proofs.lemmas.Bool.{and_parts, not-true}
use Rattle.value.specs.Order.{value_cmp, value_cmp-exact}
use Rattle.value.specs.declared.key.Key.{Key}
use Rattle.value.specs.declared.value.Value.{Value}
use Rattle.value.proofs.Basics.{all-append, all-drop, all-get, all-parts, all-set, all-take, all-take_less}
use Rattle.schema.specs.declared.reader.Bound.{Bound}
use Rattle.schema.specs.declared.reader.Bound.TheVariants.{From}
use Rattle.schema.specs.Pages.{has_items, IsInOrder, IsLeast, IsBehind, is_before, AreLaidOut, IsPlaced}
use Rattle.schema.specs.Rows.{is_within}
use Rattle.schema.proofs.RowsInOrder.{later_within}
use Rattle.schema.proofs.PageLemmas.{Pairwise, partitioned-pairwise, least-trans, last_none}

-- ---- lists

-- one page, and what stands before and after it
flat-split_suc : {X Y : Type 0} (f : X → List Y) (xs : List X) (i : ℕ) (x : X) → i < length xs → x ≡ get_or xs i x → flat_map f xs ≡ flat_map f (take i xs) ++ (f x ++ flat_map f (drop (suc i) xs))
flat-split_suc f [] i x lt at = absurd (omega arith)
flat-split_suc f (y ∷ ys) zero x lt at = ap (λ z. f z ++ flat_map f ys) (sym at)
flat-split_suc f (y ∷ ys) (suc i) x lt at = ap (λ rest. f y ++ rest) (flat-split_suc f ys i x (omega arith) at) ∙ sym (append_assoc (f y) (flat_map f (take i ys)) (f x ++ flat_map f (drop (suc i) ys)))

flat-set_suc : {X Y : Type 0} (f : X → List Y) (xs : List X) (i : ℕ) (x : X) → i < length xs → flat_map f (set xs i x) ≡ flat_map f (take i xs) ++ (f x ++ flat_map f (drop (suc i) xs))
flat-set_suc f [] i x lt = absurd (omega arith)
flat-set_suc f (y ∷ ys) zero x lt = refl
flat-set_suc f (y ∷ ys) (suc i) x lt = ap (λ rest. f y ++ rest) (flat-set_suc f ys i x (omega arith)) ∙ sym (append_assoc (f y) (flat_map f (take i ys)) (f x ++ flat_map f (drop (suc i) ys)))

pub flat-split : {X Y : Type 0} (f : X → List Y) (xs : List X) (i : ℕ) (x : X) → i < length xs → x ≡ get_or xs i x → flat_map f xs ≡ flat_map f (take i xs) ++ (f x ++ flat_map f (drop (i + 1) xs))
flat-split f xs i x lt at = rw add-one (flat-split_suc f xs i x lt at)

pub flat-set : {X Y : Type 0} (f : X → List Y) (xs : List X) (i : ℕ) (x : X) → i < length xs → flat_map f (set xs i x) ≡ flat_map f (take i xs) ++ (f x ++ flat_map f (drop (i + 1) xs))
flat-set f xs i x lt = rw add-one (flat-set_suc f xs i x lt)

-- a page that is cut in two
cut-flat_suc : {X Y : Type 0} (f : X → List Y) (xs : List X) (i : ℕ) (old lower upper : X) → i < length xs → old ≡ get_or xs i old → f lower ++ f upper ≡ f old → flat_map f (take (suc i) (set xs i lower) ++ upper ∷ drop (suc i) (set xs i lower)) ≡ flat_map f xs
cut-flat_suc f [] i old lower upper lt at parts = absurd (omega arith)
cut-flat_suc f (y ∷ ys) zero old lower upper lt at parts = sym (append_assoc (f lower) (f upper) (flat_map f ys)) ∙ ap (λ z. z ++ flat_map f ys) (parts ∙ ap f at)
cut-flat_suc f (y ∷ ys) (suc i) old lower upper lt at parts = ap (λ rest. f y ++ rest) (cut-flat_suc f ys i old lower upper (omega arith) at parts)

cut-all_suc : {X : Type 0} (P : X → Type 0) (xs : List X) (i : ℕ) (lower upper : X) → i < length xs → P lower → P upper → AllByRecursion P xs → AllByRecursion P (take (suc i) (set xs i lower) ++ upper ∷ drop (suc i) (set xs i lower))
cut-all_suc P [] i lower upper lt low up all = absurd (omega arith)
cut-all_suc P (y ∷ ys) zero lower upper lt low up all = (low, (up, all.1))
cut-all_suc P (y ∷ ys) (suc i) lower upper lt low up all = (all.0, cut-all_suc P ys i lower upper (omega arith) low up all.1)

abbrev pub cut_pages : {X : Type 0} → List X → ℕ → X → X → List X
cut_pages xs i lower upper = take (i + 1) (set xs i lower) ++ upper ∷ drop (i + 1) (set xs i lower)

pub cut-flat : {X Y : Type 0} (f : X → List Y) (xs : List X) (i : ℕ) (old lower upper : X) → i < length xs → old ≡ get_or xs i old → f lower ++ f upper ≡ f old → flat_map f (cut_pages xs i lower upper) ≡ flat_map f xs
cut-flat f xs i old lower upper lt at parts = rw add-one (cut-flat_suc f xs i old lower upper lt at parts)

pub cut-all : {X : Type 0} (P : X → Type 0) (xs : List X) (i : ℕ) (lower upper : X) → i < length xs → P lower → P upper → AllByRecursion P xs → AllByRecursion P (cut_pages xs i lower upper)
cut-all P xs i lower upper lt low up all = rw add-one (cut-all_suc P xs i lower upper lt low up all)

-- a page that goes
abbrev pub left_pages : {X : Type 0} → List X → ℕ → X → List X
left_pages xs i x = take i (set xs i x) ++ drop (suc i) (set xs i x)

pub left-flat : {X Y : Type 0} (f : X → List Y) (xs : List X) (i : ℕ) (x : X) → i < length xs → f x ≡ [] → flat_map f (left_pages xs i x) ≡ flat_map f (set xs i x)
left-flat f [] i x lt none = absurd (omega arith)
left-flat f (y ∷ ys) zero x lt none = ap (λ z. z ++ flat_map f ys) (sym none)
left-flat f (y ∷ ys) (suc i) x lt none = ap (λ rest. f y ++ rest) (left-flat f ys i x (omega arith) none)

pub left-all : {X : Type 0} (P : X → Type 0) (xs : List X) (i : ℕ) (x : X) → AllByRecursion P xs → AllByRecursion P (left_pages xs i x)
left-all P [] zero x all = tt
left-all P [] (suc i) x all = tt
left-all P (y ∷ ys) zero x all = all.1
left-all P (y ∷ ys) (suc i) x all = (all.0, left-all P ys i x all.1)

pub no_items : {T : Type 0} (items : List T) → has_items items ≡ false → items ≡ []
no_items [] e = refl
no_items (x ∷ xs) e = absurd (true≢false e)

less_one : (i : ℕ) → suc i - 1 ≡ i
less_one i = omega arith

module _ {A T : Type 0} (key : T → Value A) where
  -- ---- the order of two runs

  -- the keys of one run are below those of another
  abbrev pub Below : List T → List T → Type 0
  Below xs ys = AllByRecursion (λ x. IsLeast key (key x) ys) xs

  pub least-append : (k : Value A) (xs ys : List T) → IsLeast key k (xs ++ ys) → IsLeast key k xs × IsLeast key k ys
  least-append k [] ys least = (tt, least)
  least-append k (x ∷ xs) ys least = let rest = least-append k xs ys least.1 in ((least.0, rest.0), rest.1)

  pub least-join : (k : Value A) (xs ys : List T) → IsLeast key k xs → IsLeast key k ys → IsLeast key k (xs ++ ys)
  least-join k [] ys first second = second
  least-join k (x ∷ xs) ys first second = (first.0, least-join k xs ys first.1 second)

  below-append : (xs ys zs : List T) → Below xs (ys ++ zs) → Below xs ys × Below xs zs
  below-append [] ys zs below = (tt, tt)
  below-append (x ∷ xs) ys zs below =
      let first = least-append (key x) ys zs below.0 in
      let rest = below-append xs ys zs below.1 in
      ((first.0, rest.0), (first.1, rest.1))

  -- a run in order that is cut
  pub record Cut (xs ys : List T) : Type 0 where
    pub first : IsInOrder key xs
    pub second : IsInOrder key ys
    pub below : Below xs ys

  pub in_order-cut : (xs ys : List T) → IsInOrder key (xs ++ ys) → Cut xs ys
  unfolding IsStrictlySortedBy
  in_order-cut [] ys sorted = record { first = tt; second = sorted; below = tt }
  in_order-cut (x ∷ xs) ys sorted =
      let parts = least-append (key x) xs ys sorted.0 in
      let rest = in_order-cut xs ys sorted.1 in
      record { first = (parts.0, rest.first); second = rest.second; below = (parts.1, rest.below) }

  pub in_order-join : (xs ys : List T) → Cut xs ys → IsInOrder key (xs ++ ys)
  unfolding IsStrictlySortedBy
  in_order-join [] ys cut = cut.second
  in_order-join (x ∷ xs) ys cut = (least-join (key x) xs ys cut.first.0 cut.below.0, in_order-join xs ys (record { first = cut.first.1; second = cut.second; below = cut.below.1 }))

  -- ---- where a bound stands

  -- where no key of a later run is within a bound, none of an earlier one is
  before_key : (bound : Bound (Bor (Key A))) (k l : Value A) → value_cmp k l ≡ Less → is_within bound l ≡ false → is_within bound k ≡ false
  before_key bound k l less early = go (is_within bound k) refl
    where
      go : (b : Bool) → is_within bound k ≡ b → b ≡ false
      go false e = refl
      go true e = absurd (true≢false (sym (later_within bound k l less e) ∙ early))

  before-later : (bound : Bound (Bor (Key A))) (xs ys : List T) → Below xs ys → has_items ys ≡ true → is_before key bound ys ≡ true → is_before key bound xs ≡ true
  before-later bound xs [] below some early = absurd (true≢false (sym some))
  before-later bound xs (y ∷ ys) below some early = go xs below
    where
      first : is_within bound (key y) ≡ false
      first = not-true (is_within bound (key y)) (and_parts (not (is_within bound (key y))) (is_before key bound ys) early).0

      go : (rest : List T) → Below rest (y ∷ ys) → is_before key bound rest ≡ true
      go [] small = refl
      go (x ∷ rest) small = rw (before_key bound (key x) (key y) small.0.0 first) (go rest small.1)

  page_before : (bound : Bound (Bor (Key A))) (page : List T) → is_before key bound page ≡ true → AllByRecursion (λ x. is_within bound (key x) ≡ false) page
  page_before bound [] early = tt
  page_before bound (x ∷ xs) early =
      let parts = and_parts (not (is_within bound (key x))) (is_before key bound xs) early in
      (not-true (is_within bound (key x)) parts.0, page_before bound xs parts.1)

  -- the keys after a page with a key that isn't below this one are above it
  strict-after : (k : Bor (Key A)) (xs ys : List T) → Below xs ys → is_before key (From k) xs ≡ false → IsLeast key k.now ys
  strict-after k [] ys below late = absurd (true≢false late)
  strict-after k (x ∷ xs) ys below late = by_order (value_cmp k.now (key x)) refl late (strict-after k xs ys below.1)
    where
      by_order : (o : Ordering) → value_cmp k.now (key x) ≡ o → (not (is_le o) && is_before key (From k) xs) ≡ false → (is_before key (From k) xs ≡ false → IsLeast key k.now ys) → IsLeast key k.now ys
      by_order Less is e rest = least-trans key k.now (key x) ys is below.0
      by_order Equal is e rest = subst (λ l. IsLeast key l ys) (sym (value_cmp-exact k.now (key x) is)) below.0
      by_order Greater is e rest = rest e

  -- ---- changes of one key

  -- a change in which items of lesser and of greater keys have no part
  pub record IsLocal (k : Value A) (change : List T → List T) : Type 0 where
    pub behind : (xs ys : List T) → IsBehind key k xs → change (xs ++ ys) ≡ xs ++ change ys
    pub ahead : (xs ys : List T) → IsLeast key k ys → change (xs ++ ys) ≡ change xs ++ ys
    pub ordered : (xs : List T) → IsInOrder key xs → IsInOrder key (change xs)

  pub local-parted : (k : Value A) (change : List T → List T) (i : ℕ) (xs : List T) → IsLocal k change → IsBehind key k (take i xs) → change xs ≡ take i xs ++ change (drop i xs)
  local-parted k change i xs loc early = ap change (sym (take-append-drop i xs)) ∙ loc.behind (take i xs) (drop i xs) early

  -- whatever is answered, keys stay in order
  pub local-keeps : {R E : Type 0} (r : Result R E) (k : Value A) (change : List T → List T) (old new : List T) → IsLocal k change → OnOk r (new ≡ change old) → OnErr r (new ≡ old) → IsInOrder key old → IsInOrder key new
  local-keeps (Ok x) k change old new loc ok err sorted = subst (IsInOrder key) (sym ok) (loc.ordered old sorted)
  local-keeps (Err e) k change old new loc ok err sorted = subst (IsInOrder key) (sym err) sorted

module _ {A T H : Type 0} (key : T → Value A) (items : H → List T) where
  -- the items of pages, one page after another
  abbrev joined : List H → List T
  joined pages = flat_map items pages

  abbrev Filled : H → Type 0
  Filled page = has_items (items page) ≡ true

  -- ---- pages before a bound

  pub pages_before : (bound : Bound (Bor (Key A))) (pages : List H) → AllByRecursion (λ page. is_before key bound (items page) ≡ true) pages → AllByRecursion (λ x. is_within bound (key x) ≡ false) (joined pages)
  pages_before bound [] early = tt
  pages_before bound (page ∷ pages) early = all-append (λ x. is_within bound (key x) ≡ false) (items page) (joined pages) (page_before key bound (items page) early.0) (pages_before bound pages early.1)

  rest_laid_out : (page : H) (pages : List H) → AreLaidOut key items (page ∷ pages) → AreLaidOut key items pages
  rest_laid_out page pages laid = ((in_order-cut key (items page) (joined pages) laid.0).second, laid.1.1)

  -- the test of pages turns once
  pages_pairwise : (bound : Bound (Bor (Key A))) (pages : List H) → AreLaidOut key items pages → Pairwise (λ g h. is_before key bound (items h) ≡ true → is_before key bound (items g) ≡ true) pages
  pages_pairwise bound [] laid = tt
  pages_pairwise bound (h ∷ hs) laid = (go hs (in_order-cut key (items h) (joined hs) laid.0).below laid.1.1, pages_pairwise bound hs (rest_laid_out h hs laid))
    where
      go : (gs : List H) → Below key (items h) (joined gs) → AllByRecursion Filled gs → AllByRecursion (λ g. is_before key bound (items g) ≡ true → is_before key bound (items h) ≡ true) gs
      go [] below some = tt
      go (g ∷ gs) below some =
          let parts = below-append key (items h) (items g) (joined gs) below in
          ((λ early. before-later key bound (items h) (items g) parts.0 some.0 early), go gs parts.1 some.1)

  pub pages_partitioned : (bound : Bound (Bor (Key A))) (pages : List H) → AreLaidOut key items pages → IsPartitionedBy (λ h. is_before key bound (items h)) pages
  pages_partitioned bound pages laid = partitioned-pairwise (λ h. is_before key bound (items h)) (λ g h. is_before key bound (items h) ≡ true → is_before key bound (items g) ≡ true) (λ g h step early. step early) pages (pages_pairwise bound pages laid)

  pub start-before : (bound : Bound (Bor (Key A))) (pages : List H) (i : ℕ) → i ≤ length pages → IsPartitionPoint (λ h. is_before key bound (items h) ≡ true) (λ h. is_before key bound (items h) ≡ false) pages i → AllByRecursion (λ h. is_before key bound (items h) ≡ true) (take i pages)
  start-before bound pages i le point = all-take (λ h. is_before key bound (items h) ≡ true) i pages le point.0

  pub start-within : (bound : Bound (Bor (Key A))) (pages : List H) (i : ℕ) → IsPartitionPoint (λ h. is_before key bound (items h) ≡ true) (λ h. is_before key bound (items h) ≡ false) pages i → AllByRecursion (λ h. is_before key bound (items h) ≡ false) (drop i pages)
  start-within bound pages i point = all-drop (λ h. is_before key bound (items h) ≡ false) i pages point.1

  -- ---- where a key belongs

  place-after_suc : (k : Bor (Key A)) (pages : List H) (i : ℕ) → AreLaidOut key items pages → i < length pages → AllByRecursion (λ h. is_before key (From k) (items h) ≡ false) (drop i pages) → IsLeast key k.now (joined (drop (suc i) pages))
  place-after_suc k [] i laid lt late = absurd (omega arith)
  place-after_suc k (page ∷ pages) zero laid lt late = strict-after key k (items page) (joined pages) (in_order-cut key (items page) (joined pages) laid.0).below late.0
  place-after_suc k (page ∷ pages) (suc i) laid lt late = place-after_suc k pages i (rest_laid_out page pages laid) (omega arith) late

  -- to the first page that isn't before it
  pub place-first : (k : Bor (Key A)) (pages : List H) (i : ℕ) → AreLaidOut key items pages → i < length pages → AllByRecursion (λ h. is_before key (From k) (items h) ≡ true) (take i pages) → AllByRecursion (λ h. is_before key (From k) (items h) ≡ false) (drop i pages) → IsPlaced key items k.now pages i
  place-first k pages i laid lt early late = record {
    before = pages_before (From k) (take i pages) early;
    after = rw add-one (place-after_suc k pages i laid lt late);
  }

  pub place-after_last : (k : Value A) (pages : List H) (i : ℕ) → length pages ≤ i → IsLeast key k (joined (drop i pages))
  place-after_last k pages i past = subst (λ ps. IsLeast key k (joined ps)) (sym (drop_all i pages past)) tt

  -- or to the last one, where all are before it
  pub place-last : (k : Bor (Key A)) (pages : List H) (i j : ℕ) → i ≤ j → length pages ≤ i + 1 → AllByRecursion (λ h. is_before key (From k) (items h) ≡ true) (take j pages) → IsPlaced key items k.now pages i
  place-last k pages i j le past early = record {
    before = pages_before (From k) (take i pages) (all-take_less (λ h. is_before key (From k) (items h) ≡ true) i j pages le early);
    after = place-after_last k.now pages (i + 1) past;
  }

  -- whether a page stands at a place, and no item of it is within a bound
  abbrev early_at : Bound (Bor (Key A)) → List H → ℕ → Bool
  early_at bound pages i = option_map_or (λ page. is_before key bound (items page)) (slice_get pages i) false

  -- then none of those before it is
  early-take : (bound : Bound (Bor (Key A))) (pages : List H) (i : ℕ) → AreLaidOut key items pages → early_at bound pages i ≡ true → AllByRecursion (λ h. is_before key bound (items h) ≡ true) (take (suc i) pages)
  early-take bound [] i laid early = absurd (true≢false (sym early))
  early-take bound (p ∷ ps) zero laid early = (early, tt)
  early-take bound (p ∷ []) (suc i) laid early = absurd (true≢false (sym early))
  early-take bound (p ∷ q ∷ ps) (suc i) laid early =
      let rest = early-take bound (q ∷ ps) i (rest_laid_out p (q ∷ ps) laid) early in
      let below = below-append key (items p) (items q) (joined ps) (in_order-cut key (items p) (joined (q ∷ ps)) laid.0).below in
      (before-later key bound (items p) (items q) below.0 laid.1.1.0 rest.0, rest)

  -- to the page behind one that is before it, or a later one
  place-above_suc : (k : Bor (Key A)) (pages : List H) (i : ℕ) → AreLaidOut key items pages → early_at (From k) pages i ≡ true → IsBehind key k.now (joined (take (suc i) pages))
  place-above_suc k pages i laid early = pages_before (From k) (take (suc i) pages) (early-take (From k) pages i laid early)

  pub place-above : (k : Bor (Key A)) (pages : List H) (i : ℕ) → AreLaidOut key items pages → 0 < i → early_at (From k) pages (i - 1) ≡ true → IsBehind key k.now (joined (take i pages))
  place-above k pages zero laid some early = absurd (omega arith)
  place-above k pages (suc i) laid some early = place-above_suc k pages i laid (subst (λ n. early_at (From k) pages n ≡ true) (less_one i) early)

  place-below_suc : (k : Bor (Key A)) (pages : List H) (i : ℕ) → AreLaidOut key items pages → i < length pages → early_at (From k) pages i ≡ false → IsLeast key k.now (joined (drop (suc i) pages))
  place-below_suc k [] i laid lt late = absurd (omega arith)
  place-below_suc k (p ∷ ps) zero laid lt late = strict-after key k (items p) (joined ps) (in_order-cut key (items p) (joined ps) laid.0).below late
  place-below_suc k (p ∷ ps) (suc i) laid lt late = place-below_suc k ps i (rest_laid_out p ps laid) (omega arith) late

  -- to one that isn't before it, or an earlier one
  pub place-below : (k : Bor (Key A)) (pages : List H) (i : ℕ) → AreLaidOut key items pages → i < length pages → early_at (From k) pages i ≡ false → IsLeast key k.now (joined (drop (i + 1) pages))
  place-below k pages i laid lt late = rw add-one (place-below_suc k pages i laid lt late)

  pub place-below_last : (k : Value A) (pages : List H) (i : ℕ) → i + 1 ≡ length pages → IsLeast key k (joined (drop (i + 1) pages))
  place-below_last k pages i last = place-after_last k pages (i + 1) (omega (arith, last))

  -- a key behind the last page is behind all
  pub last-behind : (k : Bor (Key A)) (pages : List H) (page : H) → AreLaidOut key items pages → slice_get pages (length pages - 1) ≡ Some page → is_before key (From k) (items page) ≡ true → IsBehind key k.now (joined pages)
  last-behind k pages page laid at early =
      let lt = slice_get_within pages (length pages - 1) page at in
      subst (λ hs. IsBehind key k.now (joined hs)) (take_all (length pages) pages (omega arith)) (place-above k pages (length pages) laid (omega (arith, lt)) (rw at early))

  pub none-behind : (k : Value A) (pages : List H) → slice_get pages (length pages - 1) ≡ None → IsBehind key k (joined pages)
  none-behind k pages at = subst (λ ps. IsBehind key k (joined ps)) (sym (last_none pages at)) tt

  -- of the last page, and of those before
  pub behind-placed : (k : Value A) (pages : List H) (i : ℕ) (page : H) → i < length pages → length pages ≤ i + 1 → page ≡ get_or pages i page → IsBehind key k (joined pages) → IsPlaced key items k pages i × IsBehind key k (items page)
  behind-placed k pages i page lt past at behind =
      let test : T → Type 0 = λ x. is_le (value_cmp k (key x)) ≡ false in
      let parts = all-parts test (joined (take i pages)) (items page ++ joined (drop (i + 1) pages)) (subst (IsBehind key k) (flat-split items pages i page lt at) behind) in
      (record { before = parts.0; after = place-after_last k pages (i + 1) past }, (all-parts test (items page) (joined (drop (i + 1) pages)) parts.1).0)

  -- as a look-up of an equal key in an equal list tells it
  pub placed : (k l : Value A) (pages lent : List H) (i : ℕ) → lent ≡ pages → l ≡ k → IsPlaced key items l lent i → IsPlaced key items k pages i
  placed k l pages lent i same is p = subst (λ x. IsPlaced key items x pages i) is (subst (λ ps. IsPlaced key items l ps i) same p)

  -- ---- a page that is changed

  pub changed-in : (k : Value A) (change : List T → List T) (pages : List H) (i : ℕ) (old new : H) → IsLocal key k change → IsPlaced key items k pages i → i < length pages → old ≡ get_or pages i old → items new ≡ change (items old) → joined (set pages i new) ≡ change (joined pages)
  changed-in k change pages i old new loc p lt at made =
      flat-set items pages i new lt
      ∙ ap (λ page. joined (take i pages) ++ (page ++ joined (drop (i + 1) pages))) made
      ∙ sym (
      ap change (flat-split items pages i old lt at)
      ∙ loc.behind (joined (take i pages)) (items old ++ joined (drop (i + 1) pages)) p.before
      ∙ ap (λ rest. joined (take i pages) ++ rest) (loc.ahead (items old) (joined (drop (i + 1) pages)) p.after))

  pub changed-laid_out : (k : Value A) (change : List T → List T) (pages : List H) (i : ℕ) (old new : H) → IsLocal key k change → IsPlaced key items k pages i → i < length pages → old ≡ get_or pages i old → items new ≡ change (items old) → Filled new → AreLaidOut key items pages → AreLaidOut key items (set pages i new)
  changed-laid_out k change pages i old new loc p lt at made some laid = (
    subst (IsInOrder key) (sym (changed-in k change pages i old new loc p lt at made)) (loc.ordered (joined pages) laid.0),
    all-set Filled pages i new some laid.1,
  )

  -- a page that stays as it was
  pub same-in : (pages : List H) (i : ℕ) (old new : H) → i < length pages → old ≡ get_or pages i old → items new ≡ items old → joined (set pages i new) ≡ joined pages
  same-in pages i old new lt at same = flat-set items pages i new lt ∙ ap (λ page. joined (take i pages) ++ (page ++ joined (drop (i + 1) pages))) same ∙ sym (flat-split items pages i old lt at)

  pub same-laid_out : (pages : List H) (i : ℕ) (old new : H) → i < length pages → old ≡ get_or pages i old → items new ≡ items old → AreLaidOut key items pages → AreLaidOut key items (set pages i new)
  same-laid_out pages i old new lt at same laid = (
    subst (IsInOrder key) (sym (same-in pages i old new lt at same)) laid.0,
    all-set Filled pages i new (subst (λ page. has_items page ≡ true) (sym same) (all-get Filled pages i old lt at laid.1)) laid.1,
  )

  -- whatever is answered
  pub answered-ok : {R E : Type 0} (r : Result R E) (k : Value A) (change : List T → List T) (pages : List H) (i : ℕ) (old new : H) → IsLocal key k change → IsPlaced key items k pages i → i < length pages → old ≡ get_or pages i old → OnOk r (items new ≡ change (items old)) → OnOk r (joined (set pages i new) ≡ change (joined pages))
  answered-ok (Ok x) k change pages i old new loc p lt at ok = changed-in k change pages i old new loc p lt at ok
  answered-ok (Err e) k change pages i old new loc p lt at ok = ok

  pub answered-err : {R E : Type 0} (r : Result R E) (pages : List H) (i : ℕ) (old new : H) → i < length pages → old ≡ get_or pages i old → OnErr r (items new ≡ items old) → OnErr r (joined (set pages i new) ≡ joined pages)
  answered-err (Ok x) pages i old new lt at err = err
  answered-err (Err e) pages i old new lt at err = same-in pages i old new lt at err

  pub answered-laid_out : {R E : Type 0} (r : Result R E) (k : Value A) (change : List T → List T) (pages : List H) (i : ℕ) (old new : H) → IsLocal key k change → ((xs : List T) → has_items (change xs) ≡ true) → IsPlaced key items k pages i → i < length pages → old ≡ get_or pages i old → OnOk r (items new ≡ change (items old)) → OnErr r (items new ≡ items old) → AreLaidOut key items pages → AreLaidOut key items (set pages i new)
  answered-laid_out (Ok x) k change pages i old new loc some p lt at ok err laid =
      changed-laid_out k change pages i old new loc p lt at ok (subst (λ page. has_items page ≡ true) (sym ok) (some (items old))) laid
  answered-laid_out (Err e) k change pages i old new loc some p lt at ok err laid = same-laid_out pages i old new lt at err laid

  -- ---- a page that goes, for it has no item left

  pub gone-in : (k : Value A) (change : List T → List T) (pages left : List H) (i : ℕ) (old new : H) → IsLocal key k change → IsPlaced key items k pages i → i < length pages → old ≡ get_or pages i old → items new ≡ change (items old) → has_items (items new) ≡ false → left ≡ left_pages pages i new → joined left ≡ change (joined pages)
  gone-in k change pages left i old new loc p lt at made none removed =
      ap joined removed ∙ left-flat items pages i new lt (no_items (items new) none) ∙ changed-in k change pages i old new loc p lt at made

  pub gone-laid_out : (k : Value A) (change : List T → List T) (pages left : List H) (i : ℕ) (old new : H) → IsLocal key k change → IsPlaced key items k pages i → i < length pages → old ≡ get_or pages i old → items new ≡ change (items old) → has_items (items new) ≡ false → left ≡ left_pages pages i new → AreLaidOut key items pages → AreLaidOut key items left
  gone-laid_out k change pages left i old new loc p lt at made none removed laid = (
    subst (IsInOrder key) (sym (gone-in k change pages left i old new loc p lt at made none removed)) (loc.ordered (joined pages) laid.0),
    subst (AllByRecursion Filled) (sym removed) (left-all Filled pages i new laid.1),
  )

  -- ---- a page more

  pub pushed : (pages new : List H) (page : H) → new ≡ pages ++ page ∷ [] → joined new ≡ joined pages ++ items page
  pushed pages new page push = ap joined push ∙ flat_map-append items pages (page ∷ []) ∙ ap (λ rest. joined pages ++ rest) (append-nil (items page))

  pub pushed-laid_out : (pages new : List H) (page : H) → new ≡ pages ++ page ∷ [] → IsInOrder key (joined pages ++ items page) → Filled page → AreLaidOut key items pages → AreLaidOut key items new
  pushed-laid_out pages new page push sorted some laid = (
    subst (IsInOrder key) (sym (pushed pages new page push)) sorted,
    subst (AllByRecursion Filled) (sym push) (all-append Filled pages (page ∷ []) laid.1 (some, tt)),
  )

  pub none-laid_out : (pages : List H) → pages ≡ [] → AreLaidOut key items pages
  unfolding IsStrictlySortedBy
  none-laid_out pages e = subst (AreLaidOut key items) (sym e) (tt, tt)

  -- ---- a page that is cut

  pub cut-joined : (pages new : List H) (i : ℕ) (old lower upper : H) → i < length pages → old ≡ get_or pages i old → items lower ++ items upper ≡ items old → new ≡ cut_pages pages i lower upper → joined new ≡ joined pages
  cut-joined pages new i old lower upper lt at parts inserted = ap joined inserted ∙ cut-flat items pages i old lower upper lt at parts

  pub cut-laid_out : (pages new : List H) (i : ℕ) (old lower upper : H) → i < length pages → old ≡ get_or pages i old → items lower ++ items upper ≡ items old → Filled lower → Filled upper → new ≡ cut_pages pages i lower upper → AreLaidOut key items pages → AreLaidOut key items new
  cut-laid_out pages new i old lower upper lt at parts low up inserted laid = (
    subst (IsInOrder key) (sym (cut-joined pages new i old lower upper lt at parts inserted)) laid.0,
    subst (AllByRecursion Filled) (sym inserted) (cut-all Filled pages i lower upper lt low up laid.1),
  )
