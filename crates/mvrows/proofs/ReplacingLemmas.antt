-- Rows of a commit in the place of all versions of their keys: that is what an install and a settling leave where no older version may be read.
use Rattle.std.proofs.Common.{suc, zero, ◌≡◌, refl, sym, ap, subst, ◌∙◌, ℕ, ◌+◌, ◌<◌, Bool, true, false, cond, ◌&&◌, List, [], ◌∷◌, ◌++◌, map, take, drop, length, Some, None, Result, Ok, Err, get_or, set, arith, add-one}
use Rattle.std.specs.Prelude.{◌==◌, is_some, nat_le, OnOk}
use Rattle.std.specs.List.{AllByRecursion}
use Rattle.std.specs.List.Sorted.{IsStrictlySortedBy}
use Rattle.std.specs.Option.{option_map_or}
use Rattle.std.specs.Ordering.{ordering_reverse}
use Rattle.std.specs.declared.cmp.Ordering.TheVariants.{Equal, Greater}
use Rattle.std.proofs.lemmas.Bool.{and_parts}
use Rattle.std.proofs.lemmas.Bool.Decides.{nat_tests}
use Rattle.std.proofs.lemmas.Cmp.{tied_itself}
use Rattle.std.proofs.lemmas.List.{get_or-set_same, length-map, length-set, map-set, set-get_or, set-set}
use Rattle.value.specs.Order.{value_cmp, value_cmp-total}
use Rattle.value.specs.declared.value.Value.{Value}
use Rattle.value.proofs.Basics.{all-append, all-get, take_next}
use Rattle.schema.specs.declared.changes.Change.{Change}
use Rattle.schema.specs.Plain.{same}
use Rattle.schema.proofs.PagedLemmas.{pushed}
use Rattle.schema.proofs.PlainLemmas.{same_value}
use Rattle.mvrows.specs.Versions.{Version, KeyVersions, VersionedRows, versions_of, IsInOrder}
use Rattle.mvrows.specs.Installing.{first_version, newer, put_version, install_change, installed}
use Rattle.mvrows.specs.Pruning.{pruned_versions, if_row}
use Rattle.mvrows.specs.Replacing.{is_row_of, row_change, replaced_key, left_after, replaced, left}
use Rattle.mvrows.specs.Settling.{Needed, shown_versions, read_versions, settled_versions, settled_key, if_version, settle_key, settle_change, settled}
use Rattle.mvrows.specs.HeldRows.{Held, chain_key, rows_in, rows_held, has_keys}
use Rattle.mvrows.proofs.VersionLemmas.{IsLeast}

pub ok-holds : {T E : Type 0} (r : Result T E) (P : Type 0) → P → OnOk r P
ok-holds (Ok value) P p = p
ok-holds (Err e) P p = tt

module _ {A : Type 0} where
  -- the version of a change
  abbrev version : ℕ → Change A → Version A
  version commit x = record { number = commit; fields = x.fields }

  -- ---- one table after another of the same keys

  pub replaced-append : (t commit : ℕ) (xs : List (Change A)) (ks ls : VersionedRows A) → replaced t commit xs (ks ++ ls) ≡ replaced t commit xs ks ++ replaced t commit (left t xs ks) ls
  replaced-append t commit xs [] ls = refl
  replaced-append t commit xs (k ∷ ks) ls = ap (λ rest. replaced_key t commit xs k ∷ rest) (replaced-append t commit (left_after t xs k) ks ls)

  pub left-append : (t : ℕ) (xs : List (Change A)) (ks ls : VersionedRows A) → left t xs (ks ++ ls) ≡ left t (left t xs ks) ls
  left-append t xs [] ls = refl
  left-append t xs (k ∷ ks) ls = left-append t (left_after t xs k) ks ls

  -- ---- the keys stay

  key-parts : (t : ℕ) (x : Change A) (k : KeyVersions A) → is_row_of t x k ≡ true → (x.key ≡ k.key) × (x.table ≡ t) × (is_some x.fields ≡ true)
  key-parts t x k is =
      let outer = and_parts (x.table == t && same x.key k.key) (is_some x.fields) is in
      let inner = and_parts (x.table == t) (same x.key k.key) outer.0 in
      (same_value x.key k.key inner.1, by_number x.table inner.0, outer.1)
    where
      by_number : (n : ℕ) → (n == t) ≡ true → n ≡ t
      by_number n e = grind (arith, nat_tests)

  key-stays : (t commit : ℕ) (xs : List (Change A)) (k : KeyVersions A) → (replaced_key t commit xs k).key ≡ k.key
  key-stays t commit [] k = refl
  key-stays t commit (x ∷ xs) k = by_test (is_row_of t x k) refl
    where
      by_test : (b : Bool) → is_row_of t x k ≡ b → (option_map_or (λ (y : Change A). first_version y.key (version commit y)) (cond b (Some x) None) k).key ≡ k.key
      by_test true is = (key-parts t x k is).0
      by_test false is = refl

  pub keys-stay : (t commit : ℕ) (xs : List (Change A)) (ks : VersionedRows A) → map (λ r. r.key) (replaced t commit xs ks) ≡ map (λ r. r.key) ks
  keys-stay t commit xs [] = refl
  keys-stay t commit xs (k ∷ ks) = ap (λ key. key ∷ map (λ (r : KeyVersions A). r.key) (replaced t commit (left_after t xs k) ks)) (key-stays t commit xs k) ∙ ap (λ keys. k.key ∷ keys) (keys-stay t commit (left_after t xs k) ks)

  pub order-stays : (t commit : ℕ) (xs : List (Change A)) (ks : VersionedRows A) → IsInOrder ks → IsInOrder (replaced t commit xs ks)
  order-stays t commit xs ks sorted = subst (IsStrictlySortedBy value_cmp) (sym (keys-stay t commit xs ks)) sorted

  pub some-stay : (t commit : ℕ) (xs : List (Change A)) (ks : VersionedRows A) → has_keys (replaced t commit xs ks) ≡ has_keys ks
  some-stay t commit xs [] = refl
  some-stay t commit xs (k ∷ ks) = refl

  -- ---- what each change that came to a key is known to be

  each-come : (P : Change A → Type 0) (t : ℕ) (xs : List (Change A)) (ks : VersionedRows A) → AllByRecursion (λ k. (x : Change A) → is_row_of t x k ≡ true → P x) ks → left t xs ks ≡ [] → AllByRecursion P xs
  each-come P t xs [] known none = subst (AllByRecursion P) (sym none) tt
  each-come P t [] (k ∷ ks) known none = tt
  each-come P t (x ∷ xs) (k ∷ ks) known none = by_test (is_row_of t x k) refl none (each-come P t xs ks known.1) (each-come P t (x ∷ xs) ks known.1)
    where
      by_test : (b : Bool) → is_row_of t x k ≡ b → left t (cond (is_some (cond b (Some x) None)) xs (x ∷ xs)) ks ≡ [] → (left t xs ks ≡ [] → AllByRecursion P xs) → (left t (x ∷ xs) ks ≡ [] → AllByRecursion P (x ∷ xs)) → AllByRecursion P (x ∷ xs)
      by_test true is e taken passed = (known.0 x is, taken e)
      by_test false is e taken passed = passed e

  -- each change is of a key above this one
  abbrev AreAbove : Value A → List (Change A) → Type 0
  AreAbove k xs = AllByRecursion (λ x. value_cmp x.key k ≡ Greater) xs

  above-rows : (t : ℕ) (k : Value A) (ks : VersionedRows A) → IsLeast k ks → AllByRecursion (λ r. (x : Change A) → is_row_of t x r ≡ true → value_cmp x.key k ≡ Greater) ks
  above-rows t k [] least = tt
  above-rows t k (r ∷ rs) least = (
    λ x is. subst (λ key. value_cmp key k ≡ Greater) (sym (key-parts t x r is).0) (value_cmp-total.antisymm r.key k ∙ ap ordering_reverse least.0),
    above-rows t k rs least.1,
  )

  of_table-rows : (t : ℕ) (ks : VersionedRows A) → AllByRecursion (λ r. (x : Change A) → is_row_of t x r ≡ true → x.table ≡ t) ks
  of_table-rows t [] = tt
  of_table-rows t (r ∷ rs) = (λ x is. (key-parts t x r is).1, of_table-rows t rs)

  -- ---- all changes of one table

  abbrev put_each : ℕ → List (Change A) → VersionedRows A → VersionedRows A
  put_each commit [] rows = rows
  put_each commit (x ∷ xs) rows = put_each commit xs (put_version x.key (version commit x) rows)

  abbrev settle_each : Needed → List (Change A) → VersionedRows A → VersionedRows A
  settle_each needed [] rows = rows
  settle_each needed (x ∷ xs) rows = settle_each needed xs (settle_key needed x.key rows)

  put_each-above : (commit : ℕ) (xs : List (Change A)) (k : KeyVersions A) (ks : VersionedRows A) → AreAbove k.key xs → put_each commit xs (k ∷ ks) ≡ k ∷ put_each commit xs ks
  put_each-above commit [] k ks above = refl
  put_each-above commit (x ∷ xs) k ks above =
      let step : put_version x.key (version commit x) (k ∷ ks) ≡ k ∷ put_version x.key (version commit x) ks = rw above.0 refl in
      ap (put_each commit xs) step ∙ put_each-above commit xs k (put_version x.key (version commit x) ks) above.1

  settle_each-above : (needed : Needed) (xs : List (Change A)) (k : KeyVersions A) (ks : VersionedRows A) → AreAbove k.key xs → settle_each needed xs (k ∷ ks) ≡ k ∷ settle_each needed xs ks
  settle_each-above needed [] k ks above = refl
  settle_each-above needed (x ∷ xs) k ks above =
      let step : settle_key needed x.key (k ∷ ks) ≡ k ∷ settle_key needed x.key ks = rw above.0 refl in
      ap (settle_each needed xs) step ∙ settle_each-above needed xs k (settle_key needed x.key ks) above.1

  -- ---- no older version is left

  none-shown : (next : ℕ) (vs : List (Version A)) → shown_versions [] next vs ≡ []
  none-shown next [] = refl
  none-shown next (v ∷ vs) = none-shown next vs

  settled-first : (needed : Needed) (v : Version A) (vs : List (Version A)) → needed.snapshots ≡ [] → is_some v.fields ≡ true → settled_versions needed (v ∷ vs) ≡ v ∷ []
  settled-first needed v vs none row = by_test (nat_le v.number needed.oldest)
    where
      alone : if_row v ≡ v ∷ []
      alone = rw row refl

      read : (ws : List (Version A)) → read_versions needed.snapshots (v ∷ ws) ≡ v ∷ []
      read ws = ap (λ ss. read_versions ss (v ∷ ws)) none ∙ ap (λ us. v ∷ us) (none-shown v.number ws)

      by_test : (b : Bool) → read_versions needed.snapshots (cond b (if_row v) (v ∷ pruned_versions needed.oldest vs)) ≡ v ∷ []
      by_test true = ap (read_versions needed.snapshots) alone ∙ read []
      by_test false = read (pruned_versions needed.oldest vs)

  -- a key that is put in and settled
  taken-over : (needed : Needed) (commit : ℕ) (x : Change A) (k : KeyVersions A) (ks : VersionedRows A) → needed.snapshots ≡ [] → x.key ≡ k.key → is_some x.fields ≡ true → settle_key needed x.key (newer (version commit x) k ∷ ks) ≡ first_version x.key (version commit x) ∷ ks
  taken-over needed commit x k ks none is row =
      let tied : value_cmp x.key k.key ≡ Equal = subst (λ key. value_cmp x.key key ≡ Equal) is (tied-itself x.key) in
      let met : settle_key needed x.key (newer (version commit x) k ∷ ks) ≡ if_version (settled_key needed (newer (version commit x) k)) ks = rw tied refl in
      met ∙ ap (λ vs. if_version (record { key = k.key; versions = vs }) ks) (settled-first needed (version commit x) k.versions none row) ∙ ap (λ key. first_version key (version commit x) ∷ ks) (sym is)
    where
      tied-itself : (key : Value A) → value_cmp key key ≡ Equal
      tied-itself key = tied_itself value_cmp-total key

  put-tied : (commit : ℕ) (x : Change A) (k : KeyVersions A) (ks : VersionedRows A) → x.key ≡ k.key → put_version x.key (version commit x) (k ∷ ks) ≡ newer (version commit x) k ∷ ks
  put-tied commit x k ks is =
      let tied : value_cmp x.key k.key ≡ Equal = subst (λ key. value_cmp x.key key ≡ Equal) is (tied_itself value_cmp-total x.key) in
      rw tied refl

  -- ---- one table

  replaced-rows : (needed : Needed) (t commit : ℕ) (xs : List (Change A)) (rows : VersionedRows A) → needed.snapshots ≡ [] → IsInOrder rows → left t xs rows ≡ [] → settle_each needed xs (put_each commit xs rows) ≡ replaced t commit xs rows
  unfolding IsStrictlySortedBy
  replaced-rows needed t commit xs [] none sorted all = subst (λ ys. settle_each needed ys (put_each commit ys []) ≡ []) (sym all) refl
  replaced-rows needed t commit [] (k ∷ ks) none sorted all = ap (λ rest. k ∷ rest) (replaced-rows needed t commit [] ks none sorted.1 all)
  replaced-rows needed t commit (x ∷ xs) (k ∷ ks) none sorted all = by_test (is_row_of t x k) refl all (replaced-rows needed t commit xs ks none sorted.1) (replaced-rows needed t commit (x ∷ xs) ks none sorted.1)
    where
      by_test : (b : Bool) → is_row_of t x k ≡ b → left t (cond (is_some (cond b (Some x) None)) xs (x ∷ xs)) ks ≡ []
          → (left t xs ks ≡ [] → settle_each needed xs (put_each commit xs ks) ≡ replaced t commit xs ks)
          → (left t (x ∷ xs) ks ≡ [] → settle_each needed (x ∷ xs) (put_each commit (x ∷ xs) ks) ≡ replaced t commit (x ∷ xs) ks)
          → settle_each needed (x ∷ xs) (put_each commit (x ∷ xs) (k ∷ ks)) ≡ option_map_or (λ (y : Change A). first_version y.key (version commit y)) (cond b (Some x) None) k ∷ replaced t commit (cond (is_some (cond b (Some x) None)) xs (x ∷ xs)) ks
      by_test true is e taken passed =
          let parts = key-parts t x k is in
          let above : AreAbove k.key xs = each-come (λ y. value_cmp y.key k.key ≡ Greater) t xs ks (above-rows t k.key ks sorted.0) e in
          let put : put_each commit (x ∷ xs) (k ∷ ks) ≡ newer (version commit x) k ∷ put_each commit xs ks = ap (put_each commit xs) (put-tied commit x k ks parts.0) ∙ put_each-above commit xs (newer (version commit x) k) ks above in
          ap (λ rows. settle_each needed xs (settle_key needed x.key rows)) put
          ∙ ap (settle_each needed xs) (taken-over needed commit x k (put_each commit xs ks) none parts.0 parts.2)
          ∙ settle_each-above needed xs (first_version x.key (version commit x)) (put_each commit xs ks) (subst (λ key. AreAbove key xs) (sym parts.0) above)
          ∙ ap (λ rest. first_version x.key (version commit x) ∷ rest) (taken e)
      by_test false is e taken passed =
          let above : AreAbove k.key (x ∷ xs) = each-come (λ y. value_cmp y.key k.key ≡ Greater) t (x ∷ xs) ks (above-rows t k.key ks sorted.0) e in
          ap (settle_each needed (x ∷ xs)) (put_each-above commit (x ∷ xs) k ks above)
          ∙ settle_each-above needed (x ∷ xs) k (put_each commit (x ∷ xs) ks) above
          ∙ ap (λ rest. k ∷ rest) (passed e)

  -- ---- all tables

  installed-one : (t commit : ℕ) (xs : List (Change A)) (tables : List (VersionedRows A)) → t < length tables → AllByRecursion (λ x. x.table ≡ t) xs → installed commit xs tables ≡ set tables t (put_each commit xs (versions_of tables t))
  installed-one t commit [] tables lt one = sym (set-get_or tables t [])
  installed-one t commit (x ∷ xs) tables lt one =
      let rows = put_version x.key (version commit x) (versions_of tables t) in
      let step : install_change commit x tables ≡ set tables t rows = ap (λ n. set tables n (put_version x.key (version commit x) (versions_of tables n))) one.0 in
      ap (installed commit xs) step
      ∙ installed-one t commit xs (set tables t rows) (subst (λ n. t < n) (sym (length-set tables t rows)) lt) one.1
      ∙ set-set tables t rows _
      ∙ ap (λ rs. set tables t (put_each commit xs rs)) (get_or-set_same tables t rows [] lt)

  settled-one : (needed : Needed) (t : ℕ) (xs : List (Change A)) (tables : List (VersionedRows A)) → t < length tables → AllByRecursion (λ x. x.table ≡ t) xs → settled needed xs tables ≡ set tables t (settle_each needed xs (versions_of tables t))
  settled-one needed t [] tables lt one = sym (set-get_or tables t [])
  settled-one needed t (x ∷ xs) tables lt one =
      let rows = settle_key needed x.key (versions_of tables t) in
      let step : settle_change needed x tables ≡ set tables t rows = ap (λ n. set tables n (settle_key needed x.key (versions_of tables n))) one.0 in
      ap (settled needed xs) step
      ∙ settled-one needed t xs (set tables t rows) (subst (λ n. t < n) (sym (length-set tables t rows)) lt) one.1
      ∙ set-set tables t rows _
      ∙ ap (λ rs. set tables t (settle_each needed xs rs)) (get_or-set_same tables t rows [] lt)

  replaced-settled : (needed : Needed) (t commit : ℕ) (xs : List (Change A)) (tables : List (VersionedRows A)) → needed.snapshots ≡ [] → t < length tables → IsInOrder (versions_of tables t) → left t xs (versions_of tables t) ≡ []
      → set tables t (replaced t commit xs (versions_of tables t)) ≡ settled needed xs (installed commit xs tables)
  replaced-settled needed t commit xs tables none lt order all =
      let one : AllByRecursion (λ x. x.table ≡ t) xs = each-come (λ x. x.table ≡ t) t xs (versions_of tables t) (of_table-rows t (versions_of tables t)) all in
      let put = put_each commit xs (versions_of tables t) in
      sym (
      ap (settled needed xs) (installed-one t commit xs tables lt one)
      ∙ settled-one needed t xs (set tables t put) (subst (λ n. t < n) (sym (length-set tables t put)) lt) one
      ∙ set-set tables t put _
      ∙ ap (λ rs. set tables t (settle_each needed xs rs)) (get_or-set_same tables t put [] lt)
      ∙ ap (set tables t) (replaced-rows needed t commit xs (versions_of tables t) none order all)
      )

  -- ---- as the code keeps them

  -- the change at a place is taken
  pub left-taken : (t i : ℕ) (xs : List (Change A)) (k : KeyVersions A) (x : Change A) → Some x ≡ row_change t (drop i xs) k → drop (i + 1) xs ≡ left_after t (drop i xs) k
  left-taken t i xs k x is = drop-twice xs i ∙ ap (λ o. cond (is_some o) (drop 1 (drop i xs)) (drop i xs)) is
    where
      drop-twice : (ys : List (Change A)) (n : ℕ) → drop (n + 1) ys ≡ drop 1 (drop n ys)
      drop-twice ys n = rw add-one (by_step ys n)
        where
          by_step : (zs : List (Change A)) (m : ℕ) → drop (suc m) zs ≡ drop 1 (drop m zs)
          by_step [] zero = refl
          by_step [] (suc m) = refl
          by_step (z ∷ zs) zero = refl
          by_step (z ∷ zs) (suc m) = by_step zs m

  -- a key more
  pub key-more : (t commit i : ℕ) (xs ys : List (Change A)) (ks made new : VersionedRows A) (k one : KeyVersions A) → i < length ks → k ≡ get_or ks i k → new ≡ made ++ one ∷ [] → one ≡ replaced_key t commit ys k
      → made ≡ replaced t commit xs (take i ks) → ys ≡ left t xs (take i ks) → new ≡ replaced t commit xs (take (i + 1) ks)
  key-more t commit i xs ys ks made new k one lt at push is so_far come =
      push ∙ (λ j. so_far j ++ is j ∷ []) ∙ ap (λ cs. replaced t commit xs (take i ks) ++ replaced_key t commit cs k ∷ []) come
      ∙ sym (ap (replaced t commit xs) (take_next ks i k lt at) ∙ replaced-append t commit xs (take i ks) (k ∷ []))

  pub left-more : (t i : ℕ) (xs ys zs : List (Change A)) (ks : VersionedRows A) (k : KeyVersions A) → i < length ks → k ≡ get_or ks i k → zs ≡ left_after t ys k → ys ≡ left t xs (take i ks) → zs ≡ left t xs (take (i + 1) ks)
  left-more t i xs ys zs ks k lt at is come =
      is ∙ ap (λ cs. left_after t cs k) come ∙ sym (ap (left t xs) (take_next ks i k lt at) ∙ left-append t xs (take i ks) (k ∷ []))

  -- a page more
  rows-next : (leaves : List (Held A)) (i : ℕ) (leaf : Held A) → i < length leaves → leaf ≡ get_or leaves i leaf → rows_in (take (i + 1) leaves) ≡ rows_in (take i leaves) ++ leaf.rows
  rows-next leaves i leaf lt at = pushed chain_key (λ h. h.rows) (take i leaves) (take (i + 1) leaves) leaf (take_next leaves i leaf lt at)

  pub page-more : (t commit i : ℕ) (xs ys : List (Change A)) (leaves made new : List (Held A)) (leaf h : Held A) → i < length leaves → leaf ≡ get_or leaves i leaf → new ≡ made ++ h ∷ [] → h.rows ≡ replaced t commit ys leaf.rows
      → rows_in made ≡ replaced t commit xs (rows_in (take i leaves)) → ys ≡ left t xs (rows_in (take i leaves)) → rows_in new ≡ replaced t commit xs (rows_in (take (i + 1) leaves))
  page-more t commit i xs ys leaves made new leaf h lt at push is so_far come =
      pushed chain_key (λ h. h.rows) made new h push ∙ (λ j. so_far j ++ is j) ∙ ap (λ cs. replaced t commit xs (rows_in (take i leaves)) ++ replaced t commit cs leaf.rows) come
      ∙ sym (ap (replaced t commit xs) (rows-next leaves i leaf lt at) ∙ replaced-append t commit xs (rows_in (take i leaves)) leaf.rows)

  pub page-left : (t i : ℕ) (xs ys zs : List (Change A)) (leaves : List (Held A)) (leaf : Held A) → i < length leaves → leaf ≡ get_or leaves i leaf → zs ≡ left t ys leaf.rows → ys ≡ left t xs (rows_in (take i leaves)) → zs ≡ left t xs (rows_in (take (i + 1) leaves))
  page-left t i xs ys zs leaves leaf lt at is come =
      is ∙ ap (λ cs. left t cs leaf.rows) come ∙ sym (ap (left t xs) (rows-next leaves i leaf lt at) ∙ left-append t xs (rows_in (take i leaves)) leaf.rows)

  pub page-filled : (t commit i : ℕ) (ys : List (Change A)) (leaves made new : List (Held A)) (leaf h : Held A) → i < length leaves → leaf ≡ get_or leaves i leaf → new ≡ made ++ h ∷ [] → h.rows ≡ replaced t commit ys leaf.rows
      → AllByRecursion (λ g. has_keys g.rows ≡ true) leaves → AllByRecursion (λ g. has_keys g.rows ≡ true) made → AllByRecursion (λ g. has_keys g.rows ≡ true) new
  page-filled t commit i ys leaves made new leaf h lt at push is all so_far =
      let some : has_keys h.rows ≡ true = ap has_keys is ∙ some-stay t commit ys leaf.rows ∙ all-get (λ (g : Held A). has_keys g.rows ≡ true) leaves i leaf lt at all in
      subst (AllByRecursion (λ (g : Held A). has_keys g.rows ≡ true)) (sym push) (all-append (λ (g : Held A). has_keys g.rows ≡ true) made (h ∷ []) so_far (some, tt))

  -- a table
  pub replaced-held : (oldest commit t i : ℕ) (snapshots : List ℕ) (xs : List (Change A)) (tables : List (List (Held A))) (old made : List (Held A)) → snapshots ≡ [] → i ≡ t → i < length tables → old ≡ get_or tables i old
      → rows_in made ≡ replaced t commit xs (rows_in old) → left t xs (rows_in old) ≡ [] → IsInOrder (rows_in old)
      → rows_held (set tables i made) ≡ settled (record { oldest = oldest; snapshots = snapshots }) xs (installed commit xs (rows_held tables))
  replaced-held oldest commit t i snapshots xs tables old made none is lt at rows all order =
      let many : i < length (rows_held tables) = subst (λ n. i < n) (sym (length-map tables (λ (h : List (Held A)). rows_in h))) lt in
      let here : rows_in old ≡ versions_of (rows_held tables) i = here-is tables i old lt at in
      let within : t < length (rows_held tables) = subst (λ n. n < length (rows_held tables)) is many in
      let there : rows_in old ≡ versions_of (rows_held tables) t = here ∙ ap (versions_of (rows_held tables)) is in
      map-set rows_in tables i made
      ∙ (λ j. set (rows_held tables) (is j) (rows j))
      ∙ ap (λ rs. set (rows_held tables) t (replaced t commit xs rs)) there
      ∙ replaced-settled (record { oldest = oldest; snapshots = snapshots }) t commit xs (rows_held tables) none within (subst IsInOrder there order) (subst (λ rs. left t xs rs ≡ []) there all)
    where
      here-is : (ts : List (List (Held A))) (n : ℕ) (x : List (Held A)) → n < length ts → x ≡ get_or ts n x → rows_in x ≡ versions_of (rows_held ts) n
      here-is [] n x less e = absurd (omega arith)
      here-is (u ∷ us) zero x less e = ap rows_in e
      here-is (u ∷ us) (suc n) x less e = here-is us n x (omega arith) e
