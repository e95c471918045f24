-- What snapshots show after keys are settled by themselves, and what that leaves.
use Rattle.std.proofs.Common.{suc, zero, ◌≡◌, refl, sym, ap, subst, ◌∙◌, ℕ, ◌+◌, ◌≤◌, Bool, true, false, cond, ◌⊎◌, inl, inr, List, [], ◌∷◌, length, Option, Some, None, get_or, set}
use Rattle.std.specs.Prelude.{◌==◌, is_some, nat_le, IfSome, slice_get}
use Rattle.std.specs.List.{AllByRecursion, cons_option, list_any}
use Rattle.std.specs.List.Sorted.{IsStrictlySortedBy}
use Rattle.std.specs.Option.{option_map, option_map_or, option_and_then}
use Rattle.std.specs.Ordering.{match_ordering, is_eq}
use Rattle.std.specs.declared.cmp.Ordering.{Ordering}
use Rattle.std.specs.declared.cmp.Ordering.TheVariants.{Less, Equal, Greater}
use Rattle.std.proofs.lemmas.List.{map-set, set-get_or, length-set}
use Rattle.value.specs.Order.{value_cmp, value_cmp-total}
use Rattle.value.specs.declared.value.Value.{Value}
use Rattle.value.proofs.Basics.{all-set}
use Rattle.schema.specs.declared.changes.Change.{Change}
use Rattle.schema.specs.Plain.{same}
use Rattle.schema.proofs.PlainLemmas.{same_value}
use Rattle.mvrows.specs.Versions.{Version, KeyVersions, VersionedRows, versions_of, IsInOrder, AreInOrder, shown_fields, shown_row, shown_rows, shown, newest_version, newest_in, newest, RowsAreBelow, TablesAreBelow}
use Rattle.mvrows.specs.Fresh.{is_from, IsFresh}
use Rattle.mvrows.specs.Pruning.{if_row, pruned_versions, are_some, has_version, IsPruned, KeepsNewest}
use Rattle.mvrows.specs.Settling.{Needed, settled_versions, settled_key, found, if_version, settle_key, settle_change, settled, MayBeRead, AreSettled, AreFew, KeysHaveFew}
use Rattle.mvrows.specs.HeldRows.{AllVersioned, AreVersioned}
use Rattle.mvrows.proofs.VersionLemmas.{IsLeast, all-get_or, get_or-map, table_in_order}
use Rattle.mvrows.proofs.ReadLemmas.{IsReadOf, read-first, read-some, shown-settled_versions, settled-one_left, settled-few, settled_versions-below, newest-settled_versions}

-- what a table keeps, all tables keep where one is changed
pub set-kept : {X : Type 0} (P : X → X → Type 0) → ((x : X) → P x x) → (xs : List X) (u t : ℕ) (d y : X) → P (get_or xs u d) y → P (get_or xs t d) (get_or (set xs u y) t d)
set-kept P same [] u t d y step = same d
set-kept P same (x ∷ xs) zero zero d y step = step
set-kept P same (x ∷ xs) zero (suc t) d y step = same (get_or xs t d)
set-kept P same (x ∷ xs) (suc u) zero d y step = same x
set-kept P same (x ∷ xs) (suc u) (suc t) d y step = set-kept P same xs u t d y step

-- the last commit of a key, before and after
keeps-same : (oldest : ℕ) (o : Option ℕ) → KeepsNewest oldest o o
keeps-same oldest None = tt
keeps-same oldest (Some n) = refl

keeps-trans : (oldest : ℕ) (a b c : Option ℕ) → KeepsNewest oldest a b → KeepsNewest oldest b c → KeepsNewest oldest a c
keeps-trans oldest a b (Some n) first second = subst (KeepsNewest oldest a) second first
keeps-trans oldest a None None first second = first
keeps-trans oldest a (Some m) None first second = subst (λ o. IfSome o (λ n. n ≤ oldest)) (sym first) second

module _ {A : Type 0} where
  -- ---- what is shown

  shown-if_version : (n : ℕ) (key : Value A) (vs : List (Version A)) (ks : VersionedRows A) → shown_rows n (if_version (record { key = key; versions = vs }) ks) ≡ cons_option (option_map (λ f. (key, f)) (shown_fields n vs)) (shown_rows n ks)
  shown-if_version n key [] ks = refl
  shown-if_version n key (v ∷ vs) ks = refl

  -- n is one of these snapshots, or no version of these keys is above it
  abbrev IsReadIn : Needed → ℕ → VersionedRows A → Type 0
  IsReadIn needed n rows = (list_any (λ s. s == n) needed.snapshots ≡ true) ⊎ RowsAreBelow (n + 1) rows

  first-read : (needed : Needed) (n : ℕ) (r : KeyVersions A) (rs : VersionedRows A) → IsReadIn needed n (r ∷ rs) → IsReadOf needed.snapshots n r.versions
  first-read needed n r rs (inl is) = inl is
  first-read needed n r rs (inr below) = inr below.0

  rest-read : (needed : Needed) (n : ℕ) (r : KeyVersions A) (rs : VersionedRows A) → IsReadIn needed n (r ∷ rs) → IsReadIn needed n rs
  rest-read needed n r rs (inl is) = inl is
  rest-read needed n r rs (inr below) = inr below.1

  shown_rows-settle : (needed : Needed) (n : ℕ) (key : Value A) (rows : VersionedRows A) → needed.oldest ≤ n → IsReadIn needed n rows → shown_rows n (settle_key needed key rows) ≡ shown_rows n rows
  shown_rows-settle needed n key [] le read = refl
  shown_rows-settle needed n key (r ∷ rs) le read = by_order (value_cmp key r.key) (shown_rows-settle needed n key rs le (rest-read needed n r rs read))
    where
      by_order : (o : Ordering) → shown_rows n (settle_key needed key rs) ≡ shown_rows n rs → shown_rows n (match_ordering o (r ∷ rs) (if_version (settled_key needed r) rs) (r ∷ settle_key needed key rs)) ≡ shown_rows n (r ∷ rs)
      by_order Less rest = refl
      by_order Equal rest =
          shown-if_version n r.key (settled_versions needed r.versions) rs
          ∙ ap (λ o. cons_option (option_map (λ f. (r.key, f)) o) (shown_rows n rs)) (shown-settled_versions needed n r.versions le (first-read needed n r rs read))
      by_order Greater rest = ap (cons_option (shown_row n r)) rest

  read-at : (needed : Needed) (n t : ℕ) (tables : List (VersionedRows A)) → MayBeRead needed n tables → IsReadIn needed n (versions_of tables t)
  read-at needed n t tables read = go read.1
    where
      go : (list_any (λ s. s == n) needed.snapshots ≡ true) ⊎ TablesAreBelow (n + 1) tables → IsReadIn needed n (versions_of tables t)
      go (inl is) = inl is
      go (inr below) = inr (all-get_or (RowsAreBelow (n + 1)) tables t [] tt below)

  shown-settle_change : (needed : Needed) (n : ℕ) (x : Change A) (tables : List (VersionedRows A)) → MayBeRead needed n tables → shown n (settle_change needed x tables) ≡ shown n tables
  shown-settle_change needed n x tables read =
      map-set (shown_rows n) tables x.table _
      ∙ ap (set (shown n tables) x.table) (shown_rows-settle needed n x.key (versions_of tables x.table) read.0 (read-at needed n x.table tables read) ∙ sym (get_or-map (shown_rows n) tables x.table []))
      ∙ set-get_or (shown n tables) x.table []

  -- ---- the order of keys

  settle-least : (needed : Needed) (key k : Value A) (rows : VersionedRows A) → IsLeast k rows → IsLeast k (settle_key needed key rows)
  settle-least needed key k [] least = tt
  settle-least needed key k (r ∷ rs) least = by_order (value_cmp key r.key) (settle-least needed key k rs least.1)
    where
      if_any : (b : Bool) → IsLeast k (cond b (settled_key needed r ∷ rs) rs)
      if_any true = least
      if_any false = least.1

      by_order : (o : Ordering) → IsLeast k (settle_key needed key rs) → IsLeast k (match_ordering o (r ∷ rs) (if_version (settled_key needed r) rs) (r ∷ settle_key needed key rs))
      by_order Less rest = least
      by_order Equal rest = if_any (has_version (settled_key needed r))
      by_order Greater rest = (least.0, rest)

  pub settle-in_order : (needed : Needed) (key : Value A) (rows : VersionedRows A) → IsInOrder rows → IsInOrder (settle_key needed key rows)
  unfolding IsStrictlySortedBy
  settle-in_order needed key [] sorted = tt
  settle-in_order needed key (r ∷ rs) sorted = by_order (value_cmp key r.key) (settle-in_order needed key rs sorted.1)
    where
      if_any : (b : Bool) → IsInOrder (cond b (settled_key needed r ∷ rs) rs)
      if_any true = sorted
      if_any false = sorted.1

      by_order : (o : Ordering) → IsInOrder (settle_key needed key rs) → IsInOrder (match_ordering o (r ∷ rs) (if_version (settled_key needed r) rs) (r ∷ settle_key needed key rs))
      by_order Less rest = sorted
      by_order Equal rest = if_any (has_version (settled_key needed r))
      by_order Greater rest = (settle-least needed key r.key rs sorted.0, rest)

  settle_change-in_order : (needed : Needed) (x : Change A) (tables : List (VersionedRows A)) → AreInOrder tables → AreInOrder (settle_change needed x tables)
  settle_change-in_order needed x tables sorted = all-set IsInOrder tables x.table _ (settle-in_order needed x.key (versions_of tables x.table) (table_in_order tables x.table sorted)) sorted

  pub settled-in_order : (needed : Needed) (xs : List (Change A)) (tables : List (VersionedRows A)) → AreInOrder tables → AreInOrder (settled needed xs tables)
  settled-in_order needed [] tables sorted = sorted
  settled-in_order needed (x ∷ xs) tables sorted = settled-in_order needed xs (settle_change needed x tables) (settle_change-in_order needed x tables sorted)

  -- ---- numbers below the next

  settle-below : (next : ℕ) (needed : Needed) (key : Value A) (rows : VersionedRows A) → RowsAreBelow next rows → RowsAreBelow next (settle_key needed key rows)
  settle-below next needed key [] below = tt
  settle-below next needed key (r ∷ rs) below = by_order (value_cmp key r.key) (settle-below next needed key rs below.1)
    where
      if_any : (b : Bool) → RowsAreBelow next (cond b (settled_key needed r ∷ rs) rs)
      if_any true = (settled_versions-below next needed r.versions below.0, below.1)
      if_any false = below.1

      by_order : (o : Ordering) → RowsAreBelow next (settle_key needed key rs) → RowsAreBelow next (match_ordering o (r ∷ rs) (if_version (settled_key needed r) rs) (r ∷ settle_key needed key rs))
      by_order Less rest = below
      by_order Equal rest = if_any (has_version (settled_key needed r))
      by_order Greater rest = (below.0, rest)

  settle_change-below : (next : ℕ) (needed : Needed) (x : Change A) (tables : List (VersionedRows A)) → TablesAreBelow next tables → TablesAreBelow next (settle_change needed x tables)
  settle_change-below next needed x tables below = all-set (RowsAreBelow next) tables x.table _ (settle-below next needed x.key (versions_of tables x.table) (all-get_or (RowsAreBelow next) tables x.table [] tt below)) below

  pub settled-below : (next : ℕ) (needed : Needed) (xs : List (Change A)) (tables : List (VersionedRows A)) → TablesAreBelow next tables → TablesAreBelow next (settled needed xs tables)
  settled-below next needed [] tables below = below
  settled-below next needed (x ∷ xs) tables below = settled-below next needed xs (settle_change needed x tables) (settle_change-below next needed x tables below)

  -- ---- what is shown after all

  read-on : (needed : Needed) (n : ℕ) (x : Change A) (tables : List (VersionedRows A)) → MayBeRead needed n tables → MayBeRead needed n (settle_change needed x tables)
  read-on needed n x tables read = (read.0, go read.1)
    where
      go : (list_any (λ s. s == n) needed.snapshots ≡ true) ⊎ TablesAreBelow (n + 1) tables → (list_any (λ s. s == n) needed.snapshots ≡ true) ⊎ TablesAreBelow (n + 1) (settle_change needed x tables)
      go (inl is) = inl is
      go (inr below) = inr (settle_change-below (n + 1) needed x tables below)

  pub shown-settled : (needed : Needed) (n : ℕ) (xs : List (Change A)) (tables : List (VersionedRows A)) → MayBeRead needed n tables → shown n (settled needed xs tables) ≡ shown n tables
  shown-settled needed n [] tables read = refl
  shown-settled needed n (x ∷ xs) tables read = shown-settled needed n xs (settle_change needed x tables) (read-on needed n x tables read) ∙ shown-settle_change needed n x tables read

  -- ---- each key has a version

  settle-versioned : (needed : Needed) (key : Value A) (rows : VersionedRows A) → AllVersioned rows → AllVersioned (settle_key needed key rows)
  settle-versioned needed key [] all = tt
  settle-versioned needed key (r ∷ rs) all = by_order (value_cmp key r.key) (settle-versioned needed key rs all.1)
    where
      if_any : (b : Bool) → has_version (settled_key needed r) ≡ b → AllVersioned (cond b (settled_key needed r ∷ rs) rs)
      if_any true e = (e, all.1)
      if_any false e = all.1

      by_order : (o : Ordering) → AllVersioned (settle_key needed key rs) → AllVersioned (match_ordering o (r ∷ rs) (if_version (settled_key needed r) rs) (r ∷ settle_key needed key rs))
      by_order Less rest = all
      by_order Equal rest = if_any (has_version (settled_key needed r)) refl
      by_order Greater rest = (all.0, rest)

  pub settled-versioned : (needed : Needed) (xs : List (Change A)) (tables : List (VersionedRows A)) → AreVersioned tables → AreVersioned (settled needed xs tables)
  settled-versioned needed [] tables all = all
  settled-versioned needed (x ∷ xs) tables all =
      settled-versioned needed xs (settle_change needed x tables)
      (all-set AllVersioned tables x.table _ (settle-versioned needed x.key (versions_of tables x.table) (all-get_or AllVersioned tables x.table [] tt all)) all)

  -- ---- a key that is found

  above-missing : (k : Value A) (rows : VersionedRows A) → IsLeast k rows → found k rows ≡ None
  above-missing k [] least = refl
  above-missing k (r ∷ rs) least = rw least.0 (above-missing k rs least.1)

  -- the key that is first isn't among the others
  first-alone : (k : Value A) (r : KeyVersions A) (rs : VersionedRows A) → same k r.key ≡ true → IsLeast r.key rs → found k rs ≡ None
  first-alone k r rs e least = above-missing k rs (subst (λ x. IsLeast x rs) (sym (same_value k r.key e)) least)

  -- what pruning leaves to a key, settling leaves to each
  pub found-settle : (needed : Needed) (P : KeyVersions A → Type 0) → ((r : KeyVersions A) → has_version (settled_key needed r) ≡ true → P r → P (settled_key needed r)) → (key k : Value A) (rows : VersionedRows A) → IsInOrder rows → IfSome (found k rows) P → IfSome (found k (settle_key needed key rows)) P
  unfolding IsStrictlySortedBy
  found-settle needed P step key k [] sorted all = tt
  found-settle needed P step key k (r ∷ rs) sorted all = by_order (value_cmp key r.key) (same k r.key) refl all (λ rest. found-settle needed P step key k rs sorted.1 rest)
    where
      if_any : (b d : Bool) → has_version (settled_key needed r) ≡ b → same k r.key ≡ d → IfSome (cond d (Some r) (found k rs)) P → IfSome (found k (cond b (settled_key needed r ∷ rs) rs)) P
      if_any true true e is p = rw is (step r e p)
      if_any true false e is p = rw is p
      if_any false true e is p = rw (first-alone k r rs is sorted.0) tt
      if_any false false e is p = p

      by_order : (o : Ordering) (d : Bool) → same k r.key ≡ d → IfSome (found k (r ∷ rs)) P → (IfSome (found k rs) P → IfSome (found k (settle_key needed key rs)) P) → IfSome (found k (match_ordering o (r ∷ rs) (if_version (settled_key needed r) rs) (r ∷ settle_key needed key rs))) P
      by_order Less d is p rest = p
      by_order Equal d is p rest = if_any (has_version (settled_key needed r)) d refl is (subst (λ b. IfSome (cond b (Some r) (found k rs)) P) is p)
      by_order Greater true is p rest = rw is (subst (λ b. IfSome (cond b (Some r) (found k rs)) P) is p)
      by_order Greater false is p rest = rw is (rest (subst (λ b. IfSome (cond b (Some r) (found k rs)) P) is p))

  -- ---- what holds of each key that is settled

  module _ (needed : Needed) (P : KeyVersions A → Type 0) (each : (r : KeyVersions A) → P (settled_key needed r)) where
    found-own : (key : Value A) (rows : VersionedRows A) → IsInOrder rows → IfSome (found key (settle_key needed key rows)) P
    unfolding IsStrictlySortedBy
    found-own key [] sorted = tt
    found-own key (r ∷ rs) sorted = by_order (value_cmp key r.key) refl (found-own key rs sorted.1)
      where
        less_above : (rows : VersionedRows A) → value_cmp key r.key ≡ Less → IsLeast r.key rows → IsLeast key rows
        less_above [] below least = tt
        less_above (l ∷ ls) below least = (value_cmp-total.trans key r.key l.key below least.0, less_above ls below least.1)

        if_any : (b : Bool) → same key r.key ≡ true → IfSome (found key (cond b (settled_key needed r ∷ rs) rs)) P
        if_any true is = rw is (each r)
        if_any false is = rw (first-alone key r rs is sorted.0) tt

        by_order : (o : Ordering) → value_cmp key r.key ≡ o → IfSome (found key (settle_key needed key rs)) P → IfSome (found key (match_ordering o (r ∷ rs) (if_version (settled_key needed r) rs) (r ∷ settle_key needed key rs))) P
        by_order Less is rest = rw (above-missing key (r ∷ rs) (is, less_above rs is sorted.0)) tt
        by_order Equal is rest = if_any (has_version (settled_key needed r)) (ap is_eq is)
        by_order Greater is rest = rw is rest

    found-stays : (x : Change A) (tables : List (VersionedRows A)) (t : ℕ) (k : Value A) → AreInOrder tables → IfSome (found k (versions_of tables t)) P → IfSome (found k (versions_of (settle_change needed x tables) t)) P
    found-stays x tables t k sorted =
        set-kept (λ old new. IfSome (found k old) P → IfSome (found k new) P) (λ rows p. p) tables x.table t [] _
        (found-settle needed P (λ r has p. each r) x.key k (versions_of tables x.table) (table_in_order tables x.table sorted))

    -- what is settled stays so
    found-settled : (xs : List (Change A)) (tables : List (VersionedRows A)) (t : ℕ) (k : Value A) → AreInOrder tables → IfSome (found k (versions_of tables t)) P → IfSome (found k (versions_of (settled needed xs tables) t)) P
    found-settled [] tables t k sorted p = p
    found-settled (x ∷ xs) tables t k sorted p = found-settled xs (settle_change needed x tables) t k (settle_change-in_order needed x tables sorted) (found-stays x tables t k sorted p)

    settle_change-own : (key : Value A) (tables : List (VersionedRows A)) (t : ℕ) → AreInOrder tables → IfSome (found key (versions_of (set tables t (settle_key needed key (versions_of tables t))) t)) P
    settle_change-own key [] t sorted = tt
    settle_change-own key (rows ∷ tables) zero sorted = found-own key rows sorted.0
    settle_change-own key (rows ∷ tables) (suc t) sorted = settle_change-own key tables t sorted.1

    settled-each : (xs : List (Change A)) (tables : List (VersionedRows A)) → AreInOrder tables → AllByRecursion (λ x. IfSome (found x.key (versions_of (settled needed xs tables) x.table)) P) xs
    settled-each [] tables sorted = tt
    settled-each (x ∷ xs) tables sorted =
        let more = settle_change-in_order needed x tables sorted in
        (found-settled xs (settle_change needed x tables) x.table x.key more (settle_change-own x.key tables x.table sorted), settled-each xs (settle_change needed x tables) more)

  -- at most one version isn't above the oldest
  pub settled-one : (needed : Needed) (xs : List (Change A)) (tables : List (VersionedRows A)) → AreInOrder tables → AreSettled needed xs (settled needed xs tables)
  settled-one needed xs tables sorted = settled-each needed (IsPruned needed.oldest) (λ r. settled-one_left needed r.versions) xs tables sorted

  -- and there is at most one more than there are snapshots
  pub settled-keys_few : (needed : Needed) (xs : List (Change A)) (tables : List (VersionedRows A)) → AreInOrder tables → KeysHaveFew needed xs (settled needed xs tables)
  settled-keys_few needed xs tables sorted = settled-each needed (AreFew needed) (λ r. settled-few needed r.versions) xs tables sorted

  -- ---- the last commit

  newest_in-settle : (needed : Needed) (key k : Value A) (rows : VersionedRows A) → IsInOrder rows → KeepsNewest needed.oldest (newest_in rows k) (newest_in (settle_key needed key rows) k)
  unfolding IsStrictlySortedBy
  newest_in-settle needed key k [] sorted = tt
  newest_in-settle needed key k (r ∷ rs) sorted = by_order (value_cmp key r.key) (newest_in-settle needed key k rs sorted.1)
    where
      of_key : (d : Bool) → same k r.key ≡ d → (ws : List (Version A)) → KeepsNewest needed.oldest (newest_version r) (option_map (λ v. v.number) (slice_get ws 0))
          → KeepsNewest needed.oldest (option_and_then newest_version (cond d (Some r) (found k rs))) (newest_in (if_version (record { key = r.key; versions = ws }) rs) k)
      of_key true is [] here = rw (first-alone k r rs is sorted.0) here
      of_key true is (w ∷ ws) here = rw is here
      of_key false is [] here = keeps-same needed.oldest (newest_in rs k)
      of_key false is (w ∷ ws) here = rw is (keeps-same needed.oldest (newest_in rs k))

      later : (d : Bool) → KeepsNewest needed.oldest (newest_in rs k) (newest_in (settle_key needed key rs) k) → KeepsNewest needed.oldest (option_and_then newest_version (cond d (Some r) (found k rs))) (option_and_then newest_version (cond d (Some r) (found k (settle_key needed key rs))))
      later true rest = keeps-same needed.oldest (newest_version r)
      later false rest = rest

      by_order : (o : Ordering) → KeepsNewest needed.oldest (newest_in rs k) (newest_in (settle_key needed key rs) k) → KeepsNewest needed.oldest (newest_in (r ∷ rs) k) (newest_in (match_ordering o (r ∷ rs) (if_version (settled_key needed r) rs) (r ∷ settle_key needed key rs)) k)
      by_order Less rest = keeps-same needed.oldest (newest_in (r ∷ rs) k)
      by_order Equal rest = of_key (same k r.key) refl (settled_versions needed r.versions) (newest-settled_versions needed r.versions)
      by_order Greater rest = later (same k r.key) rest

  pub newest-settled : (needed : Needed) (xs : List (Change A)) (tables : List (VersionedRows A)) (t : ℕ) (k : Value A) → AreInOrder tables → KeepsNewest needed.oldest (newest tables t k) (newest (settled needed xs tables) t k)
  newest-settled needed [] tables t k sorted = keeps-same needed.oldest (newest tables t k)
  newest-settled needed (x ∷ xs) tables t k sorted =
      keeps-trans needed.oldest (newest tables t k) (newest (settle_change needed x tables) t k) (newest (settled needed xs (settle_change needed x tables)) t k)
      (set-kept (λ old new. KeepsNewest needed.oldest (newest_in old k) (newest_in new k)) (λ rows. keeps-same needed.oldest (newest_in rows k)) tables x.table t [] _
      (newest_in-settle needed x.key k (versions_of tables x.table) (table_in_order tables x.table sorted)))
      (newest-settled needed xs (settle_change needed x tables) t k (settle_change-in_order needed x tables sorted))

  -- ---- a fresh key stays so

  settled-from : (needed : Needed) (commit : ℕ) (r : KeyVersions A) → has_version (settled_key needed r) ≡ true → is_from commit r ≡ true → is_from commit (settled_key needed r) ≡ true
  settled-from needed commit r has new = go r.versions has new
    where
      first : List (Version A) → Bool
      first vs = option_map_or (λ n. nat_le commit n) (option_map (λ v. v.number) (slice_get vs 0)) false

      if_any : (b : Bool) (v : Version A) → are_some (cond b (v ∷ []) []) ≡ true → nat_le commit v.number ≡ true → first (cond b (v ∷ []) []) ≡ true
      if_any true v left is = is
      if_any false v left is = cc

      by_test : (b : Bool) (v : Version A) (vs : List (Version A)) → are_some (cond b (if_row v) (v ∷ pruned_versions needed.oldest vs)) ≡ true → nat_le commit v.number ≡ true → first (cond b (if_row v) (v ∷ pruned_versions needed.oldest vs)) ≡ true
      by_test true v vs left is = if_any (is_some v.fields) v left is
      by_test false v vs left is = is

      pruned : (vs : List (Version A)) → are_some (pruned_versions needed.oldest vs) ≡ true → first vs ≡ true → first (pruned_versions needed.oldest vs) ≡ true
      pruned [] left is = cc
      pruned (v ∷ vs) left is = by_test (nat_le v.number needed.oldest) v vs left is

      go : (vs : List (Version A)) → are_some (settled_versions needed vs) ≡ true → first vs ≡ true → first (settled_versions needed vs) ≡ true
      go vs left is =
          ap (λ o. option_map_or (λ n. nat_le commit n) (option_map (λ (v : Version A). v.number) o) false) (read-first needed.snapshots (pruned_versions needed.oldest vs))
          ∙ pruned vs (sym (read-some needed.snapshots (pruned_versions needed.oldest vs)) ∙ left) is

  pub settle-fresh : (needed : Needed) (commit : ℕ) (key k : Value A) (rows : VersionedRows A) → IsInOrder rows → IsFresh commit k rows → IsFresh commit k (settle_key needed key rows)
  settle-fresh needed commit key k rows sorted = found-settle needed (λ r. is_from commit r ≡ true) (settled-from needed commit) key k rows sorted

  -- ---- there are as many tables as before

  pub length-settled : (needed : Needed) (xs : List (Change A)) (tables : List (VersionedRows A)) → length (settled needed xs tables) ≡ length tables
  length-settled needed [] tables = refl
  length-settled needed (x ∷ xs) tables = length-settled needed xs (settle_change needed x tables) ∙ length-set tables x.table _
