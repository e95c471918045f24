-- What snapshots show of versions, before and after an install and a pruning.
use Rattle.std.proofs.Common.{suc, zero, ◌≡◌, refl, sym, ap, subst, ◌∙◌, ℕ, ◌<◌, true, false, List, [], ◌∷◌, map, Option, Some, None, get_or, set}
use Rattle.std.specs.Prelude.{nat_le}
use Rattle.std.specs.List.{AllByRecursion, cons_option}
use Rattle.std.specs.List.Sorted.{IsStrictlySortedBy}
use Rattle.std.specs.Option.{option_map}
use Rattle.std.specs.Ordering.{match_ordering, ordering_reverse}
use Rattle.std.specs.declared.cmp.Ordering.{Ordering}
use Rattle.std.specs.declared.cmp.Ordering.TheVariants.{Less, Equal, Greater}
use Rattle.std.proofs.lemmas.List.{map-set, set-get_or}
use Rattle.std.proofs.Math.Dec.{leb-zero}
use Rattle.value.specs.Order.{value_cmp, value_cmp-total, value_cmp-exact}
use Rattle.value.specs.declared.value.Value.{Value}
use Rattle.value.proofs.Basics.{all-set}
use Rattle.schema.specs.declared.changes.Change.{Change}
use Rattle.schema.specs.declared.tables.Tables.{Tables}
use Rattle.schema.specs.Plain.{changed, put_in, put_all, rows_of}
use Rattle.schema.specs.Rows.{Rows}
use Rattle.mvrows.specs.Versions.{Version, VersionedRows, versions_of, IsInOrder, AreInOrder, shown_fields, shown_row, shown_rows, shown, RowsAreBelow, TablesAreBelow}
use Rattle.mvrows.specs.Installing.{opened_row, opened, first_version, newer, put_version, install_change, installed}

-- a map, and what is read of it
pub get_or-map : {X Y : Type 0} (f : X → Y) (xs : List X) (i : ℕ) (d : X) → get_or (map f xs) i (f d) ≡ f (get_or xs i d)
get_or-map f [] i d = refl
get_or-map f (x ∷ xs) zero d = refl
get_or-map f (x ∷ xs) (suc i) d = get_or-map f xs i d

pub all-get_or : {X : Type 0} (P : X → Type 0) (xs : List X) (i : ℕ) (d : X) → P d → AllByRecursion P xs → P (get_or xs i d)
all-get_or P [] i d p all = p
all-get_or P (x ∷ xs) zero d p all = all.0
all-get_or P (x ∷ xs) (suc i) d p all = all-get_or P xs i d p all.1

pub all-map : {X : Type 0} (P Q : X → Type 0) (f : X → X) → ((x : X) → P x → Q (f x)) → (xs : List X) → AllByRecursion P xs → AllByRecursion Q (map f xs)
all-map P Q f step [] all = all
all-map P Q f step (x ∷ xs) all = (step x all.0, all-map P Q f step xs all.1)

module _ {A : Type 0} where
  -- ---- the order of keys

  -- a key is below each of a table
  abbrev pub IsLeast : Value A → VersionedRows A → Type 0
  IsLeast k rows = AllByRecursion (λ l. value_cmp k l ≡ Less) (map (λ r. r.key) rows)

  put_version-least : (a k : Value A) (v : Version A) (rows : VersionedRows A) → value_cmp a k ≡ Less → IsLeast a rows → IsLeast a (put_version k v rows)
  put_version-least a k v [] below least = (below, least)
  put_version-least a k v (r ∷ rs) below least = by_order (value_cmp k r.key) (put_version-least a k v rs below least.1)
    where
      by_order : (o : Ordering) → IsLeast a (put_version k v rs) → IsLeast a (match_ordering o (first_version k v ∷ r ∷ rs) (newer v r ∷ rs) (r ∷ put_version k v rs))
      by_order Less rest = (below, least)
      by_order Equal rest = least
      by_order Greater rest = (least.0, rest)

  -- what is above a key is above one below it
  least_below : (a k : Value A) (rows : VersionedRows A) → value_cmp a k ≡ Less → IsLeast k rows → IsLeast a rows
  least_below a k [] below least = least
  least_below a k (r ∷ rs) below least = (value_cmp-total.trans a k r.key below least.0, least_below a k rs below least.1)

  reversed : (a k : Value A) → value_cmp k a ≡ Greater → value_cmp a k ≡ Less
  reversed a k e = value_cmp-total.antisymm a k ∙ ap ordering_reverse e

  pub put_version-in_order : (k : Value A) (v : Version A) (rows : VersionedRows A) → IsInOrder rows → IsInOrder (put_version k v rows)
  unfolding IsStrictlySortedBy
  put_version-in_order k v [] sorted = (tt, tt)
  put_version-in_order k v (r ∷ rs) sorted = by_order (value_cmp k r.key) refl (put_version-in_order k v rs sorted.1)
    where
      by_order : (o : Ordering) → value_cmp k r.key ≡ o → IsInOrder (put_version k v rs) → IsInOrder (match_ordering o (first_version k v ∷ r ∷ rs) (newer v r ∷ rs) (r ∷ put_version k v rs))
      by_order Less is rest = ((is, least_below k r.key rs is sorted.0), sorted)
      by_order Equal is rest = sorted
      by_order Greater is rest = (put_version-least r.key k v rs (reversed r.key k is) sorted.0, rest)

  -- ---- what is shown after an install

  -- rows of greater keys
  abbrev pub AreAbove : Value A → Rows A → Type 0
  AreAbove k rows = AllByRecursion (λ l. value_cmp k l ≡ Less) (map (λ r. r.0) rows)

  pub shown-above : (n : ℕ) (k : Value A) (rows : VersionedRows A) → IsLeast k rows → AreAbove k (shown_rows n rows)
  shown-above n k [] least = tt
  shown-above n k (r ∷ rs) least = go (shown_fields n r.versions) (shown-above n k rs least.1)
    where
      go : (o : Option (List (Value A))) → AreAbove k (shown_rows n rs) → AreAbove k (cons_option (option_map (λ f. (r.key, f)) o) (shown_rows n rs))
      go None rest = rest
      go (Some f) rest = (least.0, rest)

  stays : (k : Value A) (rows : Rows A) → AreAbove k rows → changed k None rows ≡ rows
  stays k [] above = refl
  stays k (row ∷ rows) above = rw above.0 (ap (λ rest. row ∷ rest) (stays k rows above.1))

  put-first : (k : Value A) (f : List (Value A)) (rows : Rows A) → AreAbove k rows → changed k (Some f) rows ≡ (k, f) ∷ rows
  put-first k f [] above = refl
  put-first k f (row ∷ rows) above = rw above.0 refl

  -- a change of a key below all others
  changed-first : (k : Value A) (fields : Option (List (Value A))) (rows : Rows A) → AreAbove k rows → changed k fields rows ≡ cons_option (option_map (λ f. (k, f)) fields) rows
  changed-first k None rows above = stays k rows above
  changed-first k (Some f) rows above = put-first k f rows above

  -- a change of the first key
  changed-same : (k a : Value A) (fields : Option (List (Value A))) (o : Option (List (Value A))) (rows : Rows A) → value_cmp k a ≡ Equal → k ≡ a → AreAbove k rows
      → changed k fields (cons_option (option_map (λ f. (a, f)) o) rows) ≡ cons_option (option_map (λ f. (a, f)) fields) rows
  changed-same k a fields None rows tie is above = changed-first k fields rows above ∙ ap (λ x. cons_option (option_map (λ f. (x, f)) fields) rows) is
  changed-same k a None (Some g) rows tie is above = rw tie (stays k rows above)
  changed-same k a (Some f) (Some g) rows tie is above = rw tie refl

  -- a change of a key above the first
  changed-later : (k a : Value A) (fields : Option (List (Value A))) (o : Option (List (Value A))) (rows : Rows A) → value_cmp k a ≡ Greater
      → changed k fields (cons_option (option_map (λ f. (a, f)) o) rows) ≡ cons_option (option_map (λ f. (a, f)) o) (changed k fields rows)
  changed-later k a fields None rows later = refl
  changed-later k a None (Some g) rows later = rw later refl
  changed-later k a (Some f) (Some g) rows later = rw later refl

  -- the newest version is shown
  shown-newer : (n : ℕ) (v : Version A) (vs : List (Version A)) → nat_le v.number n ≡ true → shown_fields n (v ∷ vs) ≡ v.fields
  shown-newer n v vs e = rw e refl

  shown-hidden : (n : ℕ) (v : Version A) (vs : List (Version A)) → nat_le v.number n ≡ false → shown_fields n (v ∷ vs) ≡ shown_fields n vs
  shown-hidden n v vs e = rw e refl

  pub shown_rows-put : (n : ℕ) (k : Value A) (v : Version A) (rows : VersionedRows A) → IsInOrder rows → nat_le v.number n ≡ true → shown_rows n (put_version k v rows) ≡ changed k v.fields (shown_rows n rows)
  unfolding IsStrictlySortedBy
  shown_rows-put n k v [] sorted e = ap (λ o. cons_option (option_map (λ f. (k, f)) o) []) (shown-newer n v [] e) ∙ sym (changed-first k v.fields [] tt)
  shown_rows-put n k v (r ∷ rs) sorted e = by_order (value_cmp k r.key) refl (shown_rows-put n k v rs sorted.1 e)
    where
      by_order : (o : Ordering) → value_cmp k r.key ≡ o → shown_rows n (put_version k v rs) ≡ changed k v.fields (shown_rows n rs)
          → shown_rows n (match_ordering o (first_version k v ∷ r ∷ rs) (newer v r ∷ rs) (r ∷ put_version k v rs)) ≡ changed k v.fields (shown_rows n (r ∷ rs))
      by_order Less is rest =
          ap (λ o. cons_option (option_map (λ f. (k, f)) o) (shown_rows n (r ∷ rs))) (shown-newer n v [] e)
          ∙ sym (changed-first k v.fields (shown_rows n (r ∷ rs)) (shown-above n k (r ∷ rs) (is, least_below k r.key rs is sorted.0)))
      by_order Equal is rest =
          let k_is : k ≡ r.key = value_cmp-exact k r.key is in
          ap (λ o. cons_option (option_map (λ f. (r.key, f)) o) (shown_rows n rs)) (shown-newer n v r.versions e)
          ∙ sym (changed-same k r.key v.fields (shown_fields n r.versions) (shown_rows n rs) is k_is (shown-above n k rs (subst (λ x. IsLeast x rs) (sym k_is) sorted.0)))
      by_order Greater is rest = ap (cons_option (shown_row n r)) rest ∙ sym (changed-later k r.key v.fields (shown_fields n r.versions) (shown_rows n rs) is)

  pub shown_rows-hidden : (n : ℕ) (k : Value A) (v : Version A) (rows : VersionedRows A) → nat_le v.number n ≡ false → shown_rows n (put_version k v rows) ≡ shown_rows n rows
  shown_rows-hidden n k v [] e = ap (λ o. cons_option (option_map (λ f. (k, f)) o) []) (shown-hidden n v [] e)
  shown_rows-hidden n k v (r ∷ rs) e = by_order (value_cmp k r.key) (shown_rows-hidden n k v rs e)
    where
      by_order : (o : Ordering) → shown_rows n (put_version k v rs) ≡ shown_rows n rs
          → shown_rows n (match_ordering o (first_version k v ∷ r ∷ rs) (newer v r ∷ rs) (r ∷ put_version k v rs)) ≡ shown_rows n (r ∷ rs)
      by_order Less rest = ap (λ o. cons_option (option_map (λ f. (k, f)) o) (shown_rows n (r ∷ rs))) (shown-hidden n v [] e)
      by_order Equal rest = ap (λ o. cons_option (option_map (λ f. (r.key, f)) o) (shown_rows n rs)) (shown-hidden n v r.versions e)
      by_order Greater rest = ap (cons_option (shown_row n r)) rest

  -- ---- tables

  nil_in_order : (rows : VersionedRows A) → rows ≡ [] → IsInOrder rows
  unfolding IsStrictlySortedBy
  nil_in_order rows e = subst IsInOrder (sym e) tt

  pub table_in_order : (tables : List (VersionedRows A)) (t : ℕ) → AreInOrder tables → IsInOrder (versions_of tables t)
  table_in_order tables t sorted = all-get_or IsInOrder tables t [] (nil_in_order [] refl) sorted

  abbrev version_of : ℕ → Change A → Version A
  version_of commit x = record { number = commit; fields = x.fields }

  pub install_change-in_order : (commit : ℕ) (x : Change A) (tables : List (VersionedRows A)) → AreInOrder tables → AreInOrder (install_change commit x tables)
  install_change-in_order commit x tables sorted = all-set IsInOrder tables x.table _ (put_version-in_order x.key (version_of commit x) (versions_of tables x.table) (table_in_order tables x.table sorted)) sorted

  pub installed-in_order : (commit : ℕ) (xs : List (Change A)) (tables : List (VersionedRows A)) → AreInOrder tables → AreInOrder (installed commit xs tables)
  installed-in_order commit [] tables sorted = sorted
  installed-in_order commit (x ∷ xs) tables sorted = installed-in_order commit xs (install_change commit x tables) (install_change-in_order commit x tables sorted)

  shown-rows_of : (n : ℕ) (tables : List (VersionedRows A)) (t : ℕ) → rows_of (shown n tables) t ≡ shown_rows n (versions_of tables t)
  shown-rows_of n tables t = get_or-map (shown_rows n) tables t []

  shown-change : (n : ℕ) (commit : ℕ) (x : Change A) (tables : List (VersionedRows A)) → AreInOrder tables → nat_le commit n ≡ true → shown n (install_change commit x tables) ≡ put_in x (shown n tables)
  shown-change n commit x tables sorted e =
      map-set (shown_rows n) tables x.table _
      ∙ ap (set (shown n tables) x.table) (shown_rows-put n x.key (version_of commit x) (versions_of tables x.table) (table_in_order tables x.table sorted) e ∙ ap (changed x.key x.fields) (sym (shown-rows_of n tables x.table)))

  pub shown-installed : (n : ℕ) (commit : ℕ) (xs : List (Change A)) (tables : List (VersionedRows A)) → AreInOrder tables → nat_le commit n ≡ true → shown n (installed commit xs tables) ≡ put_all xs (shown n tables)
  shown-installed n commit [] tables sorted e = refl
  shown-installed n commit (x ∷ xs) tables sorted e =
      shown-installed n commit xs (install_change commit x tables) (install_change-in_order commit x tables sorted) e
      ∙ ap (put_all xs) (shown-change n commit x tables sorted e)

  shown-hidden_change : (n : ℕ) (commit : ℕ) (x : Change A) (tables : List (VersionedRows A)) → nat_le commit n ≡ false → shown n (install_change commit x tables) ≡ shown n tables
  shown-hidden_change n commit x tables e =
      map-set (shown_rows n) tables x.table _
      ∙ ap (set (shown n tables) x.table) (shown_rows-hidden n x.key (version_of commit x) (versions_of tables x.table) e ∙ sym (shown-rows_of n tables x.table))
      ∙ set-get_or (shown n tables) x.table []

  pub shown-hidden_install : (n : ℕ) (commit : ℕ) (xs : List (Change A)) (tables : List (VersionedRows A)) → nat_le commit n ≡ false → shown n (installed commit xs tables) ≡ shown n tables
  shown-hidden_install n commit [] tables e = refl
  shown-hidden_install n commit (x ∷ xs) tables e = shown-hidden_install n commit xs (install_change commit x tables) e ∙ shown-hidden_change n commit x tables e

  -- ---- the opening

  shown_rows-opened : (n : ℕ) (rows : Rows A) → shown_rows n (map opened_row rows) ≡ rows
  shown_rows-opened n [] = refl
  shown_rows-opened n (row ∷ rows) = rw (leb-zero n) (ap (λ rest. row ∷ rest) (shown_rows-opened n rows))

  pub shown-opened : (n : ℕ) (tables : Tables A) → shown n (opened tables) ≡ tables
  shown-opened n [] = refl
  shown-opened n (rows ∷ tables) = λ i. shown_rows-opened n rows i ∷ shown-opened n tables i

  -- ---- numbers below the next

  put_version-below : (next : ℕ) (k : Value A) (v : Version A) (rows : VersionedRows A) → v.number < next → RowsAreBelow next rows → RowsAreBelow next (put_version k v rows)
  put_version-below next k v [] below all = ((below, tt), tt)
  put_version-below next k v (r ∷ rs) below all = by_order (value_cmp k r.key) (put_version-below next k v rs below all.1)
    where
      by_order : (o : Ordering) → RowsAreBelow next (put_version k v rs) → RowsAreBelow next (match_ordering o (first_version k v ∷ r ∷ rs) (newer v r ∷ rs) (r ∷ put_version k v rs))
      by_order Less rest = ((below, tt), all)
      by_order Equal rest = ((below, all.0), all.1)
      by_order Greater rest = (all.0, rest)

  install_change-below : (next commit : ℕ) (x : Change A) (tables : List (VersionedRows A)) → commit < next → TablesAreBelow next tables → TablesAreBelow next (install_change commit x tables)
  install_change-below next commit x tables below all =
      all-set (RowsAreBelow next) tables x.table _ (put_version-below next x.key (version_of commit x) (versions_of tables x.table) below (all-get_or (RowsAreBelow next) tables x.table [] tt all)) all

  pub installed-below : (next commit : ℕ) (xs : List (Change A)) (tables : List (VersionedRows A)) → commit < next → TablesAreBelow next tables → TablesAreBelow next (installed commit xs tables)
  installed-below next commit [] tables below all = all
  installed-below next commit (x ∷ xs) tables below all = installed-below next commit xs (install_change commit x tables) below (install_change-below next commit x tables below all)
