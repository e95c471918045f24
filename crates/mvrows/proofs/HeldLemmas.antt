-- A table's keys while a commit is under way.
use Rattle.std.proofs.Common.{suc, zero, ◌≡◌, refl, sym, ap, subst, ◌∙◌, ℕ, ◌+◌, ◌<◌, ◌≤◌, Bool, true, false, true≢false, cond, List, [], ◌∷◌, ◌++◌, take, drop, map, length, get_or, set, arith, add-one}
use Rattle.std.specs.Prelude.{filter, Result, Ok, Err, OnOk, OnErr}
use Rattle.std.specs.List.{AllByRecursion}
use Rattle.std.specs.List.Sorted.{IsStrictlySortedBy}
use Rattle.std.specs.Ordering.{match_ordering}
use Rattle.std.specs.declared.cmp.Ordering.{Ordering}
use Rattle.std.specs.declared.cmp.Ordering.TheVariants.{Less, Equal, Greater}
use Rattle.std.proofs.lemmas.Bool.{le-leb, lt-leb}
use Rattle.std.proofs.lemmas.List.{map-set, set-get_or, drop_more, drop_all, take_all, take_more_set, drop-set-lt, map-append, append-nil, take-append-drop}
use Rattle.value.specs.Order.{value_cmp}
use Rattle.value.specs.declared.value.Value.{Value}
use Rattle.value.proofs.Basics.{all-parts, all-set}
use Rattle.schema.specs.declared.row.Row.{Row}
use Rattle.schema.specs.declared.changes.Change.{Change}
use Rattle.schema.specs.declared.tables.Tables.{Tables}
use Rattle.schema.specs.Rows.{IsInKeyOrder}
use Rattle.mvrows.specs.Versions.{Version, KeyVersions, VersionedRows, IsInOrder, AreInOrder, versions_of, AreBelow, RowsAreBelow, TablesAreBelow}
use Rattle.mvrows.specs.Installing.{opened_row, opened, first_version, newer, put_version, install_change, installed}
use Rattle.mvrows.specs.Pruning.{has_version, pruned_key, pruned}
use Rattle.mvrows.specs.TakenBack.{versions_before, key_before, rows_before}
use Rattle.mvrows.specs.HeldRows.{Held, rows_in, rows_held, undone, undone_in, IsUndoable, AreUndoable, AllVersioned, AreVersioned}
use Rattle.mvrows.proofs.VersionLemmas.{IsLeast, all-get_or}

-- a list that is cut before an element
take_suc-cut : {X : Type 0} (xs : List X) (i : ℕ) (x : X) (rest : List X) → drop i xs ≡ x ∷ rest → take (suc i) xs ≡ take i xs ++ x ∷ []
take_suc-cut xs zero x rest cut = rw cut refl
take_suc-cut [] (suc i) x rest cut = cc
take_suc-cut (y ∷ ys) (suc i) x rest cut = ap (λ zs. y ∷ zs) (take_suc-cut ys i x rest cut)

drop_suc-cut : {X : Type 0} (xs : List X) (i : ℕ) (x : X) (rest : List X) → drop i xs ≡ x ∷ rest → drop (suc i) xs ≡ rest
drop_suc-cut xs zero x rest cut = rw cut refl
drop_suc-cut [] (suc i) x rest cut = cc
drop_suc-cut (y ∷ ys) (suc i) x rest cut = drop_suc-cut ys i x rest cut

take-cut : {X : Type 0} (xs : List X) (i : ℕ) (x : X) (rest : List X) → drop i xs ≡ x ∷ rest → take (i + 1) xs ≡ take i xs ++ x ∷ []
take-cut xs i x rest cut = rw add-one (take_suc-cut xs i x rest cut)

drop-cut : {X : Type 0} (xs : List X) (i : ℕ) (x : X) (rest : List X) → drop i xs ≡ x ∷ rest → drop (i + 1) xs ≡ rest
drop-cut xs i x rest cut = rw add-one (drop_suc-cut xs i x rest cut)

-- a function of each element that a change leaves
pub same-set : {X Y : Type 0} (f : X → Y) (xs : List X) (t : ℕ) (h old : X) → old ≡ get_or xs t old → f h ≡ f old → map f (set xs t h) ≡ map f xs
same-set f xs t h old at same =
    map-set f xs t h ∙ ap (set (map f xs) t) (same ∙ ap f at) ∙ sym (map-set f xs t (get_or xs t old)) ∙ ap (map f) (set-get_or xs t old)

module _ {A : Type 0} where
  -- ---- taking back

  before-own : (commit : ℕ) (v : Version A) (vs : List (Version A)) → v.number ≡ commit → versions_before commit (v ∷ vs) ≡ versions_before commit vs
  before-own commit v vs is = rw (lt-leb (suc v.number) commit (omega (arith, is))) refl

  pub before-put : (commit : ℕ) (k : Value A) (v : Version A) (rows : VersionedRows A) → v.number ≡ commit → rows_before commit (put_version k v rows) ≡ rows_before commit rows
  before-put commit k v [] is = ap (λ vs. filter has_version (record { key = k; versions = vs } ∷ [])) (before-own commit v [] is)
  before-put commit k v (r ∷ rs) is = by_order (value_cmp k r.key) (before-put commit k v rs is)
    where
      with_versions : Value A → List (Version A) → VersionedRows A → VersionedRows A
      with_versions key vs rest = cond (has_version (record { key = key; versions = vs })) (record { key = key; versions = vs } ∷ rest) rest

      by_order : (o : Ordering) → rows_before commit (put_version k v rs) ≡ rows_before commit rs → rows_before commit (match_ordering o (first_version k v ∷ r ∷ rs) (newer v r ∷ rs) (r ∷ put_version k v rs)) ≡ rows_before commit (r ∷ rs)
      by_order Less rest = ap (λ vs. cond (has_version (record { key = k; versions = vs })) (record { key = k; versions = vs } ∷ rows_before commit (r ∷ rs)) (rows_before commit (r ∷ rs))) (before-own commit v [] is)
      by_order Equal rest = ap (λ vs. cond (has_version (record { key = r.key; versions = vs })) (record { key = r.key; versions = vs } ∷ rows_before commit rs) (rows_before commit rs)) (before-own commit v r.versions is)
      by_order Greater rest = ap (λ left. cond (has_version (key_before commit r)) (key_before commit r ∷ left) left) rest

  versions_before-below : (commit : ℕ) (vs : List (Version A)) → AreBelow commit vs → versions_before commit vs ≡ vs
  versions_before-below commit [] below = refl
  versions_before-below commit (v ∷ vs) below = rw (le-leb (suc v.number) commit (omega (arith, below.0))) refl

  pub before-below : (commit : ℕ) (rows : VersionedRows A) → AllByRecursion (λ k. has_version k ≡ true) rows → RowsAreBelow commit rows → rows_before commit rows ≡ rows
  before-below commit [] versioned below = refl
  before-below commit (r ∷ rs) versioned below =
      ap (λ vs. cond (has_version (record { key = r.key; versions = vs })) (record { key = r.key; versions = vs } ∷ rows_before commit rs) (rows_before commit rs)) (versions_before-below commit r.versions below.0)
      ∙ rw versioned.0 (ap (λ rest. r ∷ rest) (before-below commit rs versioned.1 below.1))

  -- ---- each key has a version

  put-versioned : (k : Value A) (v : Version A) (rows : VersionedRows A) → AllByRecursion (λ r. has_version r ≡ true) rows → AllByRecursion (λ r. has_version r ≡ true) (put_version k v rows)
  put-versioned k v [] all = (refl, tt)
  put-versioned k v (r ∷ rs) all = by_order (value_cmp k r.key) (put-versioned k v rs all.1)
    where
      by_order : (o : Ordering) → AllByRecursion (λ x. has_version x ≡ true) (put_version k v rs) → AllByRecursion (λ x. has_version x ≡ true) (match_ordering o (first_version k v ∷ r ∷ rs) (newer v r ∷ rs) (r ∷ put_version k v rs))
      by_order Less rest = (refl, all)
      by_order Equal rest = (refl, all.1)
      by_order Greater rest = (all.0, rest)

  pub installed-versioned : (commit : ℕ) (xs : List (Change A)) (tables : List (VersionedRows A)) → AreVersioned tables → AreVersioned (installed commit xs tables)
  installed-versioned commit [] tables all = all
  installed-versioned commit (x ∷ xs) tables all =
      installed-versioned commit xs (install_change commit x tables)
      (all-set (AllByRecursion (λ k. has_version k ≡ true)) tables x.table _ (put-versioned x.key (record { number = commit; fields = x.fields }) (versions_of tables x.table) (all-get_or (AllByRecursion (λ k. has_version k ≡ true)) tables x.table [] tt all)) all)

  kept-versioned : (rows : VersionedRows A) → AllByRecursion (λ k. has_version k ≡ true) (filter has_version rows)
  kept-versioned [] = tt
  kept-versioned (r ∷ rs) = by_test (has_version r) refl (kept-versioned rs)
    where
      by_test : (b : Bool) → has_version r ≡ b → AllByRecursion (λ k. has_version k ≡ true) (filter has_version rs) → AllByRecursion (λ k. has_version k ≡ true) (cond b (r ∷ filter has_version rs) (filter has_version rs))
      by_test true e rest = (e, rest)
      by_test false e rest = rest

  pub pruned-versioned : (oldest : ℕ) (tables : List (VersionedRows A)) → AreVersioned (pruned oldest tables)
  pruned-versioned oldest [] = tt
  pruned-versioned oldest (rows ∷ tables) = (kept-versioned (map (pruned_key oldest) rows), pruned-versioned oldest tables)

  opened_rows-versioned : (rows : List (Row A)) → AllByRecursion (λ k. has_version k ≡ true) (map opened_row rows)
  opened_rows-versioned [] = tt
  opened_rows-versioned (row ∷ rows) = (refl, opened_rows-versioned rows)

  pub opened-versioned : (tables : Tables A) → AreVersioned (opened tables)
  opened-versioned [] = tt
  opened-versioned (rows ∷ tables) = (opened_rows-versioned rows, opened-versioned tables)

  -- ---- a table while a commit is under way

  -- what it has for itself
  pub undone-own : (commit : ℕ) (h : Held A) → h.own ≡ true → undone commit h ≡ rows_before commit h.rows
  undone-own commit h own = ap (λ b. cond b (rows_before commit h.rows) h.rows) own

  -- taking the rows of a table for itself changes nothing of what taking back leaves
  pub undone-taken : (commit : ℕ) (old new : Held A) → AllByRecursion (λ k. has_version k ≡ true) old.rows → IsUndoable commit old → new.own ≡ true → rows_before commit new.rows ≡ rows_before commit old.rows → undone commit new ≡ undone commit old
  undone-taken commit old new versioned undoable own same = undone-own commit new own ∙ same ∙ go old.own refl
    where
      go : (b : Bool) → old.own ≡ b → rows_before commit old.rows ≡ cond b (rows_before commit old.rows) old.rows
      go true e = refl
      go false e = before-below commit old.rows versioned (undoable e)

  -- where a page can be undone, its versions before a commit are what taking back leaves of it
  pub undone-kept : (commit : ℕ) (h : Held A) → AllVersioned h.rows → IsUndoable commit h → rows_before commit h.rows ≡ undone commit h
  undone-kept commit h versioned undoable = go h.own refl
    where
      go : (b : Bool) → h.own ≡ b → rows_before commit h.rows ≡ cond b (rows_before commit h.rows) h.rows
      go true e = refl
      go false e = before-below commit h.rows versioned (undoable e)

  pub undoable-own : (commit : ℕ) (h : Held A) → h.own ≡ true → IsUndoable commit h
  undoable-own commit h own = λ shared. absurd (true≢false (sym own ∙ shared))

  before-either : {T E : Type 0} (r : Result T E) (commit : ℕ) (k : Value A) (v : Version A) (old new : VersionedRows A) → v.number ≡ commit → OnOk r (new ≡ put_version k v old) → OnErr r (new ≡ old) → rows_before commit new ≡ rows_before commit old
  before-either (Ok x) commit k v old new is ok err = ap (rows_before commit) ok ∙ before-put commit k v old is
  before-either (Err e) commit k v old new is ok err = ap (rows_before commit) err

  -- after a put, taking back leaves what it left before
  pub undone-put : {T E : Type 0} (r : Result T E) (commit : ℕ) (k : Value A) (v : Version A) (old taken new : Held A) → v.number ≡ commit → taken ≡ record old { own = true } → new.own ≡ true → OnOk r (new.rows ≡ put_version k v taken.rows) → OnErr r (new.rows ≡ taken.rows)
      → AllByRecursion (λ x. has_version x ≡ true) old.rows → IsUndoable commit old → undone commit new ≡ undone commit old
  undone-put r commit k v old taken new is took own ok err versioned undoable =
      undone-taken commit old new versioned undoable own (before-either r commit k v taken.rows new.rows is ok err ∙ ap (λ h. rows_before commit h.rows) took)

  -- ---- a commit's changes, one after another

  pub installed-append : (commit : ℕ) (xs ys : List (Change A)) (tables : List (VersionedRows A)) → installed commit (xs ++ ys) tables ≡ installed commit ys (installed commit xs tables)
  installed-append commit [] ys tables = refl
  installed-append commit (x ∷ xs) ys tables = installed-append commit xs ys (install_change commit x tables)

  -- before any change

  leaves_undoable : (commit : ℕ) (leaves : List (Held A)) → RowsAreBelow commit (rows_in leaves) → AreUndoable commit leaves
  leaves_undoable commit [] below = tt
  leaves_undoable commit (h ∷ hs) below =
      let parts = all-parts (λ k. AreBelow commit k.versions) h.rows (rows_in hs) below in
      ((λ shared. parts.0), leaves_undoable commit hs parts.1)

  pub undoable-below : (commit : ℕ) (tables : List (List (Held A))) → TablesAreBelow commit (rows_held tables) → AllByRecursion (AreUndoable commit) tables
  undoable-below commit [] below = tt
  undoable-below commit (leaves ∷ more) below = (leaves_undoable commit leaves below.0, undoable-below commit more below.1)

  leaves_undone : (commit : ℕ) (leaves : List (Held A)) → AllVersioned (rows_in leaves) → RowsAreBelow commit (rows_in leaves) → undone_in commit leaves ≡ rows_in leaves
  leaves_undone commit [] versioned below = refl
  leaves_undone commit (h ∷ hs) versioned below =
      let all = all-parts (λ k. has_version k ≡ true) h.rows (rows_in hs) versioned in
      let parts = all-parts (λ k. AreBelow commit k.versions) h.rows (rows_in hs) below in
      λ i. go h.own all.0 parts.0 i ++ leaves_undone commit hs all.1 parts.1 i
    where
      go : (b : Bool) → AllVersioned h.rows → RowsAreBelow commit h.rows → cond b (rows_before commit h.rows) h.rows ≡ h.rows
      go true all small = before-below commit h.rows all small
      go false all small = refl

  pub undone-below : (commit : ℕ) (tables : List (List (Held A))) → AreVersioned (rows_held tables) → TablesAreBelow commit (rows_held tables) → map (undone_in commit) tables ≡ rows_held tables
  undone-below commit [] versioned below = refl
  undone-below commit (leaves ∷ more) versioned below = λ i. leaves_undone commit leaves versioned.0 below.0 i ∷ undone-below commit more versioned.1 below.1 i

  -- one table changed
  pub held-set : (tables : List (List (Held A))) (t : ℕ) (h : List (Held A)) (commit : ℕ) (x : Change A) (old : List (Held A)) → t ≡ x.table → t < length tables → old ≡ get_or tables t old → rows_in h ≡ put_version x.key (record { number = commit; fields = x.fields }) (rows_in old) → rows_held (set tables t h) ≡ install_change commit x (rows_held tables)
  held-set tables t h commit x old place lt at put =
      map-set rows_in tables t h
      ∙ ap (set (rows_held tables) t) (put ∙ ap (put_version x.key (record { number = commit; fields = x.fields })) (ap rows_in at ∙ rows_at tables t old lt))
      ∙ ap (λ n. set (rows_held tables) n (put_version x.key (record { number = commit; fields = x.fields }) (versions_of (rows_held tables) n))) place
    where
      rows_at : (hs : List (List (Held A))) (i : ℕ) (d : List (Held A)) → i < length hs → rows_in (get_or hs i d) ≡ get_or (rows_held hs) i []
      rows_at [] i d small = absurd (omega arith)
      rows_at (y ∷ ys) zero d small = refl
      rows_at (y ∷ ys) (suc i) d small = rows_at ys i d (omega arith)

-- a commit's changes are installed, and could be taken back
pub record UnderWay {A : Type 0} (commit : ℕ) (xs : List (Change A)) (old new : List (List (Held A))) : Type 0 where
  pub done : rows_held new ≡ installed commit xs (rows_held old)
  pub undo : map (undone_in commit) new ≡ map (undone_in commit) old
  pub undoable : AllByRecursion (AreUndoable commit) new
  pub versioned : AreVersioned (rows_held new)

-- ---- a loop over a list that changes its elements

pub record SoFar {X Y : Type 0} (g f : X → Y) (items start : List X) (i : ℕ) : Type 0 where
  pub done : map g (take i items) ≡ map f (take i start)
  pub rest : drop i items ≡ drop i start

pub so_far-more : {X Y : Type 0} (g f : X → Y) (items start : List X) (i : ℕ) (old new : X) → i < length items → old ≡ get_or items i old → g new ≡ f old → SoFar g f items start i → SoFar g f (set items i new) start (i + 1)
so_far-more g f items start i old new lt at is so_far =
    let cut : drop i start ≡ old ∷ drop (i + 1) items = sym so_far.rest ∙ drop_more items i old lt ∙ ap (λ y. y ∷ drop (i + 1) items) (sym at) in
    record {
      done =
          ap (map g) (take_more_set items i new lt) ∙ map-append g (take i items) (new ∷ [])
          ∙ (λ j. so_far.done j ++ is j ∷ [])
          ∙ sym (map-append f (take i start) (old ∷ [])) ∙ ap (map f) (sym (take-cut start i old (drop (i + 1) items) cut));
      rest = drop-set-lt (i + 1) items i new (omega arith) ∙ sym (drop-cut start i old (drop (i + 1) items) cut);
    }

pub so_far-end : {X Y : Type 0} (g f : X → Y) (items start : List X) (i : ℕ) → length items ≤ i → SoFar g f items start i → map g items ≡ map f start
so_far-end g f items start i past so_far =
    ap (map g) (sym (take_all i items past)) ∙ so_far.done
    ∙ ap (map f) (sym (append-nil (take i start)) ∙ ap (λ rest. take i start ++ rest) (sym (drop_all i items past) ∙ so_far.rest) ∙ take-append-drop i start)

pub so_far-same : {X Y : Type 0} (g : X → Y) (items start : List X) (i : ℕ) → SoFar g g items start i → map g items ≡ map g start
so_far-same g items start i so_far =
    ap (map g) (sym (take-append-drop i items)) ∙ map-append g (take i items) (drop i items)
    ∙ (λ j. so_far.done j ++ map g (so_far.rest j))
    ∙ sym (map-append g (take i start) (drop i start)) ∙ ap (map g) (take-append-drop i start)

-- what a loop that ends early leaves of its list
pub whole-left : {X : Type 0} (n : ℕ) (items start : List X) → length items ≡ length start → n ≡ length start → take n (items ++ drop (length items) start) ≡ items
whole-left n items start same is =
    ap (λ rest. take n (items ++ rest)) (drop_all (length items) start (omega (arith, same))) ∙ ap (take n) (append-nil items) ∙ take_all n items (omega (arith, same, is))

pub map-map : {X Y Z : Type 0} (f : Y → Z) (g : X → Y) (xs : List X) → map f (map g xs) ≡ map (λ x. f (g x)) xs
map-map f g [] = refl
map-map f g (x ∷ xs) = ap (λ rest. f (g x) ∷ rest) (map-map f g xs)

module _ {A : Type 0} where
  -- ---- the opening in order

  opened-least : (k : Value A) (rows : List (Row A)) → AllByRecursion (λ l. value_cmp k l ≡ Less) (map (λ row. row.0) rows) → IsLeast k (map opened_row rows)
  opened-least k [] least = tt
  opened-least k (row ∷ rows) least = (least.0, opened-least k rows least.1)

  pub opened-in_order : (rows : List (Row A)) → IsInKeyOrder rows → IsInOrder (map opened_row rows)
  unfolding IsStrictlySortedBy
  opened-in_order [] sorted = tt
  opened-in_order (row ∷ rows) sorted = (opened-least row.0 rows sorted.0, opened-in_order rows sorted.1)

  front-least : (k : Value A) (xs : VersionedRows A) (y : KeyVersions A) (ys : VersionedRows A) → IsLeast k (xs ++ y ∷ ys) → IsLeast k (xs ++ y ∷ [])
  front-least k [] y ys least = (least.0, tt)
  front-least k (x ∷ xs) y ys least = (least.0, front-least k xs y ys least.1)

  pub front-in_order : (xs : VersionedRows A) (y : KeyVersions A) (ys : VersionedRows A) → IsInOrder (xs ++ y ∷ ys) → IsInOrder (xs ++ y ∷ [])
  unfolding IsStrictlySortedBy
  front-in_order [] y ys sorted = (tt, tt)
  front-in_order (x ∷ xs) y ys sorted = (front-least x.key xs y ys sorted.0, front-in_order xs y ys sorted.1)

  -- one more change
  pub under_way-more : (commit : ℕ) (xs : List (Change A)) (x : Change A) (start old new : List (List (Held A))) → rows_held new ≡ install_change commit x (rows_held old) → map (undone_in commit) new ≡ map (undone_in commit) old → AllByRecursion (AreUndoable commit) new → AreVersioned (rows_held new) → UnderWay commit xs start old → UnderWay commit (xs ++ x ∷ []) start new
  under_way-more commit xs x start old new put undo undoable versioned so_far = record {
    done = put ∙ ap (install_change commit x) so_far.done ∙ sym (installed-append commit xs (x ∷ []) (rows_held start));
    undo = undo ∙ so_far.undo;
    undoable = undoable;
    versioned = versioned;
  }

  -- ---- one table changed

  -- what holds of each table's rows holds of one's
  pub rows-at : (P : VersionedRows A → Type 0) (tables : List (List (Held A))) (t : ℕ) (old : List (Held A)) → t < length tables → old ≡ get_or tables t old → AllByRecursion P (rows_held tables) → P (rows_in old)
  rows-at P [] t old lt at all = absurd (omega arith)
  rows-at P (h ∷ hs) zero old lt at all = subst (λ x. P (rows_in x)) (sym at) all.0
  rows-at P (h ∷ hs) (suc t) old lt at all = rows-at P hs t old (omega arith) at all.1

  versioned-either : {T E : Type 0} (r : Result T E) (k : Value A) (v : Version A) (old new : VersionedRows A) → OnOk r (new ≡ put_version k v old) → OnErr r (new ≡ old) → AllVersioned old → AllVersioned new
  versioned-either (Ok x) k v old new ok err all = subst AllVersioned (sym ok) (put-versioned k v old all)
  versioned-either (Err e) k v old new ok err all = subst AllVersioned (sym err) all

  pub versioned-set : {T E : Type 0} (r : Result T E) (k : Value A) (v : Version A) (tables : List (List (Held A))) (t : ℕ) (h old : List (Held A)) → t < length tables → old ≡ get_or tables t old → OnOk r (rows_in h ≡ put_version k v (rows_in old)) → OnErr r (rows_in h ≡ rows_in old) → AreVersioned (rows_held tables) → AreVersioned (rows_held (set tables t h))
  versioned-set r k v tables t h old lt at ok err all =
      subst AreVersioned (sym (map-set rows_in tables t h))
      (all-set AllVersioned (rows_held tables) t (rows_in h)
      (versioned-either r k v (rows_in old) (rows_in h) ok err (rows-at AllVersioned tables t old lt at all)) all)

  -- ---- the opening is first

  pub opened-all_in_order : (tables : Tables A) → AllByRecursion IsInKeyOrder tables → AreInOrder (opened tables)
  opened-all_in_order [] sorted = tt
  opened-all_in_order (rows ∷ tables) sorted = (opened-in_order rows sorted.0, opened-all_in_order tables sorted.1)

  opened_rows-below : (n : ℕ) (rows : List (Row A)) → 0 < n → RowsAreBelow n (map opened_row rows)
  opened_rows-below n [] positive = tt
  opened_rows-below n (row ∷ rows) positive = ((positive, tt), opened_rows-below n rows positive)

  pub opened-below : (n : ℕ) (tables : Tables A) → 0 < n → TablesAreBelow n (opened tables)
  opened-below n [] positive = tt
  opened-below n (rows ∷ tables) positive = (opened_rows-below n rows positive, opened-below n tables positive)
