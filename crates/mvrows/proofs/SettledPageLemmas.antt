-- A key pruned in the page that it belongs to.
use Rattle.std.proofs.Common.{suc, zero, ◌≡◌, refl, sym, ap, subst, ◌∙◌, ℕ, ◌+◌, ◌<◌, Bool, true, false, true≢false, cond, List, [], ◌∷◌, ◌++◌, take, drop, length, Option, Some, None, get_or, set, arith, add-one}
use Rattle.std.specs.Prelude.{IfSome, nat_le, slice_get}
use Rattle.std.specs.List.{AllByRecursion}
use Rattle.std.specs.Option.{option_map, option_map_or}
use Rattle.std.specs.Ordering.{is_eq, is_le, match_ordering}
use Rattle.std.specs.declared.cmp.Ordering.{Ordering}
use Rattle.std.specs.declared.cmp.Ordering.TheVariants.{Less, Equal, Greater}
use Rattle.std.proofs.lemmas.Bool.{lt-leb}
use Rattle.std.proofs.lemmas.List.{set_split, take-append-drop}
use Rattle.value.specs.Order.{value_cmp}
use Rattle.value.specs.declared.value.Value.{Value}
use Rattle.value.proofs.Basics.{all-get, Equal-from_eq, Greater-from_le, Less-from_le, below-passed, slice_get-none, slice_get_item}
use Rattle.schema.specs.Pages.{IsPlaced}
use Rattle.schema.specs.Plain.{same}
use Rattle.schema.proofs.FindLemmas.{find-in}
use Rattle.schema.proofs.PagedLemmas.{IsLocal, local-parted}
use Rattle.mvrows.specs.Versions.{Version, KeyVersions, VersionedRows, AreBelow, RowsAreBelow}
use Rattle.mvrows.specs.Pruning.{has_version}
use Rattle.mvrows.specs.Settling.{Needed, found, if_version, settled_key, settle_key}
use Rattle.mvrows.specs.Fresh.{is_from, IsFreshIn, IsOwnKey}
use Rattle.mvrows.specs.HeldRows.{Held, chain_key, rows_in, IsUndoable}
use Rattle.mvrows.proofs.VersionLemmas.{IsLeast}
use Rattle.mvrows.proofs.PageLemmas.{drop-at}
use Rattle.mvrows.proofs.SettlingLemmas.{settle-in_order}

not-le : (m n : ℕ) → n < m → nat_le m n ≡ false
not-le m n lt = lt-leb m n lt

-- what stands before and after a place stays where that place is changed
cut-set_suc : {X : Type 0} (xs : List X) (i : ℕ) (x : X) → i < length xs → take i (set xs i x) ++ drop (suc i) (set xs i x) ≡ take i xs ++ drop (suc i) xs
cut-set_suc [] i x lt = absurd (omega arith)
cut-set_suc (y ∷ ys) zero x lt = refl
cut-set_suc (y ∷ ys) (suc i) x lt = ap (λ rest. y ∷ rest) (cut-set_suc ys i x (omega arith))

pub cut-set : {X : Type 0} (xs : List X) (i : ℕ) (x : X) → i < length xs → take i (set xs i x) ++ drop (suc i) (set xs i x) ≡ take i xs ++ drop (i + 1) xs
cut-set xs i x lt = cut-set_suc xs i x lt ∙ rw add-one refl

module _ {A : Type 0} where
  -- ---- other keys have no part in it

  settle-after_run : (needed : Needed) (key : Value A) (xs ys : VersionedRows A) → AllByRecursion (λ k. is_le (value_cmp key k.key) ≡ false) xs → settle_key needed key (xs ++ ys) ≡ xs ++ settle_key needed key ys
  settle-after_run needed key [] ys before = refl
  settle-after_run needed key (x ∷ xs) ys before = rw (Greater-from_le (value_cmp key x.key) before.0) (ap (λ rest. x ∷ rest) (settle-after_run needed key xs ys before.1))

  settle-above : (needed : Needed) (key : Value A) (ys : VersionedRows A) → IsLeast key ys → settle_key needed key ys ≡ ys
  settle-above needed key [] least = refl
  settle-above needed key (y ∷ ys) least = rw least.0 refl

  settle-before_run : (needed : Needed) (key : Value A) (xs ys : VersionedRows A) → IsLeast key ys → settle_key needed key (xs ++ ys) ≡ settle_key needed key xs ++ ys
  settle-before_run needed key [] ys least = settle-above needed key ys least
  settle-before_run needed key (x ∷ xs) ys least = by_order (value_cmp key x.key) (settle-before_run needed key xs ys least)
    where
      if_any : (b : Bool) → cond b (settled_key needed x ∷ (xs ++ ys)) (xs ++ ys) ≡ cond b (settled_key needed x ∷ xs) xs ++ ys
      if_any true = refl
      if_any false = refl

      by_order : (o : Ordering) → settle_key needed key (xs ++ ys) ≡ settle_key needed key xs ++ ys → match_ordering o (x ∷ (xs ++ ys)) (if_version (settled_key needed x) (xs ++ ys)) (x ∷ settle_key needed key (xs ++ ys)) ≡ match_ordering o (x ∷ xs) (if_version (settled_key needed x) xs) (x ∷ settle_key needed key xs) ++ ys
      by_order Less rest = refl
      by_order Equal rest = if_any (has_version (settled_key needed x))
      by_order Greater rest = ap (λ left. x ∷ left) rest

  pub settle-local : (needed : Needed) (key : Value A) → IsLocal chain_key key (settle_key needed key)
  settle-local needed key = record { behind = settle-after_run needed key; ahead = settle-before_run needed key; ordered = settle-in_order needed key }

  -- ---- by its place

  settle-here : (needed : Needed) (key : Value A) (i : ℕ) (rows : VersionedRows A) (k : KeyVersions A) → AllByRecursion (λ r. is_le (value_cmp key r.key) ≡ false) (take i rows) → slice_get rows i ≡ Some k → same key k.key ≡ true
      → settle_key needed key rows ≡ take i rows ++ if_version (settled_key needed k) (drop (i + 1) rows)
  settle-here needed key i rows k early at is =
      let e : settle_key needed key (k ∷ drop (i + 1) rows) ≡ if_version (settled_key needed k) (drop (i + 1) rows) = rw (Equal-from_eq (value_cmp key k.key) is) refl in
      local-parted chain_key key (settle_key needed key) i rows (settle-local needed key) early ∙ ap (λ ks. take i rows ++ settle_key needed key ks) (drop-at rows i k at) ∙ ap (λ ks. take i rows ++ ks) e

  -- a key that isn't at its place isn't there
  pub settle-none : (needed : Needed) (key : Value A) (i : ℕ) (rows : VersionedRows A) → AllByRecursion (λ r. is_le (value_cmp key r.key) ≡ false) (take i rows) → AllByRecursion (λ r. is_le (value_cmp key r.key) ≡ true) (drop i rows) → option_map_or (λ k. same key k.key) (slice_get rows i) false ≡ false
      → rows ≡ settle_key needed key rows
  settle-none needed key i rows early late isnt = sym (local-parted chain_key key (settle_key needed key) i rows (settle-local needed key) early ∙ go (slice_get rows i) refl isnt ∙ take-append-drop i rows)
    where
      go : (o : Option (KeyVersions A)) → slice_get rows i ≡ o → option_map_or (λ k. same key k.key) o false ≡ false → take i rows ++ settle_key needed key (drop i rows) ≡ take i rows ++ drop i rows
      go None at e = ap (λ ks. take i rows ++ settle_key needed key ks) (slice_get-none rows i at) ∙ ap (λ ks. take i rows ++ ks) (sym (slice_get-none rows i at))
      go (Some k) at e =
          let cut = drop-at rows i k at in
          let late_here = subst (AllByRecursion (λ (r : KeyVersions A). is_le (value_cmp key r.key) ≡ true)) cut late in
          let below : value_cmp key k.key ≡ Less = Less-from_le (value_cmp key k.key) late_here.0 e in
          let f : settle_key needed key (k ∷ drop (i + 1) rows) ≡ k ∷ drop (i + 1) rows = rw below refl in
          ap (λ ks. take i rows ++ settle_key needed key ks) cut ∙ ap (λ ks. take i rows ++ ks) (f ∙ sym cut)

  -- it is there, and has a version left
  pub settle-kept : (needed : Needed) (key : Value A) (i : ℕ) (rows : VersionedRows A) (k more : KeyVersions A) → AllByRecursion (λ r. is_le (value_cmp key r.key) ≡ false) (take i rows) → k ≡ get_or rows i k → option_map_or (λ r. same key r.key) (slice_get rows i) false ≡ true
      → more ≡ settled_key needed k → has_version more ≡ true → set rows i more ≡ settle_key needed key rows
  settle-kept needed key i rows k more early at is made has =
      let lt = below-passed (λ (r : KeyVersions A). same key r.key) rows i is in
      let here = slice_get_item rows i k lt at in
      let tied : same key k.key ≡ true = sym (ap (λ o. option_map_or (λ (r : KeyVersions A). same key r.key) o false) here) ∙ is in
      let left : if_version (settled_key needed k) (drop (i + 1) rows) ≡ more ∷ drop (i + 1) rows = ap (λ x. if_version x (drop (i + 1) rows)) (sym made) ∙ rw has refl in
      let one_more : suc i ≡ i + 1 = omega arith in
      set_split rows i more lt ∙ ap (λ n. take i rows ++ more ∷ drop n rows) one_more ∙ sym (settle-here needed key i rows k early here tied ∙ ap (λ ks. take i rows ++ ks) left)

  -- it is there, and goes
  pub settle-gone : (needed : Needed) (key : Value A) (i : ℕ) (rows more : VersionedRows A) (k left : KeyVersions A) → AllByRecursion (λ r. is_le (value_cmp key r.key) ≡ false) (take i rows) → k ≡ get_or rows i k → option_map_or (λ r. same key r.key) (slice_get rows i) false ≡ true
      → left ≡ settled_key needed k → has_version left ≡ false → more ≡ take i (set rows i left) ++ drop (suc i) (set rows i left) → more ≡ settle_key needed key rows
  settle-gone needed key i rows more k left early at is made has put =
      let lt = below-passed (λ (r : KeyVersions A). same key r.key) rows i is in
      let here = slice_get_item rows i k lt at in
      let tied : same key k.key ≡ true = sym (ap (λ o. option_map_or (λ (r : KeyVersions A). same key r.key) o false) here) ∙ is in
      let none : if_version (settled_key needed k) (drop (i + 1) rows) ≡ drop (i + 1) rows = ap (λ x. if_version x (drop (i + 1) rows)) (sym made) ∙ rw has refl in
      put ∙ cut-set rows i left lt ∙ sym (settle-here needed key i rows k early here tied ∙ ap (λ ks. take i rows ++ ks) none)

  -- a key that isn't there
  pub settle-missing : (needed : Needed) (key : Value A) (rows : VersionedRows A) → found key rows ≡ None → settle_key needed key rows ≡ rows
  settle-missing needed key [] none = refl
  settle-missing needed key (r ∷ rs) none = by_order (value_cmp key r.key) refl none (settle-missing needed key rs)
    where
      by_order : (o : Ordering) → value_cmp key r.key ≡ o → cond (is_eq o) (Some r) (found key rs) ≡ None → (found key rs ≡ None → settle_key needed key rs ≡ rs) → match_ordering o (r ∷ rs) (if_version (settled_key needed r) rs) (r ∷ settle_key needed key rs) ≡ r ∷ rs
      by_order Less is e rest = refl
      by_order Equal is e rest = cc
      by_order Greater is e rest = ap (λ left. r ∷ left) (rest e)

  pub settle-shared : (needed : Needed) (key : Value A) (h : Held A) → h.own ≡ false → IsOwnKey key h → h.rows ≡ settle_key needed key h.rows
  settle-shared needed key h shared own = sym (settle-missing needed key h.rows (own shared))

  -- ---- a fresh key stands in a page that is not shared

  below-not_from : (commit : ℕ) (k : KeyVersions A) → AreBelow commit k.versions → is_from commit k ≡ false
  below-not_from commit k below = go k.versions below
    where
      go : (vs : List (Version A)) → AreBelow commit vs → option_map_or (λ n. nat_le commit n) (option_map (λ v. v.number) (slice_get vs 0)) false ≡ false
      go [] small = refl
      go (v ∷ vs) small = not-le commit v.number small.0

  pub rows-not_from : (commit : ℕ) (key : Value A) (rows : VersionedRows A) (k : KeyVersions A) → RowsAreBelow commit rows → found key rows ≡ Some k → is_from commit k ≡ false
  rows-not_from commit key [] k below e = cc
  rows-not_from commit key (r ∷ rs) k below e = by_key (same key r.key) e (rows-not_from commit key rs k below.1)
    where
      by_key : (b : Bool) → cond b (Some r) (found key rs) ≡ Some k → (found key rs ≡ Some k → is_from commit k ≡ false) → is_from commit k ≡ false
      by_key true is rest = let it : r ≡ k = cc in subst (λ x. is_from commit x ≡ false) it (below-not_from commit r below.0)
      by_key false is rest = rest is

  pub own-key : (key : Value A) (leaves : List (Held A)) (i : ℕ) (h : Held A) → i < length leaves → h ≡ get_or leaves i h → IsPlaced chain_key (λ h. h.rows) key leaves i → IsFreshIn key leaves → IsOwnKey key h
  own-key key leaves i h lt at p fresh = λ shared. go (found key h.rows) refl (all-get (IsUndoable fresh.commit) leaves i h lt at fresh.undoable shared)
    where
      in_all : found key h.rows ≡ found key (rows_in leaves)
      in_all = find-in chain_key (λ h. h.rows) key leaves i h lt at p

      go : (o : Option (KeyVersions A)) → found key h.rows ≡ o → RowsAreBelow fresh.commit h.rows → found key h.rows ≡ None
      go None e below = e
      go (Some k) e below =
          let new : is_from fresh.commit k ≡ true = subst (λ o. IfSome o (λ r. is_from fresh.commit r ≡ true)) (sym in_all ∙ e) fresh.fresh in
          absurd (true≢false (sym new ∙ rows-not_from fresh.commit key h.rows k below e))

  -- the page that is settled can still be undone
  pub settled-undoable : (needed : Needed) (commit : ℕ) (key : Value A) (old new : Held A) → new.own ≡ old.own → new.rows ≡ settle_key needed key old.rows → IsOwnKey key old → IsUndoable commit old → IsUndoable commit new
  settled-undoable needed commit key old new own made mine undoable = λ shared.
      let was : old.own ≡ false = sym own ∙ shared in
      subst (RowsAreBelow commit) (sym (made ∙ settle-missing needed key old.rows (mine was))) (undoable was)
