-- A table that views share whole: it has no page for itself, and what is made of it has the same rows.
use Rattle.std.proofs.Common.{◌≡◌, refl, sym, ap, subst, ◌∙◌, ℕ, true≢false, true, List, [], ◌∷◌, ◌++◌, Option, Some, None}
use Rattle.std.specs.Prelude.{IfSome}
use Rattle.value.specs.declared.value.Value.{Value}
use Rattle.value.proofs.Basics.{all-append, all-parts}
use Rattle.mvrows.specs.Versions.{KeyVersions, AreBelow, RowsAreBelow}
use Rattle.mvrows.specs.Pruning.{has_version}
use Rattle.mvrows.specs.Settling.{Needed, found, settle_key}
use Rattle.mvrows.specs.Fresh.{is_from, IsFreshIn}
use Rattle.mvrows.specs.HeldRows.{Held, rows_in, undone, undone_in, AreUndoable, own_pruned_in, AllVersioned}
use Rattle.mvrows.specs.Owned.{is_own, value_in}
use Rattle.mvrows.specs.SharedTable.{all_shared, held_table}
use Rattle.mvrows.specs.declared.owned.Owned.{Owned}
use Rattle.mvrows.specs.declared.owned.Owned.TheVariants.{Own, Shared}
use Rattle.mvrows.proofs.HeldLemmas.{before-below, undone-kept}
use Rattle.mvrows.proofs.SettledPageLemmas.{settle-missing, rows-not_from}

module _ {A : Type 0} where
  -- ---- what a shared table shows

  pub shared-rows : (leaves : List (Held A)) → rows_in (all_shared leaves) ≡ rows_in leaves
  shared-rows [] = refl
  shared-rows (h ∷ hs) = ap (λ rest. h.rows ++ rest) (shared-rows hs)

  pub shared-undone : (commit : ℕ) (leaves : List (Held A)) → undone_in commit (all_shared leaves) ≡ rows_in leaves
  shared-undone commit [] = refl
  shared-undone commit (h ∷ hs) = ap (λ rest. h.rows ++ rest) (shared-undone commit hs)

  pub shared-pruned : (oldest : ℕ) (leaves : List (Held A)) → own_pruned_in oldest (all_shared leaves) ≡ rows_in leaves
  shared-pruned oldest [] = refl
  shared-pruned oldest (h ∷ hs) = ap (λ rest. h.rows ++ rest) (shared-pruned oldest hs)

  shared-below : (commit : ℕ) (leaves : List (Held A)) → AreUndoable commit (all_shared leaves) → RowsAreBelow commit (rows_in leaves)
  shared-below commit [] undoable = tt
  shared-below commit (h ∷ hs) undoable = all-append (λ k. AreBelow commit k.versions) h.rows (rows_in hs) (undoable.0 refl) (shared-below commit hs undoable.1)

  -- ---- a table of the same rows

  below-undoable : (commit : ℕ) (leaves : List (Held A)) → RowsAreBelow commit (rows_in leaves) → AreUndoable commit leaves
  below-undoable commit [] below = tt
  below-undoable commit (h ∷ hs) below =
      let parts = all-parts (λ k. AreBelow commit k.versions) h.rows (rows_in hs) below in
      ((λ shared. parts.0), below-undoable commit hs parts.1)

  undone-below : (commit : ℕ) (h : Held A) → AllVersioned h.rows → RowsAreBelow commit h.rows → undone commit h ≡ h.rows
  undone-below commit h versioned below = sym (undone-kept commit h versioned (λ shared. below)) ∙ before-below commit h.rows versioned below

  below-undone : (commit : ℕ) (leaves : List (Held A)) → AllVersioned (rows_in leaves) → RowsAreBelow commit (rows_in leaves) → undone_in commit leaves ≡ rows_in leaves
  below-undone commit [] versioned below = refl
  below-undone commit (h ∷ hs) versioned below =
      let have = all-parts (λ k. has_version k ≡ true) h.rows (rows_in hs) versioned in
      let parts = all-parts (λ k. AreBelow commit k.versions) h.rows (rows_in hs) below in
      λ i. undone-below commit h have.0 parts.0 i ++ below-undone commit hs have.1 parts.1 i

  lent-undone : (commit : ℕ) (leaves more : List (Held A)) → rows_in more ≡ rows_in leaves → AllVersioned (rows_in (all_shared leaves)) → AreUndoable commit (all_shared leaves) → undone_in commit more ≡ undone_in commit (all_shared leaves)
  lent-undone commit leaves more same versioned undoable =
      below-undone commit more (subst AllVersioned (shared-rows leaves ∙ sym same) versioned) (subst (RowsAreBelow commit) (sym same) (shared-below commit leaves undoable))
      ∙ same ∙ sym (shared-undone commit leaves)

  -- ---- a table that is taken out for a change

  pub held-rows : (table : Owned (List (Held A)) A) → rows_in (held_table table) ≡ rows_in (value_in table)
  held-rows (Own table) = refl
  held-rows (Shared table) = shared-rows table.value

  pub taken-undo : (commit : ℕ) (table : Owned (List (Held A)) A) (taken : List (Held A)) → (is_own table ≡ true → taken ≡ value_in table) → rows_in taken ≡ rows_in (value_in table) → AllVersioned (rows_in (held_table table)) → AreUndoable commit (held_table table) → undone_in commit taken ≡ undone_in commit (held_table table)
  taken-undo commit (Own table) taken own same versioned undoable = ap (undone_in commit) (own refl)
  taken-undo commit (Shared table) taken own same versioned undoable = lent-undone commit table.value taken same versioned undoable

  pub taken-undoable : (commit : ℕ) (table : Owned (List (Held A)) A) (taken : List (Held A)) → (is_own table ≡ true → taken ≡ value_in table) → rows_in taken ≡ rows_in (value_in table) → AreUndoable commit (held_table table) → AreUndoable commit taken
  taken-undoable commit (Own table) taken own same undoable = subst (AreUndoable commit) (sym (own refl)) undoable
  taken-undoable commit (Shared table) taken own same undoable = below-undoable commit taken (subst (RowsAreBelow commit) (sym same) (shared-below commit table.value undoable))

  -- ---- a fresh key isn't in a table that is shared

  pub settle-all_shared : (needed : Needed) (key : Value A) (leaves : List (Held A)) → IsFreshIn key (all_shared leaves) → rows_in leaves ≡ settle_key needed key (rows_in leaves)
  settle-all_shared needed key leaves fresh = go (found key (rows_in leaves)) refl (shared-below fresh.commit leaves fresh.undoable)
    where
      go : (o : Option (KeyVersions A)) → found key (rows_in leaves) ≡ o → RowsAreBelow fresh.commit (rows_in leaves) → rows_in leaves ≡ settle_key needed key (rows_in leaves)
      go None e below = sym (settle-missing needed key (rows_in leaves) e)
      go (Some k) e below =
          let new : is_from fresh.commit k ≡ true = subst (λ o. IfSome o (λ r. is_from fresh.commit r ≡ true)) (ap (found key) (shared-rows leaves) ∙ e) fresh.fresh in
          absurd (true≢false (sym new ∙ rows-not_from fresh.commit key (rows_in leaves) k below e))
