-- After a commit the next one is above all versions, and so it is after a pruning; there are as many tables as before.
use Rattle.std.proofs.Common.{ℕ, ◌≡◌, ◌∙◌, ◌+◌, ◌<◌, List, [], ◌∷◌, length, ap, sym, subst, arith}
use Rattle.std.specs.Prelude.{Result, Ok, Err, OnOk, OnErr}
use Rattle.std.proofs.lemmas.List.{length-map}
use Rattle.schema.specs.declared.changes.Change.{Change}
use Rattle.mvrows.specs.Versions.{Version, VersionedRows, AreBelow, RowsAreBelow, TablesAreBelow}
use Rattle.mvrows.specs.Installing.{installed}
use Rattle.mvrows.specs.Settling.{Needed, settled}
use Rattle.mvrows.specs.Pruning.{pruned, pruned_rows}
use Rattle.mvrows.proofs.NewestLemmas.{length-installed}
use Rattle.mvrows.proofs.PruningLemmas.{pruned-below}
use Rattle.mvrows.proofs.SettlingLemmas.{settled-below, length-settled}
use Rattle.mvrows.proofs.VersionLemmas.{installed-below}

module _ {A : Type 0} where
  versions-next : (n : ℕ) (vs : List (Version A)) → AreBelow n vs → AreBelow (n + 1) vs
  versions-next n [] below = tt
  versions-next n (v ∷ vs) below = (let lt : v.number < n = below.0 in omega (arith, lt), versions-next n vs below.1)

  rows-next : (n : ℕ) (rows : VersionedRows A) → RowsAreBelow n rows → RowsAreBelow (n + 1) rows
  rows-next n [] below = tt
  rows-next n (r ∷ rs) below = (versions-next n r.versions below.0, rows-next n rs below.1)

  tables-next : (n : ℕ) (tables : List (VersionedRows A)) → TablesAreBelow n tables → TablesAreBelow (n + 1) tables
  tables-next n [] below = tt
  tables-next n (rows ∷ tables) below = (rows-next n rows below.0, tables-next n tables below.1)

  installed-next : (n : ℕ) (xs : List (Change A)) (tables : List (VersionedRows A)) → TablesAreBelow n tables → TablesAreBelow (n + 1) (installed n xs tables)
  installed-next n xs tables below = installed-below (n + 1) n xs tables (omega arith) (tables-next n tables below)

  -- what a commit leaves
  pub committed : (n : ℕ) (needed : Needed) (xs : List (Change A)) (before after : List (VersionedRows A)) → after ≡ settled needed xs (installed n xs before)
      → TablesAreBelow n before × (length before ≡ 3) → TablesAreBelow (n + 1) after × (length after ≡ 3)
  committed n needed xs before after e was = (
    subst (TablesAreBelow (n + 1)) (sym e) (settled-below (n + 1) needed xs (installed n xs before) (installed-next n xs before was.0)),
    ap length e ∙ length-settled needed xs (installed n xs before) ∙ length-installed n xs before ∙ was.1,
  )

  -- what a pruning leaves, or its refusal
  pub pruned_so : {T E : Type 0} (r : Result T E) (n oldest : ℕ) (before after : List (VersionedRows A)) → OnOk r (after ≡ pruned oldest before) → OnErr r (after ≡ before)
      → TablesAreBelow n before × (length before ≡ 3) → TablesAreBelow n after × (length after ≡ 3)
  pruned_so (Ok x) n oldest before after ok err was =
      (subst (TablesAreBelow n) (sym ok) (pruned-below n oldest before was.0), ap length ok ∙ length-map before (pruned_rows oldest) ∙ was.1)
  pruned_so (Err x) n oldest before after ok err was = (subst (TablesAreBelow n) (sym err) was.0, ap length err ∙ was.1)
