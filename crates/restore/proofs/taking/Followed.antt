-- Rows that rise, put after their table one after another.
use Rattle.std.proofs.Common.{◌≡◌, true, ◌&&◌, List, [], ◌∷◌, Some, Result, Ok, Err, sym, subst}
use Rattle.std.specs.Ordering.{is_lt}
use Rattle.std.proofs.lemmas.Bool.{and_parts}
use Rattle.value.specs.Order.{value_cmp}
use Rattle.value.proofs.Basics.{Less-from_lt}
use Rattle.schema.specs.Definition.{Column}
use Rattle.schema.specs.declared.row.Row.{Row}
use Rattle.schema.specs.declared.tables.Tables.{Tables}
use Rattle.schema.specs.Rows.{Rows, put_row}
use Rattle.restore.specs.declared.error.LineError.{LineError}
use Rattle.restore.specs.Rows.{is_free, IsNext, rise_from, rise, follows, AreStillThere}
use Rattle.restore.proofs.taking.Behind.{still_behind}
use Rattle.restore.proofs.taking.StillThere.{free-still, rise_from-too}

module _ {A : Type 0} where
  -- the next of some rows may be put after a table, and those after it rise from its key
  abbrev pub IsFollowed : Tables A → List Column → Rows A → List (Result (Row A) LineError) → Type 0
  IsFollowed X ds table [] = Unit {0}
  IsFollowed X ds table (Ok row ∷ rows) = IsNext X ds table row × (rise_from (Some X) ds row.0 rows ≡ true)
  IsFollowed X ds table (Err e ∷ rows) = ⊥

  pub followed-first : (X : Tables A) (ds : List Column) (table : Rows A) (rows left : List (Result (Row A) LineError)) → left ≡ rows → rise (Some X) ds rows ≡ true → follows table rows ≡ true → IsFollowed X ds table left
  followed-first X ds table rows left same rises behind = subst (IsFollowed X ds table) (sym same) (go rows rises behind)
    where
      go : (all : List (Result (Row A) LineError)) → rise (Some X) ds all ≡ true → follows table all ≡ true → IsFollowed X ds table all
      go [] h k = tt
      go (Ok row ∷ more) h k = let p = and_parts (is_free (Some X) ds row) (rise_from (Some X) ds row.0 more) h in ((p.0, k), p.1)
      go (Err e ∷ more) h k = absurd cc

  pub followed-next : (X Y : Tables A) (ds : List Column) (table : Rows A) (row : Row A) (rows : List (Result (Row A) LineError)) → AreStillThere X Y → IsNext X ds table row → rise_from (Some X) ds row.0 rows ≡ true → IsFollowed Y ds (put_row table row) rows
  followed-next X Y ds table row [] still next rises = tt
  followed-next X Y ds table row (Ok more ∷ rows) still next rises =
      let p = and_parts (is_lt (value_cmp row.0 more.0) && is_free (Some X) ds more) (rise_from (Some X) ds more.0 rows) rises in
      let q = and_parts (is_lt (value_cmp row.0 more.0)) (is_free (Some X) ds more) p.0 in
      let free = free-still X Y ds still in
      ((free more q.1, still_behind table row more.0 next.1 (Less-from_lt (value_cmp row.0 more.0) q.0)), rise_from-too (Some X) (Some Y) ds more.0 rows free p.1)
  followed-next X Y ds table row (Err e ∷ rows) still next rises = absurd cc
