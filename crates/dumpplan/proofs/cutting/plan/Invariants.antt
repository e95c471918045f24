use Rattle.std.proofs.Common.{◌≡◌, ℕ, ◌<◌, ◌++◌, ◌∷◌, drop}
use Rattle.schema.specs.Plain.{rows_of}
use Rattle.schema.specs.Rows.{IsInKeyOrder}
use Rattle.dumpplan.specs.declared.piece.Piece.TheVariants.{Head}
use Rattle.dumpplan.specs.Pieces.{tables_pieces}
use Rattle.dumpplan.proofs.cutting.plan.Given as goal

-- the pieces of the tables so far, and those of the tables left; the tables so far are in key order
abbrev pub invariant-loop-place : goal.invariant-loop-place
invariant-loop-place g l =
    let tables = g.R.SnapshotReader.tables l.reader in
    (l.pieces.items ++ tables_pieces l.piece_rows l.place (drop l.place tables) ≡ Head ∷ tables_pieces l.piece_rows 0 tables)
    × ((k : ℕ) → k < l.place → IsInKeyOrder (rows_of tables k))
