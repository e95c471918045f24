use Rattle.std.proofs.Common.{◌≡◌, ℕ, ◌<◌, ◌≤◌, ◌++◌, ◌∷◌, [], List, length, sym, ap, subst, ◌∙◌, arith, below_more}
use Rattle.std.specs.List.{AllByRecursion}
use Rattle.schema.specs.Plain.{rows_of}
use Rattle.schema.specs.Rows.{IsInKeyOrder}
use Rattle.dumpplan.specs.declared.piece.Piece.{Piece}
use Rattle.dumpplan.specs.declared.piece.Piece.TheVariants.{Head}
use Rattle.dumpplan.specs.Pieces.{table_pieces, tables_pieces, piece_texts, joined, planned, IsPieceOf}
use Rattle.dumpplan.proofs.PlanLemmas.{plan_text, known_plan, tables_step, all_of_each, planned_whole}
use Rattle.dumpplan.proofs.cutting.plan.Goals as goal

pub loop-place-preserved : goal.loop-place-preserved
loop-place-preserved g c =
    let tables = g.R.SnapshotReader.tables c.args.reader.now in
    let place = c.loop-place.place in
    let inside : place < length tables = omega arith in
    let made = subst (λ (t : ℕ). c.push_table.new.pieces.items ≡ c.loop-place.pieces.items ++ table_pieces c.args.piece_rows t (rows_of tables t)) c.at.ensures c.in_ok-push_table.ensures.ok in
    let ordered = subst (λ (t : ℕ). IsInKeyOrder (rows_of tables t)) c.at.ensures c.in_ok-push_table.ensures.ordered in (
      tables_step c.args.piece_rows place tables c.loop-place.pieces.items c.push_table.new.pieces.items (Head ∷ tables_pieces c.args.piece_rows 0 tables) inside c.loop-place.invariant.0 made,
      below_more _ _ c.loop-place.invariant.1 ordered,
    )

pub returns-clause-text : goal.returns-clause-text
returns-clause-text g c =
    let tables = g.R.SnapshotReader.tables c.args.reader.now in
    let catalog = c.args.catalog.now in
    let place = c.loop-place.place in
    let past : length tables ≤ place = omega arith in
    let sorted : AllByRecursion (IsInKeyOrder {A = g.row.A.Denot}) tables = all_of_each (IsInKeyOrder {A = g.row.A.Denot}) [] tables (λ k lt. c.loop-place.invariant.1 k (omega arith)) in
    let is : c.of.result ≡ planned c.args.piece_rows tables = planned_whole c.args.piece_rows place tables c.loop-place.pieces.items c.push-2.new.self.items c.of.result past c.loop-place.invariant.0 c.in_ok-push-2.ensures.items c.of.ensures in
    ap (λ (ps : List (Piece g.row.A.Denot)). joined (piece_texts catalog tables ps)) is ∙ plan_text c.args.piece_rows catalog tables c.requires sorted

pub returns-clause-known : goal.returns-clause-known
returns-clause-known g c =
    let tables = g.R.SnapshotReader.tables c.args.reader.now in
    let catalog = c.args.catalog.now in
    let place = c.loop-place.place in
    let past : length tables ≤ place = omega arith in
    let few : length tables ≤ length catalog = omega arith in
    let is : c.of.result ≡ planned c.args.piece_rows tables = planned_whole c.args.piece_rows place tables c.loop-place.pieces.items c.push-2.new.self.items c.of.result past c.loop-place.invariant.0 c.in_ok-push-2.ensures.items c.of.ensures in
    subst (λ (ps : List (Piece g.row.A.Denot)). AllByRecursion (IsPieceOf (length catalog)) ps) (sym is) (known_plan (length catalog) c.args.piece_rows tables few)
