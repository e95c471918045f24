use Rattle.std.proofs.Common.{◌≡◌, ◌+◌, ◌∷◌, ◌∙◌, ap, sym, subst, length, arith}
use Rattle.std.proofs.lemmas.List.{nil_from_length}
use Rattle.std.proofs.lemmas.Result.{err_from_is_err_and}
use Rattle.schema.specs.Definition.{columns_of}
use Rattle.restore.specs.Rows.{MayRise}
use Rattle.restore.proofs.taking.StillThere.{may_first, may_rest, may_still}
use Rattle.restore.proofs.taking.Taking.{taking-first, taking-next, taking-stops, taking-all, keeping-first, keeping-next}
use Rattle.restore.proofs.pieces.take_pieces.Goals as goal

pub loop-piece-init : goal.loop-piece-init
loop-piece-init g c = record {
  rows = λ counted size lines more are alone some.
      taking-first counted size c.args.catalog.now c.args.table more c.args.number lines c.args.tables.now c.into_iter-piece-iterator.result.rest.items c.args.pieces.items c.into_iter-piece-iterator.ensures.into_iter_gives.0 are alone;
  rise = subst (MayRise c.args.tables.now (columns_of c.args.catalog.now c.args.table)) (sym c.into_iter-piece-iterator.ensures.into_iter_gives.0) c.requires.rise;
  same_tables = c.requires.same_tables;
  sound = λ size lines are h. keeping-first size c.args.catalog.now c.args.table c.into_iter-piece-iterator.result.rest.items c.args.pieces.items lines c.args.tables.now c.into_iter-piece-iterator.ensures.into_iter_gives.0 are h;
}

pub take_rows-requires-clause-rise : goal.take_rows-requires-clause-rise
take_rows-requires-clause-rise g c =
    may_first c.loop-piece.tables (columns_of c.args.catalog.now c.args.table) c.loop-piece.piece-iterator.rest.items c.next.new.self.rest.items c.in_ok-piece.piece (c.in-Some.ensures.steps.0 ∙ ap (λ p. p ∷ c.next.new.self.rest.items) c.in_ok-piece.was) c.loop-piece.invariant.rise

pub loop-piece-preserved : goal.loop-piece-preserved
loop-piece-preserved g c =
    let e = c.in-Some.ensures.steps.0 ∙ ap (λ p. p ∷ c.next.new.self.rest.items) c.in_ok-piece.was in
    let same : c.in_ok-next.next ≡ c.loop-piece.line + length c.in_ok-piece.piece.rows.items = omega (arith, c.in_ok-next.ensures.ok.0, c.len.ensures, c.in_ok-piece.piece.rows.ok.0) in
    record {
      rows = λ counted size lines more are alone some.
          taking-next counted size c.args.catalog.now c.args.table more c.args.number lines c.args.tables.now c.loop-piece.line c.in_ok-next.next c.loop-piece.piece-iterator.rest.items c.next.new.self.rest.items c.loop-piece.tables c.take_rows.new.tables c.in_ok-piece.piece
          some e same (λ front behind read rows some_behind. c.in_ok-take_rows.ensures.rows counted front behind read rows some_behind) (c.loop-piece.invariant.rows counted size lines more are alone some);
      rise =
          may_still c.loop-piece.tables c.take_rows.new.tables (columns_of c.args.catalog.now c.args.table) c.next.new.self.rest.items c.take_rows.ensures.stay
          (may_rest c.loop-piece.tables (columns_of c.args.catalog.now c.args.table) c.loop-piece.piece-iterator.rest.items c.next.new.self.rest.items c.in_ok-piece.piece e c.loop-piece.invariant.rise);
      same_tables = c.take_rows.ensures.same_tables;
      sound = λ size lines are h.
          keeping-next size c.args.catalog.now c.args.table c.loop-piece.piece-iterator.rest.items c.next.new.self.rest.items c.loop-piece.tables c.take_rows.new.tables c.in_ok-piece.piece e c.take_rows.ensures.sound (c.loop-piece.invariant.sound size lines are h);
    }

pub returns-in_err-take_rows-clause-rows : goal.returns-in_err-take_rows-clause-rows
returns-in_err-take_rows-clause-rows g c = λ counted size lines more are alone some.
    let e = c.in-Some.ensures.steps.0 ∙ ap (λ p. p ∷ c.next.new.self.rest.items) c.in_ok-piece.was in
    let p = err_from_is_err_and c.from_residual-in_err-take_rows.result c.from_residual-in_err-take_rows.ensures.1 in
    rw (p.1, p.2) (taking-stops counted size c.args.catalog.now c.args.table more c.args.number lines c.args.tables.now c.loop-piece.line c.loop-piece.piece-iterator.rest.items c.next.new.self.rest.items c.loop-piece.tables c.in_ok-piece.piece c.in_err-take_rows.field-0.0
    some e (λ front behind read rows some_behind. c.in_err-take_rows.ensures.rows counted front behind read rows some_behind) (c.loop-piece.invariant.rows counted size lines more are alone some))

pub returns-in_err-take_rows-clause-sound : goal.returns-in_err-take_rows-clause-sound
returns-in_err-take_rows-clause-sound g c = λ size lines are h.
    let e = c.in-Some.ensures.steps.0 ∙ ap (λ p. p ∷ c.next.new.self.rest.items) c.in_ok-piece.was in
    (keeping-next size c.args.catalog.now c.args.table c.loop-piece.piece-iterator.rest.items c.next.new.self.rest.items c.loop-piece.tables c.take_rows.new.tables c.in_ok-piece.piece e c.take_rows.ensures.sound (c.loop-piece.invariant.sound size lines are h)).sound

pub returns-clause-rows : goal.returns-clause-rows
returns-clause-rows g c = λ counted size lines more are alone some.
    let rest = c.loop-piece.piece-iterator.rest in
    taking-all counted size c.args.catalog.now c.args.table more c.args.number lines c.args.tables.now c.loop-piece.line rest.items c.loop-piece.tables
    (nil_from_length rest.items (omega (arith, rest.ok.0, c.in-None.ensures.steps.0))) (c.loop-piece.invariant.rows counted size lines more are alone some)

pub returns-clause-sound : goal.returns-clause-sound
returns-clause-sound g c = λ size lines are h. (c.loop-piece.invariant.sound size lines are h).sound
