use Rattle.std.proofs.Common.{ap, sym, ◌∙◌, ◌++◌, ◌∷◌, [], slice_get}
use Rattle.schema.specs.WellFormed.{is_table_after}
use Rattle.schema.proofs.WellFormedLemmas.{table_at, take-next}
use Rattle.schema.proofs.catalog.Catalog.copy.Goals as goal

pub push-requires-clause-well_formed : goal.push-requires-clause-well_formed
push-requires-clause-well_formed g c =
    let found = ap (slice_get c.args.self.now) (sym c.at.ensures) ∙ c.table.ensures.table in
    (λ i. is_table_after (c.loop-place.invariant i) (c.in_ok-table.ensures.ok i)) ∙ table_at c.args.self.now c.loop-place.place c.table.result.now c.well_formed-2.ensures found

pub loop-place-preserved : goal.loop-place-preserved
loop-place-preserved g c =
    let found = ap (slice_get c.args.self.now) (sym c.at.ensures) ∙ c.table.ensures.table in
    c.in_ok-push.ensures.ok ∙ (λ i. c.loop-place.invariant i ++ c.in_ok-table.ensures.ok i ∷ []) ∙ take-next c.args.self.now c.loop-place.place c.table.result.now found
