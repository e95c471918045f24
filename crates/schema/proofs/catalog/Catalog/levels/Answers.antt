use Rattle.std.proofs.Common.{◌≡◌, ◌≤◌, ◌+◌, List, ℕ, length, ap, sym, ◌∙◌, subst, take, get_or, slice_get, arith}
use Rattle.schema.specs.Levels.{level_over, AreLevels}
use Rattle.schema.proofs.LevelsLemmas.{levels-next, low-next}
use Rattle.schema.proofs.catalog.Catalog.levels.Goals as goal

pub loop-place-preserved : goal.loop-place-preserved
loop-place-preserved g c =
    let place = c.loop-place.place in
    let levels = c.loop-place.levels.items in
    let level = c.level_over-level.result in
    let found = ap (slice_get c.args.self.now) (sym c.at.ensures) ∙ c.table-table.ensures.table in
    let count : length levels ≡ place = omega (arith, c.loop-place.invariant.1, c.loop-place.levels.ok.0) in
    let over = c.level_over-level.ensures.level ∙ (λ i. level_over (c.as_slice.ensures.value i) (c.columns.ensures.columns i)) in
    let last : level ≤ place + 1 = omega (arith, c.level_over-level.ensures.low, ap length c.as_slice.ensures.value, count) in (
      subst (AreLevels (take (place + 1) c.args.self.now)) (sym c.in_ok-push.ensures.items) (levels-next c.args.self.now place c.table-table.result.now levels level c.well_formed-2.ensures found count c.loop-place.invariant.0 over),
      omega (arith, c.in_ok-push.ensures.len, c.loop-place.invariant.1),
      λ k. subst (λ (xs : List ℕ). get_or xs k 0 ≤ place + 1) (sym c.in_ok-push.ensures.items) (low-next levels level place c.loop-place.invariant.2 last k),
    )
