use Rattle.std.proofs.Common.{◌≡◌, ◌∷◌, ℕ, List, Option, ap, sym, ◌∙◌}
use Rattle.std.specs.Borrow.{Bor}
use Rattle.std.specs.Option.{option_copied}
use Rattle.std.proofs.lemmas.Result.{err_from_is_err_and}
use Rattle.restore.specs.CreateLine.{parts_of}
use Rattle.restore.proofs.words.Create.{others-next, others-fail, nothing_left}
use Rattle.restore.proofs.stepwise.Refusals.{front_with, goes_on, fails_with, is_done}
use Rattle.restore.proofs.create.columns.Goals as goal

pub returns-in_err-column : goal.returns-in_err-column
returns-in_err-column g c =
    let same : parts_of (option_copied c.loop-rest.rest) ≡ c.first_part-in-Some.result.0.now ∷ parts_of (option_copied c.first_part-in-Some.result.1) =
    ap (λ (r : Option (Bor (List ℕ))). parts_of (option_copied r)) c.in-Some.is ∙ c.first_part-in-Some.ensures.parts in
    let p = err_from_is_err_and c.from_residual-in_err-column.result c.from_residual-in_err-column.ensures.1 in
    rw (p.1, p.2) (fails_with c.in_err-column.field-0.0 c.loop-rest.columns.items _ _
    (others-fail c.in_err-column.field-0.0 _ _ c.first_part-in-Some.result.0.now same c.in_err-column.ensures) c.loop-rest.invariant)

pub loop-rest-preserved : goal.loop-rest-preserved
loop-rest-preserved g c =
    let same : parts_of (option_copied c.loop-rest.rest) ≡ c.first_part-in-Some.result.0.now ∷ parts_of (option_copied c.first_part-in-Some.result.1) =
    ap (λ (r : Option (Bor (List ℕ))). parts_of (option_copied r)) c.in-Some.is ∙ c.first_part-in-Some.ensures.parts in
    rw c.in_ok-push-2.ensures.items (goes_on c.loop-rest.columns.items c.in_ok-column.column _ _ _
    (others-next _ _ c.first_part-in-Some.result.0.now c.in_ok-column.column same c.in_ok-column.ensures) c.loop-rest.invariant)

pub returns : goal.returns
returns g c =
    is_done c.loop-rest.columns.items _ (ap (front_with c.loop-rest.columns.items) (sym (nothing_left c.loop-rest.rest c.in_default.not-Some)) ∙ c.loop-rest.invariant)
