use Rattle.std.proofs.Common.{◌∙◌, arith, inl, inr, refl, sym}
use Rattle.std.proofs.lemmas.Bool.{eqb-true}
use Rattle.std.proofs.lemmas.List.{nil_from_length}
use Rattle.std.proofs.lemmas.Result.{err_from_is_err_and}
use Rattle.explore.proofs.SetupLemmas.{lacks_plan}
use Rattle.explore.proofs.setup.setup_of.Goals as goal

pub returns-then-is_empty-clause-none : goal.returns-then-is_empty-clause-none
returns-then-is_empty-clause-none g c =
    inr (inl (nil_from_length c.args.lines.items (omega (arith, c.args.lines.ok.0, eqb-true c.args.lines.len 0 (sym c.is_empty.ensures ∙ c.if-is_empty.true))), refl))

pub returns-in_err-explored-clause-none : goal.returns-in_err-explored-clause-none
returns-in_err-explored-clause-none g c =
    let p = err_from_is_err_and c.from_residual.result c.from_residual.ensures.1 in
    rw (p.1, p.2) (lacks_plan c.args.lines.items c.in_err-explored.field-0.0 c.in_err-explored.ensures.none)
