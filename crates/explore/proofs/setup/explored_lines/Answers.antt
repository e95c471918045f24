use Rattle.std.proofs.Common.{◌∙◌, ◌++◌, ◌∷◌, [], sym, ap, append_assoc, arith}
use Rattle.std.proofs.lemmas.List.{nil_from_length}
use Rattle.std.proofs.lemmas.Result.{err_from_is_err_and}
use Rattle.explore.proofs.SetupLemmas.{all_explored, lacks_here, one_explored}
use Rattle.explore.proofs.setup.explored_lines.Goals as goal

pub loop-line-preserved : goal.loop-line-preserved
loop-line-preserved g c =
    let done = c.loop-line.yielded in
    let line = c.in-Some.line in (
      append_assoc done (line ∷ []) c.next.new.self.rest.items ∙ (ap (λ ls. done ++ ls) (sym c.in-Some.ensures.steps.0) ∙ c.loop-line.invariant.0),
      one_explored done line c.loop-line.explored.items c.push_line.new.explored.items c.loop-line.turns.items c.push_line.new.turns.items c.in_ok-push_line.ensures.explored c.in_ok-push_line.ensures.turns c.loop-line.invariant.1,
    )

pub returns-clause-explored : goal.returns-clause-explored
returns-clause-explored g c =
    let rest = c.loop-line.line-iterator.rest in
    let none = nil_from_length rest.items (omega (arith, rest.ok.0, c.in-None.ensures.steps.0)) in
    all_explored c.args.lines.items c.loop-line.yielded rest.items c.loop-line.explored.items c.loop-line.turns.items none c.loop-line.invariant.0 c.loop-line.invariant.1

pub returns-in_err-push_line-clause-none : goal.returns-in_err-push_line-clause-none
returns-in_err-push_line-clause-none g c =
    let p = err_from_is_err_and c.from_residual.result c.from_residual.ensures.1 in
    rw (p.1, p.2) (lacks_here c.args.lines.items c.loop-line.yielded c.loop-line.line-iterator.rest.items c.next.new.self.rest.items c.in-Some.line c.loop-line.explored.items c.loop-line.turns.items c.in_err-push_line.field-0.0 c.in-Some.ensures.steps.0 c.loop-line.invariant.0 c.loop-line.invariant.1 c.in_err-push_line.ensures.none)
