use Rattle.std.proofs.Common.{◌∙◌, ◌++◌, ◌∷◌, [], sym, ap, append_assoc, arith}
use Rattle.std.proofs.lemmas.List.{append-nil, nil_from_length}
use Rattle.retrace.specs.Arrows.{drawn, is_drawn}
use Rattle.retrace.proofs.DrawnLemmas.{filter_skips, filter_keeps}
use Rattle.retrace.proofs.drawing.arrow.drawn.Goals as goal

pub loop-run-preserved : goal.loop-run-preserved
loop-run-preserved g c =
    let i = c.loop-run.invariant in
    let before = c.loop-run.yielded in
    let run = c.in-Some.run' in
    (append_assoc before (run ∷ []) c.next.new.self.rest.items ∙ (ap (λ l. before ++ l) (sym c.in-Some.ensures.steps.0) ∙ i.0), i.1 ∙ sym (filter_skips (is_drawn c.args.records.now c.args.first) before run (sym c.is_drawn.ensures ∙ c.if-is_drawn.false)))

pub loop-run-preserved-in-Continue-1 : goal.loop-run-preserved-in-Continue-1
loop-run-preserved-in-Continue-1 g c =
    let i = c.loop-run.invariant in
    let before = c.loop-run.yielded in
    let run = c.in-Some.run' in
    (append_assoc before (run ∷ []) c.next.new.self.rest.items ∙ (ap (λ l. before ++ l) (sym c.in-Some.ensures.steps.0) ∙ i.0), c.in_ok-push.ensures.items ∙ (ap (λ l. l ++ run ∷ []) i.1 ∙ sym (filter_keeps (is_drawn c.args.records.now c.args.first) before run (sym c.is_drawn.ensures ∙ c.if-is_drawn.true))))

pub returns-clause-ok : goal.returns-clause-ok
returns-clause-ok g c =
    let i = c.loop-run.invariant in
    let rest = c.loop-run.run-iterator.rest in
    let none = nil_from_length rest.items (omega (arith, rest.ok.0, c.in-None.ensures.steps.0)) in
    i.1 ∙ ap (λ l. drawn c.args.records.now c.args.first l) (sym (append-nil c.loop-run.yielded) ∙ (ap (λ l. c.loop-run.yielded ++ l) (sym none) ∙ i.0))
