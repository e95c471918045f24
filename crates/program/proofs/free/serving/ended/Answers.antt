use Rattle.std.proofs.Common.{◌∙◌, ◌++◌, ◌∷◌, [], sym, ap, append_assoc}
use Rattle.std.proofs.lemmas.Result.{err_from_is_err_and}
use Rattle.program.proofs.FreelyLemmas.{ended_more, stopped_among}
use Rattle.program.proofs.free.serving.ended.Goals as goal

pub loop-seat-preserved : goal.loop-seat-preserved
loop-seat-preserved g c =
    let i = c.loop-seat.invariant in
    let seat = c.in-Some.seat in
    let before = c.loop-seat.yielded in
    let more = ended_more before seat (λ s. s.pass) (λ s. s.told) (λ v. v.items) c.loop-seat.passes.items c.end.new.passes.items c.loop-seat.text.items c.end.new.text.items i.1 c.in_ok-end.ensures.passes i.2 c.in_ok-end.ensures.text in
    (append_assoc before (seat ∷ []) c.next.new.self.rest.items ∙ (ap (λ l. before ++ l) (sym c.in-Some.ensures.steps.0) ∙ i.0), more.0, more.1)

pub returns-in_err-end-clause-fault : goal.returns-in_err-end-clause-fault
returns-in_err-end-clause-fault g c =
    let p = err_from_is_err_and c.from_residual.result c.from_residual.ensures.1 in
    rw (p.1, p.2) (stopped_among c.args.seats.items c.loop-seat.yielded c.in-Some.seat _ _ (λ s. s.told) c.in_err-end.field-0.0 c.loop-seat.invariant.0 c.in-Some.ensures.steps.0 c.in_err-end.ensures.why)
