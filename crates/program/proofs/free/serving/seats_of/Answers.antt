use Rattle.std.proofs.Common.{◌∙◌, ◌++◌, ◌∷◌, [], sym, ap, append_assoc}
use Rattle.program.proofs.FreelyLemmas.{seated_more}
use Rattle.program.proofs.free.serving.seats_of.Goals as goal

pub loop-pass-preserved : goal.loop-pass-preserved
loop-pass-preserved g c =
    let i = c.loop-pass.invariant in
    let pass = c.in-Some.pass in
    let before = c.loop-pass.yielded in
    let more = seated_more c.loop-pass.seats.items c.push.new.self.items c.new.result pass before (λ s. s.pass) (λ s. s.lines.now) c.args.lines.now c.in_ok-push.ensures.items i.1 i.2 c.new.ensures.pass c.new.ensures.lines in
    (append_assoc before (pass ∷ []) c.next.new.self.rest.items ∙ (ap (λ l. before ++ l) (sym c.in-Some.ensures.steps.0) ∙ i.0), more.0, more.1)
