use Rattle.std.proofs.Common.{◌≡◌, ◌∙◌, Some, length, slice_get, sym, ap, subst, arith}
use Rattle.std.proofs.lemmas.List.{length-map}
use Rattle.program.specs.Files.{writing_of}
use Rattle.program.specs.Freely.{ArePrinted, fresh}
use Rattle.std.proofs.lemmas.Result.{IfErr-weaker, IfOk-weaker}
use Rattle.program.proofs.FreelyLemmas.{all_printed, of_both, these_end}
use Rattle.program.proofs.free.serving.play_all.Goals as goal

pub returns-clause-text : goal.returns-clause-text
returns-clause-text g c =
    let writes = writing_of g.S.Out.OutFile.path g.S.Out.Placed.kept g.S.Out.Device.failures in
    let o = g.J.Naming.opening in
    let most = g.J.Naming.most in
    let lines = c.args.lines.now in
    let old = c.in-Ok.seats.items in
    let new = c.play.result.items in
    of_both c.ended.result _ _ _
    (λ r passes joined.
    subst (λ ps. ArePrinted writes o most lines 1 ps r.1.items)
    (sym passes)
    (all_printed writes o most lines old new (λ v. v.items) (λ s. s.pass) (λ s. s.lines.now) (λ s. s.told) 1 r.1.items
    c.play.ensures.count
    c.play.ensures.each
    (λ k p at. c.requires k p (subst (λ ps. slice_get ps k ≡ Some p) c.in-Ok.ensures.passes at) ∙ ap fresh (omega arith))
    c.in-Ok.ensures.lines
    joined))
    c.ended.ensures.passes
    c.ended.ensures.text

pub returns-clause-count : goal.returns-clause-count
returns-clause-count g c =
    IfOk-weaker c.ended.result _ _
    (λ r passes. ap length passes ∙ length-map c.play.result.items (λ s. s.pass) ∙ c.play.ensures.count ∙ sym (length-map c.in-Ok.seats.items (λ s. s.pass)) ∙ ap length c.in-Ok.ensures.passes)
    c.ended.ensures.passes

pub returns-clause-fault : goal.returns-clause-fault
returns-clause-fault g c =
    IfErr-weaker c.ended.result _ _
    (λ f why. these_end g.J.Naming.opening g.J.Naming.most c.args.lines.now c.in-Ok.seats.items c.play.result.items (λ s. s.lines.now) (λ s. s.told) f c.play.ensures.count c.play.ensures.faults c.in-Ok.ensures.lines why)
    c.ended.ensures.fault
