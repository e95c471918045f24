use Rattle.std.proofs.Common.{inl, ◌≡◌, ◌∙◌, ◌++◌, ◌+◌, take, sym, ap, subst, arith}
use Rattle.program.specs.Files.{writing_of}
use Rattle.program.specs.Freely.{AreTold}
use Rattle.std.proofs.lemmas.Result.{err_from_is_err_and}
use Rattle.program.proofs.FreelyLemmas.{line_ends, told_next}
use Rattle.program.proofs.free.commands.Client.tell_lines.Goals as goal

pub loop-line-preserved : goal.loop-line-preserved
loop-line-preserved g c =
    let writes = writing_of g.S.Out.OutFile.path g.S.Out.Placed.kept g.S.Out.Device.failures in
    let o = g.J.Naming.opening in
    let most = g.J.Naming.most in
    let so_far = c.loop-line.text.items in
    let said : c.append.new.text.items ≡ so_far ++ c.in_ok-told.told.items = c.in_ok-append.ensures.added ∙ ap (λ s. so_far ++ s) c.as_slice.ensures.value in
    let told = told_next writes o most c.args.lines.now c.loop-line.line-index c.line-item.result c.args.pass.now c.loop-line.pass c.tell_line.new.pass so_far c.in_ok-told.told.items (omega arith) c.line-item.is c.loop-line.invariant c.in_ok-told.ensures.told in
    subst (λ s. AreTold writes o most (take (c.loop-line.line-index + 1) c.args.lines.now) c.args.pass.now s c.tell_line.new.pass) (sym said) told

pub returns-in_err-told-clause-fault : goal.returns-in_err-told-clause-fault
returns-in_err-told-clause-fault g c =
    let p = err_from_is_err_and c.from_residual.result c.from_residual.ensures.1 in
    rw (p.1, p.2) (line_ends g.J.Naming.opening g.J.Naming.most c.args.lines.now c.loop-line.line-index c.line-item.result c.tell_line.new.pass c.in_err-told.field-0.0 (omega arith) c.line-item.is c.in_err-told.ensures.fault)

pub returns-in_err-append-clause-fault : goal.returns-in_err-append-clause-fault
returns-in_err-append-clause-fault g c =
    let p = err_from_is_err_and c.from_residual-in_err-append.result c.from_residual-in_err-append.ensures.1 in
    rw (p.1, p.2) (inl c.in_err-append.ensures.fault)
