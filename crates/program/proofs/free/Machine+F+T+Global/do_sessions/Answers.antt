use Rattle.program.specs.Files.{writing_of}
use Rattle.std.proofs.Common.{inl, inr}
use Rattle.std.proofs.lemmas.Result.{IfErr-weaker, err_from_is_err_and}
use Rattle.program.proofs.FreelyLemmas.{sessions_have_run}
use Rattle.program.proofs.StopLemmas.{printing_ends}
use Rattle.program.proofs.free.Machine+F+T+Global.do_sessions.Goals as goal

pub returns-clause-done : goal.returns-clause-done
returns-clause-done g c = sessions_have_run c.print_whole.result (writing_of g.F.Out.OutFile.path g.F.Out.Placed.kept g.F.Out.Device.failures) _ c.args.way _ c.in_ok-catalog.catalog c.in_ok-catalog.tables c.in_ok-text.text.items c.as_slice.result.now _ _ c.in_ok-catalog.ensures.begins c.in_ok-text.ensures.served c.as_slice.ensures.value c.print_whole.ensures.printed c.print_whole.ensures.flushed

pub returns-in_err-catalog-clause-fault : goal.returns-in_err-catalog-clause-fault
returns-in_err-catalog-clause-fault g c =
    let p = err_from_is_err_and c.from_residual.result c.from_residual.ensures.1 in
    rw (p.1, p.2) (inl c.in_err-catalog.ensures.fault)

pub returns-in_err-text-clause-fault : goal.returns-in_err-text-clause-fault
returns-in_err-text-clause-fault g c =
    let p = err_from_is_err_and c.from_residual-in_err-text.result c.from_residual-in_err-text.ensures.1 in
    rw (p.1, p.2) (inr (inl (c.in_ok-catalog.catalog, c.in_ok-catalog.tables, c.in_ok-catalog.ensures.begins, c.in_err-text.ensures.fault)))

pub returns-clause-fault : goal.returns-clause-fault
returns-clause-fault g c =
    IfErr-weaker c.print_whole.result _ _
    (λ f why. printing_ends _ c.args.way _ c.in_ok-catalog.catalog c.in_ok-catalog.tables f c.print_whole.new.printer c.in_ok-catalog.ensures.begins why)
    c.print_whole.ensures.fault
