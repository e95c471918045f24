use Rattle.std.proofs.lemmas.Result.{IfErr-weaker, IfOk-weaker}
use Rattle.program.specs.Files.{writing_of}
use Rattle.program.proofs.KeepLemmas.{dump_ends_it}
use Rattle.program.proofs.machine.Machine.tell_dump.Goals as goal

pub returns-clause-told : goal.returns-clause-told
returns-clause-told g c = IfOk-weaker c.dump_text.result _ _ (λ text told. (c.dump_to_file-done.result, c.dump_to_file-done.ensures, told)) c.dump_text.ensures.text

pub returns-clause-fault : goal.returns-clause-fault
returns-clause-fault g c =
    IfErr-weaker c.dump_text.result _ _
    (λ f why. dump_ends_it (writing_of g.F.Out.OutFile.path g.F.Out.Placed.kept g.F.Out.Device.failures) c.args.core.now c.args.session c.args.request.now.path c.dump_to_file-done.result f _ c.dump_to_file-done.ensures c.as_str.ensures why)
    c.dump_text.ensures.fault
