use Rattle.std.proofs.Common.{◌≡◌, Some, subst}
use Rattle.std.proofs.lemmas.Result.{IfErr-weaker, IfOk-weaker}
use Rattle.backup.specs.Backed.{seen_by}
use Rattle.program.specs.Dumps.{IsDumpedAt, dump_text}
use Rattle.program.specs.Files.{writing_of}
use Rattle.program.proofs.KeepLemmas.{dump_ends_it, dump_is_told}
use Rattle.program.proofs.free.commands.Client.tell_dump.Goals as goal

pub returns-clause-told : goal.returns-clause-told
returns-clause-told g c =
    let new = c.dump_to_file-done.new.pass in
    let done = c.dump_to_file-done.result in
    IfOk-weaker c.dump_text.result _ _
    (λ text told. (
      dump_is_told (writing_of g.S.Out.OutFile.path g.S.Out.Placed.kept g.S.Out.Device.failures) (seen_by g.J.Naming.opening g.J.Naming.most new) c.args.pass.now.session new.session c.args.request.now.path text.items done c.dump_to_file-done.ensures.session c.dump_to_file-done.ensures.dumped (subst (λ n. dump_text n done ≡ Some text.items) c.session-session.ensures.number told),
      c.dump_to_file-done.ensures.session,
      c.dump_to_file-done.ensures.mine,
    ))
    c.dump_text.ensures.text

pub returns-clause-fault : goal.returns-clause-fault
returns-clause-fault g c =
    let h = seen_by g.J.Naming.opening g.J.Naming.most c.dump_to_file-done.new.pass in
    let writes = writing_of g.S.Out.OutFile.path g.S.Out.Placed.kept g.S.Out.Device.failures in
    let path = c.args.request.now.path in
    let done = c.dump_to_file-done.result in
    IfErr-weaker c.dump_text.result _ _
    (λ f why. dump_ends_it writes h c.args.pass.now.session path done f _ (subst (λ n. IsDumpedAt writes h n path done) c.dump_to_file-done.ensures.session c.dump_to_file-done.ensures.dumped) c.as_str.ensures why)
    c.dump_text.ensures.fault
