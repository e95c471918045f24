use Rattle.std.proofs.Common.{◌∙◌}
use Rattle.program.proofs.KeepLemmas.{dumped_at}
use Rattle.program.proofs.machine.Machine.dump_to_file.Goals as goal

pub returns : goal.returns
returns g c =
    let made = c.in-Ok.ensures in
    dumped_at g.F.Out.OutFile.path g.F.Out.Placed.kept g.F.Out.Device.failures c.args.core.now c.args.session c.args.request.now.path c.write_dump-dumped.result c.keep_dumped.result c.in-Ok.file c.keep_dumped.new.file _ (made.path ∙ c.as_str.ensures) made.unkept made.sound c.write_dump-dumped.ensures.dumped c.write_dump-dumped.ensures.whole c.keep_dumped.ensures.kept c.keep_dumped.ensures.result c.keep_dumped.ensures.failed
