use Rattle.std.proofs.Common.{◌∙◌}
use Rattle.backup.specs.Backed.{seen_by}
use Rattle.program.proofs.KeepLemmas.{dumped_at}
use Rattle.program.proofs.free.commands.Client.dump_to_file.Goals as goal

pub returns-clause-dumped : goal.returns-clause-dumped
returns-clause-dumped g c =
    let made = c.in-Ok.ensures in
    let new = c.write_dump-dumped.new.pass in
    dumped_at g.S.Out.OutFile.path g.S.Out.Placed.kept g.S.Out.Device.failures (seen_by g.J.Naming.opening g.J.Naming.most new) new.session c.args.request.now.path c.write_dump-dumped.result c.keep_dumped.result c.in-Ok.file c.keep_dumped.new.file _ (made.path ∙ c.as_str.ensures) made.unkept made.sound c.write_dump-dumped.ensures.dumped c.write_dump-dumped.ensures.whole c.keep_dumped.ensures.kept c.keep_dumped.ensures.result c.keep_dumped.ensures.failed
