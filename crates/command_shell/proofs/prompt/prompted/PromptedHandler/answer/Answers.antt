use Rattle.program.specs.Files.{writing_of}
use Rattle.command_shell.proofs.AnsweredLemmas.{answered}
use Rattle.command_shell.proofs.prompt.prompted.PromptedHandler.answer.Goals as goal

pub returns-clause-told : goal.returns-clause-told
returns-clause-told g c =
    answered (writing_of g.F.Out.OutFile.path g.F.Out.Placed.kept g.F.Out.Device.failures) g.F.Stored.held c.args.self c.self.inside.served c.in_ok-served.served c.self.inside.files.now c.args.line.now c.in_ok-served.text.items
    c.self.inside.recalled c.in_ok-recalled.recalled c.in_ok-recalled-2.recalled c.shell.result.now c.shell-2.result.now
    c.self.view_is c.shell.ensures c.shell-2.ensures c.in_ok-recalled.ensures.recalled c.in_ok-recalled-2.ensures.why c.in_ok-served.ensures.told
