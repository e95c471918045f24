use Rattle.std.proofs.Common.{◌∙◌, ◌++◌, ap}
use Rattle.value.proofs.Basics.{IfOk_then}
use Rattle.shell.specs.Answering.{answer_text}
use Rattle.shell.specs.Shells.{ended}
use Rattle.shell.proofs.HeldLemmas.{opens_said}
use Rattle.shell.proofs.shell.Shell.open_line.Goals as goal

pub returns-in-Ok-clause-told : goal.returns-in-Ok-clause-told
returns-in-Ok-clause-told g c =
    let whole = c.in_ok-whole.ensures.text ∙ ap (λ before. before ++ ended c.args.line.now) c.created.ensures in
    IfOk_then c.open_said.result c.open_said.ensures.told (λ a told. opens_said c.args.self.now.created c.args.line.now c.in_ok-whole.whole.items c.as_slice.result.now c.args.self.now.most c.in-Ok.script c.open_said.new.self (answer_text a) whole c.as_slice.ensures.value c.in-Ok.ensures told)
