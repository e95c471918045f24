use Rattle.std.proofs.Common.{sym, ◌∙◌}
use Rattle.restore.proofs.words.Create.{not_name, other_name}
use Rattle.restore.proofs.create.name_of.Goals as goal
use Rattle.restore.proofs.create.name_of.Goals.{in_default-via-in-Ok+else-is_name, in_default-via-in_default}

pub returns-in_default : goal.returns-in_default
returns-in_default g c =
    elim c.in_default.branch [
      | in_default-via-in-Ok+else-is_name w ↦ other_name c.args.word.now w.in-Ok.name.now w.in-Ok.ensures.cases.0 (sym w.is_name.ensures ∙ w.if-is_name.false)
      | in_default-via-in_default w ↦ not_name c.args.word.now w.in_default.ensures.cases.0
    ]
