use Rattle.std.proofs.Common.{false}
use Rattle.copytext.proofs.FieldLemmas.{behind_nothing}
use Rattle.copytext.proofs.fields.field_len.Goals as goal

pub loop-i-init : goal.loop-i-init
loop-i-init c = behind_nothing false c.args.line.now
