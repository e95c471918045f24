use Rattle.std.proofs.Common.{◌≡◌, true, subst, sym}
use Rattle.schema.specs.Plain.{is_sound}
use Rattle.shell.proofs.EmptyLemmas.{empty_is_sound}
use Rattle.library.proofs.output.open_core.Goals as goal

pub open-requires : goal.open-requires
open-requires g c = subst (λ X. is_sound c.args.catalog X ≡ true) (sym (rw c.in-Ok.is at c.new.ensures.ok)) (empty_is_sound _ c.args.catalog)
