use Rattle.std.proofs.Common.{◌≡◌, true, subst, sym}
use Rattle.schema.specs.Plain.{is_sound}
use Rattle.shell.proofs.EmptyLemmas.{empty_is_sound}
use Rattle.library.proofs.checking.open_tables.Goals as goal

pub returns-in-Ok-clause-sound : goal.returns-in-Ok-clause-sound
returns-in-Ok-clause-sound g c = subst (λ X. is_sound c.args.catalog.now X ≡ true) (sym (rw c.in-Ok.is at c.new.ensures.ok)) (empty_is_sound _ c.args.catalog.now)
