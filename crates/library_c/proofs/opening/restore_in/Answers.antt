use Rattle.std.proofs.Common.{◌≡◌, inl, refl, subst, sym}
use Rattle.library.specs.Restoring.{RestoresAs}
use Rattle.library_c.proofs.OpeningLemmas.{begins_as}
use Rattle.library_c.proofs.opening.restore_in.Goals as goal

pub returns-in-Ok : goal.returns-in-Ok
returns-in-Ok c = inl (begins_as (λ k. k.server ≡ c.in-Ok.server) (λ k. RestoresAs c.args.dump.now c.args.most_events k.server) c.begin_in.new.handle.value c.begin_in.result (λ k same. subst (λ p. RestoresAs c.args.dump.now c.args.most_events p) (sym same) c.in-Ok.ensures.restored) c.begin_in.ensures, (refl, refl))
