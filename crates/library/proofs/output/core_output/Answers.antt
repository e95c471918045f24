use Rattle.std.proofs.Common.{inl, inr, refl}
use Rattle.library.proofs.output.core_output.Goals as goal

pub returns-in-Ok : goal.returns-in-Ok
returns-in-Ok g c = inl (refl, c.in-Ok.ensures.done)

pub returns : goal.returns
returns g c = inr c.in-Err.ensures.stopped
