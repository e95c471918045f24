use Rattle.std.proofs.Common.{inl, refl}
use Rattle.library_c.proofs.opening.begin_in.Goals as goal

pub returns-in-Some : goal.returns-in-Some
returns-in-Some c = inl (c.in-Some.kept.value, c.put.ensures, c.in-Some.ensures.server, c.in-Some.ensures.answer, c.in-Some.ensures.lines, refl)
