use Rattle.std.proofs.Common.{◌≡◌, length, IfSome, subst}
use Rattle.schema.specs.Rows.{Rows}
use Rattle.snapshot.proofs.overlay.Overlay.lend_count.Goals as goal

pub returns-in-Some : goal.returns-in-Some
returns-in-Some g c = subst (λ (rows : Rows g.row.A.Denot). IfSome c.known_count.result (λ count. count ≡ length rows)) c.in-Some.ensures.same c.known_count.ensures
