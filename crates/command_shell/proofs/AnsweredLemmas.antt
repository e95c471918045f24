-- A line that a terminal's shell has answered, by its parts.
use Rattle.std.proofs.Common.{◌≡◌, ◌∙◌, ap, refl, ℕ, List, Option, subst}
use Rattle.shell.specs.Shells.{Held}
use Rattle.program.specs.Files.{Writing}
use Rattle.command_shell.specs.Asides.{Replies, Seen, Why, recalled, refused_by}
use Rattle.command_shell.specs.Serves.{Over, ServesOver}

-- whose transaction was refused last, before the line and after it
pub known_then : {A : Type 0} (before after shown left : Held A) (line : List ℕ) (why first second : Option Why)
    → before ≡ shown → after ≡ left → first ≡ recalled before.core line why → second ≡ refused_by after.core first → second ≡ refused_by left.core (recalled shown.core line why)
known_then before after shown left line why first second same stays asked told =
    told ∙ ap (λ s. refused_by s.core first) stays ∙ ap (refused_by left.core) (asked ∙ ap (λ s. recalled s.core line why) same)

pub answered : {F A : Type 0} (writes : Writing) (held : F → List ℕ → Option (List ℕ)) (p : Seen F A) (over served : Over F A) (files : F) (line text : List ℕ) (why first second : Option Why) (before after : Held A)
    → record { over = over; files = files; why = why } ≡ p → before ≡ over.shell → after ≡ served.shell → first ≡ recalled before.core line why → second ≡ refused_by after.core first
    → ServesOver writes held over line served text → Replies writes held p line (record { over = served; files = files; why = second }) text
answered {F} {A} writes held p over served files line text why first second before after whole same stays asked told serves =
    subst (λ (q : Seen F A). Replies writes held q line (record { over = served; files = files; why = second }) text) whole
    (serves, refl, known_then before after over.shell served.shell line why first second same stays asked told)
