-- What a call leaves in its caller's room.
use Rattle.std.specs.Prelude.{◌≡◌, ◌<◌, ◌≤◌, ℕ, List, ◌++◌, drop, length}
use Rattle.library.specs.declared.ending.End.{End}
use Rattle.library.specs.declared.manner.Manner.{Manner}
use Rattle.library.specs.Endings.{line_of, status_of}
use Rattle.library.specs.Scripts.{Prints}
use Rattle.library_c.specs.declared.Report.{Report}

-- The text and its end are reported: its length and its line, whatever room there is. Where the room is too small, it is as it was, and the status is 2. Else the text stands at its beginning, and the status is that of the end.
pub record Hands (e : End) (text before after : List ℕ) (report : Report) (status : ℕ) : Type 0 where
  pub needed : report.length ≡ length text
  pub line : report.line ≡ line_of e
  pub small : length before < length text → (status ≡ 2) × (after ≡ before)
  pub fits : length text ≤ length before → (status ≡ status_of e) × (after ≡ text ++ drop (length text) before)

-- The output of a script that was done in this manner was handed over; memory is of type A.
abbrev pub Answers : (A : Type 0) → Manner → List ℕ → List ℕ → List ℕ → Report → ℕ → Type 0
Answers A m script before after report status = (e : End) × (text : List ℕ) × Prints A m script e text × Hands e text before after report status
