use Rattle.std.proofs.Common.{◌≡◌, ◌&&◌, false, take}
use Rattle.std.specs.List.{list_any}
use Rattle.conflict.specs.Tracked.{is_recent}
use Rattle.conflict.specs.Walks.{found, is_unseen}
use Rattle.conflict.proofs.parties.is_held_by.Given as goal

-- none so far holds it
abbrev pub invariant-loop-reader : goal.invariant-loop-reader
invariant-loop-reader g l = list_any (λ q. is_recent l.oldest q && is_unseen q l.writer) (found (take l.reader-index l.numbers) l.parties) ≡ false
