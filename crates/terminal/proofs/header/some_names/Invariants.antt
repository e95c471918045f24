use Rattle.std.proofs.Common.{◌≡◌, ◌∷◌, take}
use Rattle.std.specs.List.{flat_map}
use Rattle.terminal.specs.Headers.{name_at}
use Rattle.terminal.proofs.header.some_names.Given as goal

-- the names so far, each after a tab
abbrev pub invariant-loop-column : goal.invariant-loop-column
invariant-loop-column g l = l.text.items ≡ flat_map (λ j. 9 ∷ name_at l.columns j) (take l.column-index l.shown)
