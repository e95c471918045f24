use Rattle.std.proofs.Common.{◌≡◌, ◌∷◌, take}
use Rattle.std.specs.List.{flat_map}
use Rattle.terminal.proofs.header.all_names.Given as goal

-- the names so far, each after a tab
abbrev pub invariant-loop-column : goal.invariant-loop-column
invariant-loop-column g l = l.text.items ≡ flat_map (λ c. 9 ∷ c.name) (take l.column-index l.columns)
