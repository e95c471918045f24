use Rattle.std.proofs.Common.{◌≡◌, ◌++◌, ◌∷◌, take}
use Rattle.std.specs.List.{flat_map}
use Rattle.dumpplan.proofs.lines.append_more_names.Given as goal

-- the names so far
abbrev pub invariant-loop-column : goal.invariant-loop-column
invariant-loop-column g l = l.text.items ≡ l.fn.text.items ++ flat_map (λ d. 44 ∷ 32 ∷ d.name) (take l.column-index l.columns)
