use Rattle.std.proofs.Common.{◌≡◌, ◌++◌, ◌∷◌, take}
use Rattle.std.specs.List.{flat_map}
use Rattle.copytext.specs.Writing.{tab, field_text}
use Rattle.copytext.proofs.writing.append_more.Given as goal

-- the fields so far
abbrev pub invariant-loop-value : goal.invariant-loop-value
invariant-loop-value g l = l.out.items ≡ l.fn.out.items ++ flat_map (λ v. tab ∷ field_text v) (take l.value-index l.values)
