use Rattle.std.proofs.Common.{◌≡◌, ◌++◌, slice_get, take}
use Rattle.std.specs.List.{flat_map}
use Rattle.judgement.specs.Telling.{names_of, number_text}
use Rattle.judgement.proofs.printing.append_numbers.Given as goal

-- the numbers so far
abbrev pub invariant-loop-place : goal.invariant-loop-place
invariant-loop-place g l = l.text.items ≡ l.fn.text.items ++ flat_map (λ place. number_text (slice_get (names_of l.names) place)) (take l.place-index l.places)
