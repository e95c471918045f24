use Rattle.std.proofs.Common.{◌≡◌, ◌+◌, ◌++◌, codes, take}
use Rattle.std.specs.Fmt.{decimal}
use Rattle.std.specs.List.{flat_map}
use Rattle.explore.proofs.tally.listing.text.append_turns.Given as goal

-- the turns so far
abbrev pub invariant-loop-place : goal.invariant-loop-place
invariant-loop-place g l = l.text.items ≡ l.fn.text.items ++ flat_map (λ p. codes " " ++ decimal (p + 1)) (take l.place-index l.order)
