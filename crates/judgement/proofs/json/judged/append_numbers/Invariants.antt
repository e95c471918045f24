use Rattle.std.proofs.Common.{◌≡◌, ◌++◌, slice_get, take}
use Rattle.std.specs.Fmt.{decimal}
use Rattle.std.specs.List.{flat_map}
use Rattle.judgement.specs.Json.{after_comma}
use Rattle.judgement.specs.JsonTelling.{number_of}
use Rattle.judgement.specs.Telling.{names_of}
use Rattle.judgement.proofs.json.judged.append_numbers.Given as goal

-- the numbers so far
abbrev pub invariant-loop-place : goal.invariant-loop-place
invariant-loop-place g l = l.text.items ≡ l.fn.text.items ++ flat_map (λ place. after_comma (decimal (number_of (slice_get (names_of l.names) place)))) (take l.place-index l.places)
