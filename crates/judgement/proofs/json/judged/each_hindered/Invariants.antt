use Rattle.std.proofs.Common.{◌≡◌, take}
use Rattle.std.specs.List.{flat_map}
use Rattle.judgement.specs.Json.{after_comma}
use Rattle.judgement.specs.JsonTelling.{hindered}
use Rattle.judgement.specs.Telling.{names_of}
use Rattle.judgement.proofs.json.judged.each_hindered.Given as goal

-- those so far
abbrev pub invariant-loop-hindered : goal.invariant-loop-hindered
invariant-loop-hindered g l = l.text.items ≡ flat_map (λ h. after_comma (hindered (names_of l.traces.names.items) l.traces.transactions.items h)) (take l.hindered-index l.each)
