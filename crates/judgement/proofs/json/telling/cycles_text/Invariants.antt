use Rattle.std.proofs.Common.{◌≡◌, take}
use Rattle.std.specs.List.{flat_map}
use Rattle.judgement.specs.Json.{after_comma}
use Rattle.judgement.specs.JsonTold.{cycle}
use Rattle.judgement.proofs.json.telling.cycles_text.Given as goal

-- those so far
abbrev pub invariant-loop-cycle : goal.invariant-loop-cycle
invariant-loop-cycle g l = l.text.items ≡ flat_map (λ x. after_comma (cycle x)) (take l.cycle-index l.cycles)
