use Rattle.std.proofs.Common.{◌≡◌, take}
use Rattle.std.specs.List.{flat_map}
use Rattle.judgement.specs.Json.{after_comma}
use Rattle.judgement.specs.JsonTold.{edge}
use Rattle.judgement.proofs.json.telling.edges_text.Given as goal

-- those so far
abbrev pub invariant-loop-edge : goal.invariant-loop-edge
invariant-loop-edge g l = l.text.items ≡ flat_map (λ x. after_comma (edge x)) (take l.edge-index l.edges)
