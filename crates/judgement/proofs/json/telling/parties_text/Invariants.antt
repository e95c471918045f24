use Rattle.std.proofs.Common.{◌≡◌, take}
use Rattle.std.specs.List.{flat_map}
use Rattle.judgement.specs.Json.{after_comma}
use Rattle.judgement.specs.JsonTold.{party}
use Rattle.judgement.proofs.json.telling.parties_text.Given as goal

-- those so far
abbrev pub invariant-loop-party : goal.invariant-loop-party
invariant-loop-party g l = l.text.items ≡ flat_map (λ x. after_comma (party x)) (take l.party-index l.parties)
