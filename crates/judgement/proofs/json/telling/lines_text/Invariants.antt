use Rattle.std.proofs.Common.{◌≡◌, take}
use Rattle.std.specs.List.{flat_map}
use Rattle.judgement.specs.Json.{after_comma, string}
use Rattle.judgement.proofs.json.telling.lines_text.Given as goal

-- those so far
abbrev pub invariant-loop-line : goal.invariant-loop-line
invariant-loop-line g l = l.text.items ≡ flat_map (λ x. after_comma (string x.items)) (take l.line-index l.lines)
