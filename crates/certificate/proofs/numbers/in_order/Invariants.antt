use Rattle.std.proofs.Common.{◌≡◌, [], drop}
use Rattle.certificate.specs.Numbers.{put_in_order}
use Rattle.certificate.proofs.numbers.in_order.Given as goal

-- what comes of those so far, and of the rest
abbrev pub invariant-loop-value : goal.invariant-loop-value
invariant-loop-value g l = put_in_order l.keys.keys (drop l.value-index l.values) ≡ put_in_order [] l.values
