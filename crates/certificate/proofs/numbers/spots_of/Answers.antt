use Rattle.std.proofs.Common.{◌≡◌, ◌&&◌, subst, sym}
use Rattle.std.specs.List.{list_all}
use Rattle.certificate.specs.Numbers.{is_key}
use Rattle.certificate.proofs.NumberLemmas.{spots-step, keys-step}
use Rattle.certificate.proofs.numbers.spots_of.Goals as goal

pub loop-value-preserved : goal.loop-value-preserved
loop-value-preserved g c = (
  spots-step c.args.table c.in-Some.value.now c.next.new.self c.loop-value.value-iterator c.args.values.now.keys c.loop-value.list.items c.push_spot.new.list.items c.in-Some.ensures.steps c.in_ok-is_key.ensures.spots c.loop-value.invariant.0,
  subst (λ b. (b && list_all is_key c.next.new.self) ≡ list_all is_key c.args.values.now.keys) (sym c.both-are_all.ensures)
      (keys-step c.in-Some.value.now c.next.new.self c.loop-value.value-iterator c.args.values.now.keys c.loop-value.are_all c.in_ok-is_key.is_key c.in-Some.ensures.steps c.in_ok-is_key.ensures.key c.loop-value.invariant.1),
)
