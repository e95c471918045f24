use Rattle.std.proofs.Common.{◌≡◌, ◌<◌, ◌+◌, ℕ, length, false, sym, ap, subst, arith}
use Rattle.collector.specs.Gathered.{Gathering, IsInTurn}
use Rattle.collector.specs.Offers.{IsLeastMissing}
use Rattle.collector.proofs.GatheredLemmas.{least_missing, begun}
use Rattle.collector.proofs.sequence.Sequence.finish.Goals as goal

pub returns-then-self-len : goal.returns-then-self-len
returns-then-self-len g c =
    let now : Gathering = c.args.self.now in
    let turn : IsInTurn now = rw (← c.self.view_is) c.self.invariant in
    let live : now.failed ≡ false = rw (← c.self.view_is) c.if-self.false in
    let inside : now.next < length now.texts = subst (λ (v : Gathering). v.next < length v.texts) c.self.view_is (omega (arith, c.self.invariant.places)) in
    let least : IsLeastMissing now (c.self.inside.next + 1) = subst (λ (k : ℕ). IsLeastMissing now (k + 1)) (sym (ap (λ (v : Gathering). v.next) c.self.view_is)) (least_missing now live inside c.requires) in
    (live, least, begun now turn live, (turn.going live).1)
