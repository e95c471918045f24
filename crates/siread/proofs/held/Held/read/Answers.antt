use Rattle.std.proofs.Common.{◌≡◌, ◌∙◌, ◌+◌, ◌-◌, arith}
use Rattle.siread.proofs.HeldLemmas.{all-settled, before-settled, few_behind, held_after, settled_before}
use Rattle.siread.proofs.held.Held.read.Goals as goal

pub add_all-requires-clause-few : goal.add_all-requires-clause-few
add_all-requires-clause-few g c = few_behind c.self.inside.kept.items c.len-count.result (c.len-count.ensures ∙ c.self.inside.kept.ok.0)

pub returns-clause-before : goal.returns-clause-before
returns-clause-before g c =
    let all = c.len-count.ensures ∙ c.self.inside.kept.ok.0 in
    let sum : c.self.inside.settled + (c.len-count.result - c.self.inside.settled) ≡ c.len-count.result = omega (arith, c.self.invariant.within, all) in
    before-settled c.args.self.now c.self.inside.kept.items c.add_all.new.kept.items c.settle-self-inside.new.kept.items c.self.inside.settled c.len-count.result
    (c.self.inside.settled + (c.len-count.result - c.self.inside.settled)) c.settle-self-inside.result c.self.view_is all sum c.add_all.ensures.kept c.settle-self-inside.ensures

pub returns-clause-read : goal.returns-clause-read
returns-clause-read g c =
    all-settled c.args.self.now c.self.inside.kept.items c.add_all.new.kept.items c.settle-self-inside.new.kept.items c.args.footprint.now c.self.inside.settled
    (c.self.inside.settled + (c.len-count.result - c.self.inside.settled)) c.settle-self-inside.result
    c.self.view_is c.settle-self-inside.ensures c.in_default.ensures.ok

pub settle-self-inside-requires-clause-few : goal.settle-self-inside-requires-clause-few
settle-self-inside-requires-clause-few g c =
    settled_before c.self.inside.kept.items c.add_all.new.kept.items c.self.inside.settled c.len-count.result (c.len-count.ensures ∙ c.self.inside.kept.ok.0) c.self.invariant c.in_default.ensures.kept

pub invariant_of-self-2 : goal.invariant_of-self-2
invariant_of-self-2 g c =
    let all = c.len-count.ensures ∙ c.self.inside.kept.ok.0 in
    let sum : c.self.inside.settled + (c.len-count.result - c.self.inside.settled) ≡ c.len-count.result = omega (arith, c.self.invariant.within, all) in
    held_after c.self.inside.kept.items c.add_all.new.kept.items c.settle-self-inside.new.kept.items c.self.inside.settled c.len-count.result
    (c.self.inside.settled + (c.len-count.result - c.self.inside.settled)) c.settle-self-inside.result all sum c.self.invariant c.in_default.ensures.kept c.settle-self-inside.ensures
