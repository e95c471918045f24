use Rattle.std.proofs.Common.{rules, ◌∙◌, sym, ap, subst, ◌++◌, ◌∷◌, [], append_assoc, All, refl, arith}
use Rattle.std.proofs.lemmas.Grind.{common_steps}
use Rattle.std.proofs.lemmas.List.{append-nil, nil_from_length}
use Rattle.server.specs.Calls.{HasClosed}
use Rattle.server.proofs.Grows.{closed_push}
use Rattle.server.proofs.locked.Locked.close.Goals as goal

pub loop-pass-init : goal.loop-pass-init
loop-pass-init g c = (c.self.invariant.2, refl, first_of (search rules, grind (arith, common_steps)), λ k d lt. absurd (omega arith))

pub loop-pass-preserved : goal.loop-pass-preserved
loop-pass-preserved g c =
    let i = c.loop-pass.invariant in
    let s = c.in-Some.ensures.steps in
    let sh = c.show.ensures in
    let p = c.in-Some.pass in
    let rest = c.next.new.self.rest.items in
    let records = c.self.inside.core.records in (
      ap (λ k. k.records) sh.keeper ∙ i.0,
      refl,
      append_assoc c.loop-pass.yielded (p ∷ []) rest ∙ (ap (λ l. c.loop-pass.yielded ++ l) (sym s.0) ∙ i.2),
      closed_push records c.loop-pass.yielded p i.3 (subst (λ l. HasClosed p l) i.0 (sh.begins, sh.mine)),
    )

pub returns-clause-closed : goal.returns-clause-closed
returns-clause-closed g c =
    let i = c.loop-pass.invariant in
    record {
      opening = c.self.invariant.0;
      most = c.self.invariant.1;
      legal = c.is_legal.ensures;
      passes = subst (λ l. All (λ q. HasClosed q c.self.inside.core.records) l) (sym (append-nil c.loop-pass.yielded) ∙ ap (λ l. c.loop-pass.yielded ++ l) (sym (nil_from_length c.loop-pass.pass-iterator.rest.items (let o = c.loop-pass.pass-iterator.rest.ok in search rules))) ∙ i.2) i.3;
    }
