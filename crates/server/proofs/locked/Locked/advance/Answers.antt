use Rattle.std.proofs.Common.{List, ◌≡◌, ◌≤◌, ◌<◌, ◌∙◌, ◌++◌, ◌∷◌, [], length, sym, ap, subst, arith}
use mathlib.Core.List.{IsPrefix}
use Rattle.history.specs.declared.event.Record.{Record}
use Rattle.history.specs.Opening.{Recorded}
use Rattle.pass.specs.Knowing.{Known, Whole}
use Rattle.pass.proofs.Prefixes.{prefix_more}
use Rattle.server.specs.Doings.{action_of}
use Rattle.server.proofs.Stepped.{step_grew, step_left, last_is, recorded_call, left_call}
use Rattle.server.proofs.locked.Locked.advance.Goals as goal
use Rattle.server.proofs.locked.Locked.advance.Goals.{then-records-before+in-Some, else-records-before}

pub invariant_of-self : goal.invariant_of-self
invariant_of-self g c =
    let h = c.self.inside.core in
    let k = c.do_event-reply.new.core in
    let was = ap length (c.records-before.ensures ∙ ap (λ (x : Recorded _). x.records) c.history.ensures) in
    let is = ap length (c.records.ensures ∙ ap (λ (x : Recorded _). x.records) c.history-2.ensures) in
    let grew : length h.records < length k.records = omega arith in
    let grown = step_grew h k c.session-session.result (action_of c.args.doing) c.do_event-reply.result c.do_event-reply.ensures grew in
    let at = c.in-Some.ensures.some in
    let last = c.in-Some.last.now in
    let kept : k.records ≡ at.0 ++ last ∷ [] = sym (ap (λ (x : Recorded _). x.records) c.history-then-records-before.ensures) ∙ at.1 in
    let this = last_is h k c.session-session.result (action_of c.args.doing) c.do_event-reply.result at.0 last grown kept in (
      ap (λ (x : Recorded _). x.opening) grown ∙ c.self.invariant.0,
      ap (λ (x : Recorded _). x.most) grown ∙ c.self.invariant.1,
      ap (λ (x : Whole _). x.records) c.record.ensures.keeper ∙ (ap (λ (l : List (Record _)). l ++ last ∷ []) c.self.invariant.2 ∙ (ap (λ (x : Record _). h.records ++ x ∷ []) this ∙ sym (ap (λ (x : Recorded _). x.records) grown))),
    )

pub invariant_of-self-else-records-before : goal.invariant_of-self-else-records-before
invariant_of-self-else-records-before g c =
    let h = c.self.inside.core in
    let k = c.do_event-reply.new.core in
    let was = ap length (c.records-before.ensures ∙ ap (λ (x : Recorded _). x.records) c.history.ensures) in
    let is = ap length (c.records.ensures ∙ ap (λ (x : Recorded _). x.records) c.history-2.ensures) in
    let stayed : length k.records ≤ length h.records = omega arith in
    let left = step_left h k c.session-session.result (action_of c.args.doing) c.do_event-reply.result c.do_event-reply.ensures stayed in
    (ap (λ (x : Recorded _). x.opening) left.0 ∙ c.self.invariant.0, ap (λ (x : Recorded _). x.most) left.0 ∙ c.self.invariant.1, ap (λ (x : Whole _). x.records) c.show.ensures.keeper ∙ (c.self.invariant.2 ∙ sym (ap (λ (x : Recorded _). x.records) left.0)))

pub returns-clause-seen : goal.returns-clause-seen
returns-clause-seen g c =
    let old = c.args.pass.now.seen in
    record {
      legal = c.session-session-2.ensures.legal;
      begins = elim c.if-records-before.branch [
        | then-records-before+in-Some w ↦ subst (λ (p : Known _). IsPrefix old p.seen) (sym (w.pass-is ∙ w.record.ensures.pass)) (prefix_more _ _ _ w.record.ensures.begins)
        | else-records-before w ↦ subst (λ (p : Known _). IsPrefix old p.seen) (sym (w.pass-is ∙ w.show.ensures.pass)) w.show.ensures.begins
      ];
      mine = c.session-session-2.ensures.exact;
    }

pub returns-clause-call : goal.returns-clause-call
returns-clause-call g c =
    let h = c.self.inside.core in
    let k = c.do_event-reply.new.core in
    let was = ap length (c.records-before.ensures ∙ ap (λ (x : Recorded _). x.records) c.history.ensures) in
    let is = ap length (c.records.ensures ∙ ap (λ (x : Recorded _). x.records) c.history-2.ensures) in
    elim c.if-records-before.branch [
      | then-records-before+in-Some w ↦
          (let grew : length h.records < length k.records = omega arith in
          let grown = step_grew h k c.session-session.result (action_of c.args.doing) c.do_event-reply.result c.do_event-reply.ensures grew in
          let at = w.in-Some.ensures.some in
          let last = w.in-Some.last.now in
          let kept : k.records ≡ at.0 ++ last ∷ [] = sym (ap (λ (x : Recorded _). x.records) w.history-then-records-before.ensures) ∙ at.1 in
          let this = last_is h k c.session-session.result (action_of c.args.doing) c.do_event-reply.result at.0 last grown kept in
          recorded_call g.J.Naming.most c.args.pass.now c.if-records-before.pass c.self.inside.keeper.records last c.session-session.result (action_of c.args.doing) c.do_event-reply.result (w.pass-is ∙ w.record.ensures.pass) this c.session-session.ensures.number)
      | else-records-before w ↦
          (let stayed : length k.records ≤ length h.records = omega arith in
          let left = step_left h k c.session-session.result (action_of c.args.doing) c.do_event-reply.result c.do_event-reply.ensures stayed in
          left_call g.J.Naming.most c.args.pass.now c.if-records-before.pass c.self.inside.keeper.records h (action_of c.args.doing) c.do_event-reply.result (w.pass-is ∙ w.show.ensures.pass) c.self.invariant.2 c.self.invariant.1 left.1)
    ]
