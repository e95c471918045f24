use Rattle.std.proofs.Common.{◌∙◌, sym, ap, ◌&&◌, ◌-◌, map, length, take, drop, get_or, not, is_some, arith}
use Rattle.std.proofs.lemmas.List.{nil_from_length}
use Rattle.std.specs.List.{list_any}
use Rattle.value.specs.declared.refusal.TxnNo.{TxnNo}
use Rattle.audit.specs.Replay.{present, replays}
use Rattle.audit.proofs.StepLemmas.{front_number, replays-next}
use Rattle.audit.proofs.ToComeLemmas.{none-there}
use Rattle.audit.proofs.order.replays.Goals as goal

pub loop-left-preserved : goal.loop-left-preserved
loop-left-preserved g c =
    let zero_number : TxnNo = record { 0 = 0 } in
    let qs = c.loop-left.left.now in
    let rest = take (length qs - 1) (drop 1 qs) in
    let next = replays-next c.args.catalog.now c.args.base c.loop-left.replay.latest c.go_next.new.self.latest (present c.loop-left.replay.left.items) (present c.go_next.new.self.left.items) c.loop-left.replay.tables c.go_next.new.self.tables
    qs (get_or qs 0 zero_number) c.saturating_sub.result c.in_ok-go_next.field-0 c.in-len1-up.len_at_least (front_number qs zero_number c.in-len1-up.len_at_least) c.saturating_sub.ensures c.in_ok-go_next.ensures.goes in (
      sym (ap (λ b. b && replays c.args.catalog.now c.args.base c.go_next.new.self.latest (present c.go_next.new.self.left.items) (map (λ n. n.0) rest) c.go_next.new.self.tables) c.if-not-branch.false) ∙ sym next ∙ c.loop-left.invariant.0,
      c.go_next.ensures.fit,
      c.in_ok-go_next.ensures.sound c.if-not-branch.false,
      c.go_next.ensures.in_place,
    )

pub returns-then-not-branch-clause-answer : goal.returns-then-not-branch-clause-answer
returns-then-not-branch-clause-answer g c =
    let zero_number : TxnNo = record { 0 = 0 } in
    let qs = c.loop-left.left.now in
    let rest = take (length qs - 1) (drop 1 qs) in
    let next = replays-next c.args.catalog.now c.args.base c.loop-left.replay.latest c.go_next.new.self.latest (present c.loop-left.replay.left.items) (present c.go_next.new.self.left.items) c.loop-left.replay.tables c.go_next.new.self.tables
    qs (get_or qs 0 zero_number) c.saturating_sub.result c.in_ok-go_next.field-0 c.in-len1-up.len_at_least (front_number qs zero_number c.in-len1-up.len_at_least) c.saturating_sub.ensures c.in_ok-go_next.ensures.goes in
    sym (next ∙ ap (λ b. b && replays c.args.catalog.now c.args.base c.go_next.new.self.latest (present c.go_next.new.self.left.items) (map (λ n. n.0) rest) c.go_next.new.self.tables) c.if-not-branch.true) ∙ c.loop-left.invariant.0

pub returns-clause-answer : goal.returns-clause-answer
returns-clause-answer g c =
    let left = c.loop-left.replay.left.items in
    let none = nil_from_length c.loop-left.left.now (omega (arith, c.in_default.len_below)) in
    ap not (c.has_one.ensures ∙ ap (list_any is_some) c.as_slice.ensures.value) ∙ none-there left
    ∙ ap (λ qs. replays c.args.catalog.now c.args.base c.loop-left.replay.latest (present left) (map (λ n. n.0) qs) c.loop-left.replay.tables) (sym none) ∙ c.loop-left.invariant.0
