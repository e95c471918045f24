use Rattle.std.proofs.Common.{◌≡◌, ◌+◌, ◌++◌, [], sym, ap, ◌∙◌, append_assoc, drop, get_or, replicate}
use Rattle.std.proofs.lemmas.List.{append-nil, drop_all}
use Rattle.explore.specs.Sampling.{in_a_row}
use Rattle.explore.proofs.Drawn.{row-more}
use Rattle.explore.proofs.tally.sample.sampling.sessions_in_a_row.Goals as goal

pub loop-session-preserved : goal.loop-session-preserved
loop-session-preserved g c =
    let lines = c.args.lines.now in
    let s = c.loop-session.session in
    let order = c.loop-session.order.items in
    let rest = in_a_row (s + 1) (drop (s + 1) lines) in
    ap (λ x. x ++ rest) c.in_ok-append_turns.ensures
    ∙ append_assoc order (replicate (get_or lines s 0) s) rest
    ∙ ap (λ x. order ++ x) (sym (row-more lines s 0 c.loop-session-test.true))
    ∙ c.loop-session.invariant

pub returns : goal.returns
returns g c =
    let lines = c.args.lines.now in
    let s = c.loop-session.session in
    let order = c.loop-session.order.items in
    let none : drop s lines ≡ [] = drop_all s lines c.loop-session-test.false in
    sym (append-nil order) ∙ ap (λ x. order ++ in_a_row s x) (sym none) ∙ c.loop-session.invariant
