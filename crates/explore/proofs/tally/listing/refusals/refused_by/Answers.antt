use Rattle.std.proofs.Common.{◌≡◌, ◌<◌, ◌++◌, ◌∷◌, [], sym, ap, ◌∙◌, List, ℕ, arith}
use Rattle.explore.specs.Refusals.{refuses}
use Rattle.explore.proofs.Lines.{all_filtered, none_more, one_more, texts}
use Rattle.explore.proofs.tally.listing.refusals.refused_by.Goals as goal
use Rattle.explore.proofs.tally.listing.refusals.refused_by.Goals.{then-branch+in_ok-push, else-branch}

pub loop-session-preserved : goal.loop-session-preserved
loop-session-preserved g c =
    let p = refuses (texts c.args.found.now) in
    let s = c.loop-session.session in
    let low : 0 < s = omega (arith, c.loop-session.auto.session) in
    elim c.if-branch.branch [
      | then-branch+in_ok-push w ↦
          ap (λ v. v.items) w.refused-is
          ∙ w.in_ok-push.ensures.items
          ∙ ap (λ (x : List ℕ). x ++ s ∷ []) c.loop-session.invariant
          ∙ sym (one_more p s low (sym c.in_ok-refuses.ensures ∙ w.if-branch.true))
      | else-branch w ↦ ap (λ v. v.items) w.refused-is ∙ c.loop-session.invariant ∙ sym (none_more p s low (sym c.in_ok-refuses.ensures ∙ w.if-branch.false))
    ]

pub returns : goal.returns
returns g c =
    let s = c.loop-session.session in
    let all : s ≡ 65 = omega (arith, c.loop-session-test.false, c.loop-session.auto.session-end) in
    c.loop-session.invariant ∙ all_filtered (refuses (texts c.args.found.now)) s all
