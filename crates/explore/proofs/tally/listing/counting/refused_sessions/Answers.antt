use Rattle.std.proofs.Common.{◌≡◌, ◌<◌, ◌++◌, ◌∷◌, [], sym, ap, ◌∙◌, nat_lt, List, ℕ, Bool, arith}
use Rattle.explore.specs.declared.tally.listing.counting.Which.TheVariants.{Session}
use Rattle.explore.specs.Listing.{runs_with}
use Rattle.explore.proofs.Lines.{all_filtered, none_more, one_more}
use Rattle.explore.proofs.Ranks.{is_none, is_positive}
use Rattle.explore.proofs.tally.listing.counting.refused_sessions.Goals as goal
use Rattle.explore.proofs.tally.listing.counting.refused_sessions.Goals.{then-runs_in-gt0+in_ok-push, else-runs_in-gt0}

pub loop-session-preserved : goal.loop-session-preserved
loop-session-preserved g c =
    let all = c.args.all.now in
    let p : ℕ → Bool = λ s. nat_lt 0 (runs_with (Session s) all) in
    let s = c.loop-session.session in
    let low : 0 < s = omega (arith, c.loop-session.auto.session) in
    elim c.if-runs_in-gt0.branch [
      | then-runs_in-gt0+in_ok-push w ↦
          ap (λ v. v.items) w.refused-is
          ∙ w.in_ok-push.ensures.items
          ∙ ap (λ (x : List ℕ). x ++ s ∷ []) c.loop-session.invariant
          ∙ sym (one_more p s low (is_positive c.runs_in.result (runs_with (Session s) all) c.runs_in.ensures w.if-runs_in-gt0.true))
      | else-runs_in-gt0 w ↦
          ap (λ v. v.items) w.refused-is ∙ c.loop-session.invariant ∙ sym (none_more p s low (is_none c.runs_in.result (runs_with (Session s) all) c.runs_in.ensures w.if-runs_in-gt0.false))
    ]

pub returns : goal.returns
returns g c =
    let all = c.args.all.now in
    let p : ℕ → Bool = λ s. nat_lt 0 (runs_with (Session s) all) in
    let s = c.loop-session.session in
    let end : s ≡ 65 = omega (arith, c.loop-session-test.false, c.loop-session.auto.session-end) in
    c.loop-session.invariant ∙ all_filtered p s end
