use Rattle.std.proofs.Common.{◌≡◌, ◌<◌, sym, ◌∙◌, arith}
use Rattle.explore.specs.Refusals.{is_told}
use Rattle.explore.proofs.Lines.{none_of_all, some_of_all, still_none, texts}
use Rattle.explore.proofs.tally.listing.refusals.is_told_to_some.Goals as goal

pub returns-then-branch : goal.returns-then-branch
returns-then-branch g c =
    let s = c.loop-session.session in
    let low : 0 < s = omega (arith, c.loop-session.auto.session) in
    sym (some_of_all (is_told c.args.reply.now (texts c.args.found.now)) s low c.loop-session-test.true (sym c.in_ok-is_told.ensures ∙ c.if-branch.true))

pub loop-session-preserved : goal.loop-session-preserved
loop-session-preserved g c =
    let s = c.loop-session.session in
    let low : 0 < s = omega (arith, c.loop-session.auto.session) in
    still_none (is_told c.args.reply.now (texts c.args.found.now)) s low c.loop-session.invariant (sym c.in_ok-is_told.ensures ∙ c.if-branch.false)

pub returns : goal.returns
returns g c =
    let s = c.loop-session.session in
    let all : s ≡ 65 = omega (arith, c.loop-session-test.false, c.loop-session.auto.session-end) in
    sym (none_of_all (is_told c.args.reply.now (texts c.args.found.now)) s all c.loop-session.invariant)
