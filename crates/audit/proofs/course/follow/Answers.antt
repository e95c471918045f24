use Rattle.std.proofs.Common.{ap, length, arith}
use Rattle.std.specs.BTreeMap.{get}
use Rattle.std.specs.Ordering.{nat_cmp}
use Rattle.audit.proofs.LatestLemmas.{latest-gone}
use Rattle.audit.proofs.StepLemmas.{follow-none, follow-some}
use Rattle.audit.proofs.course.follow.Goals as goal

pub returns-in_ok-go_on_at-in-Some-clause-ok : goal.returns-in_ok-go_on_at-in-Some-clause-ok
returns-in_ok-go_on_at-in-Some-clause-ok g c =
    follow-some c.args.entry.now c.args.place c.args.courses.now.items c.as_slice.result.now c.go_on_at.new.courses.items c.in-Some.i c.as_slice.ensures.value c.in-Some.ensures.first c.in-Some.ensures.some c.in-Some.ensures.within c.in_ok-go_on_at-in-Some.ensures.ok

pub returns-in_ok-go_on_at-in-Some-clause-latest : goal.returns-in_ok-go_on_at-in-Some-clause-latest
returns-in_ok-go_on_at-in-Some-clause-latest g c =
    latest-gone (get nat_cmp c.args.latest.now) c.args.courses.now.items c.go_on_at.new.courses.items c.in-Some.i c.args.place c.args.entry.now.action c.args.entry.now.reply c.requires
    (omega (arith, c.in-Some.ensures.within, ap length c.as_slice.ensures.value)) c.in_ok-go_on_at-in-Some.ensures.ok

pub returns-in_ok-begin-in-None-clause-ok : goal.returns-in_ok-begin-in-None-clause-ok
returns-in_ok-begin-in-None-clause-ok g c =
    follow-none c.args.entry.now c.args.place c.args.courses.now.items c.as_slice.result.now c.begin.new.courses.items c.as_slice.ensures.value c.in-None.ensures.none c.in_ok-begin-in-None.ensures.ok
