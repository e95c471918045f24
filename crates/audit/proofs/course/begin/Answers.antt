use Rattle.std.proofs.Common.{◌∙◌, ◌+◌}
use Rattle.audit.proofs.LatestLemmas.{begun-latest}
use Rattle.audit.proofs.course.begin.Goals as goal

pub returns-in_ok-push-clause-latest : goal.returns-in_ok-push-clause-latest
returns-in_ok-push-clause-latest g c =
    begun-latest c.args.latest.now c.insert.new.self c.args.courses.now.items c.push.new.self.items c.args.entry.now.session c.number.result c.len-count.result (c.len-count.result + 1) c.args.place c.begun.result c.requires.latest c.requires.none c.number.ensures.value
    (c.len-count.ensures ∙ c.args.courses.now.ok.0) c.in_ok-insert.ensures.updates c.begun.ensures c.in_ok-push.ensures.items
