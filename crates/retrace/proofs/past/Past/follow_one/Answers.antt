use Rattle.std.proofs.Common.{◌∙◌, ◌+◌, ap, position, sym}
use Rattle.std.proofs.lemmas.Result.{on_ok_weaker}
use Rattle.retrace.specs.Past.{Bygone, at_place, followed, followed_by, owned, when}
use Rattle.retrace.specs.Runs.{is_its}
use Rattle.retrace.proofs.past.Past.follow_one.Goals as goal

pub returns-in-Some-clause-ok : goal.returns-in-Some-clause-ok
returns-in-Some-clause-ok g c =
    let e = c.args.entry.now in
    let base = c.args.base in
    let before : Bygone _ = record { place = c.self.inside.place; tables = c.self.inside.tables; commits = c.self.inside.commits; lent = c.self.inside.lent.items; runs = c.self.inside.runs.items } in
    let mid : Bygone _ = record before { place = before.place + 1 } in
    let known = c.when_of-when.ensures ∙ ap (when base (before.place + 1) e.action before.commits) c.as_slice-lent.ensures.value in
    let found = sym c.in-Some.is ∙ c.find_its.ensures ∙ ap (position (is_its e.session)) c.as_slice.ensures.value in
    on_ok_weaker c.own.result
    (λ own. own ∙ ap (λ w. owned c.args.catalog.now w e (at_place c.in-Some.at mid.runs) c.in-Some.at mid) known
    ∙ ap (λ o. followed_by c.args.catalog.now (when base (before.place + 1) e.action before.commits before.lent) e o mid) found
    ∙ ap (followed c.args.catalog.now base e) c.self.view_is)
    c.own.ensures.ok
