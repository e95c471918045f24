use Rattle.std.proofs.Common.{ap, ◌∙◌}
use Rattle.std.proofs.lemmas.Result.{on_ok_weaker}
use Rattle.retrace.specs.Past.{Bygone, at_place, owned}
use Rattle.retrace.proofs.PastLemmas.{owned-is}
use Rattle.retrace.proofs.past.Past.own.Goals as goal

pub returns-clause-ok : goal.returns-clause-ok
returns-clause-ok g c =
    let before : Bygone _ = record { place = c.self.inside.place; tables = c.self.inside.tables; commits = c.self.inside.commits; lent = c.self.inside.lent.items; runs = c.self.inside.runs.items } in
    on_ok_weaker c.turn_all.result
    (λ e. owned-is c.args.catalog.now c.args.when c.args.entry.now c.args.at before c.run_at-run.result.now c.install.new.tables c.commits_after-self-inside.result c.lend.new.lent.items c.turn_all.new.runs.items
    (c.run_at-run.ensures ∙ ap (at_place c.args.at) c.as_slice.ensures.value) c.in_ok-install.ensures.ok c.commits_after-self-inside.ensures.value c.in_ok-lend.ensures.ok e
    ∙ ap (λ p. owned c.args.catalog.now c.args.when c.args.entry.now (at_place c.args.at p.runs) c.args.at p) c.self.view_is)
    c.turn_all.ensures.ok
