use Rattle.std.proofs.Common.{refl, ap, sym, ◌∙◌, length}
use Rattle.history.specs.declared.base.Base.{Base}
use Rattle.history.specs.Opening.{Recorded}
use Rattle.history.specs.Events.{world}
use Rattle.history.specs.Transactions.{commits, tables_at}
use Rattle.mvrows.specs.Versions.{shown, shown_rows}
use Rattle.mvrows.specs.declared.at.At.{At}
use Rattle.session.proofs.CoreLemmas.{as_many, tables_now}
use Rattle.session.proofs.Kept.{length_map}
use Rattle.session.proofs.sessions.Core.committed.Goals as goal

pub returns-clause-tables : goal.returns-clause-tables
returns-clause-tables g c =
    let i = c.self.inside in
    let k = c.self.invariant in
    ap (λ (a : At g.row.A.Denot). shown a.snapshot a.rows.now) c.at.ensures.parts
    ∙ ap (λ (b : Base). shown b.commits i.rows) c.counted-commits.ensures.value
    ∙ tables_now i.history i.world k.0 i.rows k.2
    ∙ ap (λ (h : Recorded g.row.A.Denot). tables_at (world h) (commits (world h))) c.self.view_is

pub returns-clause-count : goal.returns-clause-count
returns-clause-count g c =
    let i = c.self.inside in
    let k = c.self.invariant in
    ap (λ (a : At g.row.A.Denot). length (shown a.snapshot a.rows.now)) c.at.ensures.parts
    ∙ length_map (shown_rows c.counted-commits.result.commits) i.rows
    ∙ sym (as_many i.history i.world k.0 i.rows k.2 i.history.opening.catalog refl)
    ∙ ap (λ (h : Recorded g.row.A.Denot). length h.opening.catalog) c.self.view_is
