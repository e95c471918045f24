use Rattle.std.proofs.Common.{ap, inr, refl, true, ◌∙◌}
use Rattle.std.proofs.lemmas.Result.{IfOk-weaker}
use Rattle.std.proofs.lemmas.Result.{on_err_weaker}
use Rattle.mvrows.specs.Versions.{VersionedRows}
use Rattle.mvrows.specs.HeldRows.{Held}
use Rattle.mvrows.proofs.leaf.Leaf.cut.Goals as goal

pub returns-clause-parts : goal.returns-clause-parts
returns-clause-parts g c = IfOk-weaker c.cut-upper.result _ _ (λ upper e. e ∙ c.in_ok-page.ensures.rows ∙ ap (λ (h : Held _). h.rows) c.self.view_is) c.cut-upper.ensures.parts

pub returns-clause-own : goal.returns-clause-own
returns-clause-own g c = IfOk-weaker c.cut-upper.result _ _ (λ upper e. (refl, e)) c.cut-upper.ensures.own

pub returns-clause-err : goal.returns-clause-err
returns-clause-err g c = on_err_weaker c.cut-upper.result (λ e. inr (ap (λ (rows : VersionedRows _). record { own = true; rows = rows }) (e ∙ c.in_ok-page.ensures.rows ∙ ap (λ (h : Held _). h.rows) c.self.view_is))) c.cut-upper.ensures.err
