use Rattle.std.proofs.Common.{◌∙◌, sym}
use Rattle.value.proofs.Basics.{IfOk_then}
use Rattle.orders.proofs.SeenLemmas.{stand-same}
use Rattle.orders.proofs.memory.Dead.is_at.Goals as goal

pub returns-clause-ok : goal.returns-clause-ok
returns-clause-ok g c =
    IfOk_then c.are_same_tables.result c.are_same_tables.ensures.ok (λ b e h.
    stand-same c.args.self.now c.args.walk.now.done c.args.walk.now.tables (sym c.known_done.ensures ∙ c.are_same_flags.ensures c.if-not-are_same_flags.false ∙ c.as_slice.ensures ∙ c.done.ensures) (sym c.known_tables.ensures ∙ e h ∙ c.tables.ensures))
