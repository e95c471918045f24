use Rattle.std.proofs.Common.{rules, of_calls}
use Rattle.std.proofs.lemmas.List.Elements.{filter_from_retain}
use Rattle.mvrows.specs.HeldRows.{Held, has_keys}
use Rattle.mvrows.proofs.table.drop_empty.Goals as goal

pub returns : goal.returns
returns g c = filter_from_retain _ (λ (h : Held _). has_keys h.rows) (λ p x b q r. search (rules, of_calls)) _ _ _ c.retain.ensures.filtered
