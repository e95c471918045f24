use Rattle.std.proofs.Common.{◌∙◌, ap, sym}
use Rattle.retrace.specs.Dooms.{all_doomed}
use Rattle.retrace.proofs.DoomLemmas.{empty_is, spared}
use Rattle.retrace.proofs.doom.doom_all.Goals as goal

pub returns-else-not-is_empty : goal.returns-else-not-is_empty
returns-else-not-is_empty g c =
    sym (ap (λ cs. all_doomed cs c.args.runs.now.items) (empty_is c.args.causes.now (sym c.is_empty.ensures ∙ c.if-not-is_empty.false)) ∙ spared c.args.runs.now.items)
