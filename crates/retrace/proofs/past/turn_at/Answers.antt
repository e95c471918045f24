use Rattle.std.proofs.Common.{ap, ◌∙◌}
use Rattle.std.proofs.Math.ListN.{set}
use Rattle.std.proofs.lemmas.Result.{on_ok_weaker}
use Rattle.retrace.specs.Runs.{turned}
use Rattle.retrace.proofs.PastLemmas.{turned_at-set}
use Rattle.retrace.proofs.past.turn_at.Goals as goal

pub returns-clause-ok : goal.returns-clause-ok
returns-clause-ok g c =
    on_ok_weaker c.turn.result
    (λ e. ap (set c.args.runs.now.items c.args.at) e ∙ turned_at-set (turned c.args.catalog.now c.args.when c.args.entry.now.action c.args.entry.now.reply) c.args.runs.now.items c.args.at c.index_mut.result.now c.requires.within c.index_mut.ensures.value)
    c.turn.ensures.ok
