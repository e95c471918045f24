use Rattle.std.proofs.Common.{ap, ◌∙◌}
use Rattle.transactions.specs.Forgetting.{holds_back}
use Rattle.transactions.specs.Versions.{least_snapshot}
use Rattle.transactions.proofs.kept.forgetting.oldest_of.Goals as goal

pub returns : goal.returns
returns g c = c.least_owed.ensures ∙ ap (λ n. least_snapshot (holds_back c.args.unspoilt.now n) c.args.commits c.args.transactions.now) c.first_active-first.ensures
