use Rattle.std.proofs.Common.{ap, ◌∙◌}
use Rattle.std.specs.Prelude.{flat_map}
use Rattle.statement.specs.Cover.{covers_value}
use Rattle.siread.specs.Reads.{all_of}
use Rattle.siread.proofs.AlikeLemmas.{alike_references}
use Rattle.transactions.proofs.statements.reads.OwnReads.covers_value.Goals as goal

pub returns : goal.returns
returns g c =
    c.covers_value.ensures ∙ alike_references (all_of c.self.inside.locks) (flat_map (λ v. v.items) c.self.inside.all.items) c.self.invariant c.args.table c.args.column c.args.key.now
    ∙ ap (λ rs. covers_value rs c.args.table c.args.column c.args.key.now) c.self.view_is
