use Rattle.std.proofs.Common.{map, ap, ◌∙◌}
use Rattle.schema.specs.Coming.{said_of}
use Rattle.schema.proofs.ComingLemmas.{coming-listed}
use Rattle.schema.proofs.changes.listed.walk_within.Goals as goal

pub returns : goal.returns
returns g c =
    ap (map said_of) c.split_at.ensures.back
    ∙ coming-listed c.args.table c.args.list.now c.args.after c.of_values.result c.start.result c.requires c.of_values.ensures.keys c.start.ensures.before c.start.ensures.within
