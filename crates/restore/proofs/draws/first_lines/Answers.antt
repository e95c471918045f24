use Rattle.std.proofs.Common.{◌∙◌}
use Rattle.restore.proofs.taking.Drawn.{none_more}
use Rattle.restore.proofs.draws.first_lines.Goals as goal

pub returns : goal.returns
returns c = c.split_at.ensures.front ∙ none_more c.args.most c.min.result c.args.lines.now c.min.ensures
