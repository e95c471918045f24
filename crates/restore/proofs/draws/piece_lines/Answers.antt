use Rattle.std.proofs.Common.{◌*◌, take, ap, ◌∙◌}
use Rattle.restore.proofs.taking.Drawn.{none_behind}
use Rattle.restore.proofs.draws.piece_lines.Goals as goal

pub returns : goal.returns
returns c =
    c.first_lines.ensures ∙ ap (take 1000) (c.lines_behind-rest.ensures ∙ none_behind (c.args.place * 1000) c.start_of.result c.args.lines.now c.start_of.ensures.start)
