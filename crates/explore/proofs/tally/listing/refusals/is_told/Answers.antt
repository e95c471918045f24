use Rattle.std.proofs.Common.{◌∙◌}
use Rattle.explore.proofs.Lines.{told_is}
use Rattle.explore.proofs.tally.listing.refusals.is_told.Goals as goal

pub returns : goal.returns
returns g c = c.has_line.ensures ∙ told_is c.args.found.now c.as_slice.result.now c.args.reply.now c.args.session (c.as_slice.ensures.value ∙ c.in_ok-line.ensures)
