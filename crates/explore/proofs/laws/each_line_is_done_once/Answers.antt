use Rattle.explore.proofs.EachOnce.{each_once, each_schedule}
use Rattle.explore.proofs.laws.each_line_is_done_once.Goals as goal

pub returns-clause-schedules : goal.returns-clause-schedules
returns-clause-schedules g c = each_schedule c.each_once.ensures.only

pub returns-clause-interleaving : goal.returns-clause-interleaving
returns-clause-interleaving g c = each_once
