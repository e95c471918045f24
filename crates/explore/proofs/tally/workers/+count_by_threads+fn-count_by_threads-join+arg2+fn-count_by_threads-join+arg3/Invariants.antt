use Rattle.explore.proofs.tally.workers.+count_by_threads+fn-count_by_threads-join+arg2+fn-count_by_threads-join+arg3.Given as goal

abbrev pub decreases-count_by_threads : goal.decreases-count_by_threads
decreases-count_by_threads g l = l.jobs

abbrev pub decreases-join+arg2 : goal.decreases-join+arg2
decreases-join+arg2 g l = l.first

abbrev pub decreases-join+arg3 : goal.decreases-join+arg3
decreases-join+arg3 g l = l.second
