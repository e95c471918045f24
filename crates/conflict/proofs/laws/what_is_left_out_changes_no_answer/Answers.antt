use Rattle.conflict.proofs.WorldLemmas.{cause_left, dooms_left, out_left}
use Rattle.conflict.proofs.laws.what_is_left_out_changes_no_answer.Goals as goal

pub returns-clause-structures : goal.returns-clause-structures
returns-clause-structures g c = cause_left

pub returns-clause-dooms : goal.returns-clause-dooms
returns-clause-dooms g c = dooms_left

pub returns-clause-first_out : goal.returns-clause-first_out
returns-clause-first_out g c = out_left
