-- It owns nothing, so threads may share it.
use denote.RattleType.{RattleType}
use denote.Param.Send.{IsSync, cell_keyless}
use denote.Memory.{part_of, raw_all}
use Rattle.transactions.specs.contracts.ghost_list.GhostList.{the_row}

pub sync : (T : RattleType) → IsSync T → IsSync (the_row T)
unfolding part_of
sync T t = record { shared = λ d b o κ. λ q vs. (cell_keyless q (raw_all (the_row T).mir) vs b o, ((λ _. (tt, ((λ _. (tt, tt)), tt))), tt)) }
