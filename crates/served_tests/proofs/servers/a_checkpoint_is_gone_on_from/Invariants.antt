use Rattle.served_tests.proofs.servers.a_checkpoint_is_gone_on_from.Given as goal

-- the words that were just made
abbrev pub ghosts-one_row : goal.ghosts-one_row
ghosts-one_row g a = record { table = a.word.now.table; opening = a.word.now.opening; most = 100 }

abbrev pub ghosts-go_on : goal.ghosts-go_on
ghosts-go_on g a = record { table = a.word.now.table; opening = a.word.now.opening; most = a.core.most }
