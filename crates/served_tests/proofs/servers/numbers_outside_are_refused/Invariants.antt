use Rattle.served_tests.proofs.servers.numbers_outside_are_refused.Given as goal

-- the word that was just made
abbrev pub ghosts-refused : goal.ghosts-refused
ghosts-refused g a = record { table = a.word.now.table; opening = a.word.now.opening; most = a.events }
