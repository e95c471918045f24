use Rattle.served_tests.proofs.passes.two_sessions_in_threads.Given as goal

-- the word that was just made
abbrev pub ghosts-step_and_stamp : goal.ghosts-step_and_stamp
ghosts-step_and_stamp g a = record { table = a.word.now.table; opening = a.word.now.opening; most = 10 }
