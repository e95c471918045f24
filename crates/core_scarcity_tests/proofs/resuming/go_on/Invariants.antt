use Rattle.core_scarcity_tests.proofs.resuming.go_on.Given as goal

-- the word that was just made
abbrev pub ghosts-resume : goal.ghosts-resume
ghosts-resume g a = record { table = a.named.0.now.table; opening = a.named.0.now.opening; most = a.core.most }
