use Rattle.core_scarcity_tests.proofs.serving.serve_anew.Given as goal

-- the word that was just made
abbrev pub ghosts-serve : goal.ghosts-serve
ghosts-serve g a = record { table = a.named.0.now.table; opening = a.named.0.now.opening; most = 40 }
