use Rattle.served_tests.proofs.servers.play_anew.Given as goal

-- the word that was just made
abbrev pub ghosts-play_script : goal.ghosts-play_script
ghosts-play_script g a = record { table = a.word.now.table; opening = a.word.now.opening; most = 100 }
