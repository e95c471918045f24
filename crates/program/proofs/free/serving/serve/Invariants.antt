use Rattle.program.proofs.free.serving.serve.Given as goal

-- the word that was just made
abbrev pub ghosts-serve_on : goal.ghosts-serve_on
ghosts-serve_on g a = record { table = a.word.now.table; opening = a.word.now.opening; most = a.beginning.most_events }
