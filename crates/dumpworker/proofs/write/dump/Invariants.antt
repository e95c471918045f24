use Rattle.dumpworker.proofs.write.dump.Given as goal

-- the dump that is asked for
abbrev pub ghosts-write_pieces : goal.ghosts-write_pieces
ghosts-write_pieces g a = record { texts = a.source.now; name = a.lent.device.ghost_name; before = g.W.Device.taken a.lent.device.now; failures = g.W.Device.failures a.lent.device.now }
