use Rattle.std.proofs.Common.{◌≡◌, ◌++◌, map, take}
use Rattle.program.proofs.replacing.NewFile.note.Given as goal

-- the bytes so far are noted
abbrev pub invariant-loop-byte : goal.invariant-loop-byte
invariant-loop-byte g l = (map (λ p. p.0) l.self.taken.items ≡ map (λ p. p.0) l.fn.self.taken.items ++ take l.byte-index l.bytes) × (l.self.failed ≡ l.fn.self.failed)
