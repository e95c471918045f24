use Rattle.std.proofs.Common.{length}
use Rattle.schema.proofs.tables.insert.+have_zero_byte.Given as goal

abbrev pub decreases-have_zero_byte : goal.decreases-have_zero_byte
decreases-have_zero_byte g l = length l.values.now
