use Rattle.std.proofs.Common.{arith}
use Rattle.schema.proofs.MadeLemmas.{bytes_all}
use Rattle.schema.proofs.tables.insert.bytes_are_bytes.Goals as goal

pub returns : goal.returns
returns c = bytes_all c.args.bytes.now (λ k h. omega (arith, c.type_inv.bytes k))
