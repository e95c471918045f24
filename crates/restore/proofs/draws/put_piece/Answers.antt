use Rattle.std.proofs.Common.{arith}
use Rattle.restore.proofs.taking.Drawn.{at-set}
use Rattle.restore.proofs.draws.put_piece.Goals as goal

pub returns-clause-at : goal.returns-clause-at
returns-clause-at g c = λ known columns kinds lines is at.
    at-set known columns kinds lines c.args.places.now.items c.args.drawn.place c.args.drawn.piece (omega arith) is at
