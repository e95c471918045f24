use Rattle.std.proofs.Common.{length, vec_len, arith, ◌∙◌}
use Rattle.std.specs.Option.{option_copied}
use Rattle.restore.proofs.taking.Rounds.{covers}
use Rattle.restore.proofs.draws.PieceReader.gather.Goals as goal

pub in_order-requires-clause-enough : goal.in_order-requires-clause-enough
in_order-requires-clause-enough g c = λ κs lives. covers (length c.args.self.now.lines.now) 1000 (vec_len c.in_ok-places.places) (omega arith) (c.in_ok-places.ensures.count ∙ c.piece_count-count.ensures)

pub in_order-requires-clause-at : goal.in_order-requires-clause-at
in_order-requires-clause-at g c = λ κs lives. c.in_ok-places.ensures.at (option_copied c.args.self.now.known) c.args.self.now.columns.now c.args.self.now.kinds.now c.args.self.now.lines.now c.requires
