use Rattle.explore.specs.Setups.{turn_of}
use Rattle.explore.proofs.SetupLemmas.{one_turn}
use Rattle.explore.proofs.setup.push_line.Goals as goal

pub returns-clause-turns : goal.returns-clause-turns
returns-clause-turns g c = one_turn c.args.turns.now.items c.push.new.self.items c.in_ok-turn.turn (turn_of c.args.line) c.in_ok-push.ensures.items c.in_ok-turn.ensures.turn
