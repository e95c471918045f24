use Rattle.collector.proofs.sequence.Sequence.in_turn.Goals as goal

pub returns : goal.returns
returns g c = rw (← c.self.view_is) c.self.invariant
