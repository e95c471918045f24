use Rattle.explore.proofs.trail.Saved.outcome.Goals as goal

pub returns-clause-explained : goal.returns-clause-explained
returns-clause-explained g c =
    let k = c.args.self.now.core in
    (k, c.is_legal.ensures, c.legal_histories_are_serializable.ensures k.opening k.records c.is_legal.ensures, c.in_ok-text.ensures)
