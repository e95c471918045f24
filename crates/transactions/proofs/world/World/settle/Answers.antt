use Rattle.std.proofs.Common.{ap, subst, ◌∙◌, get_or}
use Rattle.transactions.specs.Ledger.{Ledger, IsCounted}
use Rattle.transactions.proofs.LedgerLemmas.{settled}
use Rattle.transactions.proofs.world.World.settle.Goals as goal

pub returns-clause-world : goal.returns-clause-world
returns-clause-world g c = λ d X.
    c.turn.ensures ∙ settled c.args.self.now d X c.args.action.now c.args.at c.index.result.now c.decide-decision.result.course c.decide-decision.result.reply
    (subst IsCounted c.self.view_is c.self.invariant.0) c.requires.within
    (c.index.ensures ∙ ap (λ (l : Ledger _). get_or l.txns c.args.at c.index.result.now) c.self.view_is)
    c.requires.simple (c.decide-decision.ensures.reply d X) (c.decide-decision.ensures.course d X)
