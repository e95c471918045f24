use Rattle.std.proofs.Common.{ap, subst, sym, ◌∙◌, ◌≡◌, ◌<◌, length, get_or, Some}
use Rattle.std.specs.List.{find}
use Rattle.history.specs.Transactions.{Txn, is_of}
use Rattle.transactions.specs.Ledger.{Ledger, txn_at}
use Rattle.transactions.specs.Views.{snapshot_of}
use Rattle.transactions.proofs.LedgerLemmas.{found_at, found_none, txn_at-is}
use Rattle.transactions.proofs.world.World.snapshot_of.Goals as goal

pub returns-in-Some : goal.returns-in-Some
returns-in-Some g c =
    let now : Ledger _ = c.args.self.now in
    let found : find (is_of c.args.session) now.txns ≡ Some (txn_at now.txns c.in-Some.at) = found_at c.as_slice.result.now now.txns c.args.session c.in-Some.at (c.as_slice.ensures.value ∙ ap (λ (l : Ledger _). l.txns) c.self.view_is) c.in-Some.ensures.some c.in-Some.ensures.within in
    let here : txn_at now.txns c.in-Some.at ≡ c.index.result.now = txn_at-is now.txns c.in-Some.at c.index.result.now (subst (λ ts. c.in-Some.at < length ts) (c.as_slice.ensures.value ∙ ap (λ (l : Ledger _). l.txns) c.self.view_is) c.in-Some.ensures.within)
    (c.index.ensures ∙ ap (λ (l : Ledger _). get_or l.txns c.in-Some.at c.index.result.now) c.self.view_is) in
    ap Some (ap (λ (t : Txn _). t.snapshot) c.behind-self.view_is) ∙ sym (ap snapshot_of (found ∙ ap Some here))

pub returns-in-None : goal.returns-in-None
returns-in-None g c =
    let now : Ledger _ = c.args.self.now in
    sym (ap snapshot_of (found_none c.as_slice.result.now now.txns c.args.session (c.as_slice.ensures.value ∙ ap (λ (l : Ledger _). l.txns) c.self.view_is) c.in-None.ensures.none))
