use Rattle.std.proofs.Common.{ap, subst, sym, ◌∙◌, ◌≡◌, get_or, Some}
use Rattle.std.specs.List.{find}
use Rattle.value.specs.Refusals.{AnswersOrNoMemory}
use Rattle.history.specs.Transactions.{is_of}
use Rattle.transactions.specs.Ledger.{Ledger, txn_at}
use Rattle.transactions.specs.Versions.{versions_at}
use Rattle.transactions.specs.Views.{reader_on}
use Rattle.transactions.proofs.LedgerLemmas.{found_at, txn_at-is}
use Rattle.transactions.proofs.world.World.reader.Goals as goal

pub returns-in-Some : goal.returns-in-Some
returns-in-Some g c = λ d X.
    let now : Ledger _ = c.args.self.now in
    let found : find (is_of c.args.session) now.txns ≡ Some (txn_at now.txns c.in-Some.at) = found_at c.as_slice.result.now now.txns c.args.session c.in-Some.at (c.as_slice.ensures.value ∙ ap (λ (l : Ledger _). l.txns) c.self.view_is) c.in-Some.ensures.some c.in-Some.ensures.within in
    let here : txn_at now.txns c.in-Some.at ≡ c.index.result.now = txn_at-is now.txns c.in-Some.at c.index.result.now (subst (λ ts. Rattle.std.proofs.Common.◌<◌ c.in-Some.at (Rattle.std.proofs.Common.length ts)) (c.as_slice.ensures.value ∙ ap (λ (l : Ledger _). l.txns) c.self.view_is) c.in-Some.ensures.within)
    (c.index.ensures ∙ ap (λ (l : Ledger _). get_or l.txns c.in-Some.at c.index.result.now) c.self.view_is) in
    subst (λ o. AnswersOrNoMemory c.reader.result (reader_on (versions_at c.args.rows.now) o)) (sym (found ∙ ap Some here)) c.reader.ensures
