use Rattle.std.proofs.Common.{ap, subst, sym, ◌∙◌, ◌≡◌, get_or, List}
use Rattle.value.specs.Isolation.{dooms}
use Rattle.history.specs.Transactions.{Txn, node, reads_from}
use Rattle.transactions.specs.Ledger.{IsCounted, Ledger, txn_at}
use Rattle.transactions.specs.Stretches.{IsAmongOpen}
use Rattle.transactions.proofs.CommitLemmas.{if_ok_map}
use Rattle.transactions.proofs.LedgerLemmas.{txn_at-is}
use Rattle.transactions.proofs.StretchLemmas.{is-among}
use Rattle.transactions.proofs.world.World.dooms_of.Goals as goal

pub dooms-requires-clause-past : goal.dooms-requires-clause-past
dooms-requires-clause-past g c =
    rw (c.as_slice.ensures.value, c.as_slice-all.ensures.value) c.self.invariant.1

pub dooms-requires-clause-committer : goal.dooms-requires-clause-committer
dooms-requires-clause-committer g c =
    let now : Ledger _ = c.args.self.now in
    let all : c.as_slice-all.result.now ≡ now.txns = c.as_slice-all.ensures.value ∙ ap (λ (l : Ledger _). l.txns) c.self.view_is in
    let x = c.index-all-at.result in
    let found : txn_at now.txns c.args.at ≡ x = txn_at-is now.txns c.args.at x c.requires.within (c.index-all-at.is ∙ ap (λ ts. get_or ts c.args.at x) all) in
    subst (λ (ts : List (Txn _)). IsAmongOpen x ts) (sym all)
    (subst (λ (y : Txn _). IsAmongOpen y now.txns) found (is-among _ now.txns c.args.at (subst IsCounted c.self.view_is c.self.invariant.0).numbered c.requires.within c.requires.open))

pub returns-clause-ok : goal.returns-clause-ok
returns-clause-ok g c =
    let now : Ledger _ = c.args.self.now in
    let all : c.as_slice-all.result.now ≡ now.txns = c.as_slice-all.ensures.value ∙ ap (λ (l : Ledger _). l.txns) c.self.view_is in
    let x = c.index-all-at.result in
    let found : txn_at now.txns c.args.at ≡ x = txn_at-is now.txns c.args.at x c.requires.within (c.index-all-at.is ∙ ap (λ ts. get_or ts c.args.at x) all) in
    if_ok_map _ _ c.dooms.result (λ causes e. e ∙ ap (λ ts. dooms node reads_from ts x) all ∙ ap (dooms node reads_from now.txns) (sym found)) c.dooms.ensures.ok
