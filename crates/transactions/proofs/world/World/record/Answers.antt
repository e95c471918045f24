use Rattle.std.proofs.Common.{ap, refl, sym, subst, ◌∙◌, ◌≡◌, None, Some}
use Rattle.std.specs.List.{find}
use Rattle.history.specs.Transactions.{is_of}
use Rattle.transactions.specs.Ledger.{Ledger, ready_for, txn_at}
use Rattle.transactions.specs.Runs.{IsFoundFor}
use Rattle.transactions.specs.Steps.{IsStepped}
use Rattle.transactions.specs.Versions.{versions_at}
use Rattle.transactions.proofs.CommitLemmas.{if_ok_map}
use Rattle.transactions.proofs.ReadLemmas.{on_err_so}
use Rattle.transactions.proofs.LedgerLemmas.{found_at, found_none}
use Rattle.transactions.proofs.StepLemmas.{on_done, stepped-found, stepped-none, undone}
use Rattle.transactions.proofs.world.World.record.Goals as goal

pub returns-in-Some-clause-ok : goal.returns-in-Some-clause-ok
returns-in-Some-clause-ok g c =
    let now : Ledger _ = c.args.self.now in
    let found : find (is_of c.args.session) now.txns ≡ Some (txn_at now.txns c.in-Some.at) = found_at c.as_slice.result.now now.txns c.args.session c.in-Some.at (c.as_slice.ensures.value ∙ ap (λ (l : Ledger _). l.txns) c.self.view_is) c.in-Some.ensures.some c.in-Some.ensures.within in
    let rows = c.args.versions.now.rows.now in
    if_ok_map _ _ c.record_owned.result (λ r h. stepped-found c.args.versions.now.catalog.now c.args.session c.in-Some.at c.args.action.now now rows r c.record_owned.new.self rows found h) c.record_owned.ensures.ok

pub returns-in-None-clause-ok : goal.returns-in-None-clause-ok
returns-in-None-clause-ok g c =
    let now : Ledger _ = c.args.self.now in
    let none : find (is_of c.args.session) now.txns ≡ None = found_none c.as_slice.result.now now.txns c.args.session (c.as_slice.ensures.value ∙ ap (λ (l : Ledger _). l.txns) c.self.view_is) c.in-None.ensures.none in
    let rows = c.args.versions.now.rows.now in
    on_done _ _ _ _ c.join.result
    (λ r reply world log. subst (λ o. IsStepped c.args.versions.now.catalog.now c.args.session c.args.action.now o now rows r c.join.new.self rows) (sym none)
    (stepped-none c.args.versions.now.catalog.now c.args.session c.args.action.now now rows r c.join.new.self c.requires.current reply world log))
    c.join.ensures.reply c.join.ensures.world c.join.ensures.log

pub returns-in-None-clause-err : goal.returns-in-None-clause-err
returns-in-None-clause-err g c =
    let rows = c.args.versions.now.rows.now in
    undone c.args.action.now c.args.self.now c.join.new.self rows rows c.join.result c.join.ensures.taken c.join.ensures.memory c.join.ensures.err (on_err_so _ c.join.result refl)

pub record_owned-requires-clause-found : goal.record_owned-requires-clause-found
record_owned-requires-clause-found g c =
    let now : Ledger _ = c.args.self.now in
    let found : find (is_of c.args.session) now.txns ≡ Some (txn_at now.txns c.in-Some.at) = found_at c.as_slice.result.now now.txns c.args.session c.in-Some.at (c.as_slice.ensures.value ∙ ap (λ (l : Ledger _). l.txns) c.self.view_is) c.in-Some.ensures.some c.in-Some.ensures.within in
    subst (λ o. IsFoundFor c.args.versions.now.catalog.now (ready_for (versions_at c.args.versions.now.rows.now) c.args.action.now o) c.args.action.now c.args.reply) found c.requires.found
