use Rattle.std.proofs.Common.{ap, refl, sym, subst, ◌∙◌, ◌≡◌, None, Some}
use Rattle.std.specs.List.{find}
use Rattle.history.specs.Transactions.{is_of}
use Rattle.transactions.specs.Ledger.{Ledger, txn_at}
use Rattle.transactions.specs.Steps.{IsStepped}
use Rattle.transactions.proofs.CommitLemmas.{if_ok_map}
use Rattle.transactions.proofs.ReadLemmas.{on_err_so}
use Rattle.transactions.proofs.LedgerLemmas.{found_at, found_none}
use Rattle.transactions.proofs.StepLemmas.{on_done, stepped-found, stepped-none, undone}
use Rattle.transactions.proofs.world.World.step.Goals as goal

pub returns-in-Some-clause-ok : goal.returns-in-Some-clause-ok
returns-in-Some-clause-ok g c =
    let now : Ledger _ = c.args.self.now in
    let found : find (is_of c.args.session) now.txns ≡ Some (txn_at now.txns c.in-Some.at) = found_at c.as_slice.result.now now.txns c.args.session c.in-Some.at (c.as_slice.ensures.value ∙ ap (λ (l : Ledger _). l.txns) c.self.view_is) c.in-Some.ensures.some c.in-Some.ensures.within in
    if_ok_map _ _ c.step_owned.result (λ r h. stepped-found c.args.catalog.now c.args.session c.in-Some.at c.args.told.now.action.now now c.args.rows.now r c.step_owned.new.self c.step_owned.new.rows found h) c.step_owned.ensures.ok

pub returns-in-None-clause-ok : goal.returns-in-None-clause-ok
returns-in-None-clause-ok g c =
    let now : Ledger _ = c.args.self.now in
    let none : find (is_of c.args.session) now.txns ≡ None = found_none c.as_slice.result.now now.txns c.args.session (c.as_slice.ensures.value ∙ ap (λ (l : Ledger _). l.txns) c.self.view_is) c.in-None.ensures.none in
    on_done _ _ _ _ c.join.result
    (λ r reply world log. subst (λ o. IsStepped c.args.catalog.now c.args.session c.args.told.now.action.now o now c.args.rows.now r c.join.new.self c.args.rows.now) (sym none)
    (stepped-none c.args.catalog.now c.args.session c.args.told.now.action.now now c.args.rows.now r c.join.new.self c.requires.current reply world log))
    c.join.ensures.reply c.join.ensures.world c.join.ensures.log

pub returns-in-None-clause-err : goal.returns-in-None-clause-err
returns-in-None-clause-err g c =
    undone c.args.told.now.action.now c.args.self.now c.join.new.self c.args.rows.now c.args.rows.now c.join.result c.join.ensures.taken c.join.ensures.memory c.join.ensures.err (on_err_so _ c.join.result refl)

pub step_owned-requires-clause-held : goal.step_owned-requires-clause-held
step_owned-requires-clause-held g c =
    let now : Ledger _ = c.args.self.now in
    let found : find (is_of c.args.session) now.txns ≡ Some (txn_at now.txns c.in-Some.at) = found_at c.as_slice.result.now now.txns c.args.session c.in-Some.at (c.as_slice.ensures.value ∙ ap (λ (l : Ledger _). l.txns) c.self.view_is) c.in-Some.ensures.some c.in-Some.ensures.within in
    c.requires.held (txn_at now.txns c.in-Some.at) found

pub step_owned-requires-clause-committer : goal.step_owned-requires-clause-committer
step_owned-requires-clause-committer g c =
    let now : Ledger _ = c.args.self.now in
    let found : find (is_of c.args.session) now.txns ≡ Some (txn_at now.txns c.in-Some.at) = found_at c.as_slice.result.now now.txns c.args.session c.in-Some.at (c.as_slice.ensures.value ∙ ap (λ (l : Ledger _). l.txns) c.self.view_is) c.in-Some.ensures.some c.in-Some.ensures.within in
    c.requires.committer (txn_at now.txns c.in-Some.at) found

pub step_owned-requires-clause-told : goal.step_owned-requires-clause-told
step_owned-requires-clause-told g c =
    let now : Ledger _ = c.args.self.now in
    let found : find (is_of c.args.session) now.txns ≡ Some (txn_at now.txns c.in-Some.at) = found_at c.as_slice.result.now now.txns c.args.session c.in-Some.at (c.as_slice.ensures.value ∙ ap (λ (l : Ledger _). l.txns) c.self.view_is) c.in-Some.ensures.some c.in-Some.ensures.within in
    c.requires.told (txn_at now.txns c.in-Some.at) found
