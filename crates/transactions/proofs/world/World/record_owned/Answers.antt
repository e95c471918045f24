use Rattle.std.proofs.Common.{ap, refl, sym, subst, Some, ◌∙◌, ◌≡◌, true, false, true≢false, get_or}
use Rattle.history.specs.Transactions.{Txn, is_open}
use Rattle.history.specs.declared.event.Action.TheVariants.{Run}
use Rattle.transactions.specs.Ledger.{Ledger, ready, txn_at}
use Rattle.transactions.specs.Runs.{IsFoundFor}
use Rattle.transactions.specs.Versions.{versions_at}
use Rattle.transactions.proofs.LedgerLemmas.{txn_at-is}
use Rattle.transactions.proofs.CommitLemmas.{if_ok_map}
use Rattle.transactions.proofs.ReadLemmas.{on_err_so}
use Rattle.transactions.proofs.RunLemmas.{runs}
use Rattle.transactions.proofs.StepLemmas.{stepped-over, stepped-run, undone}
use Rattle.transactions.proofs.world.World.record_owned.Goals as goal

pub returns-else-is_active-clause-ok : goal.returns-else-is_active-clause-ok
returns-else-is_active-clause-ok g c =
    let now : Ledger _ = c.args.self.now in
    let found : txn_at now.txns c.args.at ≡ c.index.result.now = txn_at-is now.txns c.args.at c.index.result.now c.requires.within (c.index.ensures ∙ ap (λ (l : Ledger _). get_or l.txns c.args.at c.index.result.now) c.self.view_is) in
    let over : is_open (txn_at now.txns c.args.at).standing ≡ false = ap (λ (t : Txn _). is_open t.standing) found ∙ sym c.is_active.ensures ∙ c.if-is_active.false in
    stepped-over c.args.versions.now.catalog.now (txn_at now.txns c.args.at).session (txn_at now.txns c.args.at) now c.args.versions.now.rows.now c.requires.current c.args.action.now
    c.settle-else-is_active.result c.settle-else-is_active.new.self over c.settle-else-is_active.ensures.reply c.settle-else-is_active.ensures.world c.settle-else-is_active.ensures.log

pub returns-in-Run-clause-ok : goal.returns-in-Run-clause-ok
returns-in-Run-clause-ok g c =
    let now : Ledger _ = c.args.self.now in
    let found : txn_at now.txns c.args.at ≡ c.index.result.now = txn_at-is now.txns c.args.at c.index.result.now c.requires.within (c.index.ensures ∙ ap (λ (l : Ledger _). get_or l.txns c.args.at c.index.result.now) c.self.view_is) in
    let open' : is_open (txn_at now.txns c.args.at).standing ≡ true = ap (λ (t : Txn _). is_open t.standing) found ∙ sym c.is_active.ensures ∙ c.if-is_active.true in
    rw c.in-Run.is
    (if_ok_map _ _ c.record_open.result
    (λ r h. stepped-run c.args.versions.now.catalog.now (txn_at now.txns c.args.at).session (txn_at now.txns c.args.at) now c.args.versions.now.rows.now c.requires.current c.in-Run.statement r c.record_open.new.self open' h)
    c.record_open.ensures.ok)

pub returns-in-Run-clause-err : goal.returns-in-Run-clause-err
returns-in-Run-clause-err g c =
    let rows = c.args.versions.now.rows.now in
    rw c.in-Run.is
    (undone (Run c.in-Run.statement) c.args.self.now c.record_open.new.self rows rows c.record_open.result (on_err_so _ c.record_open.result refl) c.record_open.ensures.memory c.record_open.ensures.err (on_err_so _ c.record_open.result refl))

pub returns-in_default : goal.returns-in_default
returns-in_default g c = absurd (runs c.args.action.now c.requires.reads c.in_default.not-Run)

pub record_open-requires-clause-found : goal.record_open-requires-clause-found
record_open-requires-clause-found g c =
    let now : Ledger _ = c.args.self.now in
    let found : txn_at now.txns c.args.at ≡ c.index.result.now = txn_at-is now.txns c.args.at c.index.result.now c.requires.within (c.index.ensures ∙ ap (λ (l : Ledger _). get_or l.txns c.args.at c.index.result.now) c.self.view_is) in
    let open' : is_open (txn_at now.txns c.args.at).standing ≡ true = ap (λ (t : Txn _). is_open t.standing) found ∙ sym c.is_active.ensures ∙ c.if-is_active.true in
    subst (λ a. IsFoundFor c.args.versions.now.catalog.now (Some (ready (versions_at c.args.versions.now.rows.now) a (txn_at now.txns c.args.at))) a c.args.reply) c.in-Run.is c.requires.found open'

pub record_open-requires-clause-open : goal.record_open-requires-clause-open
record_open-requires-clause-open g c =
    let now : Ledger _ = c.args.self.now in
    let found : txn_at now.txns c.args.at ≡ c.index.result.now = txn_at-is now.txns c.args.at c.index.result.now c.requires.within (c.index.ensures ∙ ap (λ (l : Ledger _). get_or l.txns c.args.at c.index.result.now) c.self.view_is) in
    ap (λ (t : Txn _). is_open t.standing) found ∙ sym c.is_active.ensures ∙ c.if-is_active.true

pub settle-requires-else-is_active-clause-simple : goal.settle-requires-else-is_active-clause-simple
settle-requires-else-is_active-clause-simple g c =
    let now : Ledger _ = c.args.self.now in
    let found : txn_at now.txns c.args.at ≡ c.index.result.now = txn_at-is now.txns c.args.at c.index.result.now c.requires.within (c.index.ensures ∙ ap (λ (l : Ledger _). get_or l.txns c.args.at c.index.result.now) c.self.view_is) in
    let over : is_open (txn_at now.txns c.args.at).standing ≡ false = ap (λ (t : Txn _). is_open t.standing) found ∙ sym c.is_active.ensures ∙ c.if-is_active.false in
    λ o. absurd (true≢false (sym o ∙ over))
