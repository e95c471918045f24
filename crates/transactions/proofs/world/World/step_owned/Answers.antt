use Rattle.std.proofs.Common.{ap, refl, sym, ◌∙◌, ◌≡◌, true, false, true≢false, get_or}
use Rattle.history.specs.Transactions.{Txn, is_open}
use Rattle.history.specs.declared.event.Action.TheVariants.{Run, Export, Commit}
use Rattle.transactions.specs.Ledger.{Ledger, txn_at}
use Rattle.transactions.proofs.LedgerLemmas.{txn_at-is}
use Rattle.transactions.proofs.CommitLemmas.{if_ok_map}
use Rattle.transactions.proofs.ReadLemmas.{on_err_so}
use Rattle.transactions.proofs.StepLemmas.{if_done, on_done, simple_else, stepped-commit, stepped-export, stepped-over, stepped-run, stepped-simple, undone}
use Rattle.transactions.proofs.world.World.step_owned.Goals as goal

pub returns-else-is_active-clause-ok : goal.returns-else-is_active-clause-ok
returns-else-is_active-clause-ok g c =
    let now : Ledger _ = c.args.self.now in
    let found : txn_at now.txns c.args.at ≡ c.index.result.now = txn_at-is now.txns c.args.at c.index.result.now c.requires.within (c.index.ensures ∙ ap (λ (l : Ledger _). get_or l.txns c.args.at c.index.result.now) c.self.view_is) in
    let over : is_open (txn_at now.txns c.args.at).standing ≡ false = ap (λ (t : Txn _). is_open t.standing) found ∙ sym c.is_active.ensures ∙ c.if-is_active.false in
    stepped-over c.args.catalog.now (txn_at now.txns c.args.at).session (txn_at now.txns c.args.at) now c.args.rows.now c.requires.current c.args.told.now.action.now
    c.settle-else-is_active.result c.settle-else-is_active.new.self over c.settle-else-is_active.ensures.reply c.settle-else-is_active.ensures.world c.settle-else-is_active.ensures.log

pub returns-in_default-clause-ok : goal.returns-in_default-clause-ok
returns-in_default-clause-ok g c =
    let now : Ledger _ = c.args.self.now in
    stepped-simple c.args.catalog.now (txn_at now.txns c.args.at).session (txn_at now.txns c.args.at) now c.args.rows.now c.requires.current c.args.told.now.action.now
    c.settle.result c.settle.new.self (simple_else _ c.in_default.not-Run c.in_default.not-Export c.in_default.not-Commit) c.settle.ensures.reply c.settle.ensures.world c.settle.ensures.log

pub returns-in-Run-clause-ok : goal.returns-in-Run-clause-ok
returns-in-Run-clause-ok g c =
    let now : Ledger _ = c.args.self.now in
    let found : txn_at now.txns c.args.at ≡ c.index.result.now = txn_at-is now.txns c.args.at c.index.result.now c.requires.within (c.index.ensures ∙ ap (λ (l : Ledger _). get_or l.txns c.args.at c.index.result.now) c.self.view_is) in
    let open' : is_open (txn_at now.txns c.args.at).standing ≡ true = ap (λ (t : Txn _). is_open t.standing) found ∙ sym c.is_active.ensures ∙ c.if-is_active.true in
    rw c.in-Run.is
    (if_ok_map _ _ c.run.result (λ r h. stepped-run c.args.catalog.now (txn_at now.txns c.args.at).session (txn_at now.txns c.args.at) now c.args.rows.now c.requires.current c.in-Run.statement r c.run.new.self open' h) c.run.ensures.ok)

pub returns-in-Run-clause-err : goal.returns-in-Run-clause-err
returns-in-Run-clause-err g c =
    rw c.in-Run.is
    (undone (Run c.in-Run.statement) c.args.self.now c.run.new.self c.args.rows.now c.args.rows.now c.run.result (on_err_so _ c.run.result refl) c.run.ensures.memory c.run.ensures.err (on_err_so _ c.run.result refl))

pub returns-in-Export-clause-ok : goal.returns-in-Export-clause-ok
returns-in-Export-clause-ok g c =
    let now : Ledger _ = c.args.self.now in
    let found : txn_at now.txns c.args.at ≡ c.index.result.now = txn_at-is now.txns c.args.at c.index.result.now c.requires.within (c.index.ensures ∙ ap (λ (l : Ledger _). get_or l.txns c.args.at c.index.result.now) c.self.view_is) in
    let open' : is_open (txn_at now.txns c.args.at).standing ≡ true = ap (λ (t : Txn _). is_open t.standing) found ∙ sym c.is_active.ensures ∙ c.if-is_active.true in
    rw c.in-Export.is
    (on_done _ _ _ _ c.export.result (λ r reply world log. stepped-export c.args.catalog.now (txn_at now.txns c.args.at).session (txn_at now.txns c.args.at) now c.args.rows.now c.requires.current r c.export.new.self open' reply world log)
    c.export.ensures.reply c.export.ensures.world c.export.ensures.log)

pub returns-in-Export-clause-err : goal.returns-in-Export-clause-err
returns-in-Export-clause-err g c =
    rw c.in-Export.is
    (undone Export c.args.self.now c.export.new.self c.args.rows.now c.args.rows.now c.export.result (on_err_so _ c.export.result refl) c.export.ensures.memory c.export.ensures.err (on_err_so _ c.export.result refl))

pub returns-in-Commit-clause-ok : goal.returns-in-Commit-clause-ok
returns-in-Commit-clause-ok g c =
    let now : Ledger _ = c.args.self.now in
    let found : txn_at now.txns c.args.at ≡ c.index.result.now = txn_at-is now.txns c.args.at c.index.result.now c.requires.within (c.index.ensures ∙ ap (λ (l : Ledger _). get_or l.txns c.args.at c.index.result.now) c.self.view_is) in
    let open' : is_open (txn_at now.txns c.args.at).standing ≡ true = ap (λ (t : Txn _). is_open t.standing) found ∙ sym c.is_active.ensures ∙ c.if-is_active.true in
    rw c.in-Commit.is
    (if_done _ _ _ _ c.commit.result (λ r reply world stay. stepped-commit c.args.catalog.now (txn_at now.txns c.args.at).session (txn_at now.txns c.args.at) now c.args.rows.now c.requires.current r c.commit.new.self c.commit.new.rows open' reply world stay)
    c.commit.ensures.reply c.commit.ensures.world c.commit.ensures.rows)

pub returns-in-Commit-clause-err : goal.returns-in-Commit-clause-err
returns-in-Commit-clause-err g c =
    rw c.in-Commit.is
    (undone Commit c.args.self.now c.commit.new.self c.args.rows.now c.commit.new.rows c.commit.result (on_err_so _ c.commit.result refl) c.commit.ensures.memory c.commit.ensures.err c.commit.ensures.rows_err)

pub commit-requires-clause-committer : goal.commit-requires-clause-committer
commit-requires-clause-committer g c = λ c' X.
    let now : Ledger _ = c.args.self.now in
    let found : txn_at now.txns c.args.at ≡ c.index.result.now = txn_at-is now.txns c.args.at c.index.result.now c.requires.within (c.index.ensures ∙ ap (λ (l : Ledger _). get_or l.txns c.args.at c.index.result.now) c.self.view_is) in
    let open' : is_open (txn_at now.txns c.args.at).standing ≡ true = ap (λ (t : Txn _). is_open t.standing) found ∙ sym c.is_active.ensures ∙ c.if-is_active.true in
    c.requires.committer open'

pub run-requires-clause-open : goal.run-requires-clause-open
run-requires-clause-open g c =
    let now : Ledger _ = c.args.self.now in
    let found : txn_at now.txns c.args.at ≡ c.index.result.now = txn_at-is now.txns c.args.at c.index.result.now c.requires.within (c.index.ensures ∙ ap (λ (l : Ledger _). get_or l.txns c.args.at c.index.result.now) c.self.view_is) in
    ap (λ (t : Txn _). is_open t.standing) found ∙ sym c.is_active.ensures ∙ c.if-is_active.true

pub export-requires-clause-open : goal.export-requires-clause-open
export-requires-clause-open g c =
    let now : Ledger _ = c.args.self.now in
    let found : txn_at now.txns c.args.at ≡ c.index.result.now = txn_at-is now.txns c.args.at c.index.result.now c.requires.within (c.index.ensures ∙ ap (λ (l : Ledger _). get_or l.txns c.args.at c.index.result.now) c.self.view_is) in
    ap (λ (t : Txn _). is_open t.standing) found ∙ sym c.is_active.ensures ∙ c.if-is_active.true

pub commit-requires-clause-open : goal.commit-requires-clause-open
commit-requires-clause-open g c =
    let now : Ledger _ = c.args.self.now in
    let found : txn_at now.txns c.args.at ≡ c.index.result.now = txn_at-is now.txns c.args.at c.index.result.now c.requires.within (c.index.ensures ∙ ap (λ (l : Ledger _). get_or l.txns c.args.at c.index.result.now) c.self.view_is) in
    ap (λ (t : Txn _). is_open t.standing) found ∙ sym c.is_active.ensures ∙ c.if-is_active.true

pub settle-requires-else-is_active-clause-simple : goal.settle-requires-else-is_active-clause-simple
settle-requires-else-is_active-clause-simple g c =
    let now : Ledger _ = c.args.self.now in
    let found : txn_at now.txns c.args.at ≡ c.index.result.now = txn_at-is now.txns c.args.at c.index.result.now c.requires.within (c.index.ensures ∙ ap (λ (l : Ledger _). get_or l.txns c.args.at c.index.result.now) c.self.view_is) in
    let over : is_open (txn_at now.txns c.args.at).standing ≡ false = ap (λ (t : Txn _). is_open t.standing) found ∙ sym c.is_active.ensures ∙ c.if-is_active.false in
    λ o. absurd (true≢false (sym o ∙ over))
