use Rattle.std.proofs.Common.{ap, refl, subst, sym, ◌∙◌, ◌≡◌, true, false, cond, [], get_or}
use Rattle.history.specs.Transactions.{Txn, is_read_write}
use Rattle.transactions.specs.Ledger.{Ledger, IsCounted, txn_at}
use Rattle.transactions.specs.Versions.{StayShown}
use Rattle.transactions.proofs.LedgerLemmas.{txn_at-is}
use Rattle.transactions.proofs.CommitLemmas.{after-read, after-written}
use Rattle.transactions.proofs.InstallLemmas.{stay-installed, stay-same}
use Rattle.transactions.proofs.world.World.commit_at.Goals as goal

pub returns-in_ok-commit_writer-clause-ok : goal.returns-in_ok-commit_writer-clause-ok
returns-in_ok-commit_writer-clause-ok g c = λ d X.
    let now : Ledger _ = c.args.self.now in
    let found : txn_at now.txns c.args.at ≡ c.index.result.now = txn_at-is now.txns c.args.at c.index.result.now c.requires.within (c.index.ensures ∙ ap (λ (l : Ledger _). get_or l.txns c.args.at c.index.result.now) c.self.view_is) in
    let writes : is_read_write (txn_at now.txns c.args.at).mode ≡ true = ap (λ (t : Txn _). is_read_write t.mode) found ∙ sym c.is_writer.ensures ∙ c.if-is_writer.true in
    c.in_ok-commit_writer.ensures.ok ∙ after-written now d X c.args.at c.args.committed (subst IsCounted c.self.view_is c.self.invariant.0) c.requires.within c.requires.open writes (c.requires.course d X)

pub returns-else-is_writer-clause-ok : goal.returns-else-is_writer-clause-ok
returns-else-is_writer-clause-ok g c = λ d X.
    let now : Ledger _ = c.args.self.now in
    let found : txn_at now.txns c.args.at ≡ c.index.result.now = txn_at-is now.txns c.args.at c.index.result.now c.requires.within (c.index.ensures ∙ ap (λ (l : Ledger _). get_or l.txns c.args.at c.index.result.now) c.self.view_is) in
    let reads : is_read_write (txn_at now.txns c.args.at).mode ≡ false = ap (λ (t : Txn _). is_read_write t.mode) found ∙ sym c.is_writer.ensures ∙ c.if-is_writer.false in
    c.turn.ensures ∙ after-read now d X c.args.at c.args.committed (subst IsCounted c.self.view_is c.self.invariant.0) c.requires.within c.requires.open reads (c.requires.course d X)

pub returns-in_ok-commit_writer-clause-rows : goal.returns-in_ok-commit_writer-clause-rows
returns-in_ok-commit_writer-clause-rows g c =
    let now : Ledger _ = c.args.self.now in
    let found : txn_at now.txns c.args.at ≡ c.index.result.now = txn_at-is now.txns c.args.at c.index.result.now c.requires.within (c.index.ensures ∙ ap (λ (l : Ledger _). get_or l.txns c.args.at c.index.result.now) c.self.view_is) in
    let writes : is_read_write (txn_at now.txns c.args.at).mode ≡ true = ap (λ (t : Txn _). is_read_write t.mode) found ∙ sym c.is_writer.ensures ∙ c.if-is_writer.true in
    subst (λ b. StayShown now c.args.rows.now (cond b (txn_at now.txns c.args.at).changes []) c.commit_writer.new.self c.commit_writer.new.rows) (sym writes)
    (stay-installed now c.commit_writer.new.self c.args.rows.now c.commit_writer.new.rows (txn_at now.txns c.args.at).changes c.args.at c.args.committed _ c.in_ok-commit_writer.ensures.ok c.in_ok-commit_writer.ensures.rows)

pub returns-else-is_writer-clause-rows : goal.returns-else-is_writer-clause-rows
returns-else-is_writer-clause-rows g c =
    let now : Ledger _ = c.args.self.now in
    let found : txn_at now.txns c.args.at ≡ c.index.result.now = txn_at-is now.txns c.args.at c.index.result.now c.requires.within (c.index.ensures ∙ ap (λ (l : Ledger _). get_or l.txns c.args.at c.index.result.now) c.self.view_is) in
    let reads : is_read_write (txn_at now.txns c.args.at).mode ≡ false = ap (λ (t : Txn _). is_read_write t.mode) found ∙ sym c.is_writer.ensures ∙ c.if-is_writer.false in
    subst (λ b. StayShown now c.args.rows.now (cond b (txn_at now.txns c.args.at).changes []) c.turn.new.self c.args.rows.now) (sym reads)
    (stay-same now c.turn.new.self c.args.rows.now c.args.rows.now (ap (λ (l : Ledger _). l.base) c.turn.ensures) refl c.requires.current)
