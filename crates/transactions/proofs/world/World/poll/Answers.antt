use Rattle.std.proofs.Common.{◌≡◌, true, false, cond, ap, sym, arith, ◌∙◌}
use Rattle.statement.specs.declared.reply.Reply.TheVariants.{Safe, Wait}
use Rattle.history.specs.Transactions.{Txn, is_deferrable}
use Rattle.transactions.specs.Ledger.{is_pending_at, world_on}
use Rattle.transactions.proofs.ActiveLemmas.{none_pending, one_pending}
use Rattle.transactions.proofs.LedgerLemmas.{poll_late}
use Rattle.transactions.proofs.world.World.poll.Goals as goal

pub returns-then-first_active-course-clause-reply : goal.returns-then-first_active-course-clause-reply
returns-then-first_active-course-clause-reply g c = λ d X.
    let waits : is_deferrable c.args.transaction.now.mode ≡ true = sym (ap (λ (t : Txn _). is_deferrable t.mode) c.transaction.view_is) ∙ sym c.is_deferrable.ensures ∙ c.if-not-is_deferrable.false in
    let unknown : c.args.transaction.now.known ≡ false = sym (ap (λ (t : Txn _). t.known) c.transaction.view_is) ∙ c.if-transaction.false in
    let pending : is_pending_at c.args.self.now.txns c.polled-course.result.taken ≡ true = one_pending c.args.self.now.txns c.polled-course.result.taken (omega (arith, c.first_active.ensures, c.if-first_active-course.true)) (omega arith) in
    sym (poll_late (world_on d X c.args.self.now) c.args.transaction.now c.polled-course.result waits unknown (c.polled-course.ensures d X) ∙ ap (λ b. cond b Wait (Safe c.polled-course.result.snapshot)) pending)

pub returns-else-first_active-course-clause-reply : goal.returns-else-first_active-course-clause-reply
returns-else-first_active-course-clause-reply g c = λ d X.
    let waits : is_deferrable c.args.transaction.now.mode ≡ true = sym (ap (λ (t : Txn _). is_deferrable t.mode) c.transaction.view_is) ∙ sym c.is_deferrable.ensures ∙ c.if-not-is_deferrable.false in
    let unknown : c.args.transaction.now.known ≡ false = sym (ap (λ (t : Txn _). t.known) c.transaction.view_is) ∙ c.if-transaction.false in
    let pending : is_pending_at c.args.self.now.txns c.polled-course.result.taken ≡ false = none_pending c.args.self.now.txns c.polled-course.result.taken (omega (arith, c.first_active.ensures, c.if-first_active-course.false)) in
    sym (poll_late (world_on d X c.args.self.now) c.args.transaction.now c.polled-course.result waits unknown (c.polled-course.ensures d X) ∙ ap (λ b. cond b Wait (Safe c.polled-course.result.snapshot)) pending)

pub returns-else-first_active-course-clause-course : goal.returns-else-first_active-course-clause-course
returns-else-first_active-course-clause-course g c = λ d X. ap (λ (x : Txn _). record x { known = true }) (c.polled-course.ensures d X)
