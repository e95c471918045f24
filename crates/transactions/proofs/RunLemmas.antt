-- What a statement comes to, and what is answered to a session's transaction with its own tables again.
use Rattle.std.proofs.Common.{◌≡◌, refl, sym, ap, ◌∙◌, ℕ, ◌+◌, ◌<◌, Bool, true, false, true≢false, cond, not, ◌&&◌, List, [], length, Option}
use Rattle.value.specs.declared.refusal.Refusal.{Refusal}
use Rattle.value.specs.declared.refusal.Code.TheVariants as code
use Rattle.schema.specs.Definition.{Catalog}
use Rattle.schema.specs.declared.changes.Change.{Change}
use Rattle.schema.specs.declared.tables.Tables.{Tables}
use Rattle.statement.specs.declared.statement.Statement.{Statement}
use Rattle.statement.specs.declared.reading.Reading.{Reading}
use Rattle.statement.specs.declared.outcome.Mark.{Mark}
use Rattle.statement.specs.declared.outcome.Outcome.{Outcome}
use Rattle.statement.specs.declared.reply.Reply.{Reply}
use Rattle.statement.specs.declared.reply.Reply.TheVariants as reply
use Rattle.statement.specs.declared.statement.Statement.TheVariants as statement
use Rattle.statement.specs.Evaluation.{answers, outcome, writes}
use Rattle.statement.specs.Footprint.{footprint}
use Rattle.history.specs.declared.event.Action.{Action}
use Rattle.history.specs.declared.event.Action.TheVariants.{Run, Commit}
use Rattle.history.specs.Transactions.{Standing, Open, Doomed, Failed, Aborted, Done, Txn, World, is_open, is_read_write, must_wait}
use Rattle.history.specs.Events.{turned_from}
use Rattle.history.specs.Answer.{evaluated, is_refused, meets_another, refuses, refuses_row, reply_from, reply_of, open_reply, run_reply}
use Rattle.transactions.specs.declared.statements.run.Ran.{Ran}
use Rattle.transactions.specs.declared.statements.run.Ran.TheVariants as ran
use Rattle.transactions.specs.Runs.{adds, only_reads, IsRan, IsWeighed}
use Rattle.transactions.specs.Ledger.{Ledger, IsCounted, committed_by, kept, with_own, ready, world_on, after_owned, turned_at, txn_at}
use Rattle.transactions.proofs.CommitLemmas.{after-ran, open_is}

closed_not : (st : Standing) → is_open st ≡ false → st ≡ Open → ⊥
closed_not st e p = true≢false (sym (ap is_open p) ∙ e)

-- what only reads may be run in every mode
pub only_reads_not : {a : Bool} (b : Bool) → a ≡ false → (a && b) ≡ false
only_reads_not b e = ap (λ x. x && b) e

module _ {A : Type 0} where
  -- ---- an evaluated statement

  pub evaluated-refused : (w : World A) (t : Txn A) (o : Outcome A) (r : Refusal) → o.reply ≡ reply.Refused r → evaluated w t o ≡ reply.Refused r
  evaluated-refused w t o r e = ap (λ b. cond b o.reply (cond (meets_another w t o.changes) refuses_row o.reply)) (ap is_refused e) ∙ e

  pub evaluated-done : (w : World A) (t : Txn A) (o : Outcome A) (b : Bool) → is_refused o.reply ≡ false → b ≡ meets_another w t o.changes → evaluated w t o ≡ cond b refuses_row o.reply
  evaluated-done w t o b e m = ap (λ d. cond d o.reply (cond (meets_another w t o.changes) refuses_row o.reply)) e ∙ ap (λ d. cond d refuses_row o.reply) (sym m)

  run_is : (w : World A) (t : Txn A) (q : Statement A) → must_wait t ≡ false → (writes q && not (is_read_write t.mode)) ≡ false → run_reply w t q ≡ evaluated w t (outcome w.catalog q t.own)
  run_is w t q m f =
      ap (λ b. cond b (refuses code.ObjectNotInPrerequisiteState) (cond (writes q && not (is_read_write t.mode)) (refuses code.ReadOnlySqlTransaction) (evaluated w t (outcome w.catalog q t.own)))) m
      ∙ ap (λ b. cond b (refuses code.ReadOnlySqlTransaction) (evaluated w t (outcome w.catalog q t.own))) f

  pub ran_from : (l : Ledger A) (c : Catalog) (X : Tables A) (tables : ℕ → Tables A) (t : Txn A) (q : Statement A) (o : Outcome A) → must_wait t ≡ false → (writes q && not (is_read_write t.mode)) ≡ false → o ≡ outcome c q (with_own tables t).own
      → (r : Ran A) → IsWeighed (world_on c [] l) t q o r → IsRan (world_on c X l) (with_own tables t) q r
  ran_from l c X tables t q o m f e (ran.Refused x) h = run_is (world_on c X l) (with_own tables t) q m f ∙ ap (evaluated (world_on c X l) (with_own tables t)) (sym e) ∙ h
  ran_from l c X tables t q o m f e (ran.Done done recorded added) h = (
    run_is (world_on c X l) (with_own tables t) q m f ∙ ap (evaluated (world_on c X l) (with_own tables t)) (sym e) ∙ h.0,
    h.1,
    h.2,
    record { reads = h.3; changes = h.4 ∙ ap (λ (y : Outcome A). y.changes) e; marks = h.5 ∙ ap (λ (y : Outcome A). y.marks) e },
  )

  -- statements alone only read
  pub runs : (a : Action A) → only_reads a ≡ true → ((q : Statement A) → a ≡ Run q → ⊥) → ⊥
  runs (Run q) e not_run = not_run q refl
  runs _ e not_run = true≢false (sym e)

  -- what comes of a statement that only reads is its reply alone
  pub reads_outcome : (c : Catalog) (q : Statement A) (X : Tables A) (r : Reply A) → writes q ≡ false → r ≡ (outcome c q X).reply → answers r ≡ outcome c q X
  reads_outcome c (statement.Select t p conditions) X r w e = ap answers e
  reads_outcome c (statement.Insert t values) X r w e = absurd (true≢false w)
  reads_outcome c (statement.Update t more conditions) X r w e = absurd (true≢false w)
  reads_outcome c (statement.Delete t conditions) X r w e = absurd (true≢false w)

  pub run_waits : (w : World A) (tables : ℕ → Tables A) (t : Txn A) (q : Statement A) → must_wait t ≡ true → run_reply w (with_own tables t) q ≡ refuses code.ObjectNotInPrerequisiteState
  run_waits w tables t q m = ap (λ b. cond b (refuses code.ObjectNotInPrerequisiteState) (cond (writes q && not (is_read_write t.mode)) (refuses code.ReadOnlySqlTransaction) (evaluated w (with_own tables t) (outcome w.catalog q (with_own tables t).own)))) m

  pub run_bars : (w : World A) (tables : ℕ → Tables A) (u t : Txn A) (q : Statement A) → t ≡ u → must_wait u ≡ false → (writes q && not (is_read_write u.mode)) ≡ true → run_reply w (with_own tables t) q ≡ refuses code.ReadOnlySqlTransaction
  run_bars w tables u t q same m f =
      ap (λ b. cond b (refuses code.ObjectNotInPrerequisiteState) (cond (writes q && not (is_read_write t.mode)) (refuses code.ReadOnlySqlTransaction) (evaluated w (with_own tables t) (outcome w.catalog q (with_own tables t).own)))) (ap must_wait same ∙ m)
      ∙ ap (λ b. cond b (refuses code.ReadOnlySqlTransaction) (evaluated w (with_own tables t) (outcome w.catalog q (with_own tables t).own))) (ap (λ (x : Txn A). writes q && not (is_read_write x.mode)) same ∙ f)

  pub after-added : (l : Ledger A) (c : Catalog) (X : Tables A) (tables : ℕ → Tables A) (q : Statement A) (n : ℕ) (done : Reply A) (reads : List (Reading A)) (changes : List (Change A)) (marks : List (Mark A)) → IsCounted l → n < length l.txns → is_open (txn_at l.txns n).standing ≡ true → is_refused done ≡ false
      → reads ≡ footprint c q → changes ≡ (outcome c q (with_own tables (txn_at l.txns n)).own).changes → marks ≡ (outcome c q (with_own tables (txn_at l.txns n)).own).marks
      → record l { txns = turned_at n (adds reads changes marks) l.txns; place = l.place + 1 } ≡ after_owned (world_on c X l) (Run q) done (with_own tables (txn_at l.txns n))
  after-added l c X tables q n done reads changes marks counted h o d e1 e2 e3 =
      ap (λ xs. record l { txns = turned_at n (adds xs changes marks) l.txns; place = l.place + 1 }) e1
      ∙ ap (λ xs. record l { txns = turned_at n (adds (footprint c q) xs marks) l.txns; place = l.place + 1 }) e2
      ∙ ap (λ xs. record l { txns = turned_at n (adds (footprint c q) (outcome c q (with_own tables (txn_at l.txns n)).own).changes xs) l.txns; place = l.place + 1 }) e3
      ∙ after-ran l c X tables q n done counted h o d

  -- ---- a transaction that is over

  pub over_reply : (w : World A) (tables : ℕ → Tables A) (a : Action A) (t : Txn A) → is_open t.standing ≡ false → reply_from t.standing w t a ≡ reply_of w (Rattle.std.proofs.Common.Some (ready tables a t)) a
  over_reply w tables (Run q) t e = go t.standing e
    where
      go : (st : Standing) → is_open st ≡ false → reply_from st w t (Run q) ≡ reply_from st w (with_own tables t) (Run q)
      go Open f = absurd (true≢false f)
      go _ f = refl
  over_reply w tables _ t e = refl

  pub over_after : (w : World A) (tables : ℕ → Tables A) (a : Action A) (r : Reply A) (t : Txn A) → is_open t.standing ≡ false → after_owned w a r t ≡ after_owned w a r (ready tables a t)
  over_after w tables (Run q) r t e = ap (λ x. record { base = w.base; txns = Rattle.history.specs.Events.replaced x w.txns; exports = w.exports; place = w.place + 1 }) (go t.standing e)
    where
      go : (st : Standing) → is_open st ≡ false → kept (turned_from st w (Run q) r t) ≡ kept (turned_from st w (Run q) r (with_own tables t))
      go Open f = absurd (true≢false f)
      go (Doomed c) f = refl
      go Failed f = refl
      go Aborted f = refl
      go Done f = refl
  over_after w tables _ r t e = refl

  -- ---- one that is open

  pub open_ready : (w : World A) (tables : ℕ → Tables A) (a : Action A) (t : Txn A) → is_open (ready tables a t).standing ≡ true → open_reply w (ready tables a t) a ≡ reply_of w (Rattle.std.proofs.Common.Some (ready tables a t)) a
  open_ready w tables a t o = ap (λ st. reply_from st w (ready tables a t) a) (sym (open_is (ready tables a t).standing o))

  -- ---- what an event commits

  -- an event of a session whose transaction is over commits nothing
  pub over-commits : (w : World A) (t : Txn A) (a : Action A) (o : Option (Txn A)) → is_open t.standing ≡ false → committed_by a (reply_from t.standing w t a) o ≡ []
  over-commits w t Commit o e = go t.standing e
    where
      go : (st : Standing) → is_open st ≡ false → committed_by Commit (reply_from st w t Commit) o ≡ []
      go Open f = absurd (true≢false f)
      go _ f = refl
  over-commits w t _ o e = refl
