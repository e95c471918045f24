-- What a statement comes to in an open transaction.
use Rattle.std.specs.Prelude.{◌≡◌, ℕ, Bool, true, false, not, Option, Some, List, ◌++◌}
use Rattle.schema.specs.Definition.{Catalog}
use Rattle.schema.specs.declared.changes.Change.{Change}
use Rattle.schema.specs.declared.tables.Tables.{Tables}
use Rattle.statement.specs.declared.reply.Reply.{Reply}
use Rattle.statement.specs.declared.reply.Reply.TheVariants as reply
use Rattle.statement.specs.declared.outcome.Mark.{Mark}
use Rattle.statement.specs.declared.outcome.Outcome.{Outcome}
use Rattle.statement.specs.declared.reading.Reading.{Reading}
use Rattle.statement.specs.declared.statement.Statement.{Statement}
use Rattle.statement.specs.Evaluation.{outcome, writes}
use Rattle.statement.specs.Footprint.{footprint}
use Rattle.statement.specs.Walk.{are_of}
use Rattle.history.specs.declared.event.Action.{Action}
use Rattle.history.specs.declared.event.Action.TheVariants.{Run}
use Rattle.history.specs.Transactions.{Txn, World, is_open, must_wait}
use Rattle.history.specs.Answer.{evaluated, is_refused, run_reply}
use Rattle.history.specs.Needed.{HoldCommitter}
use Rattle.transactions.specs.declared.kept.added.Added.{Added}
use Rattle.transactions.specs.declared.statements.run.Ran.{Ran}
use Rattle.transactions.specs.declared.statements.run.Ran.TheVariants.{Refused, Done}
use Rattle.transactions.specs.Ledger.{kept, with_own}

module _ {A : Type 0} where
  -- a transaction with what a statement adds; it is kept without statements and own tables
  abbrev pub adds : List (Reading A) → List (Change A) → List (Mark A) → Txn A → Txn A
  adds reads changes marks t = record (kept t) { asked = true; reads = t.reads ++ reads; changes = t.changes ++ changes; marks = t.marks ++ marks }

  -- What is added is what the statement reads, changes and marks.
  pub record IsAdded (w : World A) (t : Txn A) (q : Statement A) (added : Added A) : Type 0 where
    pub reads : added.reads.items ≡ footprint w.catalog q
    pub changes : added.changes.items ≡ (outcome w.catalog q t.own).changes
    pub marks : added.marks.items ≡ (outcome w.catalog q t.own).marks

  -- The statement is refused so, or done with this reply, given twice.
  abbrev pub IsRan : World A → Txn A → Statement A → Ran A → Type 0
  IsRan w t q (Refused r) = run_reply w t q ≡ reply.Refused r
  IsRan w t q (Done done recorded added) = (run_reply w t q ≡ done) × (recorded ≡ done) × (is_refused done ≡ false) × IsAdded w t q added

  -- The statement, evaluated to this, is refused so, or done with this reply, given twice.
  abbrev pub IsWeighed : World A → Txn A → Statement A → Outcome A → Ran A → Type 0
  IsWeighed w t q o (Refused r) = evaluated w t o ≡ reply.Refused r
  IsWeighed w t q o (Done done recorded added) = (evaluated w t o ≡ done) × (recorded ≡ done) × (is_refused done ≡ false) × (added.reads.items ≡ footprint w.catalog q) × (added.changes.items ≡ o.changes) × (added.marks.items ≡ o.marks)

  -- the tables that a transaction's own changes come to are the catalog's
  abbrev pub HoldsOwn : Catalog → (ℕ → Tables A) → Txn A → Type 0
  HoldsOwn c tables t = are_of c (with_own tables t).own ≡ true

  -- so it is of the session's transaction, if it has one
  abbrev pub HoldsCurrent : Catalog → (ℕ → Tables A) → Option (Txn A) → Type 0
  HoldsCurrent c tables o = (t : Txn A) → o ≡ Some t → HoldsOwn c tables t

  -- where the session's transaction is open, a structure that its commit would make has it as its first or its middle
  abbrev pub HoldsCommitter : World A → Option (Txn A) → Type 0
  HoldsCommitter w o = (t : Txn A) → o ≡ Some t → is_open t.standing ≡ true → HoldCommitter w t

  -- ---- statements that only read, whose replies were found before

  -- a statement that only reads
  abbrev pub only_reads : Action A → Bool
  only_reads (Run q) = not (writes q)
  only_reads _ = false

  -- The reply is what the statement answers on the transaction's own tables, where they may be read already.
  abbrev pub IsFound : Catalog → Txn A → Statement A → Reply A → Type 0
  IsFound c t q r = must_wait t ≡ false → r ≡ (outcome c q t.own).reply

  -- so it is of the session's transaction, if it has an open one
  abbrev pub IsFoundFor : Catalog → Option (Txn A) → Action A → Reply A → Type 0
  IsFoundFor c (Some t) (Run q) r = is_open t.standing ≡ true → IsFound c t q r
  IsFoundFor c _ _ r = Unit {0}
