-- What an event makes of its session's transaction is told as the history has it.
use Rattle.std.proofs.Common.{◌≡◌, refl, sym, ap, subst, ◌∙◌, ℕ, ◌+◌, ◌-◌, ◌≤◌, Bool, true, false, true≢false, cond, not, ◌&&◌, List, [], ◌++◌, length, Option, Some, None, is_some, if◌then◌else◌, arith}
use Rattle.std.proofs.lemmas.Bool.{ne_eqb}
use Rattle.std.specs.Option.{option_map}
use Rattle.value.specs.declared.refusal.Code.TheVariants as code
use Rattle.value.specs.declared.refusal.Cause.{Cause}
use Rattle.value.specs.declared.refusal.Mode.{Mode}
use Rattle.value.specs.declared.refusal.Mode.TheVariants.{ReadWrite, ReadOnly, Deferrable}
use Rattle.value.specs.declared.refusal.Refusal.{Refusal}
use Rattle.schema.specs.declared.changes.Change.{Change}
use Rattle.schema.specs.declared.tables.Tables.{Tables}
use Rattle.schema.specs.Definition.{Catalog}
use Rattle.schema.specs.Plain.{is_sound, put_all}
use Rattle.statement.specs.declared.statement.Statement.{Statement}
use Rattle.statement.specs.declared.statement.Statement.TheVariants.{Select}
use Rattle.statement.specs.declared.reply.Reply.{Reply}
use Rattle.statement.specs.declared.reply.Reply.TheVariants.{Imported, Safe, Wait, Exported, Refused}
use Rattle.statement.specs.Evaluation.{outcome, after, writes}
use Rattle.statement.specs.Fits.{Fits, fits}
use Rattle.statement.specs.Footprint.{footprint}
use Rattle.history.specs.declared.base.Base.{Base}
use Rattle.history.specs.declared.event.Action.{Action}
use Rattle.history.specs.declared.event.Action.TheVariants.{Begin, Run, Broken, Poll, Export, Import, Commit, Rollback, Prune}
use Rattle.history.specs.Transactions.{Standing, Open, Doomed, Failed, Aborted, Done, Txn, World, Exported_snapshot, commits, exported, is_deferrable, is_open, is_owed, is_pending, is_read_only, is_read_write, is_spoilt, must_wait}
use Rattle.history.specs.Events.{ended, fails, goes_on, import, moved, numbered, polled, ran, settled, told, turned_from, with_snapshot}
use Rattle.history.specs.Answer.{Allowed, cause_of, commit_reply, doomed, export_reply, failed, import_reply, is_refused, meets_another, open_reply, poll_reply, refuses, refuses_row, reply_from, run_reply}
use Rattle.serial.proofs.legal.Numbers.{polled_keeps}
use Rattle.retrace.specs.declared.run.When.{When}
use Rattle.retrace.specs.Runs.{Going, answered, changes_of, marks_of, number_of, over, reads_of}
use Rattle.retrace.specs.Runs as tale
use Rattle.retrace.specs.Told.{Tells, counted}

deferrable_reads : (m : Mode) → is_deferrable m ≡ true → is_read_write m ≡ false
deferrable_reads ReadWrite e = absurd (true≢false (sym e))
deferrable_reads ReadOnly e = refl
deferrable_reads Deferrable e = refl

only_reads : (m : Mode) → is_read_only m ≡ true → is_read_write m ≡ false
only_reads ReadWrite e = absurd (true≢false (sym e))
only_reads ReadOnly e = refl
only_reads Deferrable e = refl

both_false : (a b : Bool) → (a && not b) ≡ false → b ≡ false → a ≡ false
both_false true b e f = absurd (true≢false (sym (ap not f) ∙ e))
both_false false b e f = refl

all_three : (u v x : Bool) → u ≡ true → v ≡ true → x ≡ true → (u && v && x) ≡ true
all_three u v x e f g = ap (λ b. b && v && x) e ∙ ap (λ b. b && x) f ∙ g

pub counted-next : (base n : ℕ) → counted base (n + 1) ≡ base + (n + 1)
counted-next base n = ap (λ b. cond b 0 (base + (n + 1))) (ne_eqb (n + 1) 0 (λ e. omega arith))

module _ {A : Type 0} where
  -- ---- what stays as it was

  pub refused_told : (b : Base) (g : Going A) (t : Txn A) (xs : List (Change A)) → Tells b g t → Tells b (record g { refused = xs }) t
  refused_told b g t xs k = record {
    session = k.session;
    number = k.number;
    read_write = k.read_write;
    begin = k.begin;
    snapshot = k.snapshot;
    commit = k.commit;
    reads = k.reads;
    changes = k.changes;
    marks = k.marks;
    own = k.own;
    owed = k.owed;
    active = k.active;
  }

  -- it is over, or was, and stands so
  pub over_told : (b : Base) (g : Going A) (t : Txn A) (st : Standing) (e : ℕ) → Tells b g t → is_owed t.standing ≡ is_owed st → is_open st ≡ false → Tells b (over g) (record t { standing = st; end = e })
  over_told b g t st e k o n = record {
    session = k.session;
    number = k.number;
    read_write = k.read_write;
    begin = k.begin;
    snapshot = k.snapshot;
    commit = k.commit;
    reads = k.reads;
    changes = k.changes;
    marks = k.marks;
    own = λ p. absurd (true≢false (sym p ∙ n));
    owed = k.owed ∙ o;
    active = sym n;
  }

  -- it was over
  still_told : (b : Base) (g : Going A) (t : Txn A) (st : Standing) → Tells b g t → is_owed t.standing ≡ is_owed st → is_open t.standing ≡ false → is_open st ≡ false → Tells b g (record t { standing = st })
  still_told b g t st k o m n = record {
    session = k.session;
    number = k.number;
    read_write = k.read_write;
    begin = k.begin;
    snapshot = k.snapshot;
    commit = k.commit;
    reads = k.reads;
    changes = k.changes;
    marks = k.marks;
    own = λ p. absurd (true≢false (sym p ∙ n));
    owed = k.owed ∙ o;
    active = k.active ∙ m ∙ sym n;
  }

  -- its session has ended it
  ended_told : (b : Base) (g : Going A) (t : Txn A) (n : ℕ) (st : Standing) (e m : ℕ) → Tells b g t → is_owed st ≡ false → is_open st ≡ false → counted b.commits n ≡ m → Tells b (tale.ended n g) (record t { standing = st; end = e; commit = m })
  ended_told b g t n st e m k o p c = record {
    session = k.session;
    number = k.number;
    read_write = k.read_write;
    begin = k.begin;
    snapshot = k.snapshot;
    commit = c;
    reads = k.reads;
    changes = k.changes;
    marks = k.marks;
    own = λ q. absurd (true≢false (sym q ∙ p));
    owed = sym o;
    active = sym p;
  }

  aborted_told : (b : Base) (g : Going A) (t : Txn A) (e : ℕ) → Tells b g t → t.commit ≡ 0 → Tells b (tale.ended 0 g) (record t { standing = Aborted; end = e })
  aborted_told b g t e k z = ended_told b g t 0 Aborted e t.commit k refl refl (sym z)

  -- ---- a statement

  select_changes : (c : Catalog) (q : Statement A) (X : Tables A) → writes q ≡ false → (outcome c q X).changes ≡ []
  select_changes c (Select t p conditions) X e = refl
  select_changes c _ X e = absurd (true≢false e)

  select_marks : (c : Catalog) (q : Statement A) (X : Tables A) → writes q ≡ false → (outcome c q X).marks ≡ []
  select_marks c (Select t p conditions) X e = refl
  select_marks c _ X e = absurd (true≢false e)

  no_changes : (c : Catalog) (q : Statement A) (o : Option (Tables A)) → writes q ≡ false → changes_of c q o ≡ []
  no_changes c q None e = refl
  no_changes c q (Some X) e = ap (λ b. cond (b && fits c q && is_sound c X) (outcome c q X).changes []) e

  no_marks : (c : Catalog) (q : Statement A) (o : Option (Tables A)) → writes q ≡ false → marks_of c q o ≡ []
  no_marks c q None e = refl
  no_marks c q (Some X) e = ap (λ b. cond (b && fits c q && is_sound c X) (outcome c q X).marks []) e

  -- What a statement reads and writes: the history's own.
  pub record Written (c : Catalog) (q : Statement A) (g : Going A) (t : Txn A) : Type 0 where
    pub changes : changes_of c q g.own ≡ (outcome c q t.own).changes
    pub marks : marks_of c q g.own ≡ (outcome c q t.own).marks
    pub own : option_map (put_all (changes_of c q g.own)) g.own ≡ (if is_read_write t.mode then Some (after c q t.own) else None)

  pub written : (b : Base) (c : Catalog) (q : Statement A) (g : Going A) (t : Txn A) → Tells b g t → is_open t.standing ≡ true → (writes q && not (is_read_write t.mode)) ≡ false → Fits c q → is_sound c t.own ≡ true → Written c q g t
  written b c q g t k o w f s = go (is_read_write t.mode) refl (writes q) refl
    where
      Own : Bool → Type 0
      Own d = option_map (put_all (changes_of c q g.own)) g.own ≡ cond d (Some (after c q t.own)) None

      seen : (d : Bool) → is_read_write t.mode ≡ d → g.own ≡ cond d (Some t.own) None
      seen d e = k.own o ∙ ap (λ (x : Bool). cond x (Some t.own) None) e

      quiet : writes q ≡ false → changes_of c q g.own ≡ (outcome c q t.own).changes
      quiet e = no_changes c q g.own e ∙ sym (select_changes c q t.own e)

      put : (d : Bool) → g.own ≡ cond d (Some t.own) None → changes_of c q g.own ≡ (outcome c q t.own).changes → Own d
      put true e same = ap (λ xs. option_map (put_all xs) g.own) same ∙ ap (option_map (put_all (outcome c q t.own).changes)) e
      put false e same = ap (option_map (put_all (changes_of c q g.own))) e

      go : (d : Bool) → is_read_write t.mode ≡ d → (x : Bool) → writes q ≡ x → Written c q g t
      go d e false x = record { changes = quiet x; marks = no_marks c q g.own x ∙ sym (select_marks c q t.own x); own = put d (seen d e) (quiet x) ∙ ap (λ (y : Bool). cond y (Some (after c q t.own)) None) (sym e) }
      go true e true x =
          let sees = seen true e in
          let all = all_three (writes q) (fits c q) (is_sound c t.own) x f s in
          let same : changes_of c q g.own ≡ (outcome c q t.own).changes = ap (changes_of c q) sees ∙ ap (λ y. cond y (outcome c q t.own).changes []) all in
          record { changes = same; marks = ap (marks_of c q) sees ∙ ap (λ y. cond y (outcome c q t.own).marks []) all; own = put true sees same ∙ ap (λ (y : Bool). cond y (Some (after c q t.own)) None) (sym e) }
      go false e true x = absurd (true≢false (sym x ∙ both_false (writes q) (is_read_write t.mode) w e))

  answered_told : (w : World A) (place : ℕ) (q : Statement A) (r : Reply A) (g : Going A) (t : Txn A) → Tells w.base g t → is_open t.standing ≡ true → (writes q && not (is_read_write t.mode)) ≡ false → Fits w.catalog q → is_sound w.catalog t.own ≡ true
      → Tells w.base (answered w.catalog place q g) (ran w q r t)
  answered_told w place q r g t k o e f s =
      let x = written w.base w.catalog q g t k o e f s in
      record {
        session = k.session;
        number = k.number;
        read_write = k.read_write;
        begin = k.begin;
        snapshot = k.snapshot;
        commit = k.commit;
        reads = ap (λ rs. rs ++ reads_of w.catalog q) k.reads ∙ ap (λ b. t.reads ++ cond b (footprint w.catalog q) []) f;
        changes = ap (λ xs. xs ++ changes_of w.catalog q g.own) k.changes ∙ ap (λ xs. t.changes ++ xs) x.changes;
        marks = ap (λ xs. xs ++ marks_of w.catalog q g.own) k.marks ∙ ap (λ xs. t.marks ++ xs) x.marks;
        own = λ _. x.own;
        owed = k.owed;
        active = k.active;
      }

  module _ (w : World A) (v : When) (g : Going A) (t : Txn A) (k : Tells w.base g t) where
    -- a statement was refused
    fails_told : is_open t.standing ≡ true → (r : Refusal) (xs : List (Change A)) → Tells w.base (tale.failed r.code (record g { refused = xs })) (fails w r t)
    fails_told o r xs = go (goes_on r.code)
      where
        same : Tells w.base (record g { refused = xs }) t
        same = refused_told w.base g t xs k

        go : (b : Bool) → Tells w.base (cond b (record g { refused = xs }) (over (record g { refused = xs }))) (cond b t (ended w Failed t))
        go true = same
        go false = over_told w.base (record g { refused = xs }) t Failed (w.place + 1) same (owed t.standing o) refl
          where
            owed : (st : Standing) → is_open st ≡ true → is_owed st ≡ true
            owed Open e = refl
            owed (Doomed c) e = refl
            owed Failed e = refl
            owed Aborted e = e
            owed Done e = e

    run_told : (q : Statement A) → is_open t.standing ≡ true → Fits w.catalog q → is_sound w.catalog t.own ≡ true → Tells w.base (tale.ran w.catalog v.place q (run_reply w t q) g) (moved w (Run q) (run_reply w t q) t)
    run_told q o f s = first (must_wait t) refl
      where
        Goal : Reply A → Type 0
        Goal r = Tells w.base (tale.ran w.catalog v.place q r g) (moved w (Run q) r t)

        out : Reply A
        out = (outcome w.catalog q t.own).reply

        refusal : (r : Reply A) → is_refused r ≡ true → Goal r
        refusal (Refused r) e = fails_told o r (changes_of w.catalog q g.own)
        refusal _ e = absurd (true≢false (sym e))

        answer : (r : Reply A) → is_refused r ≡ false → Tells w.base (answered w.catalog v.place q g) (ran w q r t) → Goal r
        answer (Refused r) e h = absurd (true≢false e)
        answer _ e h = h

        fourth : (writes q && not (is_read_write t.mode)) ≡ false → is_refused out ≡ false → (b : Bool) → Goal (cond b refuses_row out)
        fourth e h true = refusal refuses_row refl
        fourth e h false = answer out h (answered_told w v.place q out g t k o e f s)

        third : (writes q && not (is_read_write t.mode)) ≡ false → (b : Bool) → is_refused out ≡ b → Goal (cond b out (cond (meets_another w t (outcome w.catalog q t.own).changes) refuses_row out))
        third e true h = refusal out h
        third e false h = fourth e h (meets_another w t (outcome w.catalog q t.own).changes)

        second : (b : Bool) → (writes q && not (is_read_write t.mode)) ≡ b → Goal (cond b (refuses code.ReadOnlySqlTransaction) (cond (is_refused out) out (cond (meets_another w t (outcome w.catalog q t.own).changes) refuses_row out)))
        second true e = refusal (refuses code.ReadOnlySqlTransaction) refl
        second false e = third e (is_refused out) refl

        first : (b : Bool) → must_wait t ≡ b → Goal (cond b (refuses code.ObjectNotInPrerequisiteState) (cond (writes q && not (is_read_write t.mode)) (refuses code.ReadOnlySqlTransaction) (cond (is_refused out) out (cond (meets_another w t (outcome w.catalog q t.own).changes) refuses_row out))))
        first true e = refusal (refuses code.ObjectNotInPrerequisiteState) refl
        first false e = second (writes q && not (is_read_write t.mode)) refl

    -- ---- snapshots

    -- another snapshot of a transaction that only reads
    sees_told : (x : Txn A) (n : ℕ) → is_read_write t.mode ≡ false → x.session ≡ t.session → x.number ≡ t.number → x.mode ≡ t.mode → x.begin ≡ t.begin → x.commit ≡ t.commit → x.reads ≡ t.reads → x.changes ≡ t.changes → x.marks ≡ t.marks → x.standing ≡ t.standing
        → (must_wait x ≡ false → w.base.commits + n ≡ x.snapshot) → Tells w.base (tale.sees n g) x
    sees_told x n e e1 e2 e3 e4 e5 e6 e7 e8 e9 h = record {
      session = k.session ∙ sym e1;
      number = k.number ∙ sym e2;
      read_write = k.read_write ∙ ap is_read_write (sym e3);
      begin = k.begin ∙ sym e4;
      snapshot = h;
      commit = k.commit ∙ sym e5;
      reads = k.reads ∙ sym e6;
      changes = k.changes ∙ sym e7;
      marks = k.marks ∙ sym e8;
      own = λ o. k.own (ap is_open (sym e9) ∙ o) ∙ ap (λ (b : Bool). cond b (Some t.own) None) e ∙ sym (ap (λ (b : Bool). cond b (Some x.own) None) (ap is_read_write e3 ∙ e));
      owed = k.owed ∙ ap is_owed (sym e9);
      active = k.active ∙ ap is_open (sym e9);
    }

    waits : (x : Txn A) → is_deferrable x.mode ≡ true → x.known ≡ false → must_wait x ≡ true
    waits x e f = ap (λ b. b && not x.known) e ∙ ap not f

    -- a transaction whose snapshot is known stays as it is at a POLL
    known_stays : t.known ≡ true → polled w t ≡ t
    known_stays e = ap (λ b. cond (not b && is_spoilt w.txns t) (with_snapshot w (commits w) (w.place + 1) t) t) e

    above : (n : ℕ) → w.base.commits ≤ n → w.base.commits + (n - w.base.commits) ≡ n
    above n h = omega arith

    poll_told : v.base ≡ w.base.commits → w.base.commits ≤ t.snapshot → Tells w.base (tale.polled v (poll_reply w t) g) (moved w Poll (poll_reply w t) t)
    poll_told at shown = first (is_deferrable t.mode) refl
      where
        Goal : Reply A → Type 0
        Goal r = Tells w.base (tale.polled v r g) (moved w Poll r t)

        -- safe, with the snapshot of x
        Safely : Txn A → Type 0
        Safely x = Tells w.base (tale.sees (x.snapshot - v.base) g) (record x { known = true })

        same : (n : ℕ) → w.base.commits ≤ n → w.base.commits + (n - v.base) ≡ n
        same n h = ap (λ m. w.base.commits + (n - m)) at ∙ above n h

        old : is_read_write t.mode ≡ false → Safely t
        old e = sees_told (record t { known = true }) (t.snapshot - v.base) e refl refl refl refl refl refl refl refl refl (λ _. same t.snapshot shown)

        new : is_read_write t.mode ≡ false → Safely (with_snapshot w (commits w) (w.place + 1) t)
        new e = sees_told (record (with_snapshot w (commits w) (w.place + 1) t) { known = true }) (commits w - v.base) e refl refl refl refl refl refl refl refl refl (λ _. same (commits w) (omega arith))

        -- no snapshot is told while it waits
        Waiting : Txn A → Type 0
        Waiting x = Tells w.base g x

        third : is_deferrable t.mode ≡ true → t.known ≡ false → (b : Bool) → Goal (cond b Wait (Safe (polled w t).snapshot))
        third e f true = polled_keeps Waiting w t k (sees_told (with_snapshot w (commits w) (w.place + 1) t) g.trace.snapshot (deferrable_reads t.mode e) refl refl refl refl refl refl refl refl refl (λ n. absurd (true≢false (sym (waits t e f) ∙ n))))
        third e f false = polled_keeps Safely w t (old (deferrable_reads t.mode e)) (new (deferrable_reads t.mode e))

        second : is_deferrable t.mode ≡ true → (b : Bool) → t.known ≡ b → Goal (cond b (Safe t.snapshot) (cond (is_pending w.txns (polled w t)) Wait (Safe (polled w t).snapshot)))
        second e true f = subst (λ x. Tells w.base (tale.sees (t.snapshot - v.base) g) (record x { known = true })) (sym (known_stays f)) (old (deferrable_reads t.mode e))
        second e false f = third e f (is_pending w.txns (polled w t))

        first : (b : Bool) → is_deferrable t.mode ≡ b → Goal (cond (not b) (refuses code.ObjectNotInPrerequisiteState) (cond t.known (Safe t.snapshot) (cond (is_pending w.txns (polled w t)) Wait (Safe (polled w t).snapshot))))
        first false e = k
        first true e = second e t.known refl

    asked_told : Tells w.base g (record t { asked = true })
    asked_told = record {
      session = k.session;
      number = k.number;
      read_write = k.read_write;
      begin = k.begin;
      snapshot = k.snapshot;
      commit = k.commit;
      reads = k.reads;
      changes = k.changes;
      marks = k.marks;
      own = k.own;
      owed = k.owed;
      active = k.active;
    }

    export_told : Tells w.base g (moved w Export (export_reply w t) t)
    export_told = go (must_wait t)
      where
        go : (b : Bool) → Tells w.base g (moved w Export (cond b (refuses code.ObjectNotInPrerequisiteState) (Exported (w.base.identifiers + length w.exports + 1))) t)
        go true = k
        go false = asked_told

    import_told : (i : ℕ) → ((x : Exported_snapshot) → exported w i ≡ Some x → w.base.commits + v.lent ≡ x.snapshot) → Tells w.base (tale.imported v (import_reply w t i) g) (moved w (Import i) (import_reply w t i) t)
    import_told i lent = first (is_read_only t.mode) refl
      where
        Goal : Reply A → Type 0
        Goal r = Tells w.base (tale.imported v r g) (moved w (Import i) r t)

        third : is_read_only t.mode ≡ true → (o : Option Exported_snapshot) → exported w i ≡ o → Goal (cond (is_some o) Imported (refuses code.ObjectNotInPrerequisiteState))
        third e None f = k
        third e (Some x) f = subst (λ o. Tells w.base (tale.sees v.lent g) (import o w t)) (sym f)
            (sees_told (import (Some x) w t) v.lent (only_reads t.mode e) refl refl refl refl refl refl refl refl refl (λ _. lent x f))

        second : is_read_only t.mode ≡ true → (b : Bool) → Goal (cond b (refuses code.ActiveSqlTransaction) (cond (is_some (exported w i)) Imported (refuses code.ObjectNotInPrerequisiteState)))
        second e true = k
        second e false = third e (exported w i) refl

        first : (b : Bool) → is_read_only t.mode ≡ b → Goal (cond (not b) (refuses code.ObjectNotInPrerequisiteState) (cond t.asked (refuses code.ActiveSqlTransaction) (cond (is_some (exported w i)) Imported (refuses code.ObjectNotInPrerequisiteState))))
        first false e = k
        first true e = second e t.asked

    -- ---- its end

    numbered_told : t.commit ≡ 0 → v.commits ≡ length w.log → Tells w.base (tale.ended (number_of v g.trace.read_write) g) (numbered w t)
    numbered_told z n = go (is_read_write t.mode) k.read_write
      where
        go : (b : Bool) → g.trace.read_write ≡ b → Tells w.base (tale.ended (number_of v g.trace.read_write) g) (cond b (record (ended w Done t) { commit = commits w + 1 }) (ended w Done t))
        go true e = ended_told w.base g t (number_of v g.trace.read_write) Done (w.place + 1) (commits w + 1) k refl refl
            (ap (λ b. counted w.base.commits (number_of v b)) e ∙ counted-next w.base.commits v.commits ∙ omega (arith, n))
        go false e = ended_told w.base g t (number_of v g.trace.read_write) Done (w.place + 1) t.commit k refl refl (ap (λ b. counted w.base.commits (number_of v b)) e ∙ sym z)

    commit_told : t.commit ≡ 0 → v.commits ≡ length w.log → (o : Option Cause) → Tells w.base (tale.committed v (commit_reply o) g) (moved w Commit (commit_reply o) t)
    commit_told z n None = numbered_told z n
    commit_told z n (Some c) = aborted_told w.base g t (w.place + 1) k z

    -- ---- any action

    -- What is known of the transaction, and of the event.
    pub record Known (a : Action A) : Type 0 where
      pub none : t.commit ≡ 0
      pub shown : w.base.commits ≤ t.snapshot
      pub sound : is_sound w.catalog t.own ≡ true
      pub base : v.base ≡ w.base.commits
      pub commits : v.commits ≡ length w.log
      pub lent : (i : ℕ) → a ≡ Import i → (x : Exported_snapshot) → exported w i ≡ Some x → w.base.commits + v.lent ≡ x.snapshot

    open_told : (a : Action A) → is_open t.standing ≡ true → Allowed w.catalog a → Known a → Tells w.base (tale.turned w.catalog v a (open_reply w t a) g) (moved w a (open_reply w t a) t)
    open_told (Begin m) o f h = k
    open_told (Run q) o f h = run_told q o f h.sound
    open_told (Broken r) o f h = over_told w.base g t Failed (w.place + 1) k (owed t.standing o) refl
      where
        owed : (st : Standing) → is_open st ≡ true → is_owed st ≡ true
        owed Open e = refl
        owed (Doomed c) e = refl
        owed Failed e = refl
        owed Aborted e = e
        owed Done e = e
    open_told Poll o f h = poll_told h.base h.shown
    open_told Export o f h = export_told
    open_told (Import i) o f h = import_told i (h.lent i refl)
    open_told Commit o f h = commit_told h.none h.commits (cause_of w t)
    open_told Rollback o f h = aborted_told w.base g t (w.place + 1) k h.none
    open_told Prune o f h = k

    doomed_told : (c : Cause) → t.standing ≡ Doomed c → t.commit ≡ 0 → (a : Action A) → Tells w.base (tale.turned w.catalog v a (doomed c a) g) (record t { standing = told a t.standing })
    doomed_told c p z a = go a
      where
        failing : Tells w.base g (record t { standing = Failed })
        failing = still_told w.base g t Failed k (ap is_owed p) (ap is_open p) refl

        go : (a : Action A) → Tells w.base (tale.turned w.catalog v a (doomed c a) g) (record t { standing = told a t.standing })
        go (Begin m) = k
        go (Run q) = over_told w.base (record g { refused = changes_of w.catalog q g.own }) t Failed t.end (refused_told w.base g t (changes_of w.catalog q g.own) k) (ap is_owed p) refl
        go (Broken r) = over_told w.base g t Failed t.end k (ap is_owed p) refl
        go Poll = failing
        go Export = failing
        go (Import i) = failing
        go Commit = aborted_told w.base g t t.end k z
        go Rollback = aborted_told w.base g t t.end k z
        go Prune = k

    failed_told : t.standing ≡ Failed → t.commit ≡ 0 → (a : Action A) → Tells w.base (tale.turned w.catalog v a (failed a) g) (record t { standing = settled a t.standing })
    failed_told p z (Begin m) = k
    failed_told p z (Run q) = over_told w.base (record g { refused = changes_of w.catalog q g.own }) t t.standing t.end (refused_told w.base g t (changes_of w.catalog q g.own) k) refl (ap is_open p)
    failed_told p z (Broken r) = over_told w.base g t t.standing t.end k refl (ap is_open p)
    failed_told p z Poll = k
    failed_told p z Export = k
    failed_told p z (Import i) = k
    failed_told p z Commit = aborted_told w.base g t t.end k z
    failed_told p z Rollback = aborted_told w.base g t t.end k z
    failed_told p z Prune = k

    pub turned_told : (a : Action A) (st : Standing) → t.standing ≡ st → is_owed t.standing ≡ true → Allowed w.catalog a → Known a → Tells w.base (tale.turned w.catalog v a (reply_from st w t a) g) (turned_from st w a (reply_from st w t a) t)
    turned_told a Open p o f h = open_told a (ap is_open p) f h
    turned_told a (Doomed c) p o f h = doomed_told c p h.none a
    turned_told a Failed p o f h = failed_told p h.none a
    turned_told a Aborted p o f h = absurd (true≢false (sym o ∙ ap is_owed p))
    turned_told a Done p o f h = absurd (true≢false (sym o ∙ ap is_owed p))
