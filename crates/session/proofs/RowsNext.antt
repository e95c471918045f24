-- The tables after an event: those before it, and from the number of a commit on with its changes put in.
use Rattle.std.proofs.Common.{◌≡◌, refl, sym, ap, subst, ◌∙◌, ℕ, ◌+◌, ◌-◌, ◌≤◌, nat_le, Bool, true, false, cond, ◌||◌, ◌⊎◌, inl, inr, List, [], ◌∷◌, ◌++◌, length, length-append, take, Option, Some, None, arith}
use Rattle.std.proofs.lemmas.Bool.{le-leb, leb-true, or_right}
use Rattle.std.proofs.lemmas.List.{append-nil, take-append-le, take_all}
use Rattle.std.specs.Option.{option_map}
use Rattle.value.proofs.IsolationLemmas.{In}
use Rattle.value.proofs.Basics.{In-map}
use Rattle.value.proofs.Lists.{In-filter}
use Rattle.schema.specs.Definition.{Catalog}
use Rattle.schema.specs.declared.changes.Change.{Change}
use Rattle.schema.specs.declared.tables.Tables.{Tables}
use Rattle.schema.specs.Plain.{put_all}
use Rattle.statement.specs.declared.reply.Reply.{Reply}
use Rattle.statement.specs.declared.reply.Reply.TheVariants.{Begun, Committed}
use Rattle.history.specs.declared.event.Action.{Action}
use Rattle.history.specs.declared.event.Action.TheVariants.{Begin, Commit}
use Rattle.history.specs.declared.event.Record.{Record}
use Rattle.history.specs.Opening.{Recorded}
use Rattle.history.specs.Transactions.{Done, Txn, World, commits, current, is_owed, is_read_write, tables_at, with_all}
use Rattle.history.specs.Events.{ended, followed, follows, log_after, numbered, without_transaction}
use Rattle.history.specs.Answer.{Allowed, reply_in}
use Rattle.history.specs.Needed.{kept_of}
use Rattle.serial.proofs.needed.Lowest.{AllRead, commits_later, read_later}
use Rattle.mvrows.specs.Versions.{VersionedRows, shown}
use Rattle.transactions.specs.Ledger.{Ledger, committed_by, kept, kept_current}
use Rattle.transactions.specs.Versions.{StayShown, is_owed_at, may_be_read}
use Rattle.transactions.proofs.InstallLemmas.{owed-is_read, read-is_owed}
use Rattle.session.specs.Core.{HoldsRows, IsKept}
use Rattle.session.specs.Kept.{Represents}
use Rattle.session.proofs.Lent.{catalog_is, lent_current, lent_is, owed_in, r, w}

compared : (a b : ℕ) → (a ≤ b) ⊎ (b + 1 ≤ a)
compared a b = grind arith

module _ {A : Type 0} where
  with_all-append : (xs ys : List (Txn A)) (X : Tables A) → with_all (xs ++ ys) X ≡ with_all ys (with_all xs X)
  with_all-append [] ys X = refl
  with_all-append (x ∷ xs) ys X = with_all-append xs ys (put_all x.changes X)

  -- What an event adds to the log, one commit at most, is what it commits.
  record Logs (w u : World A) (xs : List (Change A)) : Type 0 where
    opening : u.opening ≡ w.opening
    base : u.base ≡ w.base
    new : List (Txn A)
    log : u.log ≡ w.log ++ new
    few : length new ≤ 1
    same : (X : Tables A) → with_all new X ≡ put_all xs X

  changes_stay : (w : World A) (t : Txn A) → (numbered w t).changes ≡ t.changes
  changes_stay w t = go (is_read_write t.mode)
    where
      go : (b : Bool) → (cond b (record (ended w Done t) { commit = commits w + 1 }) (ended w Done t)).changes ≡ t.changes
      go true = refl
      go false = refl

  logs_none : (w : World A) (s : ℕ) (a : Action A) (g : Reply A) → Logs w (without_transaction w s a g) (committed_by a g None)
  logs_none w s (Begin m) Begun = record { opening = refl; base = refl; new = []; log = sym (append-nil w.log); few = omega arith; same = λ X. refl }
  logs_none w s Commit Committed = record { opening = refl; base = refl; new = []; log = sym (append-nil w.log); few = omega arith; same = λ X. refl }
  logs_none w s _ _ = record { opening = refl; base = refl; new = []; log = sym (append-nil w.log); few = omega arith; same = λ X. refl }

  logs_own : (w : World A) (e : Record A) (t : Txn A) (a : Action A) (g : Reply A) → a ≡ e.action → g ≡ e.reply → Logs w (record (followed w e (Some t)) { log = log_after w a g t }) (committed_by a g (Some t))
  logs_own w e t Commit Committed p q = go (is_read_write t.mode)
    where
      go : (b : Bool) → Logs w (record (followed w e (Some t)) { log = cond b (w.log ++ numbered w t ∷ []) w.log }) (cond b t.changes [])
      go true = record { opening = refl; base = refl; new = numbered w t ∷ []; log = refl; few = omega arith; same = λ X. ap (λ xs. put_all xs X) (changes_stay w t) }
      go false = record { opening = refl; base = refl; new = []; log = sym (append-nil w.log); few = omega arith; same = λ X. refl }
  logs_own w e t _ _ p q = record { opening = refl; base = refl; new = []; log = sym (append-nil w.log); few = omega arith; same = λ X. refl }

  logs : (w : World A) (e : Record A) (o : Option (Txn A)) → Logs w (followed w e o) (committed_by e.action e.reply o)
  logs w e None = logs_none w e.session e.action e.reply
  logs w e (Some t) = logs_own w e t e.action e.reply refl refl

  -- at a snapshot that was there before
  tables_before : (w u : World A) (xs : List (Change A)) → Logs w u xs → (n : ℕ) → n ≤ commits w → tables_at u n ≡ tables_at w n
  tables_before w u xs l n m =
      ap (λ b. with_all (take (n - b) u.log) u.opening) (ap (λ (b : Rattle.history.specs.declared.base.Base.Base). b.commits) l.base)
      ∙ ap (λ ts. with_all (take (n - w.base.commits) ts) u.opening) l.log
      ∙ ap (λ ts. with_all ts u.opening) (take-append-le (n - w.base.commits) w.log l.new (omega (arith, m)))
      ∙ ap (with_all (take (n - w.base.commits) w.log)) l.opening

  -- at a later one
  tables_after : (w u : World A) (xs : List (Change A)) → Logs w u xs → (n : ℕ) → commits w + 1 ≤ n → tables_at u n ≡ put_all xs (tables_at w n)
  tables_after w u xs l n m =
      ap (λ b. with_all (take (n - b) u.log) u.opening) (ap (λ (b : Rattle.history.specs.declared.base.Base.Base). b.commits) l.base)
      ∙ ap (λ ts. with_all (take (n - w.base.commits) ts) u.opening) l.log
      ∙ ap (λ ts. with_all ts u.opening) (take_all (n - w.base.commits) (w.log ++ l.new) (rw length-append (omega (arith, m, l.few))))
      ∙ ap (with_all (w.log ++ l.new)) l.opening ∙ with_all-append w.log l.new w.opening ∙ l.same (with_all w.log w.opening)
      ∙ ap (λ ts. put_all xs (with_all ts w.opening)) (sym (take_all (n - w.base.commits) w.log (omega (arith, m))))

  committed_kept : (a : Action A) (g : Reply A) (o : Option (Txn A)) → committed_by a g (option_map kept o) ≡ committed_by a g o
  committed_kept Commit Committed None = refl
  committed_kept Commit Committed (Some t) = refl
  committed_kept _ _ None = refl
  committed_kept _ _ (Some t) = refl

  module _ (h : Recorded A) (l : Ledger A) (k : IsKept h l) (s : ℕ) (a : Action A) (fits : Allowed h.opening.catalog a) where
    abbrev old : World A
    old = w h l k

    abbrev event : Record A
    event = record { session = s; action = a; reply = reply_in old s a }

    abbrev next_world : World A
    next_world = follows old event

    allowed : Allowed old.catalog a
    allowed = subst (λ c. Allowed c a) (sym (catalog_is h l k)) fits

    abbrev Read : ℕ → Type 0
    Read n = may_be_read l n ≡ true

    each_read : AllRead Read old.txns
    each_read t i o = or_right _ _ (owed-is_read l.txns (kept t) (owed_in h l k t i o) o)

    new_read : (n : ℕ) → commits old ≤ n → Read n
    new_read n from = ap (λ b. b || is_owed_at n l.txns) (le-leb l.base.commits n (let e = (r h l k).commits in omega (arith, e, from)))

    -- a snapshot that may still be read was one before
    read_before : (m : Ledger A) → Represents next_world m → (n : ℕ) → may_be_read m n ≡ true → Read n
    read_before m rep n read = go (nat_le m.base.commits n) refl read
      where
        from : (u : Txn A) → In u m.txns → is_owed u.standing ≡ true → Read u.snapshot
        from u i o = of_one (In-map kept u (kept_of rep.keep next_world.txns) (subst (In u) rep.txns i))
          where
            of_one : (y : Txn A) × In y (kept_of rep.keep next_world.txns) × (u ≡ kept y) → Read u.snapshot
            of_one y =
                subst Read (sym (ap (λ (x : Txn A). x.snapshot) y.2))
                (read_later Read h.opening h.records k.legal s a allowed each_read new_read y.0 (In-filter (λ (x : Txn A). rep.keep x.number) y.0 next_world.txns y.1).0 (sym (ap (λ (x : Txn A). is_owed x.standing) y.2) ∙ o))

        owed : (u : Txn A) × In u m.txns × (is_owed u.standing ≡ true) × (u.snapshot ≡ n) → Read n
        owed u = subst Read u.3 (from u.0 u.1 u.2)

        go : (b : Bool) → nat_le m.base.commits n ≡ b → (b || is_owed_at n m.txns) ≡ true → Read n
        go true is e = new_read n (let p = leb-true m.base.commits n is in let q = commits_later h.opening h.records k.legal s a allowed in let f = rep.commits in omega (arith, p, q, f))
        go false is e = owed (read-is_owed n m.txns e)

    pub shown_next : (rows : List (VersionedRows A)) → HoldsRows h l rows → (m : Ledger A) (more : List (VersionedRows A)) → Represents next_world m → (c : Catalog) (X : Tables A) → c ≡ h.opening.catalog
        → StayShown l rows (committed_by a (reply_in old s a) (kept_current c X l s)) m more → (n : ℕ) → may_be_read m n ≡ true → shown n more ≡ tables_at next_world n
    shown_next rows held m more rep c X p stay n read = go (compared n (commits old))
      where
        xs : List (Change A)
        xs = committed_by a (reply_in old s a) (kept_current c X l s)

        same : xs ≡ committed_by a (reply_in old s a) (current old s)
        same = ap (λ (v : World A). committed_by a (reply_in old s a) (current v s)) (lent_is h l k c X p) ∙ ap (committed_by a (reply_in old s a)) (lent_current h l k X s) ∙ committed_kept a (reply_in old s a) (current old s)

        grown : Logs old next_world xs
        grown = subst (Logs old next_world) (sym same) (logs old event (current old s))

        was : shown n rows ≡ tables_at old n
        was = held.shown n (read_before m rep n read)

        go : (n ≤ commits old) ⊎ (commits old + 1 ≤ n) → shown n more ≡ tables_at next_world n
        go (inl q) = stay.earlier n read (let e = (r h l k).commits in omega (arith, e, q)) ∙ was ∙ sym (tables_before old next_world xs grown n q)
        go (inr q) = stay.later n read (let e = (r h l k).commits in omega (arith, e, q)) ∙ ap (put_all xs) was ∙ sym (tables_after old next_world xs grown n q)
