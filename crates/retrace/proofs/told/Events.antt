-- What is told after one more legal event is what the history has then.
use Rattle.std.proofs.Common.{◌≡◌, refl, sym, ap, subst, ◌∙◌, ℕ, ◌+◌, ◌-◌, ◌≤◌, Bool, true, false, true≢false, cond, List, [], ◌∷◌, ◌++◌, length, map, Option, Some, None, eqb, arith}
use Rattle.std.proofs.lemmas.List.{take_all}
use Rattle.std.specs.Cmp.{second_so}
use Rattle.std.specs.List.{position}
use Rattle.value.specs.declared.refusal.Mode.{Mode}
use Rattle.value.specs.declared.refusal.Cause.{Cause}
use Rattle.value.specs.declared.refusal.Code.TheVariants as code
use Rattle.value.specs.Isolation.{dooms}
use Rattle.value.proofs.IsolationLemmas.{In}
use Rattle.value.proofs.SerialLemmas.{NumberedFrom}
use Rattle.schema.specs.declared.tables.Tables.{Tables}
use Rattle.schema.specs.Plain.{is_sound, put_all}
use Rattle.statement.specs.declared.reply.Reply.{Reply}
use Rattle.statement.specs.declared.reply.Reply.TheVariants.{Committed, Exported, Imported, Refused, Safe}
use Rattle.history.specs.declared.event.Action.{Action}
use Rattle.history.specs.declared.event.Action.TheVariants.{Begin, Run, Broken, Poll, Export, Import, Commit, Rollback, Prune}
use Rattle.history.specs.declared.event.Record.{Record}
use Rattle.history.specs.Transactions.{Standing, Open, Doomed, Failed, Aborted, Done, Txn, World, Exported_snapshot, commits, current, is_done, is_owed, is_read_write, must_wait, node, reads_from, with_all}
use Rattle.history.specs.Events as event
use Rattle.history.specs.Events.{causes, doomed_by, exports_after, log_after, next_identifier, numbered, replaced, turned, turned_from, without_transaction}
use Rattle.history.specs.Answer.{Allowed, doomed, failed, idle, open_reply, refuses, reply_from, reply_in, reply_of}
use Rattle.serial.proofs.legal.Legal.{current_in}
use Rattle.serial.proofs.structures.Dooms.{number-doomed}
use Rattle.retrace.specs.declared.past.Lent.{Lent}
use Rattle.retrace.specs.declared.run.When.{When}
use Rattle.retrace.specs.Runs.{Going, begun, is_its}
use Rattle.retrace.specs.Runs as tale
use Rattle.retrace.specs.Dooms.{causes_of}
use Rattle.retrace.specs.Dooms as told
use Rattle.retrace.specs.Past.{Bygone, all_turned, at_place, commits_after, followed, followed_by, joined, lent_after, owned, tables_after, turned_at, when}
use Rattle.retrace.specs.Told.{PlaceByPlace, TellAll, Tells}
use Rattle.retrace.proofs.told.Places.{AtBoth, At, Current, Identified, Lends, Nobody, Numbered, at_place-is, current_both, lent-found, numbered-map, numbered-replaced, places-by, places-length, places-map, places-push, places-turned}
use Rattle.retrace.proofs.told.Turns.{Known, turned_told}
use Rattle.retrace.proofs.told.Dooms.{Knows, above, doomed_told, same_dooms}

with_all-push : {A : Type 0} (ts : List (Txn A)) (t : Txn A) (X : Tables A) → with_all (ts ++ t ∷ []) X ≡ put_all t.changes (with_all ts X)
with_all-push [] t X = refl
with_all-push (u ∷ ts) t X = with_all-push ts t (put_all u.changes X)

length-push : {T : Type 0} (xs : List T) (x : T) → length (xs ++ x ∷ []) ≡ length xs + 1
length-push [] x = refl
length-push (y ∷ xs) x = omega (arith, length-push xs x)

numbered-push : {T : Type 0} (num : T → ℕ) (n : ℕ) (xs : List T) (x : T) → NumberedFrom num n xs → num x ≡ n + length xs + 1 → NumberedFrom num n (xs ++ x ∷ [])
numbered-push num n [] x h e = (omega arith, tt)
numbered-push num n (y ∷ xs) x h e = (h.0, numbered-push num (n + 1) xs x h.1 (omega arith))

owed_not_done : (st : Standing) → is_owed st ≡ true → is_done st ≡ false
owed_not_done Open e = refl
owed_not_done (Doomed c) e = refl
owed_not_done Failed e = refl
owed_not_done Aborted e = refl
owed_not_done Done e = sym e

module _ {A : Type 0} where
  -- What was told of a world's first events is what the world has.
  pub record Follows (w : World A) (p : Bygone A) : Type 0 where
    pub place : w.base.events + p.place ≡ w.place
    pub tables : p.tables ≡ with_all w.log w.opening
    pub commits : p.commits ≡ length w.log
    pub lent : PlaceByPlace (Lends w.base) p.lent w.exports
    pub identifiers : Identified w.base.identifiers w.exports
    pub numbers : Numbered w.base.transactions w.txns
    pub runs : TellAll w.base p.runs w.txns

  -- What is known of a world after legal events.
  pub record Legally (w : World A) : Type 0 where
    pub none : (t : Txn A) → In t w.txns → is_done t.standing ≡ false → t.commit ≡ 0
    pub shown : (t : Txn A) → In t w.txns → w.base.commits ≤ t.snapshot
    pub sound : (t : Txn A) → In t w.txns → is_sound w.catalog t.own ≡ true

  module _ (w : World A) (p : Bygone A) (f : Follows w p) (l : Legally w) where
    -- what is known at the next event
    abbrev now : Action A → When
    now a = when w.base.commits (p.place + 1) a p.commits p.lent

    next : w.base.events + (p.place + 1) ≡ w.place + 1
    next = omega (arith, f.place)

    -- ---- a session that has no transaction

    begun_told : (s : ℕ) (m : Mode) → Tells w.base (begun s m (length p.runs + 1) (now (Begin m)) p.tables) (event.begun w s m)
    begun_told s m = record {
      session = refl;
      number = omega (arith, places-length (Tells w.base) p.runs w.txns f.runs);
      read_write = refl;
      begin = next;
      snapshot = λ _. ap (λ n. w.base.commits + n) f.commits;
      commit = refl;
      reads = refl;
      changes = refl;
      marks = refl;
      own = λ _. ap (λ X. cond (is_read_write m) (Some X) None) (f.tables ∙ sym (ap (λ ts. with_all ts w.opening) (take_all (commits w - w.base.commits) w.log (omega arith))));
      owed = refl;
      active = refl;
    }

    nobody_told : (s : ℕ) (a : Action A) → Follows (without_transaction w s a (idle a)) (joined s a (now a) (record p { place = p.place + 1 }))
    nobody_told s a = go a
      where
        same : Follows (record w { place = w.place + 1 }) (record p { place = p.place + 1 })
        same = record { place = next; tables = f.tables; commits = f.commits; lent = f.lent; identifiers = f.identifiers; numbers = f.numbers; runs = f.runs }

        go : (a : Action A) → Follows (without_transaction w s a (idle a)) (joined s a (now a) (record p { place = p.place + 1 }))
        go (Begin m) = record {
          place = next;
          tables = f.tables;
          commits = f.commits;
          lent = f.lent;
          identifiers = f.identifiers;
          numbers = numbered-push (λ (t : Txn A). t.number) w.base.transactions w.txns (event.begun w s m) f.numbers refl;
          runs = places-push (Tells w.base) p.runs w.txns (begun s m (length p.runs + 1) (now (Begin m)) p.tables) (event.begun w s m) f.runs (begun_told s m);
        }
        go _ = same

    -- ---- one that has

    module _ (s : ℕ) (a : Action A) (fits : Allowed w.catalog a) (i : ℕ) (g : Going A) (t : Txn A) (at : AtBoth i g t p.runs w.txns) (k : Tells w.base g t) (c : current w s ≡ Some t) where
      owed : is_owed t.standing ≡ true
      owed = second_so (eqb t.session s) (is_owed t.standing) (current_in w s t c).1

      none : t.commit ≡ 0
      none = l.none t (current_in w s t c).0 (owed_not_done t.standing owed)

      known : Known w (now a) g t k a
      known = record {
        none = none;
        shown = l.shown t (current_in w s t c).0;
        sound = l.sound t (current_in w s t c).0;
        base = refl;
        commits = f.commits;
        lent = λ j e x q. subst (λ b. w.base.commits + (now b).lent ≡ x.snapshot) (sym e) (lent-found w.base w.base.identifiers j w.txns p.lent w.exports x f.lent f.identifiers q);
      }

      -- ---- the tables, and how many commits there are

      record Logged (X : Tables A) (n : ℕ) (log : List (Txn A)) : Type 0 where
        tables : X ≡ with_all log w.opening
        commits : n ≡ length log

      logged : (r : Reply A) → Logged (tables_after a r g p.tables) (commits_after a r g p.commits) (log_after w a r t)
      logged r = go a r
        where
          same : Logged p.tables p.commits w.log
          same = record { tables = f.tables; commits = f.commits }

          changes : (b : Bool) → (cond b (record (event.ended w Done t) { commit = commits w + 1 }) (event.ended w Done t)).changes ≡ t.changes
          changes true = refl
          changes false = refl

          more : (b : Bool) → Logged (cond b (put_all g.trace.changes p.tables) p.tables) (cond b (p.commits + 1) p.commits) (cond b (w.log ++ numbered w t ∷ []) w.log)
          more true = record {
            tables = ap (λ xs. put_all xs p.tables) (k.changes ∙ sym (changes (is_read_write t.mode))) ∙ ap (put_all (numbered w t).changes) f.tables ∙ sym (with_all-push w.log (numbered w t) w.opening);
            commits = ap (λ n. n + 1) f.commits ∙ sym (length-push w.log (numbered w t));
          }
          more false = same

          go : (b : Action A) (r : Reply A) → Logged (tables_after b r g p.tables) (commits_after b r g p.commits) (log_after w b r t)
          go Commit Committed = subst (λ b. Logged (cond b (put_all g.trace.changes p.tables) p.tables) (cond b (p.commits + 1) p.commits) (cond (is_read_write t.mode) (w.log ++ numbered w t ∷ []) w.log)) (sym k.read_write) (more (is_read_write t.mode))
          go _ _ = same

      -- ---- the snapshots that have been exported

      record Exports (ls : List Lent) (xs : List Exported_snapshot) : Type 0 where
        lent : PlaceByPlace (Lends w.base) ls xs
        identifiers : Identified w.base.identifiers xs

      kept : Exports p.lent w.exports
      kept = record { lent = f.lent; identifiers = f.identifiers }

      -- the one that is exported, in both
      abbrev told_one : Lent
      told_one = record { id = next_identifier w; snapshot = g.trace.snapshot }

      abbrev one : Exported_snapshot
      one = record { id = next_identifier w; exporter = t.number; snapshot = t.snapshot; taken = t.taken; known = t.known }

      exports_open : (b : Action A) → Exports (lent_after b (open_reply w t b) g p.lent) (exports_after w b (open_reply w t b) t)
      exports_open Export = go (must_wait t) refl
        where
          go : (b : Bool) → must_wait t ≡ b → Exports (lent_after Export (cond b (refuses code.ObjectNotInPrerequisiteState) (Exported (next_identifier w))) g p.lent) (exports_after w Export (cond b (refuses code.ObjectNotInPrerequisiteState) (Exported (next_identifier w))) t)
          go true e = kept
          go false e = record {
            lent = places-push (Lends w.base) p.lent w.exports told_one one f.lent (record { id = refl; snapshot = k.snapshot e });
            identifiers = numbered-push (λ (x : Exported_snapshot). x.id) w.base.identifiers w.exports one f.identifiers refl;
          }
      exports_open _ = kept

      exports_doomed : (d : Cause) (b : Action A) → Exports (lent_after b (doomed d b) g p.lent) (exports_after w b (doomed d b) t)
      exports_doomed d Export = kept
      exports_doomed d _ = kept

      exports_failed : (b : Action A) → Exports (lent_after b (failed b) g p.lent) (exports_after w b (failed b) t)
      exports_failed Export = kept
      exports_failed _ = kept

      exports_told : (st : Standing) → t.standing ≡ st → Exports (lent_after a (reply_from st w t a) g p.lent) (exports_after w a (reply_from st w t a) t)
      exports_told Open e = exports_open a
      exports_told (Doomed d) e = exports_doomed d a
      exports_told Failed e = exports_failed a
      exports_told Aborted e = absurd (true≢false (sym owed ∙ ap is_owed e))
      exports_told Done e = absurd (true≢false (sym owed ∙ ap is_owed e))

      -- ---- the transactions

      causes_told : (r : Reply A) → causes w a r t ≡ map (above w.base.transactions) (causes_of a r p.runs g)
      causes_told r = go a r
        where
          both : PlaceByPlace (Knows w.base) p.runs w.txns
          both = places-by (Tells w.base) (Knows w.base) p.runs w.txns (λ h u j q. (q, l.none u j)) f.runs

          more : (b : Bool) → cond b (dooms node reads_from w.txns t) [] ≡ map (above w.base.transactions) (cond b (dooms told.node told.reads p.runs g) [])
          more true = same_dooms w.base g t k none p.runs w.txns both
          more false = refl

          go : (b : Action A) (r : Reply A) → causes w b r t ≡ map (above w.base.transactions) (causes_of b r p.runs g)
          go Commit Committed = more (is_read_write t.mode) ∙ ap (λ b. map (above w.base.transactions) (cond b (dooms told.node told.reads p.runs g) [])) (sym k.read_write)
          go _ _ = refl

      turned_number : (r : Reply A) (x : Txn A) → Tells w.base (tale.turned w.catalog (now a) a r g) x → x.number ≡ t.number
      turned_number r x q = sym q.number ∙ ap (λ n. w.base.transactions + n) (go a r) ∙ k.number
        where
          failed_number : (b : Bool) (h : Going A) → (cond b h (tale.over h)).trace.number ≡ h.trace.number
          failed_number true h = refl
          failed_number false h = refl

          go : (b : Action A) (r : Reply A) → (tale.turned w.catalog (now a) b r g).trace.number ≡ g.trace.number
          go (Run q) (Refused r) = failed_number (event.goes_on r.code) (record g { refused = tale.changes_of w.catalog q g.own })
          go (Run q) _ = refl
          go Poll (Safe n) = refl
          go Poll _ = refl
          go (Import j) Imported = refl
          go (Import j) _ = refl
          go Commit Committed = refl
          go Commit _ = refl
          go Rollback _ = refl
          go (Broken r) _ = refl
          go (Begin m) _ = refl
          go Export _ = refl
          go Prune _ = refl

      runs_told : (r : Reply A) (x : Txn A) → x ≡ turned w a r t → Tells w.base (tale.turned w.catalog (now a) a r g) x
          → TellAll w.base (all_turned w.catalog (now a) (record { session = s; action = a; reply = r }) i p.runs) (map (doomed_by (w.place + 1) (causes w a r t)) (replaced x w.txns))
      runs_told r x e q =
          subst (λ h. TellAll w.base (map (told.doomed_by (causes_of a r p.runs h)) (turned_at i (tale.turned w.catalog (now a) a r) p.runs)) (map (doomed_by (w.place + 1) (causes w a r t)) (replaced x w.txns))) (sym (at_place-is i g t p.runs w.txns at))
          (subst (λ cs. TellAll w.base (map (told.doomed_by (causes_of a r p.runs g)) (turned_at i (tale.turned w.catalog (now a) a r) p.runs)) (map (doomed_by (w.place + 1) cs) (replaced x w.txns))) (sym (causes_told r))
          (places-map (Tells w.base) (told.doomed_by (causes_of a r p.runs g)) (doomed_by (w.place + 1) (map (above w.base.transactions) (causes_of a r p.runs g))) (turned_at i (tale.turned w.catalog (now a) a r) p.runs) (replaced x w.txns) (λ h u z. doomed_told w.base (w.place + 1) (causes_of a r p.runs g) h u z)
          (places-turned (Tells w.base) w.base.transactions i g t x (tale.turned w.catalog (now a) a r) p.runs w.txns f.runs f.numbers at (turned_number r x q) q)))

      own_told : (st : Standing) → t.standing ≡ st
          → Follows (event.followed w (record { session = s; action = a; reply = reply_from st w t a }) (Some t)) (owned w.catalog (now a) (record { session = s; action = a; reply = reply_from st w t a }) (at_place i p.runs) i (record p { place = p.place + 1 }))
      own_told st e = subst (λ h. Follows (event.followed w entry (Some t)) (record {
        place = p.place + 1;
        tables = tables_after a r h p.tables;
        commits = commits_after a r h p.commits;
        lent = lent_after a r h p.lent;
        runs = all_turned w.catalog (now a) entry i p.runs;
      })) (sym (at_place-is i g t p.runs w.txns at)) (record {
        place = next;
        tables = (logged r).tables;
        commits = (logged r).commits;
        lent = (exports_told st e).lent;
        identifiers = (exports_told st e).identifiers;
        numbers = numbered-map (doomed_by (w.place + 1) (causes w a r t)) (λ u. number-doomed (w.place + 1) (causes w a r t) u) w.base.transactions (replaced (turned w a r t) w.txns) (numbered-replaced w.base.transactions (turned w a r t) w.txns f.numbers);
        runs = runs_told r (turned w a r t) refl turning;
      })
        where
          r : Reply A
          r = reply_from st w t a

          entry : Record A
          entry = record { session = s; action = a; reply = r }

          turning : Tells w.base (tale.turned w.catalog (now a) a r g) (turned_from t.standing w a r t)
          turning = subst (λ z. Tells w.base (tale.turned w.catalog (now a) a r g) (turned_from z w a r t)) (sym e) (turned_told w (now a) g t k a st e owed fits known)

    -- ---- any event

    event_told : (s : ℕ) (a : Action A) → Allowed w.catalog a → (q : Option ℕ) (o : Option (Txn A)) → Current w.base p.runs w.txns q o → current w s ≡ o
        → Follows (event.followed w (record { session = s; action = a; reply = reply_of w o a }) o) (followed_by w.catalog (now a) (record { session = s; action = a; reply = reply_of w o a }) q (record p { place = p.place + 1 }))
    event_told s a fits q o Nobody c = nobody_told s a
    event_told s a fits q o (At i g t at k) c = own_told s a fits i g t at k c t.standing refl

    pub follows_told : (s : ℕ) (a : Action A) → Allowed w.catalog a
        → Follows (event.follows w (record { session = s; action = a; reply = reply_in w s a })) (followed w.catalog w.base.commits (record { session = s; action = a; reply = reply_in w s a }) p)
    follows_told s a fits = event_told s a fits (position (is_its s) p.runs) (current w s) (current_both w.base s p.runs w.txns f.runs) refl
