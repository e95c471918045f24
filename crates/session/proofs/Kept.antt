-- Transactions without their statements and own tables answer as whole ones do, and an event makes of them what it makes of whole ones.
use Rattle.std.proofs.Common.{◌≡◌, refl, sym, ap, ◌∙◌, ℕ, suc, ◌+◌, Bool, true, false, cond, not, ◌&&◌, ◌||◌, inl, inr, List, [], ◌∷◌, ◌++◌, length, length-append, map, filter, fold, Option, Some, None, is_some, eqb, nat_lt, nat_le, arith}
use Rattle.std.proofs.lemmas.List.{append-nil}
use Rattle.std.specs.List.{list_any, find}
use Rattle.std.specs.Option.{option_map, option_to_list}
use Rattle.value.specs.declared.refusal.Cause.{Cause}
use Rattle.value.specs.declared.refusal.Code.TheVariants as code
use Rattle.value.proofs.IsolationLemmas.{In}
use Rattle.value.specs.Isolation.{is_dangerous, earliest, earlier, caused, first_some, first_cause, dooms, with_doom, doom_of, is_live, is_first, cause_from}
use Rattle.value.proofs.Basics.{any-same, filter-map, find-map, first_some-map}
use Rattle.schema.specs.declared.changes.Change.{Change}
use Rattle.schema.specs.declared.tables.Tables.{Tables}
use Rattle.schema.specs.Plain.{put_all}
use Rattle.statement.specs.declared.reply.Reply.{Reply}
use Rattle.statement.specs.declared.reply.Reply.TheVariants.{Committed, Imported, Safe, Wait, Exported, Refused}
use Rattle.statement.specs.Evaluation.{outcome, writes}
use Rattle.history.specs.declared.event.Action.{Action}
use Rattle.history.specs.declared.event.Action.TheVariants.{Run, Poll, Export, Import, Commit}
use Rattle.history.specs.declared.base.Base.{Base}
use Rattle.history.specs.Transactions.{Standing, Open, Doomed, Failed, Aborted, Done, Txn, World, Exported_snapshot, node, edge, reads_from, is_of, is_open, is_done, is_read_write, is_read_only, is_deferrable, was_active, spoils, is_spoilt, is_pending, is_living, must_wait, commits, current, exported}
use Rattle.history.specs.Events.{ended, numbered, polled, with_snapshot, import, moved, turned_from, turned, causes, doomed_by, doomed_with, replaced, txns_after, log_after, exports_after, next_identifier}
use Rattle.history.specs.Answer.{reply_in, reply_of, reply_from, open_reply, run_reply, commit_reply, meets_another, is_taken, is_refused, refuses, refuses_row}
use Rattle.transactions.specs.Ledger.{kept, committed_by, counted, with_own, ready, ready_for, turned_all}

-- ---- lists whose members are seen through a function

module _ {T U : Type 0} (f : T → U) where
  pub any_map : (p : U → Bool) (ts : List T) → list_any p (map f ts) ≡ list_any (λ t. p (f t)) ts
  any_map p [] = refl
  any_map p (t ∷ ts) = ap (λ b. p (f t) || b) (any_map p ts)

  fold_map : {B : Type 0} (g : B → U → B) (b : B) (ts : List T) → fold g b (map f ts) ≡ fold (λ c t. g c (f t)) b ts
  fold_map g b [] = refl
  fold_map g b (t ∷ ts) = fold_map g (g b (f t)) ts

  pub length_map : (ts : List T) → length (map f ts) ≡ length ts
  length_map [] = refl
  length_map (t ∷ ts) = ap suc (length_map ts)

module _ {T : Type 0} where
  pub find_same : (p q : T → Bool) → ((t : T) → p t ≡ q t) → (ts : List T) → find p ts ≡ find q ts
  find_same p q h [] = refl
  find_same p q h (t ∷ ts) = ap (λ b. cond b (Some t) (find p ts)) (h t) ∙ ap (λ o. cond (q t) (Some t) o) (find_same p q h ts)

  first_same : {B : Type 0} (g k : T → Option B) → ((t : T) → g t ≡ k t) → (ts : List T) → first_some g ts ≡ first_some k ts
  first_same g k h [] = refl
  first_same g k h (t ∷ ts) = ap (λ o. cond (is_some o) o (first_some g ts)) (h t) ∙ ap (λ o. cond (is_some (k t)) (k t) o) (first_same g k h ts)

  fold_same : {B : Type 0} (g k : B → T → B) → ((b : B) (t : T) → g b t ≡ k b t) → (b : B) (ts : List T) → fold g b ts ≡ fold k b ts
  fold_same g k h b [] = refl
  fold_same g k h b (t ∷ ts) = ap (λ c. fold g c ts) (h b t) ∙ fold_same g k h (k b t) ts

module _ {A : Type 0} where
  -- ---- isolation of what is kept

  abbrev all_kept : List (Txn A) → List (Txn A)
  all_kept ts = map kept ts

  earliest_kept : (ts : List (Txn A)) → earliest node edge (all_kept ts) ≡ option_map kept (earliest node edge ts)
  earliest_kept [] = refl
  earliest_kept (t ∷ ts) = ap (λ o. Some (earlier node edge (kept t) o)) (earliest_kept ts) ∙ go (earliest node edge ts)
    where
      by_test : (u : Txn A) (b : Bool) → Some (cond b (kept u) (kept t)) ≡ Some (kept (cond b u t))
      by_test u true = refl
      by_test u false = refl

      go : (o : Option (Txn A)) → Some (earlier node edge (kept t) (option_map kept o)) ≡ Some (kept (earlier node edge t o))
      go None = refl
      go (Some u) = by_test u (nat_lt u.commit t.commit)

  caused_kept : (a b : Txn A) (o : Option (Txn A)) → caused node edge (kept a) (kept b) (option_map kept o) ≡ caused node edge a b o
  caused_kept a b None = refl
  caused_kept a b (Some c) = refl

  first_kept : (ts : List (Txn A)) → first_cause node edge (all_kept ts) ≡ first_cause node edge ts
  first_kept ts =
      first_some-map kept (λ a. first_some (λ b. caused node edge a b (earliest node edge (filter (is_dangerous node edge a b) (all_kept ts)))) (all_kept ts)) ts
      ∙ first_same _ _ (λ a.
      first_some-map kept (λ b. caused node edge (kept a) b (earliest node edge (filter (is_dangerous node edge (kept a) b) (all_kept ts)))) ts
      ∙ first_same _ _ (λ b.
      ap (λ us. caused node edge (kept a) (kept b) (earliest node edge us)) (filter-map kept (is_dangerous node edge (kept a) (kept b)) ts)
      ∙ ap (caused node edge (kept a) (kept b)) (earliest_kept (filter (is_dangerous node edge a b) ts))
      ∙ caused_kept a b (earliest node edge (filter (is_dangerous node edge a b) ts))) ts) ts

  from_kept : (b c : Txn A) (o : Option (Txn A)) → cause_from node reads_from (kept b) (kept c) (option_map kept o) ≡ cause_from node reads_from b c o
  from_kept b c None = refl
  from_kept b c (Some a) = refl

  dooms_kept : (ts : List (Txn A)) (c : Txn A) → dooms node reads_from (all_kept ts) (kept c) ≡ dooms node reads_from ts c
  dooms_kept ts c =
      fold_map kept (with_doom node reads_from (all_kept ts) (kept c)) [] ts
      ∙ fold_same (λ cs b. with_doom node reads_from (all_kept ts) (kept c) cs (kept b)) (with_doom node reads_from ts c) (λ cs b. ap (λ o. cs ++ option_to_list o) (doom cs b)) [] ts
    where
      doom : (cs : List Cause) (b : Txn A) → doom_of node reads_from (all_kept ts) (kept c) cs (kept b) ≡ doom_of node reads_from ts c cs b
      doom cs b = ap (λ o. cond (is_live node reads_from c b && reads_from b c) o None)
          (ap (cause_from node reads_from (kept b) (kept c)) (find-map kept (is_first node reads_from (kept c) cs (kept b)) ts) ∙ from_kept b c (find (is_first node reads_from c cs b) ts))

  -- ---- snapshots of what is kept

  pub spoilt_kept : (ts : List (Txn A)) (t : Txn A) → is_spoilt (all_kept ts) t ≡ is_spoilt ts t
  spoilt_kept ts t =
      any_map kept (λ u. was_active t u && spoils (all_kept ts) t u) ts
      ∙ any-same _ _ (λ u. ap (λ b. was_active t u && (is_done u.standing && b)) (any_map kept (λ v. edge (kept u) v && nat_le v.commit t.snapshot) ts)) ts

  pending_kept : (ts : List (Txn A)) (t : Txn A) → is_pending (all_kept ts) t ≡ is_pending ts t
  pending_kept ts t = any_map kept (λ u. was_active t u && is_open u.standing) ts

  pub living_kept : (ts : List (Txn A)) (x : Exported_snapshot) → is_living (all_kept ts) x ≡ is_living ts x
  living_kept ts x = any_map kept (λ t. eqb t.number x.exporter && is_open t.standing) ts

  pub replaced_kept : (x : Txn A) (ts : List (Txn A)) → replaced (kept x) (all_kept ts) ≡ all_kept (replaced x ts)
  replaced_kept x [] = refl
  replaced_kept x (t ∷ ts) = ap (λ us. cond (eqb t.number x.number) (kept x) (kept t) ∷ us) (replaced_kept x ts) ∙ ap (λ u. u ∷ all_kept (replaced x ts)) (go (eqb t.number x.number))
    where
      go : (b : Bool) → cond b (kept x) (kept t) ≡ kept (cond b x t)
      go true = refl
      go false = refl

  doomed_kept : (place : ℕ) (cs : List Cause) (ts : List (Txn A)) → map (doomed_by place cs) (all_kept ts) ≡ all_kept (map (doomed_by place cs) ts)
  doomed_kept place cs [] = refl
  doomed_kept place cs (t ∷ ts) = ap (λ us. doomed_by place cs (kept t) ∷ us) (doomed_kept place cs ts) ∙ ap (λ u. u ∷ all_kept (map (doomed_by place cs) ts)) (go (is_open t.standing) (find (λ c. eqb c.b.0 t.number) cs))
    where
      with_cause : (o : Option Cause) → doomed_with place o (kept t) ≡ kept (doomed_with place o t)
      with_cause None = refl
      with_cause (Some c) = refl

      go : (b : Bool) (o : Option Cause) → doomed_with place (cond b o None) (kept t) ≡ kept (doomed_with place (cond b o None) t)
      go true o = with_cause o
      go false o = refl

  -- without causes none is doomed
  spared : (place : ℕ) (ts : List (Txn A)) → map (doomed_by place []) ts ≡ ts
  spared place [] = refl
  spared place (t ∷ ts) = ap (λ us. doomed_by place [] t ∷ us) (spared place ts) ∙ ap (λ u. u ∷ ts) (go (is_open t.standing))
    where
      go : (b : Bool) → doomed_with place (cond b None None) t ≡ t
      go true = refl
      go false = refl

  -- ---- the world of what is kept

  -- the world with its transactions as they are kept, over other tables, with other numbers, identifiers and no log
  abbrev pub on : World A → Tables A → Base → List Exported_snapshot → World A
  on w X b xs = record { catalog = w.catalog; opening = X; base = b; log = []; txns = map kept w.txns; exports = xs; place = w.place }

  -- The worlds w and v have equally many commits, the same next identifier and the same exported snapshots.
  pub record IsLike (w v : World A) : Type 0 where
    pub commits : commits v ≡ commits w
    pub next : next_identifier v ≡ next_identifier w
    pub exported : (n : ℕ) → exported v n ≡ exported w n

  module _ (w : World A) (X : Tables A) (b : Base) (xs : List Exported_snapshot) (tables : ℕ → Tables A) (like : IsLike w (on w X b xs)) where
    abbrev v : World A
    v = on w X b xs

    pub same_current : (s : ℕ) → current v s ≡ option_map kept (current w s)
    same_current s = find-map kept (is_of s) w.txns

    same_meets : (t : Txn A) (ys : List (Change A)) → meets_another v t ys ≡ meets_another w t ys
    same_meets t ys = any-same _ _ (λ x. any_map kept (λ u. is_taken t u x) w.txns) ys

    pub same_numbered : (t : Txn A) → numbered v (kept t) ≡ kept (numbered w t)
    same_numbered t = ap (λ n. cond (is_read_write t.mode) (record (ended w Done (kept t)) { commit = n + 1 }) (ended w Done (kept t))) like.commits ∙ go (is_read_write t.mode)
      where
        go : (c : Bool) → cond c (record (ended w Done (kept t)) { commit = commits w + 1 }) (ended w Done (kept t)) ≡ kept (cond c (record (ended w Done t) { commit = commits w + 1 }) (ended w Done t))
        go true = refl
        go false = refl

    same_polled : (t : Txn A) → kept (polled v (kept t)) ≡ kept (polled w t)
    same_polled t =
        ap (λ c. kept (cond (not t.known && c) (with_snapshot v (commits v) (w.place + 1) (kept t)) (kept t))) (spoilt_kept w.txns t)
        ∙ go (not t.known && is_spoilt w.txns t)
      where
        go : (c : Bool) → kept (cond c (with_snapshot v (commits v) (w.place + 1) (kept t)) (kept t)) ≡ kept (cond c (with_snapshot w (commits w) (w.place + 1) t) t)
        go true = ap (λ n. record (kept t) { snapshot = n; taken = w.place + 1 }) like.commits
        go false = refl

    -- ---- replies

    -- A transaction's own tables are its changes put into the tables at its snapshot.
    abbrev pub HasOwn : Txn A → Type 0
    HasOwn t = t.own ≡ put_all t.changes (tables t.snapshot)

    pub same_ready : (t : Txn A) → HasOwn t → with_own tables (kept t) ≡ record t { statements = [] }
    same_ready t own = ap (λ Y. record t { statements = []; own = Y }) (sym own)

    ready_standing : (a : Action A) (t : Txn A) → (ready tables a (kept t)).standing ≡ t.standing
    ready_standing (Run q) t = refl
    ready_standing _ t = refl

    ready_kept : (a : Action A) (t : Txn A) → kept (ready tables a (kept t)) ≡ kept t
    ready_kept (Run q) t = refl
    ready_kept _ t = refl

    same_open : (t : Txn A) → HasOwn t → (a : Action A) → open_reply v (ready tables a (kept t)) a ≡ open_reply w t a
    same_open t own (Run q) =
        ap (λ (x : Txn A). run_reply v x q) (same_ready t own)
        ∙ ap (λ c. cond (must_wait t) (refuses code.ObjectNotInPrerequisiteState) (cond (writes q && not (is_read_write t.mode)) (refuses code.ReadOnlySqlTransaction)
        (cond (is_refused (outcome w.catalog q t.own).reply) (outcome w.catalog q t.own).reply (cond c refuses_row (outcome w.catalog q t.own).reply)))) (same_meets t (outcome w.catalog q t.own).changes)
    same_open t own Poll =
        ap (λ (x : Txn A). cond (not (is_deferrable t.mode)) (refuses code.ObjectNotInPrerequisiteState) (cond t.known (Safe t.snapshot) (cond {A = Reply A} (is_pending (all_kept w.txns) x) Wait (Safe x.snapshot)))) (same_polled t)
        ∙ ap (λ c. cond (not (is_deferrable t.mode)) (refuses code.ObjectNotInPrerequisiteState) (cond t.known (Safe t.snapshot) (cond {A = Reply A} c Wait (Safe (polled w t).snapshot)))) (pending_kept w.txns (polled w t))
    same_open t own Export = ap (λ n. cond {A = Reply A} (must_wait t) (refuses code.ObjectNotInPrerequisiteState) (Exported n)) like.next
    same_open t own (Import n) =
        ap (λ o. cond {A = Reply A} (not (is_read_only t.mode)) (refuses code.ObjectNotInPrerequisiteState) (cond t.asked (refuses code.ActiveSqlTransaction) (cond (is_some o) Imported (refuses code.ObjectNotInPrerequisiteState)))) (like.exported n)
    same_open t own Commit =
        ap commit_reply (ap (λ x. first_cause node edge (replaced x (all_kept w.txns))) (same_numbered t) ∙ ap (first_cause node edge) (replaced_kept (numbered w t) w.txns) ∙ first_kept (replaced (numbered w t) w.txns))
    same_open t own _ = refl

    same_from : (t : Txn A) → HasOwn t → (a : Action A) (st : Standing) → reply_from st v (ready tables a (kept t)) a ≡ reply_from st w t a
    same_from t own a Open = same_open t own a
    same_from t own a _ = refl

    same_of : (a : Action A) (o : Option (Txn A)) → ((t : Txn A) → o ≡ Some t → HasOwn t) → reply_of v (ready_for tables a (option_map kept o)) a ≡ reply_of w o a
    same_of a None own = refl
    same_of a (Some t) own = ap (λ st. reply_from st v (ready tables a (kept t)) a) (ready_standing a t) ∙ same_from t (own t refl) a t.standing

    pub same_reply : (s : ℕ) (a : Action A) → ((t : Txn A) → current w s ≡ Some t → HasOwn t) → reply_of v (ready_for tables a (current v s)) a ≡ reply_in w s a
    same_reply s a own = ap (λ o. reply_of v (ready_for tables a o) a) (same_current s) ∙ same_of a (current w s) own

    -- ---- what an event makes of the session's transaction, and of the others

    same_moved : (t : Txn A) → HasOwn t → (a : Action A) (r : Reply A) → kept (moved v a r (ready tables a (kept t))) ≡ kept (moved w a r t)
    same_moved t own (Run q) (Refused r) = go (Rattle.history.specs.Events.goes_on r.code)
      where
        go : (c : Bool) → kept (cond c (with_own tables (kept t)) (ended w Failed (with_own tables (kept t)))) ≡ kept (cond c t (ended w Failed t))
        go true = refl
        go false = refl
    same_moved t own (Run q) r = ap (λ (x : Txn A). kept (Rattle.history.specs.Events.ran v q r x)) (same_ready t own)
    same_moved t own Poll (Safe s) = ap (λ (x : Txn A). record x { known = true }) (same_polled t)
    same_moved t own Poll Wait = same_polled t
    same_moved t own (Import n) Imported = ap (λ o. kept (import o v (kept t))) (like.exported n) ∙ go (exported w n)
      where
        go : (o : Option Exported_snapshot) → kept (import o v (kept t)) ≡ kept (import o w t)
        go None = refl
        go (Some x) = refl
    same_moved t own Export (Exported i) = refl
    same_moved t own Commit Committed = ap kept (same_numbered t)
    same_moved t own _ _ = refl

    same_turned_from : (t : Txn A) → HasOwn t → (a : Action A) (r : Reply A) (st : Standing) → kept (turned_from st v a r (ready tables a (kept t))) ≡ kept (turned_from st w a r t)
    same_turned_from t own a r Open = same_moved t own a r
    same_turned_from t own a r (Doomed c) = ap (λ (x : Txn A). record x { standing = Rattle.history.specs.Events.told a x.standing }) (ready_kept a t)
    same_turned_from t own a r Failed = ap (λ (x : Txn A). record x { standing = Rattle.history.specs.Events.settled a x.standing }) (ready_kept a t)
    same_turned_from t own a r Aborted = ready_kept a t
    same_turned_from t own a r Done = ready_kept a t

    same_turned : (t : Txn A) → HasOwn t → (a : Action A) (r : Reply A) → kept (turned v a r (ready tables a (kept t))) ≡ kept (turned w a r t)
    same_turned t own a r = ap (λ st. kept (turned_from st v a r (ready tables a (kept t)))) (ready_standing a t) ∙ same_turned_from t own a r t.standing

    same_replaced : (t : Txn A) → HasOwn t → (a : Action A) (r : Reply A) → replaced (kept (turned v a r (ready tables a (kept t)))) (all_kept w.txns) ≡ all_kept (replaced (turned w a r t) w.txns)
    same_replaced t own a r = ap (λ x. replaced x (all_kept w.txns)) (same_turned t own a r) ∙ replaced_kept (turned w a r t) w.txns

    pub same_turned_all : (t : Txn A) → HasOwn t → (a : Action A) (r : Reply A) → turned_all v a r (ready tables a (kept t)) ≡ all_kept (txns_after w a r t)
    same_turned_all t own Commit Committed =
        ap (map (doomed_by (w.place + 1) (causes v Commit Committed (kept t)))) (same_replaced t own Commit Committed)
        ∙ ap (λ cs. map (doomed_by (w.place + 1) (cond (is_read_write t.mode) cs [])) (all_kept (replaced (turned w Commit Committed t) w.txns))) (dooms_kept w.txns t)
        ∙ doomed_kept (w.place + 1) (causes w Commit Committed t) (replaced (turned w Commit Committed t) w.txns)
    same_turned_all t own a r = same_replaced t own a r ∙ ap all_kept (sym (spared (w.place + 1) (replaced (turned w a r t) w.txns)))

    -- ---- what it uses up

    -- A commit number is used up where the log grows.
    pub same_counted : (t : Txn A) (a : Action A) (r : Reply A) → (counted v a r (ready tables a (kept t))).commits ≡ w.base.commits + length (log_after w a r t)
    same_counted t Commit Committed = go (is_read_write t.mode)
      where
        now : b.commits ≡ commits w
        now = omega (arith, like.commits)

        go : (c : Bool) → (cond c (record b { commits = b.commits + 1 }) b).commits ≡ w.base.commits + length (cond c (w.log ++ numbered w t ∷ []) w.log)
        go true = rw length-append (omega (arith, now))
        go false = now
    same_counted t _ _ = omega (arith, like.commits)

    -- Transactions and identifiers are counted by the lists.
    pub counted_rest : (t : Txn A) (a : Action A) (r : Reply A) → ((counted v a r t).transactions ≡ b.transactions) × ((counted v a r t).identifiers ≡ b.identifiers)
    counted_rest t Commit Committed = go (is_read_write t.mode)
      where
        go : (c : Bool) → ((cond c (record b { commits = b.commits + 1 }) b).transactions ≡ b.transactions) × ((cond c (record b { commits = b.commits + 1 }) b).identifiers ≡ b.identifiers)
        go true = (refl, refl)
        go false = (refl, refl)
    counted_rest t _ _ = (refl, refl)

    -- The identifiers grow by the same.
    pub same_exports : (t : Txn A) (a : Action A) (r : Reply A) → (more : List Exported_snapshot) × (exports_after v a r (ready tables a (kept t)) ≡ xs ++ more) × (exports_after w a r t ≡ w.exports ++ more) × ((y : Exported_snapshot) → In y more → y.exporter ≡ t.number)
    same_exports t Export (Exported i) = (
      record { id = i; exporter = t.number; snapshot = t.snapshot; taken = t.taken; known = t.known } ∷ [],
      refl,
      refl,
      λ y j. elim j [ inl p ↦ ap (λ (z : Exported_snapshot). z.exporter) p | inr z ↦ absurd z ],
    )
    same_exports t _ _ = ([], sym (append-nil xs), sym (append-nil w.exports), λ y j. absurd j)

    -- What is committed is what the log gets.
    pub same_committed : (t : Txn A) (a : Action A) (r : Reply A) → committed_by a r (Some (kept t)) ≡ committed_by a r (Some t)
    same_committed t Commit Committed = refl
    same_committed t _ _ = refl
