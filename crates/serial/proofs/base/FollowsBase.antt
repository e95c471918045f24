-- One event after another on the base of a quiet history: the replies, and the world after the events, are those after that history's own events.
use Rattle.std.proofs.Common.{◌≡◌, refl, sym, ap, subst, ◌∙◌, ℕ, ◌+◌, ◌≤◌, Bool, true, false, cond, not, ◌&&◌, List, [], ◌∷◌, ◌++◌, length, map, Option, Some, None, is_some, append_assoc, arith}
use Rattle.value.specs.declared.refusal.Code.TheVariants as code
use Rattle.value.proofs.IsolationLemmas.{In}
use Rattle.value.proofs.Basics.{find-In}
use Rattle.schema.specs.declared.tables.Tables.{Tables}
use Rattle.statement.specs.declared.reply.Reply.{Reply}
use Rattle.statement.specs.declared.reply.Reply.TheVariants.{Begun, Committed, Imported, Safe, Wait, Exported, Refused}
use Rattle.statement.specs.Evaluation.{outcome, writes}
use Rattle.history.specs.declared.base.Base.{Base}
use Rattle.history.specs.declared.event.Action.{Action}
use Rattle.history.specs.declared.event.Action.TheVariants.{Begin, Run, Poll, Export, Import, Commit}
use Rattle.history.specs.declared.event.Record.{Record}
use Rattle.history.specs.Transactions.{Standing, Open, Failed, Done, Txn, World, Exported_snapshot, is_read_write, is_deferrable, is_read_only, is_quiet, is_pending, must_wait, commits, tables_at, current, exported}
use Rattle.history.specs.Events.{begun, numbered, polled, import, moved, turned_from, turned, causes, doomed_by, replaced, txns_after, log_after, exports_after, next_identifier, without_transaction, followed, follows, run}
use Rattle.history.specs.Answer.{reply_in, reply_of, reply_from, open_reply, commit_reply, is_refused, refuses, refuses_row, IsAnswered}
use Rattle.serial.proofs.legal.Legal.{current_in}
use Rattle.serial.proofs.order.SerialTheorem.{IsGood}
use Rattle.serial.proofs.base.Based.{next_good}
use Rattle.serial.proofs.base.OnBase.{joined, IsOnBase, new_number, same_commits, same_tables, same_current, same_pending, same_exported, same_meets, replaced_joined, doomed_joined, same_numbered, same_cause, same_dooms, same_polled, taken_polled}

module _ {A : Type 0} (w : World A) (gw : IsGood w) (quiet : is_quiet w ≡ true) (old : (y : Exported_snapshot) → In y w.exports → y.exporter ≤ w.base.transactions + length w.txns) where
  abbrev join : World A → World A
  join v = joined w gw quiet v

  abbrev On : World A → Type 0
  On v = IsOnBase w gw quiet v

  -- the numbers that are used up
  count_joined : {T : Type 0} (xs ys : List T) → length (xs ++ ys) ≡ length xs + length ys
  count_joined [] ys = omega arith
  count_joined (x ∷ xs) ys = omega (arith, count_joined xs ys)

  module _ (v : World A) (on : On v) where
    same_identifier : next_identifier (join v) ≡ next_identifier v
    same_identifier = omega (arith, count_joined w.exports v.exports, ap (λ (b : Base). b.identifiers) on.base)

    -- ---- replies

    same_open : (t : Txn A) → In t v.txns → (a : Action A) → open_reply (join v) t a ≡ open_reply v t a
    same_open t i (Run q) =
        ap (λ b. cond (must_wait t) (refuses code.ObjectNotInPrerequisiteState) (cond (writes q && not (is_read_write t.mode)) (refuses code.ReadOnlySqlTransaction)
        (cond (is_refused (outcome v.catalog q t.own).reply) (outcome v.catalog q t.own).reply (cond b refuses_row (outcome v.catalog q t.own).reply)))) (same_meets w gw quiet v on t i (outcome v.catalog q t.own).changes)
    same_open t i Poll =
        ap (λ (x : Txn A). cond (not (is_deferrable t.mode)) (refuses code.ObjectNotInPrerequisiteState) (cond t.known (Safe t.snapshot) (cond {A = Reply A} (is_pending (w.txns ++ v.txns) x) Wait (Safe x.snapshot)))) (same_polled w gw quiet v on t i)
        ∙ ap (λ b. cond (not (is_deferrable t.mode)) (refuses code.ObjectNotInPrerequisiteState) (cond t.known (Safe t.snapshot) (cond {A = Reply A} b Wait (Safe (polled v t).snapshot)))) (same_pending w gw quiet v on (polled v t) (taken_polled w gw quiet v on t i))
    same_open t i Export = ap (λ n. cond {A = Reply A} (must_wait t) (refuses code.ObjectNotInPrerequisiteState) (Exported n)) same_identifier
    same_open t i (Import n) =
        ap (λ o. cond {A = Reply A} (not (is_read_only t.mode)) (refuses code.ObjectNotInPrerequisiteState) (cond t.asked (refuses code.ActiveSqlTransaction) (cond (is_some o) Imported (refuses code.ObjectNotInPrerequisiteState)))) (same_exported w gw quiet v on old n)
    same_open t i Commit = ap commit_reply (same_cause w gw quiet v on t i)
    same_open t i _ = refl

    same_from : (t : Txn A) → In t v.txns → (a : Action A) (st : Standing) → reply_from st (join v) t a ≡ reply_from st v t a
    same_from t i a Open = same_open t i a
    same_from t i a _ = refl

    same_of : (s : ℕ) (a : Action A) (o : Option (Txn A)) → current v s ≡ o → reply_of (join v) o a ≡ reply_of v o a
    same_of s a None e = refl
    same_of s a (Some t) e = same_from t (current_in v s t e).0 a t.standing

    pub same_reply : (s : ℕ) (a : Action A) → reply_in (join v) s a ≡ reply_in v s a
    same_reply s a = ap (λ o. reply_of (join v) o a) (same_current w gw quiet v on s) ∙ same_of s a (current v s) refl

    -- ---- what an event makes

    imported : (t : Txn A) (o : Option Exported_snapshot) → ((y : Exported_snapshot) → o ≡ Some y → commits w ≤ y.snapshot) → import o (join v) t ≡ import o v t
    imported t None h = refl
    imported t (Some y) h = ap (λ X. record t { snapshot = y.snapshot; taken = y.taken; imported = true; known = y.known; own = X }) (same_tables w gw quiet v on y.snapshot (h y refl))

    same_moved : (t : Txn A) → In t v.txns → (a : Action A) (r : Reply A) → moved (join v) a r t ≡ moved v a r t
    same_moved t i Poll (Safe s) = ap (λ (x : Txn A). record x { known = true }) (same_polled w gw quiet v on t i)
    same_moved t i Poll Wait = same_polled w gw quiet v on t i
    same_moved t i (Import n) Imported = ap (λ o. import o (join v) t) (same_exported w gw quiet v on old n)
        ∙ imported t (exported v n) (λ y e. let h = (on.good.numbered.exports y (find-In _ v.exports y e).0).0 in omega (arith, h, ap (λ (b : Base). b.commits) on.base))
    same_moved t i Commit Committed = same_numbered w gw quiet v on t
    same_moved t i _ _ = refl

    same_turned : (t : Txn A) → In t v.txns → (a : Action A) (r : Reply A) (st : Standing) → turned_from st (join v) a r t ≡ turned_from st v a r t
    same_turned t i a r Open = same_moved t i a r
    same_turned t i a r _ = refl

    turned_number : (t : Txn A) (a : Action A) (r : Reply A) → (turned v a r t).number ≡ t.number
    turned_number t a r = from t.standing
      where
        by_mode : (b : Bool) → (cond b (record t { standing = Done; end = v.place + 1; commit = commits v + 1 }) (record t { standing = Done; end = v.place + 1 })).number ≡ t.number
        by_mode true = refl
        by_mode false = refl

        by_poll : (b : Bool) (X : Tables A) → (cond b (record t { snapshot = commits v; taken = v.place + 1; own = X }) t).number ≡ t.number
        by_poll true X = refl
        by_poll false X = refl

        by_code : (b : Bool) → (cond b t (record t { standing = Failed; end = v.place + 1 })).number ≡ t.number
        by_code true = refl
        by_code false = refl

        by_import : (o : Option Exported_snapshot) → (import o v t).number ≡ t.number
        by_import None = refl
        by_import (Some y) = refl

        of_move : (a : Action A) (r : Reply A) → (moved v a r t).number ≡ t.number
        of_move (Run q) (Refused r) = by_code _
        of_move Poll (Safe s) = by_poll _ _
        of_move Poll Wait = by_poll _ _
        of_move Export (Exported n) = refl
        of_move (Import n) Imported = by_import (exported v n)
        of_move Commit Committed = by_mode (is_read_write t.mode)
        of_move _ _ = refl

        from : (st : Standing) → (turned_from st v a r t).number ≡ t.number
        from Open = of_move a r
        from _ = refl

    same_causes : (t : Txn A) → In t v.txns → (a : Action A) (r : Reply A) → causes (join v) a r t ≡ causes v a r t
    same_causes t i Commit Committed = ap (λ cs. cond (is_read_write t.mode) cs []) (same_dooms w gw quiet v on t i)
    same_causes t i _ _ = refl

    same_log : (t : Txn A) (a : Action A) (r : Reply A) → log_after (join v) a r t ≡ w.log ++ log_after v a r t
    same_log t Commit Committed = go (is_read_write t.mode)
      where
        go : (b : Bool) → cond b ((w.log ++ v.log) ++ numbered (join v) t ∷ []) (w.log ++ v.log) ≡ w.log ++ cond b (v.log ++ numbered v t ∷ []) v.log
        go true = ap (λ x. (w.log ++ v.log) ++ x ∷ []) (same_numbered w gw quiet v on t) ∙ append_assoc w.log v.log (numbered v t ∷ [])
        go false = refl
    same_log t _ _ = refl

    same_exports : (t : Txn A) (a : Action A) (r : Reply A) → exports_after (join v) a r t ≡ w.exports ++ exports_after v a r t
    same_exports t Export (Exported n) = append_assoc w.exports v.exports (record { id = n; exporter = t.number; snapshot = t.snapshot; taken = t.taken; known = t.known } ∷ [])
    same_exports t _ _ = refl

    same_txns : (t : Txn A) → In t v.txns → (a : Action A) (r : Reply A) → txns_after (join v) a r t ≡ w.txns ++ txns_after v a r t
    same_txns t i a r =
        ap (λ x. map (doomed_by (v.place + 1) (causes (join v) a r t)) (replaced x (w.txns ++ v.txns))) (same_turned t i a r t.standing)
        ∙ ap (λ cs. map (doomed_by (v.place + 1) cs) (replaced (turned v a r t) (w.txns ++ v.txns))) (same_causes t i a r)
        ∙ ap (map (doomed_by (v.place + 1) (causes v a r t))) (replaced_joined w gw quiet v on (turned v a r t) (let h = new_number w gw quiet v on t i in omega (arith, h, turned_number t a r)))
        ∙ doomed_joined w gw quiet v on (v.place + 1) (causes v a r t) (replaced (turned v a r t) v.txns)

    same_begun : (s : ℕ) (m : Rattle.value.specs.declared.refusal.Mode.Mode) → begun (join v) s m ≡ begun v s m
    same_begun s m =
        ap (λ n. record (begun v s m) { number = n; snapshot = commits (join v); own = tables_at (join v) (commits (join v)) }) (omega (arith, count_joined w.txns v.txns, ap (λ (b : Base). b.transactions) on.base))
        ∙ ap (λ n. record (begun v s m) { snapshot = n; own = tables_at (join v) n }) (same_commits w gw quiet v on)
        ∙ ap (λ X. record (begun v s m) { own = X }) (same_tables w gw quiet v on (commits v) (omega (arith, ap (λ (b : Base). b.commits) on.base)))

    same_without : (s : ℕ) (a : Action A) (r : Reply A) → without_transaction (join v) s a r ≡ join (without_transaction v s a r)
    same_without s (Begin m) Begun =
        ap (λ x. record (join v) { txns = (w.txns ++ v.txns) ++ x ∷ []; place = v.place + 1 }) (same_begun s m)
        ∙ ap (λ ts. record (join v) { txns = ts; place = v.place + 1 }) (append_assoc w.txns v.txns (begun v s m ∷ []))
    same_without s _ _ = refl

    same_followed : (e : Record A) (o : Option (Txn A)) → current v e.session ≡ o → followed (join v) e o ≡ join (followed v e o)
    same_followed e None c = same_without e.session e.action e.reply
    same_followed e (Some t) c =
        let i = (current_in v e.session t c).0 in
        ap (λ l. record (join v) { log = l; txns = txns_after (join v) e.action e.reply t; exports = exports_after (join v) e.action e.reply t; place = v.place + 1 }) (same_log t e.action e.reply)
        ∙ ap (λ ts. record (join v) { log = w.log ++ log_after v e.action e.reply t; txns = ts; exports = exports_after (join v) e.action e.reply t; place = v.place + 1 }) (same_txns t i e.action e.reply)
        ∙ ap (λ xs. record (join v) { log = w.log ++ log_after v e.action e.reply t; txns = w.txns ++ txns_after v e.action e.reply t; exports = xs; place = v.place + 1 }) (same_exports t e.action e.reply)

    pub same_follows : (e : Record A) → follows (join v) e ≡ join (follows v e)
    same_follows e = ap (followed (join v) e) (same_current w gw quiet v on e.session) ∙ same_followed e (current v e.session) refl

  -- ---- any number of events

  kept_opening : (v : World A) (e : Record A) (o : Option (Txn A)) → ((followed v e o).opening ≡ v.opening) × ((followed v e o).base ≡ v.base)
  kept_opening v e None = without e.action e.reply
    where
      without : (a : Action A) (r : Reply A) → ((without_transaction v e.session a r).opening ≡ v.opening) × ((without_transaction v e.session a r).base ≡ v.base)
      without (Begin m) Begun = (refl, refl)
      without _ _ = (refl, refl)
  kept_opening v e (Some t) = (refl, refl)

  next_on : (v : World A) (e : Record A) → On v → IsAnswered v (e ∷ []) → On (follows v e)
  next_on v e on l =
      let n = next_good v e on.good on.based l in
      let k = kept_opening v e (current v e.session) in
      record { good = n.0; based = n.1; opening = k.0 ∙ on.opening; base = k.1 ∙ on.base }

  -- What is answered on the base is answered after w, and leads to the same world.
  pub runs_on : (v : World A) (es : List (Record A)) → On v → IsAnswered v es → IsAnswered (join v) es × (run (join v) es ≡ join (run v es)) × On (run v es)
  runs_on v [] on l = (tt, refl, on)
  runs_on v (e ∷ es) on l =
      let rest = runs_on (follows v e) es (next_on v e on (l.0, l.1, tt)) l.2 in
      let same = same_follows v on e in (
        (l.0, l.1 ∙ sym (same_reply v on e.session e.action), subst (λ x. IsAnswered x es) (sym same) rest.0),
        ap (λ x. run x es) same ∙ rest.1,
        rest.2,
      )
