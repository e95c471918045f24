-- What transactions read, wrote and were answered is what evaluation from their snapshots gives.
use Rattle.std.proofs.Common.{◌≡◌, refl, sym, ap, subst, ◌∙◌, ℕ, ◌+◌, ◌-◌, ◌≤◌, Bool, true, false, true≢false, cond, not, ◌&&◌, ◌⊎◌, inl, inr, List, [], ◌∷◌, ◌++◌, take, Some, eqb, arith, append_assoc}
use Rattle.std.proofs.lemmas.List.{take-append-le, append-nil}
use Rattle.value.proofs.IsolationLemmas.{In}
use Rattle.value.proofs.SerialLemmas.{In-append}
use Rattle.value.proofs.Basics.{find-In}
use Rattle.schema.specs.declared.changes.Change.{Change}
use Rattle.statement.specs.declared.outcome.Mark.{Mark}
use Rattle.schema.specs.Definition.{Catalog}
use Rattle.schema.specs.declared.tables.Tables.{Tables}
use Rattle.schema.specs.Plain.{put_all}
use Rattle.schema.proofs.PlainLemmas.{put_all-append}
use Rattle.statement.specs.declared.statement.Statement.{Statement}
use Rattle.statement.specs.declared.statement.Statement.TheVariants.{Select}
use Rattle.statement.specs.declared.reading.Reading.{Reading}
use Rattle.statement.specs.declared.reply.Reply.{Reply}
use Rattle.statement.specs.Evaluation.{outcome, after, writes}
use Rattle.statement.specs.Footprint.{footprint}
use Rattle.statement.specs.Fits.{Fits}
use Rattle.history.specs.Transactions.{Done, Txn, World, Exported_snapshot, commits, tables_at, with_all, is_read_write, is_deferrable, must_wait}
use Rattle.history.specs.Events.{ended, numbered, ran, import, begun, with_snapshot}
use Rattle.history.proofs.Alone.{Along}
use Rattle.serial.proofs.legal.Legal.{Move, Stays, Fails, Aborts, Commits, Runs, Asks, Polls, Learns, Imports, Step, Nothing, Begins, Moves, Settles, Dooms, current_in}
use Rattle.serial.proofs.structures.Dooms.{Fate, Spared, Over, In-doomed}
use Rattle.serial.proofs.legal.Numbers.{IsNumbered, In-replaced, polled_keeps}

both_false : (a b : Bool) → (a && not b) ≡ false → b ≡ false → a ≡ false
both_false true b e f = absurd (true≢false (sym (ap not f) ∙ e))
both_false false b e f = refl

module _ {A : Type 0} where
  pub record IsFaithful (c : Catalog) (B : Tables A) (t : Txn A) : Type 0 where
    pub along : Along c t.statements B t.reads t.changes t.marks
    pub own : t.own ≡ put_all t.changes B
    pub fresh : (must_wait t ≡ true) ⊎ (t.asked ≡ false) → (t.statements ≡ []) × (t.reads ≡ []) × (t.changes ≡ []) × (t.marks ≡ [])
    pub read_only : is_read_write t.mode ≡ false → t.changes ≡ []

  pub Along-push : (c : Catalog) (qs : List (Statement A × Reply A)) (B Y : Tables A) (rs : List (Reading A)) (xs : List (Change A)) (ms : List (Mark A)) (q : Statement A) (r : Reply A) → Fits c q → Along c qs B rs xs ms → Y ≡ put_all xs B → (outcome c q Y).reply ≡ r
      → Along c (qs ++ (q, r) ∷ []) B (rs ++ footprint c q) (xs ++ (outcome c q Y).changes) (ms ++ (outcome c q Y).marks)
  Along-push c [] B Y rs xs ms q r fits a y e =
      let same : Y ≡ B = y ∙ ap (λ zs. put_all zs B) a.1 in (
        [],
        [],
        [],
        fits,
        ap (λ X. (outcome c q X).reply) (sym same) ∙ e,
        ap (λ zs. zs ++ footprint c q) a.0 ∙ sym (append-nil (footprint c q)),
        ap (λ zs. zs ++ (outcome c q Y).changes) a.1 ∙ ap (λ X. (outcome c q X).changes) same ∙ sym (append-nil (outcome c q B).changes),
        ap (λ zs. zs ++ (outcome c q Y).marks) a.2 ∙ ap (λ X. (outcome c q X).marks) same ∙ sym (append-nil (outcome c q B).marks),
        (refl, refl, refl),
      )
  Along-push c (p ∷ qs) B Y rs xs ms q r fits a y e = (
    a.0 ++ footprint c q,
    a.1 ++ (outcome c q Y).changes,
    a.2 ++ (outcome c q Y).marks,
    a.3,
    a.4,
    ap (λ zs. zs ++ footprint c q) a.5 ∙ append_assoc (footprint c p.0) a.0 (footprint c q),
    ap (λ zs. zs ++ (outcome c q Y).changes) a.6 ∙ append_assoc (outcome c p.0 B).changes a.1 (outcome c q Y).changes,
    ap (λ zs. zs ++ (outcome c q Y).marks) a.7 ∙ append_assoc (outcome c p.0 B).marks a.2 (outcome c q Y).marks,
    Along-push c qs (after c p.0 B) Y a.0 a.1 a.2 q r fits a.8 (y ∙ ap (λ zs. put_all zs B) a.6 ∙ put_all-append (outcome c p.0 B).changes a.1 B) e,
  )

  select_changes : (c : Catalog) (q : Statement A) (X : Tables A) → writes q ≡ false → (outcome c q X).changes ≡ []
  select_changes c (Select t p conditions) X e = refl
  select_changes c _ X e = absurd (true≢false e)

  pub waits : (t : Txn A) → is_deferrable t.mode ≡ true → t.known ≡ false → must_wait t ≡ true
  waits t e f = ap (λ b. b && not t.known) e ∙ ap not f

  faithful_run : (c : Catalog) (B : Tables A) (w : World A) (t : Txn A) (q : Statement A) → Fits w.catalog q → w.catalog ≡ c → IsFaithful c B t → must_wait t ≡ false → (writes q && not (is_read_write t.mode)) ≡ false → IsFaithful c B (ran w q (outcome w.catalog q t.own).reply t)
  faithful_run c B w t q fits e a m wr = subst (λ d. IsFaithful d B (ran w q (outcome w.catalog q t.own).reply t)) e (record {
    along = Along-push w.catalog t.statements B t.own t.reads t.changes t.marks q (outcome w.catalog q t.own).reply fits (subst (λ d. Along d t.statements B t.reads t.changes t.marks) (sym e) a.along) a.own refl;
    own = ap (put_all (outcome w.catalog q t.own).changes) a.own ∙ sym (put_all-append t.changes (outcome w.catalog q t.own).changes B);
    fresh = never;
    read_only = λ r. ap (λ xs. xs ++ (outcome w.catalog q t.own).changes) (a.read_only r) ∙ select_changes w.catalog q t.own (both_false (writes q) (is_read_write t.mode) wr r);
  })
    where
      never : (must_wait t ≡ true) ⊎ (true ≡ false) → (t.statements ++ (q, (outcome w.catalog q t.own).reply) ∷ [] ≡ []) × (t.reads ++ footprint w.catalog q ≡ []) × (t.changes ++ (outcome w.catalog q t.own).changes ≡ []) × (t.marks ++ (outcome w.catalog q t.own).marks ≡ [])
      never (inl f) = absurd (true≢false (sym f ∙ m))
      never (inr f) = absurd (true≢false f)

  -- a transaction without statements, from any snapshot
  fresh_from : (c : Catalog) (B B' : Tables A) (t x : Txn A) → IsFaithful c B t → (must_wait t ≡ true) ⊎ (t.asked ≡ false) → x.statements ≡ t.statements → x.reads ≡ t.reads → x.changes ≡ t.changes → x.marks ≡ t.marks → x.own ≡ B' → IsFaithful c B' x
  fresh_from c B B' t x a f e1 e2 e3 e4 o =
      let n = a.fresh f in
      let no_statements : x.statements ≡ [] = e1 ∙ n.0 in
      let no_reads : x.reads ≡ [] = e2 ∙ n.1 in
      let no_changes : x.changes ≡ [] = e3 ∙ n.2 in
      let no_marks : x.marks ≡ [] = e4 ∙ n.3 in
      record {
        along = subst (λ qs. Along c qs B' x.reads x.changes x.marks) (sym no_statements) (no_reads, no_changes, no_marks);
        own = o ∙ sym (ap (λ xs. put_all xs B') no_changes);
        fresh = λ _. (no_statements, no_reads, no_changes, no_marks);
        read_only = λ _. no_changes;
      }

  pub faithful_move : (w : World A) (t x : Txn A) (log : List (Txn A)) (exports : List Exported_snapshot) → IsFaithful w.catalog (tables_at w t.snapshot) t → Move w t x log exports → IsFaithful w.catalog (tables_at w x.snapshot) x
  faithful_move w t x log exports a Stays = a
  faithful_move w t x log exports a Fails = record { along = a.along; own = a.own; fresh = a.fresh; read_only = a.read_only }
  faithful_move w t x log exports a Aborts = record { along = a.along; own = a.own; fresh = a.fresh; read_only = a.read_only }
  faithful_move w t x log exports a (Commits e) = go (is_read_write t.mode)
    where
      Goal : Txn A → Type 0
      Goal y = IsFaithful w.catalog (tables_at w y.snapshot) y

      go : (b : Bool) → Goal (cond b (record (ended w Done t) { commit = commits w + 1 }) (ended w Done t))
      go true = record { along = a.along; own = a.own; fresh = a.fresh; read_only = a.read_only }
      go false = record { along = a.along; own = a.own; fresh = a.fresh; read_only = a.read_only }
  faithful_move w t x log exports a (Runs q fits m wr n) = faithful_run w.catalog (tables_at w t.snapshot) w t q fits refl a m wr
  faithful_move w t x log exports a (Asks m) = record { along = a.along; own = a.own; fresh = never; read_only = a.read_only }
    where
      never : (must_wait t ≡ true) ⊎ (true ≡ false) → (t.statements ≡ []) × (t.reads ≡ []) × (t.changes ≡ []) × (t.marks ≡ [])
      never (inl f) = absurd (true≢false (sym f ∙ m))
      never (inr f) = absurd (true≢false f)
  faithful_move w t x log exports a (Polls d k) = polled_keeps (λ y. IsFaithful w.catalog (tables_at w y.snapshot) y) w t a (fresh_from w.catalog (tables_at w t.snapshot) (tables_at w (commits w)) t (with_snapshot w (commits w) (w.place + 1) t) a (inl (waits t d k)) refl refl refl refl refl)
  faithful_move w t x log exports a (Learns d k n) =
      polled_keeps (λ y. IsFaithful w.catalog (tables_at w y.snapshot) (record y { known = true })) w t
      (fresh_from w.catalog (tables_at w t.snapshot) (tables_at w t.snapshot) t (record t { known = true }) a (inl (waits t d k)) refl refl refl refl (a.own ∙ ap (λ xs. put_all xs (tables_at w t.snapshot)) (a.fresh (inl (waits t d k))).2))
      (fresh_from w.catalog (tables_at w t.snapshot) (tables_at w (commits w)) t (record (with_snapshot w (commits w) (w.place + 1) t) { known = true }) a (inl (waits t d k)) refl refl refl refl refl)
  faithful_move w t x log exports a (Imports i y r k e) = fresh_from w.catalog (tables_at w t.snapshot) (tables_at w y.snapshot) t (import (Some y) w t) a (inr k) refl refl refl refl refl

  -- ---- all transactions

  pub record AllFaithful (w : World A) : Type 0 where
    pub each : (t : Txn A) → In t w.txns → IsFaithful w.catalog (tables_at w t.snapshot) t

  -- what a snapshot shows stays, however many commits follow
  pub same_tables : (w : World A) (more : List (Txn A)) (n : ℕ) → n ≤ commits w → with_all (take (n - w.base.commits) (w.log ++ more)) w.opening ≡ tables_at w n
  same_tables w more n h = ap (λ ts. with_all ts w.opening) (take-append-le (n - w.base.commits) w.log more (omega (arith, h)))

  grown : (w : World A) (t x : Txn A) (log : List (Txn A)) (exports : List Exported_snapshot) → Move w t x log exports → (more : List (Txn A)) × (log ≡ w.log ++ more)
  grown w t x log exports (Commits e) = go (is_read_write t.mode)
    where
      go : (b : Bool) → (more : List (Txn A)) × (cond b (w.log ++ numbered w t ∷ []) w.log ≡ w.log ++ more)
      go true = (numbered w t ∷ [], refl)
      go false = ([], sym (append-nil w.log))
  grown w t x log exports Stays = ([], sym (append-nil w.log))
  grown w t x log exports Fails = ([], sym (append-nil w.log))
  grown w t x log exports Aborts = ([], sym (append-nil w.log))
  grown w t x log exports (Runs q fits a b d) = ([], sym (append-nil w.log))
  grown w t x log exports (Asks a) = ([], sym (append-nil w.log))
  grown w t x log exports (Polls a b) = ([], sym (append-nil w.log))
  grown w t x log exports (Learns a b d) = ([], sym (append-nil w.log))
  grown w t x log exports (Imports i y a b e) = ([], sym (append-nil w.log))

  moved_shown : (w : World A) (t x : Txn A) (log : List (Txn A)) (exports : List Exported_snapshot) → IsNumbered w → t.snapshot ≤ commits w → Move w t x log exports → x.snapshot ≤ commits w
  moved_shown w t x log exports inv h (Commits e) = go (is_read_write t.mode)
    where
      go : (b : Bool) → (cond b (record (ended w Done t) { commit = commits w + 1 }) (ended w Done t)).snapshot ≤ commits w
      go true = h
      go false = h
  moved_shown w t x log exports inv h (Polls a b) = polled_keeps (λ y. y.snapshot ≤ commits w) w t h (omega arith)
  moved_shown w t x log exports inv h (Learns a b d) = polled_keeps (λ y. y.snapshot ≤ commits w) w t h (omega arith)
  moved_shown w t x log exports inv h (Imports i y a b e) = (inv.exports y (find-In _ w.exports y e).0).1
  moved_shown w t x log exports inv h Stays = h
  moved_shown w t x log exports inv h Fails = h
  moved_shown w t x log exports inv h Aborts = h
  moved_shown w t x log exports inv h (Runs q fits a b d) = h
  moved_shown w t x log exports inv h (Asks a) = h

  pub faithful_step : (w v : World A) → IsNumbered w → AllFaithful w → Step w v → AllFaithful v
  faithful_step w v inv all Nothing = record { each = all.each }
  faithful_step w v inv all (Begins s m) = record { each = λ t i. each t (In-append (λ (_ : Txn A). (0, 0, 0)) t w.txns (begun w s m ∷ []) i) }
    where
      each : (t : Txn A) → In t w.txns ⊎ ((t ≡ begun w s m) ⊎ ⊥) → IsFaithful w.catalog (tables_at w t.snapshot) t
      each t (inl i) = all.each t i
      each t (inr (inl p)) = subst (λ (y : Txn A). IsFaithful w.catalog (tables_at w y.snapshot) y) (sym p) (record { along = (refl, refl, refl); own = refl; fresh = λ _. (refl, refl, refl, refl); read_only = λ _. refl })
      each t (inr (inr p)) = absurd p
  faithful_step w v inv all (Moves s t x log exports c o move) = record { each = λ u i. each u (In-replaced u x w.txns i) }
    where
      g : (more : List (Txn A)) × (log ≡ w.log ++ more)
      g = grown w t x log exports move

      i : In t w.txns
      i = (current_in w s t c).0

      here : (u : Txn A) → u.snapshot ≤ commits w → IsFaithful w.catalog (tables_at w u.snapshot) u → IsFaithful w.catalog (with_all (take (u.snapshot - w.base.commits) log) w.opening) u
      here u h a = subst (λ B. IsFaithful w.catalog B u) (sym (ap (λ l. with_all (take (u.snapshot - w.base.commits) l) w.opening) g.1 ∙ same_tables w g.0 u.snapshot h)) a

      moved : IsFaithful w.catalog (with_all (take (x.snapshot - w.base.commits) log) w.opening) x
      moved = here x (moved_shown w t x log exports inv (inv.shown t i).1 move) (faithful_move w t x log exports (all.each t i) move)

      each : (u : Txn A) → (u ≡ x) ⊎ In u w.txns × (eqb u.number x.number ≡ false) → IsFaithful w.catalog (with_all (take (u.snapshot - w.base.commits) log) w.opening) u
      each u (inl p) = subst (λ (y : Txn A). IsFaithful w.catalog (with_all (take (y.snapshot - w.base.commits) log) w.opening) y) (sym p) moved
      each u (inr j) = here u (inv.shown u j.0).1 (all.each u j.0)
  faithful_step w v inv all (Settles s t st c o d o' d') = record { each = λ u i. each u (In-replaced u (record t { standing = st }) w.txns i) }
    where
      a : IsFaithful w.catalog (tables_at w t.snapshot) t
      a = all.each t (current_in w s t c).0

      each : (u : Txn A) → (u ≡ record t { standing = st }) ⊎ In u w.txns × (eqb u.number t.number ≡ false) → IsFaithful w.catalog (tables_at w u.snapshot) u
      each u (inl p) = subst (λ (y : Txn A). IsFaithful w.catalog (tables_at w y.snapshot) y) (sym p) (record { along = a.along; own = a.own; fresh = a.fresh; read_only = a.read_only })
      each u (inr j) = all.each u j.0
  faithful_step w v inv all (Dooms cs) = record { each = λ u i. let x = In-doomed w.place cs u w.txns i in each x.0 u x.2 (all.each x.0 x.1) }
    where
      each : (t u : Txn A) → Fate w.place t u → IsFaithful w.catalog (tables_at w t.snapshot) t → IsFaithful w.catalog (tables_at w u.snapshot) u
      each t u Spared a = a
      each t u (Over c o) a = record { along = a.along; own = a.own; fresh = a.fresh; read_only = a.read_only }
