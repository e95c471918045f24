-- Each refusal of a legal history because of other transactions is explained by what is told of them.
use Rattle.std.proofs.Common.{◌≡◌, refl, sym, ap, subst, ◌∙◌, ℕ, zero, suc, ◌+◌, ◌-◌, ◌<◌, ◌≤◌, Bool, true, false, true≢false, cond, not, ◌&&◌, ◌||◌, ◌⊎◌, inl, inr, List, [], ◌∷◌, ◌++◌, length, map, Option, Some, None, is_some, if◌then◌else◌, eqb, nat_lt, arith}
use Rattle.std.proofs.lemmas.Bool.{and_from, and_parts, eq-eqb, eqb-true, lt-ltb, ltb-true, ne_eqb, or_cases, or_left, or_right}
use Rattle.std.specs.Cmp.{second_so}
use Rattle.std.specs.List.{find, list_any, position}
use Rattle.value.specs.declared.refusal.Cause.{Cause}
use Rattle.value.specs.declared.refusal.Code.{Code}
use Rattle.value.specs.declared.refusal.Code.TheVariants as code
use Rattle.value.specs.declared.refusal.Refusal.{Refusal}
use Rattle.value.proofs.IsolationLemmas.{In}
use Rattle.value.proofs.SerialLemmas.{NumberedFrom-above}
use Rattle.schema.specs.declared.changes.Change.{Change}
use Rattle.schema.specs.declared.row.Row.{Row}
use Rattle.schema.specs.declared.tables.Tables.{Tables}
use Rattle.schema.specs.Definition.{Catalog}
use Rattle.schema.specs.Plain.{columns_of, row_at}
use Rattle.statement.specs.declared.outcome.Outcome.{Outcome}
use Rattle.statement.specs.declared.reply.Reply.{Reply}
use Rattle.statement.specs.declared.reply.Reply.TheVariants.{Exported, Imported, Inserted, Refused, Safe, Updated, Deleted, Wait}
use Rattle.statement.specs.declared.statement.Statement.{Statement}
use Rattle.statement.specs.declared.statement.Statement.TheVariants.{Select, Insert, Update, Delete}
use Rattle.statement.specs.Conditions.{chosen}
use Rattle.statement.specs.Evaluation.{assigned_lacks_row, assigned_lacks_value, assigned_out_of_range, at_column, at_table, first_bad, lacks_row, lacks_value, least_column, least_table, outcome, puts, removes, updated, updated_row, writes, writes_rows, ◌or_else◌}
use Rattle.history.specs.declared.base.Base.{Base}
use Rattle.history.specs.declared.event.Action.{Action}
use Rattle.history.specs.declared.event.Action.TheVariants.{Begin, Run, Broken, Poll, Export, Import, Commit, Rollback, Prune}
use Rattle.history.specs.declared.event.Record.{Record}
use Rattle.history.specs.Opening.{Opening}
use Rattle.history.specs.Transactions.{Standing, Open, Doomed, Failed, Aborted, Done, Txn, World, current, edge, exported, is_deferrable, is_of, is_open, is_owed, is_pending, is_read_only, is_read_write, must_wait}
use Rattle.history.specs.Events.{follows, next_identifier, polled, start, world_of}
use Rattle.history.specs.Answer.{Allowed, IsAnswered, Legal, cause_of, commit_reply, doomed, failed, has_written, idle, is_refused, is_taken, is_unseen, meets_another, open_reply, refuses, refuses_row, reply_from, reply_in, reply_of}
use Rattle.serial.proofs.legal.Histories.{run-catalog}
use Rattle.serial.proofs.legal.Later.{legal_begins, legal_rest, run-append}
use Rattle.serial.proofs.legal.Legal.{current_in, legal_steps}
use Rattle.serial.proofs.order.SerialTheorem.{good_world}
use Rattle.retrace.specs.Dooms as dooms
use Rattle.retrace.specs.Reasons.{Explains, ShowsRow, ShowsStructure, is_broken}
use Rattle.retrace.specs.Lives.{is_failure_code}
use Rattle.retrace.specs.Past as tale
use Rattle.retrace.specs.Past.{Bygone, after_all, followed, followed_by, retraced, turned_at, unbegun, when}
use Rattle.retrace.specs.Runs.{Going, changes_of, is_its, over}
use Rattle.retrace.specs.Runs as runs
use Rattle.retrace.specs.declared.run.When.{When}
use Rattle.retrace.specs.Told.{PlaceByPlace, TellAll, TellEdge, TellEdges, Tells, committing_now}
use Rattle.retrace.specs.Trails.{Trail}
use Rattle.retrace.specs.Why as why
use Rattle.retrace.specs.Why.{danger_of, edge_of, is_numbered, is_rival, is_taken as is_row_taken, taken}
use Rattle.retrace.proofs.told.Causes.{Shows, dooms-shown, no_number, owed_not_done, shows-commit, shows-steps}
use Rattle.retrace.proofs.told.Conflicts.{conflicts_told}
use Rattle.retrace.proofs.told.Events.{Follows}
use Rattle.retrace.proofs.told.Histories.{all_told, at_start, legally, run-base, told_here}
use Rattle.retrace.proofs.told.Places.{At, AtBoth, Current, Nobody, Numbered, current_both}
use Rattle.retrace.proofs.told.Shown.{any-In, found}
use Rattle.retrace.proofs.told.Turns.{written}

any-found : {X : Type 0} (p : X → Bool) (xs : List X) → list_any p xs ≡ true → (x : X) × In x xs × (p x ≡ true)
any-found p [] e = absurd (true≢false (sym e))
any-found {X} p (x ∷ xs) e = go (p x) refl (any-found p xs) e
  where
    go : (b : Bool) → p x ≡ b → (list_any p xs ≡ true → (y : X) × In y xs × (p y ≡ true)) → (b || list_any p xs) ≡ true → (y : X) × In y (x ∷ xs) × (p y ≡ true)
    go true q rest h = (x, inl refl, q)
    go false q rest h = let r = rest h in (r.0, inr r.1, r.2)

module _ {A : Type 0} where
  -- ---- the transaction of a number

  beside : (R : Going A → Txn A → Type 0) (S : Going A → Txn A → Type 0) (gs : List (Going A)) (ts : List (Txn A)) → PlaceByPlace R gs ts → PlaceByPlace S gs ts → PlaceByPlace (λ g t. R g t × S g t) gs ts
  beside R S [] [] r s = tt
  beside R S [] (t ∷ ts) r s = absurd r
  beside R S (g ∷ gs) [] r s = absurd r
  beside R S (g ∷ gs) (t ∷ ts) r s = ((r.0, s.0), beside R S gs ts r.1 s.1)

  number-found : (b : Base) (R : Going A → Txn A → Type 0) (n : ℕ) (gs : List (Going A)) (ts : List (Txn A)) (t : Txn A) → b.transactions ≤ n → PlaceByPlace (λ g u. Tells b g u × R g u) gs ts → Numbered n ts → In t ts
      → (g : Going A) × (why.numbered b.transactions t.number gs ≡ Some g) × R g t
  number-found b R n [] [] t l r m i = absurd i
  number-found b R n [] (u ∷ ts) t l r m i = absurd r
  number-found b R n (g ∷ gs) [] t l r m i = absurd r
  number-found b R n (g ∷ gs) (u ∷ ts) t l r m (inl p) = (g, ap (λ c. cond c (Some g) (find (is_numbered b.transactions t.number) gs)) is, subst (R g) (sym p) r.0.1)
    where
      number : b.transactions + g.trace.number ≡ t.number
      number = r.0.0.number ∙ sym (ap (λ (v : Txn A). v.number) p)

      above : b.transactions < t.number
      above = let q : t.number ≡ u.number = ap (λ (v : Txn A). v.number) p in omega (arith, m.0)

      is : is_numbered b.transactions t.number g ≡ true
      is = and_from (nat_lt b.transactions t.number) (eqb g.trace.number (t.number - b.transactions)) (lt-ltb b.transactions t.number above) (eq-eqb g.trace.number (t.number - b.transactions) (omega (arith, number)))
  number-found b R n (g ∷ gs) (u ∷ ts) t l r m (inr i) =
      let q = number-found b R (n + 1) gs ts t (omega arith) r.1 m.1 i in
      (q.0, ap (λ c. cond c (Some g) (find (is_numbered b.transactions t.number) gs)) (other (NumberedFrom-above (λ (v : Txn A). v.number) (n + 1) ts t m.1 i)) ∙ q.1, q.2)
    where
      other : n + 1 < t.number → is_numbered b.transactions t.number g ≡ false
      other a = ap (λ c. nat_lt b.transactions t.number && c) (ne_eqb g.trace.number (t.number - b.transactions) (λ e. omega (arith, e, a, r.0.0.number, m.0, l))) ∙ none (nat_lt b.transactions t.number)
        where
          none : (c : Bool) → (c && false) ≡ false
          none true = refl
          none false = refl

  -- ---- structures

  edge-found : (w : World A) (gs : List (Going A)) → TellAll w.base gs w.txns → TellEdges w gs → Numbered w.base.transactions w.txns → (t u : Txn A) → In t w.txns → In u w.txns → edge t (committing_now w u) ≡ true
      → is_some (edge_of w.base.transactions gs t.number u.number) ≡ true
  edge-found w gs all edges m t u ti ui e =
      let x = number-found w.base (λ g v. PlaceByPlace (TellEdge w g v) gs w.txns) w.base.transactions gs w.txns t (omega arith) (beside (Tells w.base) (λ g v. PlaceByPlace (TellEdge w g v) gs w.txns) gs w.txns all edges) m ti in
      let y = number-found w.base (TellEdge w x.0 t) w.base.transactions gs w.txns u (omega arith) (beside (Tells w.base) (TellEdge w x.0 t) gs w.txns all x.2) m ui in
      ap (λ o. is_some (why.edge_from o (why.numbered w.base.transactions u.number gs))) x.1 ∙ ap (λ o. is_some (why.edge_to x.0.trace o)) y.1 ∙ y.2 ∙ e

  structure-found : (w : World A) (gs : List (Going A)) (k : Cause) → TellAll w.base gs w.txns → TellEdges w gs → Numbered w.base.transactions w.txns → Shows w k → ShowsStructure w.base.transactions gs k
  structure-found w gs k all edges m h = (
    ap (λ n. is_some (edge_of w.base.transactions gs n k.b.0)) (sym h.a_is) ∙ ap (λ n. is_some (edge_of w.base.transactions gs h.a.number n)) (sym h.b_is) ∙ edge-found w gs all edges m h.a h.b h.a_in h.b_in h.first,
    ap (λ n. is_some (edge_of w.base.transactions gs n k.c.0)) (sym h.b_is) ∙ ap (λ n. is_some (edge_of w.base.transactions gs h.b.number n)) (sym h.c_is) ∙ edge-found w gs all edges m h.b h.c h.b_in h.c_in h.second,
  )

  -- ---- faults of statements

  -- a refusal for another reason
  abbrev Own : Reply A → Type 0
  Own (Refused r) = is_failure_code r.code ≡ false
  Own _ = Unit {0}

  column-own : (c : Code) (o : Option ℕ) (other : Outcome A) → is_failure_code c ≡ false → Own other.reply → Own (at_column c o or_else other).reply
  column-own c None other e h = h
  column-own c (Some n) other e h = e

  table-own : (c : Code) (o : Option ℕ) (other : Outcome A) → is_failure_code c ≡ false → Own other.reply → Own (at_table c o or_else other).reply
  table-own c None other e h = h
  table-own c (Some n) other e h = e

  outcome-own : (c : Catalog) (q : Statement A) (X : Tables A) → Own (outcome c q X).reply
  outcome-own c (Select t p conditions) X = tt
  outcome-own c (Insert t []) X = tt
  outcome-own c (Insert t (k ∷ fields)) X =
      column-own code.NotNullViolation (least_column lacks_value 0 (columns_of c t) (k ∷ fields))
      (at_column code.UniqueViolation (if is_some (row_at X t k) then Some 0 else None) or_else at_column code.ForeignKeyViolation (least_column (lacks_row X) 0 (columns_of c t) (k ∷ fields)) or_else writes_rows c X Inserted (puts t (k, fields) ∷ [])) refl
      (column-own code.UniqueViolation (if is_some (row_at X t k) then Some 0 else None)
      (at_column code.ForeignKeyViolation (least_column (lacks_row X) 0 (columns_of c t) (k ∷ fields)) or_else writes_rows c X Inserted (puts t (k, fields) ∷ [])) refl
      (column-own code.ForeignKeyViolation (least_column (lacks_row X) 0 (columns_of c t) (k ∷ fields)) (writes_rows c X Inserted (puts t (k, fields) ∷ [])) refl tt))
  outcome-own c (Update t more conditions) X = updated-own (chosen X t conditions)
    where
      updated-own : (rows : List (Row A)) → Own (updated c t more rows X).reply
      updated-own rows =
          column-own code.NotNullViolation (first_bad (assigned_lacks_value more) (columns_of c t) (map (updated_row more) rows))
          (at_column code.NumericValueOutOfRange (first_bad (assigned_out_of_range more) (columns_of c t) (map (updated_row more) rows)) or_else at_column code.ForeignKeyViolation (first_bad (assigned_lacks_row X more) (columns_of c t) (map (updated_row more) rows)) or_else writes_rows c X (Updated (length rows)) (map (λ row. puts t (updated_row more row)) rows)) refl
          (column-own code.NumericValueOutOfRange (first_bad (assigned_out_of_range more) (columns_of c t) (map (updated_row more) rows))
          (at_column code.ForeignKeyViolation (first_bad (assigned_lacks_row X more) (columns_of c t) (map (updated_row more) rows)) or_else writes_rows c X (Updated (length rows)) (map (λ row. puts t (updated_row more row)) rows)) refl
          (column-own code.ForeignKeyViolation (first_bad (assigned_lacks_row X more) (columns_of c t) (map (updated_row more) rows)) (writes_rows c X (Updated (length rows)) (map (λ row. puts t (updated_row more row)) rows)) refl tt))
  outcome-own c (Delete t conditions) X = table-own code.ForeignKeyViolation (least_table t (chosen X t conditions) 0 c X) (writes_rows c X (Deleted (length (chosen X t conditions))) (map (removes t) (chosen X t conditions))) refl tt

  -- ---- a row that another has

  taken-is : (gs : List (Going A)) (t : Trail A) (x : Change A) → list_any (is_rival t x) gs ≡ true → is_row_taken gs t x ≡ true
  unfolding is_row_taken
  taken-is gs t x e = e

  -- nobody is doomed
  spared-in : (h : Going A) (gs : List (Going A)) → In h gs → In h (map (dooms.doomed_by []) gs)
  spared-in h [] i = absurd i
  spared-in h (g ∷ gs) (inl p) = inl p
  spared-in h (g ∷ gs) (inr i) = inr (spared-in h gs i)

  places-in : (R : Going A → Txn A → Type 0) (gs : List (Going A)) (ts : List (Txn A)) (u : Txn A) → PlaceByPlace R gs ts → In u ts → (h : Going A) × In h gs × R h u
  places-in R [] [] u r i = absurd i
  places-in R [] (t ∷ ts) u r i = absurd r
  places-in R (g ∷ gs) [] u r i = absurd r
  places-in R (g ∷ gs) (t ∷ ts) u r (inl p) = (g, inl refl, subst (R g) (sym p) r.0)
  places-in R (g ∷ gs) (t ∷ ts) u r (inr i) = let q = places-in R gs ts u r.1 i in (q.0, inr q.1, q.2)

  turned-in : (f : Going A → Going A) (i : ℕ) (g : Going A) (t : Txn A) (gs : List (Going A)) (ts : List (Txn A)) → AtBoth i g t gs ts → In (f g) (turned_at i f gs)
  turned-in f zero g t (h ∷ gs) (u ∷ ts) a = inl (ap f (sym a.0))
  turned-in f (suc i) g t (h ∷ gs) (u ∷ ts) a = inr (turned-in f i g t gs ts a)
  turned-in f zero g t [] ts a = absurd a
  turned-in f zero g t (h ∷ gs) [] a = absurd a
  turned-in f (suc i) g t [] ts a = absurd a
  turned-in f (suc i) g t (h ∷ gs) [] a = absurd a

  -- another transaction is told as before
  others-in : (R : Going A → Txn A → Type 0) (f : Going A → Going A) (i : ℕ) (g : Going A) (t u : Txn A) (gs : List (Going A)) (ts : List (Txn A)) → PlaceByPlace R gs ts → AtBoth i g t gs ts → In u ts → (u.number ≡ t.number → ⊥) → (h : Going A) × In h (turned_at i f gs) × R h u
  others-in R f zero g t u (h ∷ gs) (v ∷ ts) r a (inl p) n = absurd (n (ap (λ (x : Txn A). x.number) (p ∙ a.1)))
  others-in R f zero g t u (h ∷ gs) (v ∷ ts) r a (inr i) n = let q = places-in R gs ts u r.1 i in (q.0, inr q.1, q.2)
  others-in R f (suc j) g t u (h ∷ gs) (v ∷ ts) r a (inl p) n = (h, inl refl, subst (R h) (sym p) r.0)
  others-in R f (suc j) g t u (h ∷ gs) (v ∷ ts) r a (inr i) n = let q = others-in R f j g t u gs ts r.1 a i n in (q.0, inr q.1, q.2)
  others-in R f zero g t u [] ts r a i n = absurd a
  others-in R f zero g t u (h ∷ gs) [] r a i n = absurd a
  others-in R f (suc j) g t u [] ts r a i n = absurd a
  others-in R f (suc j) g t u (h ∷ gs) [] r a i n = absurd a

  rival-told : (b : Base) (g h : Going A) (t u : Txn A) (x : Change A) → Tells b g t → Tells b h u → must_wait t ≡ false → is_taken t u x ≡ true → is_rival g.trace x h ≡ true
  rival-told b g h t u x k l m e =
      let p = and_parts (not (eqb u.number t.number) && is_unseen t u) (has_written u x) e in
      let q = and_parts (not (eqb u.number t.number)) (is_unseen t u) p.0 in
      and_from (not (eqb h.trace.number g.trace.number) && why.is_unseen g.trace h) (why.has_written x h)
      (and_from (not (eqb h.trace.number g.trace.number)) (why.is_unseen g.trace h) (other (eqb h.trace.number g.trace.number) refl q.0) (unseen (or_cases (is_open u.standing) (nat_lt t.snapshot u.commit) q.1)))
      (ap (λ xs. list_any (why.is_of_key x) xs) l.changes ∙ p.1)
    where
      other : (c : Bool) → eqb h.trace.number g.trace.number ≡ c → not (eqb u.number t.number) ≡ true → not c ≡ true
      other false d n = refl
      other true d n = absurd (true≢false (sym n ∙ ap not (eq-eqb u.number t.number (sym l.number ∙ ap (λ z. b.transactions + z) (eqb-true h.trace.number g.trace.number d) ∙ k.number))))

      later : t.snapshot < u.commit → g.trace.snapshot < h.trace.commit
      later s = go (eqb h.trace.commit 0) refl
        where
          go : (c : Bool) → eqb h.trace.commit 0 ≡ c → g.trace.snapshot < h.trace.commit
          go true d = absurd (let z : 0 ≡ u.commit = ap (λ c. cond c 0 (b.commits + h.trace.commit)) (sym d) ∙ l.commit in omega (arith, s, z))
          go false d = let z : b.commits + h.trace.commit ≡ u.commit = ap (λ c. cond c 0 (b.commits + h.trace.commit)) (sym d) ∙ l.commit in omega (arith, s, z, k.snapshot m)

      unseen : (is_open u.standing ≡ true) ⊎ (nat_lt t.snapshot u.commit ≡ true) → (h.active || nat_lt g.trace.snapshot h.trace.commit) ≡ true
      unseen (inl o) = or_left h.active (nat_lt g.trace.snapshot h.trace.commit) (l.active ∙ o)
      unseen (inr o) = or_right h.active (nat_lt g.trace.snapshot h.trace.commit) (lt-ltb g.trace.snapshot h.trace.commit (later (ltb-true t.snapshot u.commit o)))

  row-found : (w : World A) (s i : ℕ) (g g' : Going A) (t : Txn A) (gs : List (Going A)) (xs : List (Change A)) (f : Going A → Going A) → TellAll w.base gs w.txns → AtBoth i g t gs w.txns → Tells w.base g t → is_of s t ≡ true → must_wait t ≡ false → meets_another w t xs ≡ true
      → g' ≡ over (record g { refused = xs }) → f g ≡ g' → ShowsRow (map (dooms.doomed_by []) (turned_at i f gs)) s
  row-found w s i g g' t gs xs f all at k own m e is turned =
      any-In (λ h. is_its s h && is_some (taken all_after h)) all_after g' (spared-in g' (turned_at i f gs) (subst (λ h. In h (turned_at i f gs)) turned (turned-in f i g t gs w.txns at)))
      (subst (λ h. (is_its s h && is_some (taken all_after h)) ≡ true) (sym is) (and_from (eqb g.trace.session s && g.owed) (is_some (find (is_row_taken all_after g.trace) xs)) its shown))
    where
      all_after : List (Going A)
      all_after = map (dooms.doomed_by []) (turned_at i f gs)

      its : (eqb g.trace.session s && g.owed) ≡ true
      its = ap (λ n. eqb n s && g.owed) k.session ∙ ap (λ o. eqb t.session s && o) k.owed ∙ own

      rival : (x : Change A) → list_any (λ u. is_taken t u x) w.txns ≡ true → list_any (is_rival g.trace x) all_after ≡ true
      rival x h =
          let u = any-found (λ u. is_taken t u x) w.txns h in
          let o = others-in (Tells w.base) f i g t u.0 gs w.txns all at u.1 (differs u.0 u.2) in
          any-In (is_rival g.trace x) all_after o.0 (spared-in o.0 (turned_at i f gs) o.1) (rival-told w.base g o.0 t u.0 x k o.2 m u.2)
        where
          differs : (u : Txn A) → is_taken t u x ≡ true → u.number ≡ t.number → ⊥
          differs u p n = true≢false (sym (and_parts (not (eqb u.number t.number)) (is_unseen t u) (and_parts (not (eqb u.number t.number) && is_unseen t u) (has_written u x) p).0).0 ∙ ap not (eq-eqb u.number t.number n))

      shown : is_some (find (is_row_taken all_after g.trace) xs) ≡ true
      shown =
          let x = any-found (λ x. list_any (λ u. is_taken t u x) w.txns) xs e in
          let y = found (is_row_taken all_after g.trace) xs x.0 x.1 (taken-is all_after g.trace x.0 (rival x.0 x.2)) in
          ap is_some y.1

  -- ---- any refusal

  -- what is due for a reply
  abbrev Due : ℕ → List (Going A) → ℕ → Reply A → Type 0
  Due base gs s (Refused r) = is_failure_code r.code ≡ true → Explains base gs s r.place
  Due base gs s _ = Unit {0}

  own-due : (base : ℕ) (gs : List (Going A)) (s : ℕ) (r : Reply A) → Own r → Due base gs s r
  own-due base gs s (Refused r) h = λ e. absurd (true≢false (sym e ∙ h))
  own-due base gs s _ h = tt

  idle-due : (base : ℕ) (gs : List (Going A)) (s : ℕ) (a : Action A) → Due base gs s (idle a)
  idle-due base gs s (Begin m) = tt
  idle-due base gs s Prune = tt
  idle-due base gs s _ = λ e. absurd (true≢false (sym e))

  failed-due : (base : ℕ) (gs : List (Going A)) (s : ℕ) (a : Action A) → Due base gs s (failed a)
  failed-due base gs s Commit = tt
  failed-due base gs s Rollback = tt
  failed-due base gs s Prune = tt
  failed-due base gs s _ = λ e. absurd (true≢false (sym e))

  doomed-due : (base : ℕ) (gs : List (Going A)) (s : ℕ) (k : Cause) (a : Action A) → ShowsStructure base gs k → Due base gs s (doomed k a)
  doomed-due base gs s k (Begin m) h = λ e. absurd (true≢false (sym e))
  doomed-due base gs s k Rollback h = tt
  doomed-due base gs s k Prune h = tt
  doomed-due base gs s k _ h = λ _. h

  commit-due : (base : ℕ) (gs : List (Going A)) (s : ℕ) (o : Option Cause) → ((k : Cause) → o ≡ Some k → ShowsStructure base gs k) → Due base gs s (commit_reply o)
  commit-due base gs s None h = tt
  commit-due base gs s (Some k) h = λ _. h k refl

  module _ (w : World A) (s : ℕ) (base : ℕ) (gs : List (Going A)) (t : Txn A) where
    run-due : (q : Statement A) → (must_wait t ≡ false → (writes q && not (is_read_write t.mode)) ≡ false → is_refused (outcome w.catalog q t.own).reply ≡ false → meets_another w t (outcome w.catalog q t.own).changes ≡ true → ShowsRow gs s) → Due base gs s (open_reply w t (Run q))
    run-due q h = first (must_wait t) refl
      where
        out : Reply A
        out = (outcome w.catalog q t.own).reply

        fourth : must_wait t ≡ false → (writes q && not (is_read_write t.mode)) ≡ false → is_refused out ≡ false → (b : Bool) → meets_another w t (outcome w.catalog q t.own).changes ≡ b → Due base gs s (cond b refuses_row out)
        fourth e f n true p = λ _. h e f n p
        fourth e f n false p = own-due base gs s out (outcome-own w.catalog q t.own)

        third : must_wait t ≡ false → (writes q && not (is_read_write t.mode)) ≡ false → (b : Bool) → is_refused out ≡ b → Due base gs s (cond b out (cond (meets_another w t (outcome w.catalog q t.own).changes) refuses_row out))
        third e f true n = own-due base gs s out (outcome-own w.catalog q t.own)
        third e f false n = fourth e f n (meets_another w t (outcome w.catalog q t.own).changes) refl

        second : must_wait t ≡ false → (b : Bool) → (writes q && not (is_read_write t.mode)) ≡ b → Due base gs s (cond b (refuses code.ReadOnlySqlTransaction) (cond (is_refused out) out (cond (meets_another w t (outcome w.catalog q t.own).changes) refuses_row out)))
        second e true f = λ d. absurd (true≢false (sym d))
        second e false f = third e f (is_refused out) refl

        first : (b : Bool) → must_wait t ≡ b → Due base gs s (cond b (refuses code.ObjectNotInPrerequisiteState) (cond (writes q && not (is_read_write t.mode)) (refuses code.ReadOnlySqlTransaction) (cond (is_refused out) out (cond (meets_another w t (outcome w.catalog q t.own).changes) refuses_row out))))
        first true e = λ d. absurd (true≢false (sym d))
        first false e = second e (writes q && not (is_read_write t.mode)) refl

    poll-due : Due base gs s (open_reply w t Poll)
    poll-due = first (is_deferrable t.mode) t.known (is_pending w.txns (polled w t))
      where
        first : (b c d : Bool) → Due base gs s (cond (not b) (refuses code.ObjectNotInPrerequisiteState) (cond c (Safe t.snapshot) (cond d Wait (Safe (polled w t).snapshot))))
        first false c d = λ e. absurd (true≢false (sym e))
        first true true d = tt
        first true false true = tt
        first true false false = tt

    export-due : Due base gs s (open_reply w t Export)
    export-due = go (must_wait t)
      where
        go : (b : Bool) → Due base gs s (cond b (refuses code.ObjectNotInPrerequisiteState) (Exported (next_identifier w)))
        go true = λ e. absurd (true≢false (sym e))
        go false = tt

    import-due : (i : ℕ) → Due base gs s (open_reply w t (Import i))
    import-due i = go (is_read_only t.mode) t.asked (is_some (exported w i))
      where
        go : (b c d : Bool) → Due base gs s (cond (not b) (refuses code.ObjectNotInPrerequisiteState) (cond c (refuses code.ActiveSqlTransaction) (cond d Imported (refuses code.ObjectNotInPrerequisiteState))))
        go false c d = λ e. absurd (true≢false (sym e))
        go true true d = λ e. absurd (true≢false (sym e))
        go true false true = tt
        go true false false = λ e. absurd (true≢false (sym e))

    open-due : (a : Action A) → is_broken a ≡ false → ((q : Statement A) → a ≡ Run q → must_wait t ≡ false → (writes q && not (is_read_write t.mode)) ≡ false → is_refused (outcome w.catalog q t.own).reply ≡ false → meets_another w t (outcome w.catalog q t.own).changes ≡ true → ShowsRow gs s)
        → ((k : Cause) → cause_of w t ≡ Some k → ShowsStructure base gs k) → Due base gs s (open_reply w t a)
    open-due (Begin m) n h c = λ e. absurd (true≢false (sym e))
    open-due (Run q) n h c = run-due q (h q refl)
    open-due (Broken r) n h c = absurd (true≢false n)
    open-due Poll n h c = poll-due
    open-due Export n h c = export-due
    open-due (Import i) n h c = import-due i
    open-due Commit n h c = commit-due base gs s (cause_of w t) c
    open-due Rollback n h c = tt
    open-due Prune n h c = tt

  -- ---- a legal history

  after_all-push : (c : Catalog) (n : ℕ) (es : List (Record A)) (e : Record A) (p : Bygone A) → after_all c n (es ++ e ∷ []) p ≡ followed c n e (after_all c n es p)
  after_all-push c n [] e p = refl
  after_all-push c n (d ∷ es) e p = after_all-push c n es e (followed c n d p)

  module _ (o : Opening A) (es : List (Record A)) (s : ℕ) (a : Action A) (own : is_broken a ≡ false) (l : Legal o es) (fits : Allowed (world_of o es).catalog a) where
    abbrev w : World A
    w = world_of o es

    abbrev due_reply : Reply A
    due_reply = reply_in w s a

    abbrev entry : Record A
    entry = record { session = s; action = a; reply = due_reply }

    abbrev p : Bygone A
    p = after_all o.catalog o.base.commits es (unbegun o)

    abbrev gs : List (Going A)
    gs = retraced o (es ++ entry ∷ [])

    follows-w : Follows w p
    follows-w = all_told o [] es (unbegun o) l (at_start o)

    structure-due : Legal o (es ++ entry ∷ []) → (k : Cause) → Shows w k → ShowsStructure o.base.transactions gs k
    structure-due more k h = subst (λ (b : Base). ShowsStructure b.transactions gs k) (run-base (start o) (es ++ entry ∷ []))
        (structure-found (world_of o (es ++ entry ∷ [])) gs k (told_here o (es ++ entry ∷ []) more) (conflicts_told o (es ++ entry ∷ []) more) (all_told o [] (es ++ entry ∷ []) (unbegun o) more (at_start o)).numbers
        (subst (λ v. Shows v k) (sym (run-append (start o) es (entry ∷ []))) (shows-steps w (follows w entry) k (good_world o es l) (legal_steps w s a fits) h)))

    abbrev v : When
    v = when o.base.commits (p.place + 1) a p.commits p.lent

    -- a statement that meets another's row
    row-due : (i : ℕ) (g : Going A) (t : Txn A) → AtBoth i g t p.runs w.txns → Tells w.base g t → current w s ≡ Some t → t.standing ≡ Open → gs ≡ tale.all_turned o.catalog v entry i p.runs
        → (q : Statement A) → a ≡ Run q → must_wait t ≡ false → (writes q && not (is_read_write t.mode)) ≡ false → is_refused (outcome w.catalog q t.own).reply ≡ false → meets_another w t (outcome w.catalog q t.own).changes ≡ true → ShowsRow gs s
    row-due i g t at k c st is q b m wr n e = subst (λ hs. ShowsRow hs s) (sym (is ∙ ap (λ d. dooms.all_doomed (dooms.causes_of d due_reply p.runs (tale.at_place i p.runs)) (turned_at i (tale_turned d) p.runs)) b))
        (row-found w s i g (over (record g { refused = xs })) t p.runs xs (tale_turned (Run q)) follows-w.runs at k (current_in w s t c).1 m e refl turned)
      where
        xs : List (Change A)
        xs = (outcome w.catalog q t.own).changes

        tale_turned : Action A → Going A → Going A
        tale_turned d = runs.turned o.catalog v d due_reply

        reply : due_reply ≡ refuses_row
        reply = ap (λ x. reply_of w x a) c ∙ ap (λ z. reply_from z w t a) st ∙ ap (open_reply w t) b
            ∙ ap (λ x. cond x (refuses code.ObjectNotInPrerequisiteState) (cond (writes q && not (is_read_write t.mode)) (refuses code.ReadOnlySqlTransaction) (cond (is_refused (outcome w.catalog q t.own).reply) (outcome w.catalog q t.own).reply (cond (meets_another w t xs) refuses_row (outcome w.catalog q t.own).reply)))) m
            ∙ ap (λ x. cond x (refuses code.ReadOnlySqlTransaction) (cond (is_refused (outcome w.catalog q t.own).reply) (outcome w.catalog q t.own).reply (cond (meets_another w t xs) refuses_row (outcome w.catalog q t.own).reply))) wr
            ∙ ap (λ x. cond x (outcome w.catalog q t.own).reply (cond (meets_another w t xs) refuses_row (outcome w.catalog q t.own).reply)) n
            ∙ ap (λ x. cond x refuses_row (outcome w.catalog q t.own).reply) e

        changes : changes_of o.catalog q g.own ≡ xs
        changes = ap (λ d. changes_of d q g.own) (sym (run-catalog (start o) es)) ∙ (written w.base w.catalog q g t k (ap is_open st) wr (subst (Allowed w.catalog) b fits) ((legally o es l).sound t (current_in w s t c).0)).changes

        turned : tale_turned (Run q) g ≡ over (record g { refused = xs })
        turned = ap (λ x. runs.ran o.catalog v.place q x g) reply ∙ ap (λ ys. over (record g { refused = ys })) changes

    any-due : Legal o (es ++ entry ∷ []) → (q : Option ℕ) (x : Option (Txn A)) → Current w.base p.runs w.txns q x → current w s ≡ x → gs ≡ (followed_by o.catalog v entry q (record p { place = p.place + 1 })).runs → Due o.base.transactions gs s (reply_of w x a)
    any-due more q x Nobody c is = idle-due o.base.transactions gs s a
    any-due more q x (At i g t at k) c is = go t.standing refl
      where
        ti : In t w.txns
        ti = (current_in w s t c).0

        none : t.commit ≡ 0
        none = no_number w (good_world o es l).numbered t ti (owed_not_done t.standing (second_so (eqb t.session s) (is_owed t.standing) (current_in w s t c).1))

        go : (st : Standing) → t.standing ≡ st → Due o.base.transactions gs s (reply_from st w t a)
        go Open e = open-due w s o.base.transactions gs t a own (λ z b m wr n h. row-due i g t at k c e is z b m wr n h) (λ d h. structure-due more d (shows-commit w t d ti none h))
        go (Doomed d) e = doomed-due o.base.transactions gs s d a (structure-due more d ((dooms-shown o es l).each t ti d e))
        go Failed e = failed-due o.base.transactions gs s a
        go Aborted e = idle-due o.base.transactions gs s a
        go Done e = idle-due o.base.transactions gs s a

    pub refusal-due : Legal o (es ++ entry ∷ []) → Due o.base.transactions gs s due_reply
    refusal-due more = any-due more (position (is_its s) p.runs) (current w s) (current_both w.base s p.runs w.txns follows-w.runs) refl (ap (λ (x : Bygone A). x.runs) (after_all-push o.catalog o.base.commits es entry (unbegun o)))

  pub explained : (o : Opening A) (es : List (Record A)) (s : ℕ) (a : Action A) (r : Refusal) → Legal o (es ++ record { session = s; action = a; reply = Refused r } ∷ []) → is_broken a ≡ false → r.code ≡ code.SerializationFailure
      → Explains o.base.transactions (retraced o (es ++ record { session = s; action = a; reply = Refused r } ∷ [])) s r.place
  explained o es s a r l own c = subst (λ q. Due o.base.transactions (retraced o (es ++ record { session = s; action = a; reply = q } ∷ [])) s q) (sym here.1)
      (refusal-due o es s a own (legal_begins o es (record { session = s; action = a; reply = Refused r } ∷ []) l) here.0 (subst (λ q. Legal o (es ++ record { session = s; action = a; reply = q } ∷ [])) here.1 l))
      (ap is_failure_code c)
    where
      here : IsAnswered (world_of o es) (record { session = s; action = a; reply = Refused r } ∷ [])
      here = legal_rest o es (record { session = s; action = a; reply = Refused r } ∷ []) l
