-- The conflicts that are told of a legal history are those that the history has.
use Rattle.std.proofs.Common.{◌≡◌, refl, sym, ap, ◌∙◌, ◌+◌, ◌≤◌, Bool, true, false, cond, not, ◌&&◌, ◌||◌, inl, List, [], ◌∷◌, eqb, nat_lt, arith}
use Rattle.std.proofs.lemmas.Bool.{eqb-true, eqb-false, lt-ltb}
use Rattle.std.specs.List.{list_any}
use Rattle.schema.specs.declared.changes.Change.{Change}
use Rattle.statement.specs.declared.outcome.Mark.{Mark}
use Rattle.statement.specs.Cover.{covers, covers_value}
use Rattle.history.specs.declared.event.Record.{Record}
use Rattle.history.specs.Opening.{Opening}
use Rattle.history.specs.Transactions.{Txn, World, commits, edge, must_wait, reads_from}
use Rattle.history.specs.Events.{world_of}
use Rattle.history.specs.Answer.{Legal}
use Rattle.serial.proofs.order.SerialTheorem.{IsGood, good_world}
use Rattle.retrace.specs.Edges.{is_edge, is_unseen}
use Rattle.retrace.specs.Items.{cover_written}
use Rattle.retrace.specs.Runs.{Going}
use Rattle.retrace.specs.Past.{retraced}
use Rattle.retrace.specs.Told.{PlaceByPlace, TellEdge, TellEdges, Tells, committing_now}
use Rattle.retrace.proofs.told.Places.{ltb-above, places-by}
use Rattle.retrace.proofs.told.Dooms.{same_cover, same_other}
use Rattle.retrace.proofs.told.Histories.{told_here}
use Rattle.retrace.proofs.told.Shown.{HasMoments, edge-shown, places-have, retraced-have}

and_false : (a : Bool) → (a && false) ≡ false
and_false true = refl
and_false false = refl

module _ {A : Type 0} where
  -- nothing was read of what was written
  unread_keys : (xs : List (Change A)) → list_any (λ (x : Change A). covers [] x.table x.key) xs ≡ false
  unread_keys [] = refl
  unread_keys (x ∷ xs) = unread_keys xs

  unread_marks : (ms : List (Mark A)) → list_any (λ (m : Mark A). covers_value [] m.table m.column m.key) ms ≡ false
  unread_marks [] = refl
  unread_marks (m ∷ ms) = unread_marks ms

  unread : (t u : Txn A) → t.reads ≡ [] → reads_from t u ≡ false
  unread t u e = ap (λ rs. list_any (λ x. covers rs x.table x.key) u.changes || list_any (λ m. covers_value rs m.table m.column m.key) u.marks) e
      ∙ ap (λ b. b || list_any (λ m. covers_value [] m.table m.column m.key) u.marks) (unread_keys u.changes) ∙ unread_marks u.marks

  module _ (w : World A) (g h : Going A) (t u : Txn A) (k : Tells w.base g t) (l : Tells w.base h u) (shown : t.snapshot ≤ commits w) (fresh : must_wait t ≡ true → t.reads ≡ []) where
    -- of two that conflict or don't, whatever else is asked
    with_cover : (x y : Bool) → x ≡ y → (not (eqb g.trace.number h.trace.number) && x && cover_written g.trace.reads h.trace.changes h.trace.marks) ≡ (not (eqb t.number u.number) && y && reads_from t u)
    with_cover x y e = ap (λ c. not (eqb g.trace.number h.trace.number) && x && c) (same_cover w.base g h t u k l)
        ∙ ap (λ c. c && x && reads_from t u) (same_other w.base g h t u k l) ∙ ap (λ c. not (eqb t.number u.number) && c && reads_from t u) e

    none_read : (x y : Bool) → t.reads ≡ [] → (not (eqb g.trace.number h.trace.number) && x && cover_written g.trace.reads h.trace.changes h.trace.marks) ≡ (not (eqb t.number u.number) && y && reads_from t u)
    none_read x y e = ap (λ c. not (eqb g.trace.number h.trace.number) && x && c) (same_cover w.base g h t u k l ∙ unread t u e) ∙ and_false (not (eqb g.trace.number h.trace.number) && x)
        ∙ sym (ap (λ c. not (eqb t.number u.number) && y && c) (unread t u e) ∙ and_false (not (eqb t.number u.number) && y))

    -- a writer without a commit
    uncommitted : u.commit ≡ 0 → is_edge g.trace h.trace ≡ edge t (record u { commit = commits w + 1 })
    uncommitted z = with_cover (is_unseen g.trace h.trace) (nat_lt t.snapshot (commits w + 1)) (ap (λ b. b || nat_lt g.trace.snapshot h.trace.commit) (none (eqb h.trace.commit 0) refl) ∙ sym (lt-ltb t.snapshot (commits w + 1) (omega arith)))
      where
        none : (b : Bool) → eqb h.trace.commit 0 ≡ b → eqb h.trace.commit 0 ≡ true
        none true e = e
        none false e = absurd (eqb-false h.trace.commit 0 e (let q : w.base.commits + h.trace.commit ≡ 0 = ap (λ b. cond b 0 (w.base.commits + h.trace.commit)) (sym e) ∙ l.commit ∙ z in omega arith))

    -- one that has committed
    committed : eqb u.commit 0 ≡ false → is_edge g.trace h.trace ≡ edge t u
    committed z = go (must_wait t) refl
      where
        some : (b : Bool) → eqb h.trace.commit 0 ≡ b → eqb h.trace.commit 0 ≡ false
        some true e = absurd (eqb-false u.commit 0 z (sym l.commit ∙ ap (λ b. cond b 0 (w.base.commits + h.trace.commit)) e))
        some false e = e

        has : eqb h.trace.commit 0 ≡ false
        has = some (eqb h.trace.commit 0) refl

        number : w.base.commits + h.trace.commit ≡ u.commit
        number = ap (λ b. cond b 0 (w.base.commits + h.trace.commit)) (sym has) ∙ l.commit

        go : (b : Bool) → must_wait t ≡ b → is_edge g.trace h.trace ≡ edge t u
        go true e = none_read (is_unseen g.trace h.trace) (nat_lt t.snapshot u.commit) (fresh e)
        go false e = with_cover (is_unseen g.trace h.trace) (nat_lt t.snapshot u.commit)
            (ap (λ b. b || nat_lt g.trace.snapshot h.trace.commit) has ∙ sym (ltb-above w.base.commits g.trace.snapshot h.trace.commit) ∙ ap (λ n. nat_lt n (w.base.commits + h.trace.commit)) (k.snapshot e) ∙ ap (λ n. nat_lt t.snapshot n) number)

    edge_is : is_edge g.trace h.trace ≡ edge t (committing_now w u)
    edge_is = go (eqb u.commit 0) refl
      where
        go : (b : Bool) → eqb u.commit 0 ≡ b → is_edge g.trace h.trace ≡ edge t (cond b (record u { commit = commits w + 1 }) u)
        go true e = uncommitted (eqb-true u.commit 0 e)
        go false e = committed e

  pub conflicts_told : (o : Opening A) (es : List (Record A)) → Legal o es → TellEdges (world_of o es) (retraced o es)
  conflicts_told o es l = places-by Known (λ g t. PlaceByPlace (TellEdge w g t) (retraced o es) w.txns) (retraced o es) w.txns
      (λ g t i k. places-by Known (TellEdge w g t) (retraced o es) w.txns
      (λ h u j m. edge-shown g.trace h.trace k.1 m.1 ∙ edge_is w g h t u k.0 m.0 (good.numbered.shown t i).1 (λ e. ((good.faithful.each t i).fresh (inl e)).1)) all) all
    where
      w : World A
      w = world_of o es

      good : IsGood w
      good = good_world o es l

      Known : Going A → Txn A → Type 0
      Known g t = Tells w.base g t × HasMoments g.trace

      all : PlaceByPlace Known (retraced o es) w.txns
      all = places-have (Tells w.base) (retraced o es) w.txns (retraced-have o es) (told_here o es l)
