-- Every legal history has its serial order.
use Rattle.std.proofs.Common.{◌≡◌, refl, sym, ap, subst, ◌∙◌, ℕ, zero, suc, ◌+◌, ◌-◌, ◌<◌, ◌≤◌, Bool, true, false, true≢false, T, cond, not, ◌&&◌, ◌⊎◌, inl, inr, List, [], ◌∷◌, ◌++◌, map, take, is_some, eqb, nat_lt, nat_le, arith}
use Rattle.std.proofs.lemmas.Bool.{eqb-true, eqb-false, and_parts}
use Rattle.std.proofs.lemmas.Bool.Decides.{nat_tests}
use Rattle.std.specs.List.{filter, list_all}
use Rattle.value.specs.declared.value.Value.{Value}
use Rattle.value.specs.Isolation.{is_dangerous, bound}
use Rattle.value.proofs.IsolationLemmas.{In, Below, IsIsolated, shown_before, key-write, key-read, read-0, write-0, write-1, first_part-above, write_key-2, f}
use Rattle.value.proofs.SortLemmas.{Apart, Tied}
use Rattle.value.proofs.LastWriter.{Rising}
use Rattle.value.proofs.SerialLemmas.{NumberedFrom-apart, In-append}
use Rattle.schema.specs.Definition.{Catalog}
use Rattle.schema.specs.declared.tables.Tables.{Tables}
use Rattle.schema.proofs.PlainLemmas.{left_by, left_by-change}
use Rattle.history.specs.declared.event.Record.{Record}
use Rattle.history.specs.Opening.{Opening}
use Rattle.history.specs.Transactions.{Done, Txn, World, Exported_snapshot, node, edge, commits, tables_at, is_open, is_done, is_read_write}
use Rattle.history.specs.Events.{begun, ended, replaced, doomed_by, follows, start, run, world_of}
use Rattle.history.specs.Serial.{committed, key, serial_order, precedes, IsSerial}
use Rattle.history.proofs.Alone.{IsIsolatedWorld, Proper, with_all-proper, serial}
use Rattle.schema.specs.declared.changes.Change.{Change}
use Rattle.schema.specs.Plain.{is_null, cells, rows_of, is_sound, is_sound_table, sound_tables, fits_columns}
use Rattle.schema.specs.declared.row.Row.{Row}
use Rattle.std.specs.FinMap.{is_sorted}
use Rattle.value.specs.Order.{value_cmp}
use Rattle.statement.specs.Evaluation.{outcome}
use Rattle.statement.proofs.RowsLemmas.{HasKeys}
use Rattle.statement.proofs.Suffices.{WithKeys, outcome_keys, put_all-keys}
use Rattle.history.specs.Answer.{reply_in, IsAnswered, Legal}
use Rattle.serial.proofs.structures.Dooms.{Fate, Spared, Over, In-doomed, In-made, number-doomed}
use Rattle.serial.proofs.legal.Legal.{Move, Stays, Fails, Aborts, Commits, Runs, Asks, Polls, Learns, Imports, Step, Nothing, Begins, Moves, Settles, Dooms, Steps, One, Two, legal_steps, current_in}
use Rattle.serial.proofs.legal.Numbers.{IsNumbered, numbers_step, In-replaced, polled_keeps}
use Rattle.serial.proofs.legal.Faithful.{AllFaithful, faithful_step}
use Rattle.serial.proofs.structures.FirstUpdater.{IsFirstUpdater, first_updater_step}
use Rattle.serial.proofs.structures.NoneDangerous.{NoneDangerous, none_dangerous_step}
use Rattle.serial.proofs.legal.InTime.{IsInTime, Shows, in_time_step}
use Rattle.serial.proofs.safe.Stamps.{AllStand, stands_step, stands_start}

module _ {A : Type 0} where
  In-filter : (p : Txn A → Bool) (t : Txn A) (ts : List (Txn A)) → In t (filter p ts) → In t ts × (p t ≡ true)
  In-filter p t [] i = absurd i
  In-filter p t (u ∷ us) i = go (p u) refl (In-filter p t us) i
    where
      go : (b : Bool) → p u ≡ b → (In t (filter p us) → In t us × (p t ≡ true)) → In t (cond b (u ∷ filter p us) (filter p us)) → In t (u ∷ us) × (p t ≡ true)
      go true e rest (inl q) = (inl q, ap p q ∙ e)
      go true e rest (inr j) = (inr (rest j).0, (rest j).1)
      go false e rest j = (inr (rest j).0, (rest j).1)

  filter-In : (p : Txn A → Bool) (t : Txn A) (ts : List (Txn A)) → In t ts → p t ≡ true → In t (filter p ts)
  filter-In p t [] i e = absurd i
  filter-In p t (u ∷ us) (inl q) e = subst (λ b. In t (cond b (u ∷ filter p us) (filter p us))) (sym (sym (ap p q) ∙ e)) (inl q)
  filter-In p t (u ∷ us) (inr i) e = go (p u) (filter-In p t us i e)
    where
      go : (b : Bool) → In t (filter p us) → In t (cond b (u ∷ filter p us) (filter p us))
      go true j = inr j
      go false j = j

  abbrev done : Txn A → Bool
  done t = is_done t.standing

  -- the numbers rise
  pub record IsRising (w : World A) : Type 0 where
    pub rising : Rising (λ (t : Txn A). t.number) w.txns

  Rising-push : (ts : List (Txn A)) (x : Txn A) → Rising (λ (t : Txn A). t.number) ts → ((t : Txn A) → In t ts → t.number < x.number) → Rising (λ (t : Txn A). t.number) (ts ++ x ∷ [])
  Rising-push [] x r h = (λ y i. absurd i, tt)
  Rising-push (t ∷ ts) x r h = (λ y i. go y (In-append (λ (_ : Txn A). (0, 0, 0)) y ts (x ∷ []) i), Rising-push ts x r.1 (λ u i. h u (inr i)))
    where
      go : (y : Txn A) → In y ts ⊎ ((y ≡ x) ⊎ ⊥) → t.number < y.number
      go y (inl i) = r.0 y i
      go y (inr (inl p)) = subst (λ (z : Txn A). t.number < z.number) (sym p) (h t (inl refl))
      go y (inr (inr p)) = absurd p

  Rising-replaced : (ts : List (Txn A)) (x : Txn A) → Rising (λ (t : Txn A). t.number) ts → Rising (λ (t : Txn A). t.number) (replaced x ts)
  Rising-replaced [] x r = tt
  Rising-replaced (t ∷ ts) x r = (λ y i. go y (same_number y ts i), Rising-replaced ts x r.1)
    where
      head : (cond (eqb t.number x.number) x t).number ≡ t.number
      head = at (eqb t.number x.number) refl
        where
          at : (b : Bool) → eqb t.number x.number ≡ b → (cond b x t).number ≡ t.number
          at true e = sym (eqb-true t.number x.number e)
          at false e = refl

      same_number : (y : Txn A) (us : List (Txn A)) → In y (replaced x us) → (u : Txn A) × In u us × (y.number ≡ u.number)
      same_number y [] i = absurd i
      same_number y (u ∷ us) (inl p) = (u, inl refl, ap (λ (z : Txn A). z.number) p ∙ at (eqb u.number x.number) refl)
        where
          at : (b : Bool) → eqb u.number x.number ≡ b → (cond b x u).number ≡ u.number
          at true e = sym (eqb-true u.number x.number e)
          at false e = refl
      same_number y (u ∷ us) (inr i) = let r = same_number y us i in (r.0, inr r.1, r.2)

      go : (y : Txn A) → (u : Txn A) × In u ts × (y.number ≡ u.number) → (cond (eqb t.number x.number) x t).number < y.number
      go y s = let l : t.number < s.0.number = r.0 s.0 s.1 in let e : y.number ≡ s.0.number = s.2 in omega (arith, head)

  rising_step : (w v : World A) → IsNumbered w → IsRising w → Step w v → IsRising v
  rising_step w v num inv Nothing = record { rising = inv.rising }
  rising_step w v num inv (Begins s m) = record { rising = Rising-push w.txns (begun w s m) inv.rising (λ t i. omega (arith, num.bounded t i)) }
  rising_step w v num inv (Moves s t x log exports c o move) = record { rising = Rising-replaced w.txns x inv.rising }
  rising_step w v num inv (Settles s t st c o d o' d') = record { rising = Rising-replaced w.txns (record t { standing = st }) inv.rising }
  rising_step w v num inv (Dooms cs) = record { rising = rising_doomed w.txns inv.rising }
    where
      rising_doomed : (ts : List (Txn A)) → Rising (λ (t : Txn A). t.number) ts → Rising (λ (t : Txn A). t.number) (map (doomed_by w.place cs) ts)
      rising_doomed [] r = tt
      rising_doomed (t ∷ ts) r = (λ y i. let x = In-made w.place cs y ts i in go y x.0 (r.0 x.0 x.1) (ap (λ (z : Txn A). z.number) x.2 ∙ number-doomed w.place cs x.0), rising_doomed ts r.1)
        where
          go : (y x : Txn A) → t.number < x.number → y.number ≡ x.number → (doomed_by w.place cs t).number < y.number
          go y x l e = omega (arith, l, e, number-doomed w.place cs t)

  -- no change has a null key
  pub record AllKeyed (w : World A) : Type 0 where
    pub each : (t : Txn A) → In t w.txns → WithKeys t.changes

  keyed_append : (xs ys : List (Change A)) → WithKeys xs → WithKeys ys → WithKeys (xs ++ ys)
  keyed_append [] ys h k = k
  keyed_append (x ∷ xs) ys h k = let p = and_parts (not (is_null x.key)) (list_all (λ y. not (is_null y.key)) xs) h in ap (λ b. b && list_all (λ y. not (is_null y.key)) (xs ++ ys)) p.0 ∙ keyed_append xs ys p.1 k

  keyed_move : (w : World A) (t x : Txn A) (log : List (Txn A)) (exports : List Exported_snapshot) → WithKeys t.changes → HasKeys t.own → Move w t x log exports → WithKeys x.changes
  keyed_move w t x log exports h k Stays = h
  keyed_move w t x log exports h k Fails = h
  keyed_move w t x log exports h k Aborts = h
  keyed_move w t x log exports h k (Commits e) = go (is_read_write t.mode)
    where
      go : (b : Bool) → WithKeys (cond b (record (ended w Done t) { commit = commits w + 1 }) (ended w Done t)).changes
      go true = h
      go false = h
  keyed_move w t x log exports h k (Runs q fits a b d) = keyed_append t.changes (outcome w.catalog q t.own).changes h (outcome_keys w.catalog q t.own fits k)
  keyed_move w t x log exports h k (Asks a) = h
  keyed_move w t x log exports h k (Polls a b) = polled_keeps (λ y. WithKeys y.changes) w t h h
  keyed_move w t x log exports h k (Learns a b d) = polled_keeps (λ y. WithKeys y.changes) w t h h
  keyed_move w t x log exports h k (Imports i y a b e) = h

  in_taken : (n : ℕ) (ts : List (Txn A)) (t : Txn A) → In t (take n ts) → In t ts
  in_taken zero ts t i = absurd i
  in_taken (suc n) [] t i = absurd i
  in_taken (suc n) (u ∷ ts) t (inl p) = inl p
  in_taken (suc n) (u ∷ ts) t (inr i) = inr (in_taken n ts t i)

  keyed_step : (w v : World A) → Proper w.opening → IsNumbered w → AllFaithful w → AllKeyed w → Step w v → AllKeyed v
  keyed_step w v o num all inv Nothing = record { each = inv.each }
  keyed_step w v o num all inv (Begins s m) = record { each = λ t i. go t (In-append (λ (_ : Txn A). (0, 0, 0)) t w.txns (begun w s m ∷ []) i) }
    where
      go : (t : Txn A) → In t w.txns ⊎ ((t ≡ begun w s m) ⊎ ⊥) → WithKeys t.changes
      go t (inl i) = inv.each t i
      go t (inr (inl p)) = subst (λ (y : Txn A). WithKeys y.changes) (sym p) refl
      go t (inr (inr p)) = absurd p
  keyed_step w v o num all inv (Moves s t x log exports c q move) = record { each = λ u i. go u (In-replaced u x w.txns i) }
    where
      i : In t w.txns
      i = (current_in w s t c).0

      own : HasKeys t.own
      own = subst HasKeys (sym (all.each t i).own) (put_all-keys t.changes (tables_at w t.snapshot) (inv.each t i) (with_all-proper (take (t.snapshot - w.base.commits) w.log) w.opening (λ u j. inv.each u (num.logged u (in_taken (t.snapshot - w.base.commits) w.log u j)).0) o).keys)

      go : (u : Txn A) → (u ≡ x) ⊎ In u w.txns × (eqb u.number x.number ≡ false) → WithKeys u.changes
      go u (inl p) = subst (λ (y : Txn A). WithKeys y.changes) (sym p) (keyed_move w t x log exports (inv.each t i) own move)
      go u (inr j) = inv.each u j.0
  keyed_step w v o num all inv (Settles s t st c q d q' d') = record { each = λ u i. go u (In-replaced u (record t { standing = st }) w.txns i) }
    where
      go : (u : Txn A) → (u ≡ record t { standing = st }) ⊎ In u w.txns × (eqb u.number t.number ≡ false) → WithKeys u.changes
      go u (inl p) = subst (λ (y : Txn A). WithKeys y.changes) (sym p) (inv.each t (current_in w s t c).0)
      go u (inr j) = inv.each u j.0
  keyed_step w v o num all inv (Dooms cs) = record { each = λ u i. let x = In-doomed w.place cs u w.txns i in go x.0 u x.2 (inv.each x.0 x.1) }
    where
      go : (t u : Txn A) → Fate w.place t u → WithKeys t.changes → WithKeys u.changes
      go t u Spared h = h
      go t u (Over c q) h = h

  pub record IsGood (w : World A) : Type 0 where
    pub opening : Proper w.opening
    pub keyed : AllKeyed w
    pub rising : IsRising w
    pub numbered : IsNumbered w
    pub faithful : AllFaithful w
    pub first_updater : IsFirstUpdater w
    pub none_dangerous : NoneDangerous w
    pub time : IsInTime w
    pub stands : AllStand w

  opening_step : (w v : World A) → Proper w.opening → Step w v → Proper v.opening
  opening_step w v o Nothing = o
  opening_step w v o (Begins s m) = o
  opening_step w v o (Moves s t x log exports c q move) = o
  opening_step w v o (Settles s t st c p d p' d') = o
  opening_step w v o (Dooms cs) = o

  pub good_step : (w v : World A) → IsGood w → Step w v → IsGood v
  good_step w v g s = record {
    opening = opening_step w v g.opening s;
    keyed = keyed_step w v g.opening g.numbered g.faithful g.keyed s;
    rising = rising_step w v g.numbered g.rising s;
    numbered = numbers_step w v g.numbered s;
    faithful = faithful_step w v g.numbered g.faithful s;
    first_updater = first_updater_step w v g.numbered g.faithful g.first_updater s;
    none_dangerous = none_dangerous_step w v g.none_dangerous s;
    time = in_time_step w v g.numbered g.time s;
    stands = stands_step w v g.numbered g.time g.stands s;
  }

  pub good_steps : (w v : World A) → IsGood w → Steps w v → IsGood v
  good_steps w v g (One v' s) = good_step w v g s
  good_steps w v g (Two u v' s r) = good_step u v (good_step w u g s) r

  pub good_start : (o : Opening A) → Proper o.tables → IsGood (start o)
  good_start o p = record {
    opening = p;
    keyed = record { each = λ t i. absurd i };
    rising = record { rising = tt };
    numbered = record { unique = λ t u i. absurd i; bounded = λ t i. absurd i; above = λ t i. absurd i; in_order = tt; logged = λ t i. absurd i; kind = λ t i. absurd i; shown = λ t i. absurd i; exports = λ x i. absurd i };
    faithful = record { each = λ t i. absurd i };
    first_updater = record { each = λ n k u v i. absurd i };
    none_dangerous = record { each = λ a b d i. absurd i };
    time = record { begun_by = λ t i. absurd i; ended_by = λ t i. absurd i; later = λ t i. absurd i; ends_apart = λ t u i. absurd i; shows = λ a b i. absurd i };
    stands = stands_start (start o) refl refl;
  }

  pub good_run : (w : World A) (es : List (Record A)) → IsGood w → IsAnswered w es → IsGood (run w es)
  good_run w [] g l = g
  good_run w (e ∷ es) g l = good_run (follows w e) es (subst (λ r. IsGood (follows w (record { session = e.session; action = e.action; reply = r }))) (sym l.1) (good_steps w (follows w (record { session = e.session; action = e.action; reply = reply_in w e.session e.action })) g (legal_steps w e.session e.action l.0))) l.2

  -- ---- what the serial order rests on

  -- the parts of an edge
  pub edge_parts : (t u : Txn A) → edge t u ≡ true → (eqb t.number u.number ≡ false) × (t.snapshot < u.commit)
  edge_parts t u e =
      let p = and_parts (not (eqb t.number u.number) && nat_lt t.snapshot u.commit) _ e in
      let q = and_parts (not (eqb t.number u.number)) (nat_lt t.snapshot u.commit) p.0 in
      (not_true (eqb t.number u.number) q.0, is_less t.snapshot u.commit q.1)
    where
      not_true : (b : Bool) → not b ≡ true → b ≡ false
      not_true true h = absurd (true≢false (sym h))
      not_true false h = refl

      is_less : (a b : ℕ) → nat_lt a b ≡ true → a < b
      is_less a b h = grind (arith, nat_tests)

  -- a structure that isn't dangerous, though all but its last bound holds
  bound_holds : (a b d : Txn A) → is_dangerous node edge a b d ≡ false → is_done a.standing ≡ true → is_done b.standing ≡ true → is_done d.standing ≡ true → edge a b ≡ true → edge b d ≡ true → d.commit < b.commit → bound node edge a < d.commit
  bound_holds a b d e x y z ab bd l = last (is_done a.standing) (is_done b.standing) (is_done d.standing) (edge a b) (edge b d) (nat_lt d.commit b.commit) (nat_le d.commit (bound node edge a)) x y z ab bd (less d.commit b.commit l) refl e
    where
      less : (m n : ℕ) → m < n → nat_lt m n ≡ true
      less m n h = grind (arith, nat_tests)

      above : (m n : ℕ) → nat_le m n ≡ false → n < m
      above m n h = grind (arith, nat_tests)

      last : (p q r s t u v : Bool) → p ≡ true → q ≡ true → r ≡ true → s ≡ true → t ≡ true → u ≡ true → nat_le d.commit (bound node edge a) ≡ v → (p && q && r && s && t && u && v) ≡ false → bound node edge a < d.commit
      last p q r s t u true h1 h2 h3 h4 h5 h6 h7 g = absurd (true≢false (sym (cc) ∙ g))
      last p q r s t u false h1 h2 h3 h4 h5 h6 h7 g = above d.commit (bound node edge a) h7

  module _ (w : World A) (g : IsGood w) where
    num : IsNumbered w
    num = g.numbered

    members : (t : Txn A) → In t (committed w) → In t w.txns × (is_done t.standing ≡ true)
    members t i = In-filter done t w.txns i

    -- a committed read-write transaction is in the log
    in_log : (t : Txn A) → In t (committed w) → is_read_write t.mode ≡ true → In t w.log
    in_log t i r = go (g.numbered.kind t (members t i).0)
      where
        go : In t w.log ⊎ (t.commit ≡ 0) × (is_done t.standing ≡ true → is_read_write t.mode ≡ false) → In t w.log
        go (inl j) = j
        go (inr k) = absurd (true≢false (sym r ∙ k.1 (members t i).1))

    -- one with a commit number is in the log
    has_commit : (t : Txn A) → In t (committed w) → 0 < t.commit → In t w.log
    has_commit t i l = go (g.numbered.kind t (members t i).0)
      where
        go : In t w.log ⊎ (t.commit ≡ 0) × (is_done t.standing ≡ true → is_read_write t.mode ≡ false) → In t w.log
        go (inl j) = j
        go (inr k) = absurd (omega (arith, k.0))

    isolated : IsIsolated node edge (committed w)
    isolated = record {
      above = λ t u e. (edge_parts t u e).1;
      writes = λ t u i e. let l : t.snapshot < u.commit = (edge_parts t u e).1 in (g.numbered.logged u (has_commit u i (omega arith))).2;
      later = λ t i r. (g.numbered.logged t (in_log t i r)).3;
      apart = apart;
      none_dangerous = λ a b d i j k ab bd l. bound_holds a b d (g.none_dangerous.each a b d (members a i).0 (members b j).0 (members d k).0) (members a i).1 (members b j).1 (members d k).1 ab bd l;
    }
      where
        apart : (t u : Txn A) → In t (committed w) → In u (committed w) → edge t u ≡ true → t.commit ≡ u.commit → ⊥
        apart t u i j e c =
            let p = edge_parts t u e in
            let l : t.snapshot < u.commit = p.1 in
            let same : t ≡ u = NumberedFrom-apart (λ (y : Txn A). y.commit) w.base.commits w.log t u g.numbered.in_order (has_commit t i (omega arith)) (has_commit u j (omega arith)) c in
            eqb-false t.number u.number p.0 (ap (λ (y : Txn A). y.number) same)

    writes : (u : Txn A) (n : ℕ) (k : Value A) → In u (committed w) → is_some (left_by n k u.changes) ≡ true → is_read_write u.mode ≡ true
    writes u n k i h = go (is_read_write u.mode) refl
      where
        go : (b : Bool) → is_read_write u.mode ≡ b → is_read_write u.mode ≡ true
        go true e = e
        go false e = absurd (true≢false (sym h ∙ ap (λ xs. is_some (left_by n k xs)) ((g.faithful.each u (members u i).0).read_only e)))

    first_updater : (n : ℕ) (k : Value A) (u v : Txn A) → In u (committed w) → In v (committed w) → is_some (left_by n k u.changes) ≡ true → is_some (left_by n k v.changes) ≡ true → u.commit < v.commit → u.commit ≤ v.snapshot
    first_updater n k u v i j hu hv l = go (g.first_updater.each n k u v (members u i).0 (members v j).0 other (left_by-change n k u.changes hu) (left_by-change n k v.changes hv))
      where
        logged_u : u.snapshot < u.commit
        logged_u = (g.numbered.logged u (in_log u i (writes u n k i hu))).3

        other : u.number ≡ v.number → ⊥
        other e = let same : u.commit ≡ v.commit = ap (λ (y : Txn A). y.commit) (g.numbered.unique u v (members u i).0 (members v j).0 e) in omega arith

        go : (0 < u.commit) × (u.commit ≤ v.snapshot) ⊎ (0 < v.commit) × (v.commit ≤ u.snapshot) ⊎ (is_open u.standing ≡ false) × (u.commit ≡ 0) ⊎ (is_open v.standing ≡ false) × (v.commit ≡ 0) → u.commit ≤ v.snapshot
        go (inl h) = h.1
        go (inr (inl h)) = absurd (omega (arith, h.1, logged_u))
        go (inr (inr (inl h))) = absurd (omega (arith, h.1, logged_u))
        go (inr (inr (inr h))) = absurd (omega (arith, h.1))

    key-2 : (t : Txn A) → In t (committed w) → (is_read_write t.mode ≡ true → (key w t).2 ≡ t.commit) × (is_read_write t.mode ≡ false → ((key w t).2 ≡ t.end) × ((key w t).1 ≡ 2))
    key-2 t i = (
      λ r. ap (λ (q : ℕ × ℕ × ℕ). q.2) (key-write node edge t (committed w) r) ∙ write_key-2 (f node edge t (committed w)) t.commit,
      λ r. (ap (λ (q : ℕ × ℕ × ℕ). q.2) (key-read node edge t (committed w) r), ap (λ (q : ℕ × ℕ × ℕ). q.1) (key-read node edge t (committed w) r)),
    )

    keys_differ : (t u : Txn A) → In t (committed w) → In u (committed w) → Tied (key w t) (key w u) → t ≡ u
    keys_differ t u i j e = go (is_read_write t.mode) (is_read_write u.mode) refl refl
      where
        go : (a b : Bool) → is_read_write t.mode ≡ a → is_read_write u.mode ≡ b → t ≡ u
        go true true p q = NumberedFrom-apart (λ (y : Txn A). y.commit) w.base.commits w.log t u g.numbered.in_order (in_log t i p) (in_log u j q) (sym ((key-2 t i).0 p) ∙ e.2 ∙ (key-2 u j).0 q)
        go true false p q = absurd (let h : (key w t).1 < 2 = write-1 node edge t (committed w) p in let k : (key w u).1 ≡ 2 = ((key-2 u j).1 q).1 in omega (arith, h, k, e.1))
        go false true p q = absurd (let h : (key w u).1 < 2 = write-1 node edge u (committed w) q in let k : (key w t).1 ≡ 2 = ((key-2 t i).1 p).1 in omega (arith, h, k, e.1))
        go false false p q = g.time.ends_apart t u (members t i).0 (members u j).0 (members t i).1 (members u j).1 (sym ((key-2 t i).1 p).0 ∙ e.2 ∙ ((key-2 u j).1 q).0)

    keys_apart : (ts : List (Txn A)) → ((t : Txn A) → In t ts → In t (committed w)) → Rising (λ (t : Txn A). t.number) ts → Apart (key w) ts
    keys_apart [] sub r = tt
    keys_apart (t ∷ ts) sub r = (λ u i e. let l : t.number < u.number = r.0 u i in let s : t.number ≡ u.number = ap (λ (y : Txn A). y.number) (keys_differ t u (sub t (inl refl)) (sub u (inr i)) e) in omega arith, keys_apart ts (λ u i. sub u (inr i)) r.1)

    rising_committed : (ts : List (Txn A)) → Rising (λ (t : Txn A). t.number) ts → Rising (λ (t : Txn A). t.number) (filter done ts)
    rising_committed [] r = tt
    rising_committed (t ∷ ts) r = go (done t) (rising_committed ts r.1)
      where
        go : (b : Bool) → Rising (λ (t : Txn A). t.number) (filter done ts) → Rising (λ (t : Txn A). t.number) (cond b (t ∷ filter done ts) (filter done ts))
        go true rest = (λ u i. r.0 u (In-filter done u ts i).0, rest)
        go false rest = rest

    time : (a b : Txn A) → In a (committed w) → In b (committed w) → precedes a b ≡ true → Below (key w a) (key w b)
    time a b i j p = go (is_read_write a.mode) refl
      where
        parts : (nat_lt a.end b.begin ≡ true) × (not b.imported ≡ true)
        parts = and_parts (nat_lt a.end b.begin) (not b.imported) p

        before : a.end < b.begin
        before = less a.end b.begin parts.0
          where
            less : (m n : ℕ) → nat_lt m n ≡ true → m < n
            less m n h = grind (arith, nat_tests)

        shows : Shows a b
        shows = g.time.shows a b (members a i).0 (members b j).0 (members a i).1 before (not_true b.imported parts.1)
          where
            not_true : (c : Bool) → not c ≡ true → c ≡ false
            not_true true h = absurd (true≢false (sym h))
            not_true false h = refl

        no_number : is_read_write a.mode ≡ false → a.commit ≡ 0
        no_number r = of_kind (g.numbered.kind a (members a i).0)
          where
            of_kind : In a w.log ⊎ (a.commit ≡ 0) × (is_done a.standing ≡ true → is_read_write a.mode ≡ false) → a.commit ≡ 0
            of_kind (inl k) = absurd (true≢false (sym (g.numbered.logged a k).2 ∙ r))
            of_kind (inr k) = k.0

        readers : is_read_write a.mode ≡ false → is_read_write b.mode ≡ false → (a.snapshot < b.snapshot) ⊎ (a.snapshot ≡ b.snapshot) → Below (key w a) (key w b)
        readers r q (inl h) = inl (let x : (key w a).0 ≡ a.snapshot = read-0 node edge a (committed w) r in let y : (key w b).0 ≡ b.snapshot = read-0 node edge b (committed w) q in omega (arith, h, x, y))
        readers r q (inr h) = inr (
          read-0 node edge a (committed w) r ∙ h ∙ sym (read-0 node edge b (committed w) q),
          inr (
            ((key-2 a i).1 r).1 ∙ sym ((key-2 b j).1 q).1,
            (let x : (key w a).2 ≡ a.end = ((key-2 a i).1 r).0 in let y : (key w b).2 ≡ b.end = ((key-2 b j).1 q).0 in let l : b.begin < b.end = g.time.later b (members b j).0 (members b j).1 in omega (arith, x, y, l, before)),
          ),
        )

        second : is_read_write a.mode ≡ false → (c : Bool) → is_read_write b.mode ≡ c → Below (key w a) (key w b)
        second r true q = inl (let x : (key w a).0 ≡ a.snapshot = read-0 node edge a (committed w) r in let y : (key w b).0 ≡ f node edge b (committed w) = write-0 node edge b (committed w) q in
            let l : b.snapshot < f node edge b (committed w) = first_part-above node edge b (committed w) b.snapshot (isolated.later b j q) (λ u _ d _. (edge_parts b u d).1) in
            let h : a.snapshot ≤ b.snapshot = shows.1 (no_number r) in omega (arith, x, y, l, h))
        second r false q = readers r q (split a.snapshot b.snapshot (shows.1 (no_number r)))
          where
            split : (m n : ℕ) → m ≤ n → (m < n) ⊎ (m ≡ n)
            split m n h = grind arith

        go : (c : Bool) → is_read_write a.mode ≡ c → Below (key w a) (key w b)
        go true r = shown_before node edge (committed w) isolated a b j r shows.0
        go false r = second r (is_read_write b.mode) refl

    pub isolated_world : IsIsolatedWorld w
    isolated_world = record {
      isolated = isolated;
      writes = writes;
      first_updater = first_updater;
      unique = λ t u i j e. sym (g.numbered.unique t u (members t i).0 (members u j).0 (eqb-true t.number u.number e));
      along = λ t i. (g.faithful.each t (members t i).0).along;
      numbered = g.numbered.in_order;
      based = λ t i. (g.numbered.shown t (members t i).0).0;
      logged = λ t i. let l = g.numbered.logged t i in (filter-In done t w.txns l.0 l.1, l.2);
      log_all = in_log;
      keys_apart = keys_apart (committed w) (λ t i. i) (rising_committed w.txns g.rising.rising);
      opening = g.opening;
      keys = λ t i. g.keyed.each t (members t i).0;
      time = time;
    }

  -- ---- sound tables

  sound_rows : (X : Tables A) (c : Catalog) (Y : List (List (Row A))) (t : ℕ) → sound_tables X c Y ≡ true → T (is_sorted value_cmp (rows_of Y t)) × (list_all (λ row. not (is_null row.0)) (rows_of Y t) ≡ true)
  sound_rows X [] [] t e = (tt, refl)
  sound_rows X [] (rows ∷ Y) t e = absurd (true≢false (sym e))
  sound_rows X (d ∷ c) [] t e = absurd (true≢false (sym e))
  sound_rows X (d ∷ c) (rows ∷ Y) (suc t) e = sound_rows X c Y t (and_parts (is_sound_table X d rows) (sound_tables X c Y) e).1
  sound_rows X (d ∷ c) (rows ∷ Y) zero e =
      let p = and_parts (is_sound_table X d rows) (sound_tables X c Y) e in
      let q = and_parts (is_sorted value_cmp rows) (list_all (λ r. not (is_null r.0) && fits_columns X d.columns (cells r)) rows) p.0 in
      (subst T (sym q.0) tt, keys rows q.1)
    where
      keys : (rs : List (Row A)) → list_all (λ r. not (is_null r.0) && fits_columns X d.columns (cells r)) rs ≡ true → list_all (λ row. not (is_null row.0)) rs ≡ true
      keys [] h = refl
      keys (r ∷ rs) h =
          let p = and_parts (not (is_null r.0) && fits_columns X d.columns (cells r)) _ h in
          let q = and_parts (not (is_null r.0)) (fits_columns X d.columns (cells r)) p.0 in
          ap (λ b. b && list_all (λ row. not (is_null row.0)) rs) q.0 ∙ keys rs p.1

  pub sound_proper : (c : Catalog) (X : Tables A) → is_sound c X ≡ true → Proper X
  sound_proper c X e = record {
    ordered = record { each = λ t. (sound_rows X c X t e).0 };
    keys = record { each = λ t. (sound_rows X c X t e).1 };
  }

  -- what holds after every legal history
  pub good_world : (o : Opening A) (es : List (Record A)) → Legal o es → IsGood (world_of o es)
  unfolding Legal
  good_world o es l = good_run (start o) es (good_start o (sound_proper o.catalog o.tables l.0)) l.1

  -- Every legal history has its serial order, in which each committed transaction, run alone, gets its replies.
  pub legal_serial : (o : Opening A) (es : List (Record A)) → Legal o es → IsSerial (world_of o es) (serial_order (world_of o es))
  legal_serial o es l = serial (world_of o es) (isolated_world (world_of o es) (good_world o es l))
