-- The serial order of a history on a base follows that of the history before it.
use Rattle.std.proofs.Common.{◌≡◌, refl, sym, ap, subst, ◌∙◌, ℕ, ◌<◌, ◌≤◌, min, Bool, true, false, true≢false, cond, ◌&&◌, ◌⊎◌, inl, inr, List, [], ◌∷◌, ◌++◌, filter, nat_lt, arith}
use Rattle.std.proofs.lemmas.List.{append-nil}
use Rattle.value.specs.Isolation.{first_part, write_key}
use Rattle.value.proofs.IsolationLemmas.{In, Below, f, key-write, key-read, read-0, write-0, write-1, first_part-least, first_part-above}
use Rattle.value.proofs.SerialLemmas.{In-append, In-left, In-right}
use Rattle.value.proofs.SortLemmas.{InOrder, In-sorted, sorted-In, same_order}
use Rattle.history.specs.declared.base.Base.{Base}
use Rattle.history.specs.declared.event.Record.{Record}
use Rattle.history.specs.Opening.{Opening}
use Rattle.history.specs.Transactions.{Txn, World, node, edge, is_done, is_read_write, is_quiet, commits, tables_at}
use Rattle.history.specs.Events.{start, run, world_of}
use Rattle.history.specs.Checkpoint.{opening_after}
use Rattle.history.specs.Serial.{committed, key, serial_order, Stays, ContinuesOn}
use Rattle.history.proofs.Alone.{In-filter, in_order}
use Rattle.history.specs.Answer.{Legal, IsAnswered}
use Rattle.serial.proofs.safe.Prefix.{all_by, by_all}
use Rattle.serial.proofs.order.SerialTheorem.{IsGood, good_start, good_world, isolated_world, edge_parts, sound_proper}
use Rattle.serial.proofs.legal.Later.{legal_stays, run-append}
use Rattle.serial.proofs.legal.AlwaysSound.{always_sound}
use Rattle.serial.proofs.legal.Histories.{answered-append, Legal-start}
use Rattle.serial.proofs.base.Based.{IsBased, based_start, based_run}
use Rattle.serial.proofs.base.OnBase.{joined, IsOnBase, old_commit, new_snapshot, no_edge, same_tables}
use Rattle.serial.proofs.base.FollowsBase.{runs_on}

module _ {A : Type 0} where
  filter_append : (p : Txn A → Bool) (xs ys : List (Txn A)) → filter p (xs ++ ys) ≡ filter p xs ++ filter p ys
  filter_append p [] ys = refl
  filter_append p (x ∷ xs) ys = go (p x) (filter_append p xs ys)
    where
      go : (b : Bool) → filter p (xs ++ ys) ≡ filter p xs ++ filter p ys → cond b (x ∷ filter p (xs ++ ys)) (filter p (xs ++ ys)) ≡ cond b (x ∷ filter p xs) (filter p xs) ++ filter p ys
      go true e = ap (λ zs. x ∷ zs) e
      go false e = e

  -- those to which it has no edge don't count
  first_past : (t : Txn A) (xs ys : List (Txn A)) → ((u : Txn A) → In u xs → edge t u ≡ false) → first_part node edge t (xs ++ ys) ≡ first_part node edge t ys
  first_past t [] ys h = refl
  first_past t (x ∷ xs) ys h = ap (λ b. cond (b && nat_lt x.commit t.commit) (min x.commit (first_part node edge t (xs ++ ys))) (first_part node edge t (xs ++ ys))) (h x (inl refl)) ∙ first_past t xs ys (λ u i. h u (inr i))

  InOrder-append : (k : Txn A → ℕ × ℕ × ℕ) (xs ys : List (Txn A)) → InOrder k xs → InOrder k ys → ((x y : Txn A) → In x xs → In y ys → Below (k x) (k y)) → InOrder k (xs ++ ys)
  InOrder-append k [] ys o q h = q
  InOrder-append k (x ∷ xs) ys o q h = (λ y i. side y (In-append k y xs ys i), InOrder-append k xs ys o.1 q (λ u v i j. h u v (inr i) j))
    where
      side : (y : Txn A) → In y xs ⊎ In y ys → Below (k x) (k y)
      side y (inl i) = o.0 y i
      side y (inr j) = h x y (inl refl) j

  by_keys : (k l : Txn A → ℕ × ℕ × ℕ) (xs : List (Txn A)) → ((x : Txn A) → In x xs → k x ≡ l x) → InOrder l xs → InOrder k xs
  by_keys k l [] e o = tt
  by_keys k l (x ∷ xs) e o = (λ y i. subst (λ a. Below a (k y)) (sym (e x (inl refl))) (subst (λ b. Below (l x) b) (sym (e y (inr i))) (o.0 y i)), by_keys k l xs (λ y i. e y (inr i)) o.1)

  module _ (w : World A) (gw : IsGood w) (quiet : is_quiet w ≡ true) (v : World A) (on : IsOnBase w gw quiet v) (gx : IsGood (joined w gw quiet v)) (stays : Stays w (joined w gw quiet v)) where
    abbrev x : World A
    x = joined w gw quiet v

    members : (u : World A) (t : Txn A) → In t (committed u) → In t u.txns × (is_done t.standing ≡ true)
    members u t i = In-filter (λ (y : Txn A). is_done y.standing) u.txns t i

    split : committed x ≡ committed w ++ committed v
    split = filter_append (λ (t : Txn A). is_done t.standing) w.txns v.txns

    key_before : (t : Txn A) → In t (committed w) → key x t ≡ key w t
    key_before t i = by_all (λ y. key x y ≡ key w y) (committed w) t stays.keys i

    key_after : (t : Txn A) → In t (committed v) → key x t ≡ key v t
    key_after t i = go (is_read_write t.mode) refl
      where
        same : f node edge t (committed x) ≡ f node edge t (committed v)
        same = ap (first_part node edge t) split ∙ first_past t (committed w) (committed v) (λ u j. no_edge w gw quiet v on t u (new_snapshot w gw quiet v on t (members v t i).0) (members w u j).0)

        go : (b : Bool) → is_read_write t.mode ≡ b → key x t ≡ key v t
        go true r = key-write node edge t (committed x) r ∙ ap (λ n. write_key n t.commit) same ∙ sym (key-write node edge t (committed v) r)
        go false r = key-read node edge t (committed x) r ∙ sym (key-read node edge t (committed v) r)

    -- a key of w is below each key of v
    below : (a b : Txn A) → In a (committed w) → In b (committed v) → Below (key w a) (key v b)
    below a b i j = go (is_read_write a.mode) (is_read_write b.mode) refl refl
      where
        b_snapshot : commits w ≤ b.snapshot
        b_snapshot = new_snapshot w gw quiet v on b (members v b j).0

        a_shown : a.snapshot ≤ commits w
        a_shown = (gw.numbered.shown a (members w a i).0).1

        a_first : is_read_write a.mode ≡ true → (key w a).0 ≤ commits w
        a_first r = let l = first_part-least node edge a (committed w) in let c = old_commit w gw quiet a (members w a i).0 in omega (arith, write-0 node edge a (committed w) r, l, c)

        b_first : is_read_write b.mode ≡ true → commits w < (key v b).0
        b_first r =
            let l : b.snapshot < f node edge b (committed v) = first_part-above node edge b (committed v) b.snapshot (later (new_logged r)) (λ u k d m. (edge_parts b u d).1) in
            omega (arith, write-0 node edge b (committed v) r, l, b_snapshot)
          where
            new_logged : is_read_write b.mode ≡ true → In b v.log
            new_logged r = side (on.good.numbered.kind b (members v b j).0)
              where
                side : In b v.log ⊎ (b.commit ≡ 0) × (is_done b.standing ≡ true → is_read_write b.mode ≡ false) → In b v.log
                side (inl k) = k
                side (inr k) = absurd (true≢false (sym r ∙ k.1 (members v b j).1))

            later : In b v.log → b.snapshot < b.commit
            later k = (on.good.numbered.logged b k).3

        two : (m n : ℕ) → m ≤ n → (m < n) ⊎ (m ≡ n)
        two m n h = grind arith

        ends : a.end < b.end
        ends = let p = gw.time.ended_by a (members w a i).0 in let q = (on.based.since b (members v b j).0).0 in let l = on.good.time.later b (members v b j).0 (members v b j).1 in omega (arith, p, q, l, ap (λ (z : Base). z.events) on.base)

        ro_key : is_read_write b.mode ≡ false → key v b ≡ (b.snapshot, 2, b.end)
        ro_key r = key-read node edge b (committed v) r

        go : (p q : Bool) → is_read_write a.mode ≡ p → is_read_write b.mode ≡ q → Below (key w a) (key v b)
        go true true r s = inl (let h = a_first r in let k = b_first s in omega (arith, h, k))
        go true false r s = side (two (key w a).0 b.snapshot (let h = a_first r in omega (arith, h, b_snapshot)))
          where
            side : ((key w a).0 < b.snapshot) ⊎ ((key w a).0 ≡ b.snapshot) → Below (key w a) (key v b)
            side (inl h) = inl (rw (ap (λ (k : ℕ × ℕ × ℕ). k.0) (ro_key s)) h)
            side (inr h) = inr (rw (ap (λ (k : ℕ × ℕ × ℕ). k.0) (ro_key s)) h, inl (rw (ap (λ (k : ℕ × ℕ × ℕ). k.1) (ro_key s)) (write-1 node edge a (committed w) r)))
        go false true r s = inl (let h = b_first s in let k = read-0 node edge a (committed w) r in omega (arith, a_shown, h, k))
        go false false r s = side (two a.snapshot b.snapshot (omega (arith, a_shown, b_snapshot)))
          where
            ka : key w a ≡ (a.snapshot, 2, a.end)
            ka = key-read node edge a (committed w) r

            side : (a.snapshot < b.snapshot) ⊎ (a.snapshot ≡ b.snapshot) → Below (key w a) (key v b)
            side (inl h) = subst (λ k. Below k (key v b)) (sym ka) (subst (λ k. Below (a.snapshot, 2, a.end) k) (sym (ro_key s)) (inl h))
            side (inr h) = subst (λ k. Below k (key v b)) (sym ka) (subst (λ k. Below (a.snapshot, 2, a.end) k) (sym (ro_key s)) (inr (h, inr (refl, ends))))

    order : serial_order x ≡ serial_order w ++ serial_order v
    order = same_order (key x) (serial_order x) (serial_order w ++ serial_order v) (in_order x (isolated_world x gx)) both there back
      where
        front : (t : Txn A) → In t (serial_order w) → In t (committed w)
        front t i = In-sorted (key w) t (committed w) i

        rest : (t : Txn A) → In t (serial_order v) → In t (committed v)
        rest t i = In-sorted (key v) t (committed v) i

        both : InOrder (key x) (serial_order w ++ serial_order v)
        both = InOrder-append (key x) (serial_order w) (serial_order v)
            (by_keys (key x) (key w) (serial_order w) (λ t i. key_before t (front t i)) (in_order w (isolated_world w gw)))
            (by_keys (key x) (key v) (serial_order v) (λ t i. key_after t (rest t i)) (in_order v (isolated_world v on.good)))
            (λ a b i j. subst (λ k. Below k (key x b)) (sym (key_before a (front a i))) (subst (λ k. Below (key w a) k) (sym (key_after b (rest b j))) (below a b (front a i) (rest b j))))

        there : (t : Txn A) → In t (serial_order x) → In t (serial_order w ++ serial_order v)
        there t i = side (In-append (key x) t (committed w) (committed v) (subst (In t) split (In-sorted (key x) t (committed x) i)))
          where
            side : In t (committed w) ⊎ In t (committed v) → In t (serial_order w ++ serial_order v)
            side (inl j) = In-left (key x) t (serial_order w) (serial_order v) (sorted-In (key w) t (committed w) j)
            side (inr j) = In-right (key x) t (serial_order w) (serial_order v) (sorted-In (key v) t (committed v) j)

        back : (t : Txn A) → In t (serial_order w ++ serial_order v) → In t (serial_order x)
        back t i = sorted-In (key x) t (committed x) (subst (In t) (sym split) (side (In-append (key x) t (serial_order w) (serial_order v) i)))
          where
            side : In t (serial_order w) ⊎ In t (serial_order v) → In t (committed w ++ committed v)
            side (inl j) = In-left (key x) t (committed w) (committed v) (front t j)
            side (inr j) = In-right (key x) t (committed w) (committed v) (rest t j)

    pub continues : ContinuesOn w v x
    continues = record {
      order = order;
      keys_before = stays.keys;
      keys_after = all_by _ (committed v) key_after;
      tables = same_tables w gw quiet v on;
    }

  -- A legal history in which no session has a transaction, followed by the events of a legal history on its base, is legal; and the one's serial order is followed by the other's.
  pub continues_on : (o : Opening A) (es more : List (Record A)) → Legal o es → is_quiet (world_of o es) ≡ true → Legal (opening_after (world_of o es)) more
      → Legal o (es ++ more) × ContinuesOn (world_of o es) (world_of (opening_after (world_of o es)) more) (world_of o (es ++ more))
  unfolding Legal
  continues_on o es more l quiet m = (legal, subst (ContinuesOn w v) (sym same) (continues w gw quiet v runs.2 (subst IsGood same (good_world o (es ++ more) legal)) (subst (Stays w) same (legal_stays o es more legal))))
    where
      w : World A
      w = world_of o es

      gw : IsGood w
      gw = good_world o es l

      bw : IsBased w
      bw = based_run (start o) es (good_start o (sound_proper o.catalog o.tables l.0)) (based_start o) l.1

      s : World A
      s = start (opening_after w)

      v : World A
      v = run s more

      on : IsOnBase w gw quiet s
      on = record { good = good_start (opening_after w) (sound_proper w.catalog (tables_at w (commits w)) m.0); based = based_start (opening_after w); opening = refl; base = refl }

      runs : IsAnswered (joined w gw quiet s) more × (run (joined w gw quiet s) more ≡ joined w gw quiet v) × IsOnBase w gw quiet v
      runs = runs_on w gw quiet (λ y i. (bw.exporters y i).1) s more on m.1

      begins : joined w gw quiet s ≡ w
      begins = ap (λ xs. record (joined w gw quiet s) { log = xs }) (append-nil w.log) ∙ ap (λ xs. record (joined w gw quiet s) { log = w.log; txns = xs }) (append-nil w.txns) ∙ ap (λ xs. record w { exports = xs }) (append-nil w.exports)

      legal : Legal o (es ++ more)
      legal = (l.0, answered-append (start o) es more l.1 (subst (λ u. IsAnswered u more) begins runs.0))

      same : world_of o (es ++ more) ≡ joined w gw quiet v
      same = run-append (start o) es more ∙ ap (λ u. run u more) (sym begins) ∙ runs.1

  -- The world after a legal history is an opening to go on from.
  pub opens : (o : Opening A) (es : List (Record A)) → Legal o es → Legal (opening_after (world_of o es)) []
  opens o es l = Legal-start (opening_after (world_of o es)) (always_sound o es l (commits (world_of o es)) (omega arith))
