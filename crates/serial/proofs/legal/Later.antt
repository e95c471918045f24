-- What more events leave as it is: the committed transactions, their keys and order, and the tables of each commit.
use Rattle.std.proofs.Common.{◌≡◌, refl, sym, ap, subst, ◌∙◌, ℕ, zero, suc, ◌+◌, ◌-◌, ◌<◌, ◌≤◌, Bool, true, false, true≢false, cond, not, ◌&&◌, ◌⊎◌, inl, inr, List, [], ◌∷◌, ◌++◌, length, take, eqb, nat_lt, nat_le, append_assoc, arith}
use Rattle.std.proofs.lemmas.Bool.{eqb-true, leb-true, le-leb, ltb-true, and_parts}
use Rattle.std.specs.List.{filter}
use Rattle.value.specs.Isolation.{write_key}
use Rattle.value.proofs.IsolationLemmas.{In, Below, Out, f, first_part-least, first_part-edge, first_part-cases, key-write, key-read}
use Rattle.value.proofs.SortLemmas.{InOrder, In-sorted, sorted-In, same_order}
use Rattle.value.proofs.SerialLemmas.{In-left, In-append}
use Rattle.history.specs.declared.event.Record.{Record}
use Rattle.history.specs.Opening.{Opening}
use Rattle.history.specs.Transactions.{Txn, World, Exported_snapshot, node, edge, is_done, is_read_write, commits, tables_at, with_all}
use Rattle.history.specs.Events.{begun, replaced, start, follows, run, world_of}
use Rattle.history.specs.declared.base.Base.{Base}
use Rattle.history.specs.Serial.{committed, key, serial_order, HasEarlier, Stays}
use Rattle.history.proofs.Alone.{In-filter, filter-In, in_order}
use Rattle.history.specs.Answer.{reply_in, Legal, IsAnswered}
use Rattle.serial.proofs.legal.Legal.{Step, Nothing, Begins, Moves, Settles, Dooms, Steps, One, Two, current_in, legal_steps}
use Rattle.serial.proofs.structures.Dooms.{Fate, Spared, Over, In-doomed, done-In}
use Rattle.serial.proofs.legal.Numbers.{IsNumbered, Adds, adds, In-replaced, replaced-In, not_done, no_commit}
use Rattle.serial.proofs.legal.InTime.{keeps}
use Rattle.serial.proofs.safe.Stamps.{Stamp, Stands, stamp, stamp_step}
use Rattle.serial.proofs.safe.Prefix.{all_by, by_all, has_earlier, is_safe}
use Rattle.serial.proofs.order.SerialTheorem.{IsGood, good_step, good_steps, good_world, isolated_world}

module _ {A : Type 0} where
  -- v is what w has become
  record Grows (w v : World A) : Type 0 where
    place : w.place ≤ v.place
    opening : v.opening ≡ w.opening
    base : v.base ≡ w.base
    log : (rest : List (Txn A)) × (v.log ≡ w.log ++ rest)
    kept : (t : Txn A) → In t w.txns → is_done t.standing ≡ true → In t v.txns
    new : (t : Txn A) → In t v.txns → is_done t.standing ≡ true → In t w.txns ⊎ (w.place < t.end) × ((t.commit ≡ 0) ⊎ (commits w < t.commit))

  grows_itself : (w : World A) → Grows w w
  grows_itself w = record { place = omega arith; opening = refl; base = refl; log = ([], nil w.log); kept = λ t i d. i; new = λ t i d. inl i }
    where
      nil : (ts : List (Txn A)) → ts ≡ ts ++ []
      nil [] = refl
      nil (t ∷ ts) = ap (λ us. t ∷ us) (nil ts)

  longer : (xs ys : List (Txn A)) → length xs ≤ length (xs ++ ys)
  longer [] ys = omega arith
  longer (x ∷ xs) ys = omega (arith, longer xs ys)

  -- t, which hadn't committed, is replaced by x
  grows_replaced : (w u : World A) (t x : Txn A) (log : List (Txn A)) (exports : List Exported_snapshot) → Grows w u → IsNumbered u → In t u.txns → (is_done t.standing ≡ true → ⊥) → x.number ≡ t.number
      → ((rest : List (Txn A)) × (log ≡ u.log ++ rest)) → (is_done x.standing ≡ true → (x.end ≡ u.place + 1) × ((x.commit ≡ 0) ⊎ (x.commit ≡ commits u + 1)))
      → Grows w (record u { log = log; txns = replaced x u.txns; exports = exports; place = u.place + 1 })
  grows_replaced w u t x log exports g num i undone n more ends = record {
    place = omega (arith, g.place);
    opening = g.opening;
    base = g.base;
    log = (g.log.0 ++ more.0, more.1 ∙ ap (λ l. l ++ more.0) g.log.1 ∙ append_assoc w.log g.log.0 more.0);
    kept = λ y j d. replaced-In y x u.txns (g.kept y j d) (apart y (g.kept y j d) d (eqb y.number x.number) refl);
    new = λ y j d. new y (In-replaced y x u.txns j) d;
  }
    where
      apart : (y : Txn A) → In y u.txns → is_done y.standing ≡ true → (b : Bool) → eqb y.number x.number ≡ b → eqb y.number x.number ≡ false
      apart y j d false e = e
      apart y j d true e = absurd (undone (sym (ap (λ (z : Txn A). is_done z.standing) (num.unique y t j i (eqb-true y.number x.number e ∙ n))) ∙ d))

      New : Txn A → Type 0
      New y = In y w.txns ⊎ (w.place < y.end) × ((y.commit ≡ 0) ⊎ (commits w < y.commit))

      new : (y : Txn A) → (y ≡ x) ⊎ In y u.txns × (eqb y.number x.number ≡ false) → is_done y.standing ≡ true → New y
      new y (inr j) d = g.new y j.0 d
      new y (inl p) d = subst New (sym p) (made (ends (sym (ap (λ (z : Txn A). is_done z.standing) p) ∙ d)))
        where
          far : commits w ≤ commits u
          far = omega (arith, longer w.log g.log.0, ap length g.log.1, ap (λ (b : Base). b.commits) g.base)

          made : (x.end ≡ u.place + 1) × ((x.commit ≡ 0) ⊎ (x.commit ≡ commits u + 1)) → New x
          made e = inr (omega (arith, e.0, g.place), side e.1)
            where
              side : (x.commit ≡ 0) ⊎ (x.commit ≡ commits u + 1) → (x.commit ≡ 0) ⊎ (commits w < x.commit)
              side (inl c) = inl c
              side (inr c) = inr (omega (arith, far))

  grows_step : (w u v : World A) → IsNumbered u → Grows w u → Step u v → Grows w v
  grows_step w u v num g Nothing = record { place = omega (arith, g.place); opening = g.opening; base = g.base; log = g.log; kept = g.kept; new = g.new }
  grows_step w u v num g (Begins s m) = record {
    place = omega (arith, g.place);
    opening = g.opening;
    base = g.base;
    log = g.log;
    kept = λ t i d. In-left (λ (_ : Txn A). (0, 0, 0)) t u.txns (begun u s m ∷ []) (g.kept t i d);
    new = λ t i d. go t (In-append (λ (_ : Txn A). (0, 0, 0)) t u.txns (begun u s m ∷ []) i) d;
  }
    where
      go : (t : Txn A) → In t u.txns ⊎ ((t ≡ begun u s m) ⊎ ⊥) → is_done t.standing ≡ true → In t w.txns ⊎ (w.place < t.end) × ((t.commit ≡ 0) ⊎ (commits w < t.commit))
      go t (inl i) d = g.new t i d
      go t (inr (inl p)) d = absurd (true≢false (sym d ∙ ap (λ (y : Txn A). is_done y.standing) p))
      go t (inr (inr z)) d = absurd z
  grows_step w u v num g (Moves s t x log exports c o move) = grows_replaced w u t x log exports g num i (not_done t.standing o) added.number (more added.log_is) (λ d. ((keeps u t x log exports o move).end.0 d, numbered added.log_is))
    where
      i : In t u.txns
      i = (current_in u s t c).0

      added : Adds u t x log
      added = adds u t x log exports num o (no_commit u num t i o) (num.shown t i) move

      nil : (ts : List (Txn A)) → ts ≡ ts ++ []
      nil [] = refl
      nil (y ∷ ts) = ap (λ us. y ∷ us) (nil ts)

      more : (log ≡ u.log) × (x.commit ≡ 0) × (is_done x.standing ≡ true → is_read_write x.mode ≡ false) ⊎ (log ≡ u.log ++ x ∷ []) × (x.commit ≡ commits u + 1) × (is_done x.standing ≡ true) × (is_read_write x.mode ≡ true) → (rest : List (Txn A)) × (log ≡ u.log ++ rest)
      more (inl e) = ([], e.0 ∙ nil u.log)
      more (inr e) = (x ∷ [], e.0)

      numbered : (log ≡ u.log) × (x.commit ≡ 0) × (is_done x.standing ≡ true → is_read_write x.mode ≡ false) ⊎ (log ≡ u.log ++ x ∷ []) × (x.commit ≡ commits u + 1) × (is_done x.standing ≡ true) × (is_read_write x.mode ≡ true) → (x.commit ≡ 0) ⊎ (x.commit ≡ commits u + 1)
      numbered (inl e) = inl e.1
      numbered (inr e) = inr e.1
  grows_step w u v num g (Settles s t st c o d o' d') = grows_replaced w u t (record t { standing = st }) u.log u.exports g num (current_in u s t c).0 (λ e. true≢false (sym e ∙ d)) refl ([], nil u.log) (λ e. absurd (true≢false (sym e ∙ d')))
    where
      nil : (ts : List (Txn A)) → ts ≡ ts ++ []
      nil [] = refl
      nil (y ∷ ts) = ap (λ us. y ∷ us) (nil ts)
  grows_step w u v num g (Dooms cs) = record {
    place = g.place;
    opening = g.opening;
    base = g.base;
    log = g.log;
    kept = λ t i d. done-In u.place cs t u.txns d (g.kept t i d);
    new = λ t i d. let x = In-doomed u.place cs t u.txns i in go x.0 t x.1 x.2 d;
  }
    where
      go : (x t : Txn A) → In x u.txns → Fate u.place x t → is_done t.standing ≡ true → In t w.txns ⊎ (w.place < t.end) × ((t.commit ≡ 0) ⊎ (commits w < t.commit))
      go x t i Spared d = g.new x i d
      go x t i (Over c o) d = absurd (true≢false (sym d))

  grows_steps : (w u v : World A) → IsGood u → Grows w u → Steps u v → Grows w v
  grows_steps w u v good g (One v' s) = grows_step w u v good.numbered g s
  grows_steps w u v good g (Two m v' s r) = grows_step w m v (good_step u m good s).numbered (grows_step w u m good.numbered g s) r

  stamp_steps : (w v : World A) (p : Stamp) → Stands w p → Steps w v → Stands v p
  stamp_steps w v p h (One v' s) = stamp_step w v p h s
  stamp_steps w v p h (Two u v' s r) = stamp_step u v p (stamp_step w u p h s) r

  -- what a world has become after more events, and what holds there
  record Grown (w v : World A) : Type 0 where
    grows : Grows w v
    good : IsGood v
    stamps : (p : Stamp) → Stands w p → Stands v p

  grown_run : (w u : World A) (es : List (Record A)) → Grown w u → IsAnswered u es → Grown w (run u es)
  grown_run w u [] g l = g
  grown_run w u (e ∷ es) g l = grown_run w (follows u e) es (subst (λ r. Grown w (follows u (record { session = e.session; action = e.action; reply = r }))) (sym l.1) (step (legal_steps u e.session e.action l.0))) l.2
    where
      next : World A
      next = follows u (record { session = e.session; action = e.action; reply = reply_in u e.session e.action })

      step : Steps u next → Grown w next
      step s = record { grows = grows_steps w u next g.good g.grows s; good = good_steps u next g.good s; stamps = λ p h. stamp_steps u next p (g.stamps p h) s }

  module _ (w v : World A) (gw : IsGood w) (grown : Grown w v) where
    g : Grows w v
    g = grown.grows

    done : (u : World A) (t : Txn A) → In t (committed u) → In t u.txns × (is_done t.standing ≡ true)
    done u t i = In-filter (λ (y : Txn A). is_done y.standing) u.txns t i

    still : (t : Txn A) → In t (committed w) → In t (committed v)
    still t i = let d = done w t i in filter-In (λ (y : Txn A). is_done y.standing) v.txns t (g.kept t d.0 d.1) d.1

    commit_by : (t : Txn A) → In t (committed w) → t.commit ≤ commits w
    commit_by t i = go (gw.numbered.kind t (done w t i).0)
      where
        upto : (n : ℕ) (ts : List (Txn A)) → Rattle.value.proofs.SerialLemmas.NumberedFrom (λ (y : Txn A). y.commit) n ts → In t ts → t.commit ≤ n + length ts
        upto n [] h k = absurd k
        upto n (y ∷ ts) h (inl p) = omega (arith, h.0, ap (λ (z : Txn A). z.commit) p)
        upto n (y ∷ ts) h (inr k) = omega (arith, upto (n + 1) ts h.1 k)

        go : In t w.log ⊎ (t.commit ≡ 0) × (is_done t.standing ≡ true → is_read_write t.mode ≡ false) → t.commit ≤ commits w
        go (inl j) = omega (arith, upto w.base.commits w.log gw.numbered.in_order j)
        go (inr k) = omega (arith, k.0)

    above : (t u : Txn A) → edge t u ≡ true → t.snapshot < u.commit
    above t u e = ltb-true t.snapshot u.commit (and_parts (not (eqb t.number u.number)) (nat_lt t.snapshot u.commit) (and_parts (not (eqb t.number u.number) && nat_lt t.snapshot u.commit) _ e).0).1

    -- the first part of a key is as it was
    same_first : (t : Txn A) → In t (committed w) → f node edge t (committed v) ≡ f node edge t (committed w)
    same_first t i = both (down (first_part-cases node edge t (committed w))) (up (first_part-cases node edge t (committed v)))
      where
        both : {a b : ℕ} → a ≤ b → b ≤ a → a ≡ b
        both p q = omega arith

        down : (f node edge t (committed w) ≡ t.commit) ⊎ Out node edge t (committed w) (f node edge t (committed w)) → f node edge t (committed v) ≤ f node edge t (committed w)
        down (inl e) = let l = first_part-least node edge t (committed v) in omega arith
        down (inr o) = let l = first_part-edge node edge t o.to (committed v) (still o.to o.in_list) o.is_edge in let e = o.least in omega arith

        up : (f node edge t (committed v) ≡ t.commit) ⊎ Out node edge t (committed v) (f node edge t (committed v)) → f node edge t (committed w) ≤ f node edge t (committed v)
        up (inl e) = let l = first_part-least node edge t (committed w) in omega arith
        up (inr o) = side (g.new o.to (done v o.to o.in_list).0 (done v o.to o.in_list).1)
          where
            side : In o.to w.txns ⊎ (w.place < o.to.end) × ((o.to.commit ≡ 0) ⊎ (commits w < o.to.commit)) → f node edge t (committed w) ≤ f node edge t (committed v)
            side (inl j) = let l = first_part-edge node edge t o.to (committed w) (filter-In (λ (y : Txn A). is_done y.standing) w.txns o.to j (done v o.to o.in_list).1) o.is_edge in let e = o.least in omega arith
            side (inr k) = absurd (late k.1)
              where
                late : (o.to.commit ≡ 0) ⊎ (commits w < o.to.commit) → ⊥
                late (inl z) = let a = above t o.to o.is_edge in omega arith
                late (inr z) = let a = commit_by t i in let b = o.below in omega arith

    same_key : (t : Txn A) → In t (committed w) → key v t ≡ key w t
    same_key t i = go (is_read_write t.mode) refl
      where
        go : (b : Bool) → is_read_write t.mode ≡ b → key v t ≡ key w t
        go true r = key-write node edge t (committed v) r ∙ ap (λ n. write_key n t.commit) (same_first t i) ∙ sym (key-write node edge t (committed w) r)
        go false r = key-read node edge t (committed v) r ∙ sym (key-read node edge t (committed w) r)

    -- those that had ended, in the order of now
    abbrev earlier : List (Txn A)
    earlier = filter (λ t. nat_le t.end w.place) (serial_order v)

    In-earlier : (t : Txn A) → In t earlier → In t (committed w)
    In-earlier t i = side (g.new t (done v t now).0 (done v t now).1)
      where
        both : In t (serial_order v) × (nat_le t.end w.place ≡ true)
        both = In-filter (λ y. nat_le y.end w.place) (serial_order v) t i

        now : In t (committed v)
        now = In-sorted (key v) t (committed v) both.0

        side : In t w.txns ⊎ (w.place < t.end) × ((t.commit ≡ 0) ⊎ (commits w < t.commit)) → In t (committed w)
        side (inl j) = filter-In (λ (y : Txn A). is_done y.standing) w.txns t j (done v t now).1
        side (inr k) = absurd (let l = leb-true t.end w.place both.1 in let m = k.0 in omega arith)

    earlier-In : (t : Txn A) → In t (committed w) → In t earlier
    earlier-In t i = filter-In (λ y. nat_le y.end w.place) (serial_order v) t (sorted-In (key v) t (committed v) (still t i)) (le-leb t.end w.place (gw.time.ended_by t (done w t i).0))

    filter_order : (p : Txn A → Bool) (xs : List (Txn A)) → InOrder (key v) xs → InOrder (key v) (filter p xs)
    filter_order p [] o = tt
    filter_order p (x ∷ xs) o = go (p x) (filter_order p xs o.1)
      where
        go : (b : Bool) → InOrder (key v) (filter p xs) → InOrder (key v) (cond b (x ∷ filter p xs) (filter p xs))
        go true rest = (λ y i. o.0 y (In-filter p xs y i).0, rest)
        go false rest = rest

    by_old_keys : (xs : List (Txn A)) → ((x : Txn A) → In x xs → In x (committed w)) → InOrder (key v) xs → InOrder (key w) xs
    by_old_keys [] f o = tt
    by_old_keys (x ∷ xs) f o = (λ y i. subst (λ k. Below k (key w y)) (same_key x (f x (inl refl))) (subst (λ k. Below (key v x) k) (same_key y (f y (inr i))) (o.0 y i)), by_old_keys xs (λ y i. f y (inr i)) o.1)

    same_serial : serial_order w ≡ earlier
    same_serial = same_order (key w) (serial_order w) earlier (in_order w (isolated_world w gw)) (by_old_keys earlier In-earlier (filter_order _ (serial_order v) (in_order v (isolated_world v grown.good))))
        (λ t i. earlier-In t (In-sorted (key w) t (committed w) i)) (λ t i. sorted-In (key w) t (committed w) (In-earlier t i))

    same_take : (n : ℕ) (xs ys : List (Txn A)) → n ≤ length xs → take n (xs ++ ys) ≡ take n xs
    same_take zero xs ys h = refl
    same_take (suc n) [] ys h = absurd (omega arith)
    same_take (suc n) (x ∷ xs) ys h = ap (λ zs. x ∷ zs) (same_take n xs ys (omega arith))

    same_tables : (n : ℕ) → n ≤ commits w → tables_at v n ≡ tables_at w n
    same_tables n h = ap (λ (b : Base). with_all (take (n - b.commits) v.log) v.opening) g.base ∙ ap (λ X. with_all (take (n - w.base.commits) v.log) X) g.opening
        ∙ ap (λ ts. with_all ts w.opening) (ap (take (n - w.base.commits)) g.log.1 ∙ same_take (n - w.base.commits) w.log g.log.0 (omega (arith, h)))

    -- what had committed before a transaction of w began is of w
    still_earlier : (t : Txn A) → In t w.txns → t.imported ≡ false → HasEarlier v t
    still_earlier t i m = all_by _ (committed v) (λ u j p. side u (g.new u (done v u j).0 (done v u j).1) (done v u j).1 (ltb-true u.end t.begin p) p)
      where
        side : (u : Txn A) → In u w.txns ⊎ (w.place < u.end) × ((u.commit ≡ 0) ⊎ (commits w < u.commit)) → is_done u.standing ≡ true → u.end < t.begin → nat_lt u.end t.begin ≡ true → nat_le (key v u).0 t.snapshot ≡ true
        side u (inl j) d l p =
            let k : In u (committed w) = filter-In (λ (y : Txn A). is_done y.standing) w.txns u j d in
            ap (λ (q : ℕ × ℕ × ℕ). nat_le q.0 t.snapshot) (same_key u k) ∙ by_all (λ y. nat_lt y.end t.begin ≡ true → nat_le (key w y).0 t.snapshot ≡ true) (committed w) u (has_earlier w gw t i m) k p
        side u (inr h) d l p = absurd (let b : t.begin ≤ w.place = gw.time.begun_by t i in omega (arith, h.0, l))

    stays : Stays w v
    stays = record {
      keys = all_by _ (committed w) same_key;
      order = same_serial;
      tables = same_tables;
      safe = all_by _ w.txns (λ t i k. (is_safe v grown.good (stamp t) (grown.stamps (stamp t) (gw.stands.txns t i)) (rw (ap (λ (b : Base). b.commits) g.base) (gw.numbered.shown t i).0) k, still_earlier t i));
    }

  -- the beginning of a legal history is legal, and so is the rest after it
  pub legal_parts : (w : World A) (es more : List (Record A)) → IsAnswered w (es ++ more) → IsAnswered w es × IsAnswered (run w es) more
  legal_parts w [] more l = (tt, l)
  legal_parts w (e ∷ es) more l = let p = legal_parts (follows w e) es more l.2 in ((l.0, l.1, p.0), p.1)

  pub run-append : (w : World A) (es more : List (Record A)) → run w (es ++ more) ≡ run (run w es) more
  run-append w [] more = refl
  run-append w (e ∷ es) more = run-append (follows w e) es more

  pub legal_begins : (o : Opening A) (es more : List (Record A)) → Legal o (es ++ more) → Legal o es
  unfolding Legal
  legal_begins o es more l = (l.0, (legal_parts (start o) es more l.1).0)

  pub legal_rest : (o : Opening A) (es more : List (Record A)) → Legal o (es ++ more) → IsAnswered (world_of o es) more
  unfolding Legal
  legal_rest o es more l = (legal_parts (start o) es more l.1).1

  pub legal_stays : (o : Opening A) (es more : List (Record A)) → Legal o (es ++ more) → Stays (world_of o es) (world_of o (es ++ more))
  legal_stays o es more l = subst (Stays w) (sym (run-append (start o) es more)) (stays w (run w more) good (grown_run w w more (record { grows = grows_itself w; good = good; stamps = λ p s. s }) (legal_rest o es more l)))
    where
      w : World A
      w = world_of o es

      good : IsGood w
      good = good_world o es (legal_begins o es more l)
