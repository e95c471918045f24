-- Of two transactions that wrote one key, one's commit was in the other's snapshot, or one never committed.
use Rattle.std.proofs.Common.{◌≡◌, refl, sym, ap, subst, ◌∙◌, ℕ, ◌+◌, ◌<◌, ◌≤◌, Bool, true, false, true≢false, cond, not, ◌&&◌, ◌||◌, ◌⊎◌, inl, inr, List, [], ◌∷◌, eqb, nat_lt, arith}
use Rattle.std.proofs.lemmas.Bool.Decides.{nat_tests}
use Rattle.std.proofs.lemmas.Bool.{eqb-true, eqb-false, eq-eqb, and_parts}
use Rattle.std.specs.List.{list_any}
use Rattle.value.specs.declared.value.Value.{Value}
use Rattle.value.proofs.IsolationLemmas.{In}
use Rattle.value.proofs.SerialLemmas.{In-append}
use Rattle.schema.specs.declared.changes.Change.{Change}
use Rattle.schema.specs.Plain.{same}
use Rattle.schema.proofs.PlainLemmas.{touches, same_value}
use Rattle.value.specs.Order.{value_cmp-total}
use Rattle.value.proofs.Basics.{In-any, any-cases, any-In}
use Rattle.std.specs.Ordering.{is_eq}
use Rattle.std.proofs.lemmas.Cmp.{tied_itself}
use Rattle.statement.specs.Evaluation.{outcome}
use Rattle.history.specs.Transactions.{Done, Txn, World, Exported_snapshot, commits, tables_at, is_open, is_done, is_read_write}
use Rattle.history.specs.Events.{ended, ran, begun}
use Rattle.history.specs.Answer.{is_taken}
use Rattle.serial.proofs.legal.Legal.{Move, Stays, Fails, Aborts, Commits, Runs, Asks, Polls, Learns, Imports, Step, Nothing, Begins, Moves, Settles, Dooms, current_in}
use Rattle.serial.proofs.structures.Dooms.{Fate, Spared, Over, In-doomed}
use Rattle.serial.proofs.legal.Numbers.{IsNumbered, adds, In-replaced, polled_keeps, not_done, no_commit}
use Rattle.serial.proofs.legal.Faithful.{IsFaithful, AllFaithful, waits}

none_in : {A : Type 0} (p : A → Bool) (xs : List A) (x : A) → list_any p xs ≡ false → In x xs → p x ≡ false
none_in p [] x e i = absurd i
none_in {A} p (y ∷ xs) x e i = go (p y) refl (none_in p xs x) e i
  where
    go : (b : Bool) → p y ≡ b → (list_any p xs ≡ false → In x xs → p x ≡ false) → (b || list_any p xs) ≡ false → (x ≡ y) ⊎ In x xs → p x ≡ false
    go true q rest f j = absurd (true≢false f)
    go false q rest f (inl r) = ap p r ∙ q
    go false q rest f (inr j) = rest f j

-- of three that are not all true, two are
middle : (a b c : Bool) → a ≡ true → c ≡ true → (a && b && c) ≡ false → b ≡ false
middle true true c e f g = absurd (true≢false (sym f ∙ g))
middle true false c e f g = refl
middle false b c e f g = absurd (true≢false (sym e))

module _ {A : Type 0} where
  abbrev pub Touched : ℕ → Value A → Txn A → Type 0
  Touched n k t = list_any (touches n k) t.changes ≡ true

  abbrev pub Dead : Txn A → Type 0
  Dead t = (is_open t.standing ≡ false) × (t.commit ≡ 0)

  abbrev pub Sees : Txn A → Txn A → Type 0
  Sees v u = (0 < u.commit) × (u.commit ≤ v.snapshot)

  abbrev pub Apart : Txn A → Txn A → Type 0
  Apart u v = Sees v u ⊎ Sees u v ⊎ Dead u ⊎ Dead v

  apart_back : (u v : Txn A) → Apart u v → Apart v u
  apart_back u v (inl h) = inr (inl h)
  apart_back u v (inr (inl h)) = inl h
  apart_back u v (inr (inr (inl h))) = inr (inr (inr h))
  apart_back u v (inr (inr (inr h))) = inr (inr (inl h))

  pub record IsFirstUpdater (w : World A) : Type 0 where
    pub each : (n : ℕ) (k : Value A) (u v : Txn A) → In u w.txns → In v w.txns → (u.number ≡ v.number → ⊥) → Touched n k u → Touched n k v → Apart u v

  -- an open one with no commit, whose snapshot stays
  apart_kept : (t x v : Txn A) → is_open t.standing ≡ true → t.commit ≡ 0 → x.snapshot ≡ t.snapshot → Apart t v → Apart x v
  apart_kept t x v o z e (inl h) = absurd (omega (arith, h.0))
  apart_kept t x v o z e (inr (inl h)) = inr (inl (h.0, omega (arith, h.1)))
  apart_kept t x v o z e (inr (inr (inl h))) = absurd (true≢false (sym o ∙ h.0))
  apart_kept t x v o z e (inr (inr (inr h))) = inr (inr (inr h))

  same_itself : (v : Value A) → same v v ≡ true
  same_itself v = ap is_eq (tied_itself value_cmp-total v)

  -- what touches a key of a table
  touched_is : (n : ℕ) (k : Value A) (x : Change A) → touches n k x ≡ true → (x.table ≡ n) × (x.key ≡ k)
  touched_is n k x e = let p = and_parts (eqb x.table n) (same k x.key) e in (eqb-true x.table n p.0, sym (same_value k x.key p.1))

  -- A new write of a key that another has written.
  apart_new : (n : ℕ) (k : Value A) (t v x : Txn A) (y : Change A) → is_taken t v y ≡ false → (t.number ≡ v.number → ⊥) → touches n k y ≡ true → Touched n k v → x.snapshot ≡ t.snapshot → Apart x v
  apart_new n k t v x y free other ty tv e = go (is_open v.standing) (nat_lt t.snapshot v.commit) refl refl
    where
      z : (c : Change A) × In c v.changes × (touches n k c ≡ true)
      z = any-In (touches n k) v.changes tv

      here : (x.snapshot ≡ x.snapshot) × (list_any (λ c. eqb y.table c.table && same y.key c.key) v.changes ≡ true)
      here =
          let p = touched_is n k y ty in
          let q = touched_is n k z.0 z.2 in
          let tables : eqb y.table z.0.table ≡ true = eq-eqb y.table z.0.table (p.0 ∙ sym q.0) in
          let keys : same y.key z.0.key ≡ true = ap (λ v. same y.key v) (q.1 ∙ sym p.1) ∙ same_itself y.key in
          (refl, In-any (λ c. eqb y.table c.table && same y.key c.key) v.changes z.0 z.1 (ap (λ b. b && same y.key z.0.key) tables ∙ keys))

      unlike : eqb v.number t.number ≡ false
      unlike = not_true (eqb v.number t.number) refl
        where
          not_true : (b : Bool) → eqb v.number t.number ≡ b → eqb v.number t.number ≡ false
          not_true true f = absurd (other (sym (eqb-true v.number t.number f)))
          not_true false f = f

      rest : (not (eqb v.number t.number) && (is_open v.standing || nat_lt t.snapshot v.commit) && list_any (λ c. eqb y.table c.table && same y.key c.key) v.changes) ≡ false
      rest = free

      choice : (is_open v.standing || nat_lt t.snapshot v.commit) ≡ false
      choice = middle (not (eqb v.number t.number)) (is_open v.standing || nat_lt t.snapshot v.commit) _ (ap not unlike) here.1 rest

      zero_or : (m : ℕ) → (m ≡ 0) ⊎ (0 < m)
      zero_or m = grind arith

      at_most : (a b : ℕ) → nat_lt a b ≡ false → b ≤ a
      at_most a b f = grind (arith, nat_tests)

      go : (o l : Bool) → is_open v.standing ≡ o → nat_lt t.snapshot v.commit ≡ l → Apart x v
      go true l p q = absurd (true≢false (sym (ap (λ b. b || nat_lt t.snapshot v.commit) p) ∙ choice))
      go false true p q = absurd (true≢false (sym (ap (λ b. b || nat_lt t.snapshot v.commit) p ∙ q) ∙ choice))
      go false false p q = either (zero_or v.commit)
        where
          either : (v.commit ≡ 0) ⊎ (0 < v.commit) → Apart x v
          either (inl c) = inr (inr (inr (p, c)))
          either (inr c) = inr (inl (c, omega (arith, at_most t.snapshot v.commit q)))

  apart_move : (w : World A) (n : ℕ) (k : Value A) (t v x : Txn A) (log : List (Txn A)) (exports : List Exported_snapshot) → IsFaithful w.catalog (tables_at w t.snapshot) t → is_open t.standing ≡ true → t.commit ≡ 0 → In v w.txns
      → (t.number ≡ v.number → ⊥) → (Touched n k t → Touched n k v → Apart t v) → Move w t x log exports → Touched n k x → Touched n k v → Apart x v
  apart_move w n k t v x log exports a o z i other before Stays tx tv = before tx tv
  apart_move w n k t v x log exports a o z i other before Fails tx tv = inr (inr (inl (refl, z)))
  apart_move w n k t v x log exports a o z i other before Aborts tx tv = inr (inr (inl (refl, z)))
  apart_move w n k t v x log exports a o z i other before (Commits c) tx tv = go (is_read_write t.mode) tx
    where
      X : Bool → Txn A
      X b = cond b (record (ended w Done t) { commit = commits w + 1 }) (ended w Done t)

      go : (b : Bool) → Touched n k (X b) → Apart (X b) v
      go true tx = apart_kept t (X true) v o z refl (before tx tv)
      go false tx = apart_kept t (X false) v o z refl (before tx tv)
  apart_move w n k t v x log exports a o z i other before (Asks m) tx tv = apart_kept t x v o z refl (before tx tv)
  apart_move w n k t v x log exports a o z i other before (Runs q fits m wr free) tx tv = go (any-cases (touches n k) t.changes (outcome w.catalog q t.own).changes tx)
    where
      go : (Touched n k t) ⊎ (list_any (touches n k) (outcome w.catalog q t.own).changes ≡ true) → Apart (ran w q (outcome w.catalog q t.own).reply t) v
      go (inl h) = apart_kept t (ran w q (outcome w.catalog q t.own).reply t) v o z refl (before h tv)
      go (inr h) =
          let y = any-In (touches n k) (outcome w.catalog q t.own).changes h in
          apart_new n k t v (ran w q (outcome w.catalog q t.own).reply t) y.0 (none_in (λ u. is_taken t u y.0) w.txns v (none_in (λ c. list_any (λ u. is_taken t u c) w.txns) (outcome w.catalog q t.own).changes y.0 free y.1) i) other y.2 tv refl
  apart_move w n k t v x log exports a o z i other before (Polls d g) tx tv = polled_keeps (λ y. Touched n k y → Apart y v) w t (λ h. absurd (never h)) (λ h. absurd (never h)) tx
    where
      never : Touched n k t → ⊥
      never h = (true≢false (sym h ∙ ap (list_any (touches n k)) (a.fresh (inl (waits t d g))).2))
  apart_move w n k t v x log exports a o z i other before (Learns d g f) tx tv = polled_keeps (λ y. Touched n k y → Apart (record y { known = true }) v) w t (λ h. absurd (never h)) (λ h. absurd (never h)) tx
    where
      never : Touched n k t → ⊥
      never h = (true≢false (sym h ∙ ap (list_any (touches n k)) (a.fresh (inl (waits t d g))).2))
  apart_move w n k t v x log exports a o z i other before (Imports j y d g e) tx tv = absurd (true≢false (sym tx ∙ ap (list_any (touches n k)) (a.fresh (inr g)).2))

  pub first_updater_step : (w v : World A) → IsNumbered w → AllFaithful w → IsFirstUpdater w → Step w v → IsFirstUpdater v
  first_updater_step w v num all inv Nothing = record { each = inv.each }
  first_updater_step w v num all inv (Begins s m) = record { each = λ n k t u i j d p q. each n k t u (In-append (λ (_ : Txn A). (0, 0, 0)) t w.txns (begun w s m ∷ []) i) (In-append (λ (_ : Txn A). (0, 0, 0)) u w.txns (begun w s m ∷ []) j) d p q }
    where
      New : Txn A → Type 0
      New t = (t ≡ begun w s m) ⊎ ⊥

      untouched : (n : ℕ) (k : Value A) (t : Txn A) → New t → Touched n k t → ⊥
      untouched n k t (inl p) h = true≢false (sym h ∙ ap (λ (y : Txn A). list_any (touches n k) y.changes) p)
      untouched n k t (inr p) h = p

      each : (n : ℕ) (k : Value A) (t u : Txn A) → In t w.txns ⊎ New t → In u w.txns ⊎ New u → (t.number ≡ u.number → ⊥) → Touched n k t → Touched n k u → Apart t u
      each n k t u (inl i) (inl j) d p q = inv.each n k t u i j d p q
      each n k t u (inr i) j d p q = absurd (untouched n k t i p)
      each n k t u (inl i) (inr j) d p q = absurd (untouched n k u j q)
  first_updater_step w v num all inv (Moves s t x log exports c o move) = record { each = λ n k u y i j d p q. each n k u y (In-replaced u x w.txns i) (In-replaced y x w.txns j) d p q }
    where
      i : In t w.txns
      i = (current_in w s t c).0

      z : t.commit ≡ 0
      z = no_commit w num t i o

      number : x.number ≡ t.number
      number = (adds w t x log exports num o z (num.shown t i) move).number

      Old : Txn A → Type 0
      Old u = In u w.txns × (eqb u.number x.number ≡ false)

      new : (n : ℕ) (k : Value A) (u : Txn A) → Old u → Touched n k x → Touched n k u → Apart x u
      new n k u j = apart_move w n k t u x log exports (all.each t i) o z j.0 other (inv.each n k t u i j.0 other) move
        where
          other : t.number ≡ u.number → ⊥
          other e = eqb-false u.number x.number j.1 (sym e ∙ sym number)

      each : (n : ℕ) (k : Value A) (u y : Txn A) → (u ≡ x) ⊎ Old u → (y ≡ x) ⊎ Old y → (u.number ≡ y.number → ⊥) → Touched n k u → Touched n k y → Apart u y
      each n k u y (inl p) (inl q) d h g = absurd (d (ap (λ (e : Txn A). e.number) (p ∙ sym q)))
      each n k u y (inl p) (inr j) d h g = subst (λ (e : Txn A). Apart e y) (sym p) (new n k y j (subst (Touched n k) p h) g)
      each n k u y (inr j) (inl p) d h g = subst (λ (e : Txn A). Apart u e) (sym p) (apart_back x u (new n k u j (subst (Touched n k) p g) h))
      each n k u y (inr i) (inr j) d h g = inv.each n k u y i.0 j.0 d h g
  first_updater_step w v num all inv (Settles s t st c o d o' d') = record { each = λ n k u y i j e p q. each n k u y (In-replaced u x w.txns i) (In-replaced y x w.txns j) e p q }
    where
      x : Txn A
      x = record t { standing = st }

      Old : Txn A → Type 0
      Old u = In u w.txns × (eqb u.number x.number ≡ false)

      dead : Dead x
      dead = (o', none (num.kind t (current_in w s t c).0))
        where
          none : In t w.log ⊎ (t.commit ≡ 0) × (is_done t.standing ≡ true → is_read_write t.mode ≡ false) → t.commit ≡ 0
          none (inl j) = absurd (true≢false (sym (num.logged t j).1 ∙ d))
          none (inr k) = k.0

      each : (n : ℕ) (k : Value A) (u y : Txn A) → (u ≡ x) ⊎ Old u → (y ≡ x) ⊎ Old y → (u.number ≡ y.number → ⊥) → Touched n k u → Touched n k y → Apart u y
      each n k u y (inl p) j e a b = inr (inr (inl (subst (λ (z : Txn A). Dead z) (sym p) dead)))
      each n k u y (inr i) (inl p) e a b = inr (inr (inr (subst (λ (z : Txn A). Dead z) (sym p) dead)))
      each n k u y (inr i) (inr j) e a b = inv.each n k u y i.0 j.0 e a b
  first_updater_step w v num all inv (Dooms cs) = record { each = λ n k u y i j e p q. let a = In-doomed w.place cs u w.txns i in let b = In-doomed w.place cs y w.txns j in each n k a.0 b.0 u y a.1 b.1 a.2 b.2 e p q }
    where
      none : (t : Txn A) → In t w.txns → is_open t.standing ≡ true → t.commit ≡ 0
      none t i o = go (num.kind t i)
        where
          go : In t w.log ⊎ (t.commit ≡ 0) × (is_done t.standing ≡ true → is_read_write t.mode ≡ false) → t.commit ≡ 0
          go (inl j) = absurd (not_done t.standing o (num.logged t j).1)
          go (inr k) = k.0

      each : (n : ℕ) (k : Value A) (a b u y : Txn A) → In a w.txns → In b w.txns → Fate w.place a u → Fate w.place b y → (u.number ≡ y.number → ⊥) → Touched n k u → Touched n k y → Apart u y
      each n k a b u y i j Spared Spared e p q = inv.each n k a b i j e p q
      each n k a b u y i j (Over c o) f e p q = inr (inr (inl (refl, none a i o)))
      each n k a b u y i j Spared (Over c o) e p q = inr (inr (inr (refl, none b j o)))
