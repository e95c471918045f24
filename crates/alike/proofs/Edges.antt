-- Conflicts and dangerous structures of transactions that did alike.
use Rattle.std.proofs.Common.{◌≡◌, refl, sym, ap, subst, ◌∙◌, ℕ, ◌+◌, ◌<◌, Bool, true, false, cond, not, ◌&&◌, ◌||◌, ◌⊎◌, inl, inr, List, None, eqb, nat_lt, nat_le, arith}
use Rattle.std.proofs.lemmas.Bool.{and_parts, eqb-true, eq-eqb, ltb-true}
use Rattle.std.specs.List.{list_any}
use Rattle.value.specs.declared.refusal.Mode.{Mode}
use Rattle.value.specs.Isolation.{first_cause, is_dangerous, bound}
use Rattle.value.proofs.IsolationLemmas.{In}
use Rattle.value.proofs.Basics.{any-same}
use Rattle.siread.proofs.AlikeLemmas.{alike_keys, alike_references}
use Rattle.value.proofs.Structures.{Danger, no_cause, no_danger, parts, whole}
use Rattle.schema.specs.declared.changes.Change.{Change}
use Rattle.statement.specs.declared.reading.Reading.{Reading}
use Rattle.statement.specs.declared.outcome.Mark.{Mark}
use Rattle.statement.specs.Cover.{covers, covers_value}
use Rattle.history.specs.Transactions.{Done, Txn, World, commits, edge, is_done, is_read_write, node, reads_from}
use Rattle.history.specs.Events.{ended, numbered}
use Rattle.history.specs.Answer.{cause_of, committing}
use Rattle.serial.proofs.legal.Numbers.{In-replaced, replaced-In, replaced-new}
use Rattle.alike.specs.Worlds.{AreTwins, DidAlike, HasLike, WereActiveAlike}
use Rattle.alike.proofs.Sides.{and3, none_passes, not_both, not_true, open_undone, true_not}
use Rattle.alike.proofs.Orderly.{IsOrderly}
use Rattle.alike.proofs.Twins.{IsPair, done_counts, done_twin, twin}

module _ {A : Type 0} where
  abbrev found : List (Reading A) → List (Change A) → List (Mark A) → Bool
  found rs cs ms = list_any (λ x. covers rs x.table x.key) cs || list_any (λ m. covers_value rs m.table m.column m.key) ms

  pub reads_alike : (x y z u : Txn A) → DidAlike x y → DidAlike z u → reads_from x z ≡ reads_from y u
  reads_alike x y z u d e =
      ap (λ b. b || list_any (λ m. covers_value x.reads m.table m.column m.key) z.marks) (any-same (λ c. covers x.reads c.table c.key) (λ c. covers y.reads c.table c.key) (λ c. alike_keys x.reads y.reads d.reads c.table c.key) z.changes)
      ∙ ap (λ b. list_any (λ c. covers y.reads c.table c.key) z.changes || b) (any-same (λ m. covers_value x.reads m.table m.column m.key) (λ m. covers_value y.reads m.table m.column m.key) (λ m. alike_references x.reads y.reads d.reads m.table m.column m.key) z.marks)
      ∙ ap (λ cs. found y.reads cs z.marks) e.changes ∙ ap (λ ms. found y.reads u.changes ms) e.marks

  -- The committed ones of the one list have their likes in the other.
  pub record HasDone (ts us : List (Txn A)) : Type 0 where
    pub done : (x : Txn A) → In x ts → is_done x.standing ≡ true → (y : Txn A) × In y us × (is_done y.standing ≡ true) × DidAlike x y
    pub apart : (x z : Txn A) → In x ts → In z ts → is_done x.standing ≡ true → is_done z.standing ≡ true → x.commit ≡ z.commit → 0 < z.commit → x.number ≡ z.number
    pub unique : (x z : Txn A) → In x us → In z us → x.number ≡ z.number → x.commit ≡ z.commit

  module _ (ts us : List (Txn A)) (h : HasDone ts us) where
    pub edge_moves : (x z y u : Txn A) → In x ts → In z ts → In y us → In u us → is_done x.standing ≡ true → is_done z.standing ≡ true → DidAlike x y → DidAlike z u → edge x z ≡ true → edge y u ≡ true
    edge_moves x z y u i j k l c c' d e q = and3 (not (eqb y.number u.number)) (nat_lt y.snapshot u.commit) (reads_from y u)
        (true_not (eqb y.number u.number) (none_passes (eqb y.number u.number) other))
        (sym (ap (λ n. nat_lt n z.commit) d.snapshot ∙ ap (nat_lt y.snapshot) e.commit) ∙ p0.1)
        (sym (reads_alike x y z u d e) ∙ p.1)
      where
        p : ((not (eqb x.number z.number) && nat_lt x.snapshot z.commit) ≡ true) × (reads_from x z ≡ true)
        p = and_parts (not (eqb x.number z.number) && nat_lt x.snapshot z.commit) (reads_from x z) q

        p0 : (not (eqb x.number z.number) ≡ true) × (nat_lt x.snapshot z.commit ≡ true)
        p0 = and_parts (not (eqb x.number z.number)) (nat_lt x.snapshot z.commit) p.0

        other : eqb y.number u.number ≡ true → ⊥
        other s = not_both (eqb x.number z.number) (eq-eqb x.number z.number
            (h.apart x z i j c c' (d.commit ∙ h.unique y u k l (eqb-true y.number u.number s) ∙ sym e.commit) (let m : x.snapshot < z.commit = ltb-true x.snapshot z.commit p0.1 in omega arith)))
            (not_true (eqb x.number z.number) p0.0)

    danger_moves : (a b c : Txn A) → In a ts → In b ts → In c ts → is_dangerous node edge a b c ≡ true → (x y z : Txn A) × In x us × In y us × In z us × (is_dangerous node edge x y z ≡ true)
    danger_moves a b c i j k e = (
      x.0,
      y.0,
      z.0,
      x.1,
      y.1,
      z.1,
      whole node edge x.0 y.0 z.0 (record {
        first = x.2;
        pivot = y.2;
        last = z.2;
        into = edge_moves a b x.0 y.0 i j x.1 y.1 d.first d.pivot x.3 y.3 d.into;
        out = edge_moves b c y.0 z.0 j k y.1 z.1 d.pivot d.last y.3 z.3 d.out;
        before = sym (ap (λ n. nat_lt n b.commit) z.3.commit ∙ ap (nat_lt z.0.commit) y.3.commit) ∙ d.before;
        within = sym (ap (λ n. nat_le n (bound node edge a)) z.3.commit ∙ ap (nat_le z.0.commit) same_bound) ∙ d.within;
      }),
    )
      where
        d : Danger node edge a b c
        d = parts node edge a b c e

        x : (x : Txn A) × In x us × (is_done x.standing ≡ true) × DidAlike a x
        x = h.done a i d.first

        y : (y : Txn A) × In y us × (is_done y.standing ≡ true) × DidAlike b y
        y = h.done b j d.pivot

        z : (z : Txn A) × In z us × (is_done z.standing ≡ true) × DidAlike c z
        z = h.done c k d.last

        top : Mode → ℕ → ℕ → ℕ
        top m n s = cond (is_read_write m) n s

        same_bound : bound node edge a ≡ bound node edge x.0
        same_bound = ap (λ m. top m a.commit a.snapshot) x.3.mode ∙ ap (λ n. top x.0.mode n a.snapshot) x.3.commit ∙ ap (top x.0.mode x.0.commit) x.3.snapshot

    -- where the other has no dangerous structure, this one has none
    pub no_cause_back : first_cause node edge us ≡ None → first_cause node edge ts ≡ None
    no_cause_back n = no_cause node edge ts (λ a b c i j k. none_passes (is_dangerous node edge a b c) (λ e.
        let m = danger_moves a b c i j k e in not_both (is_dangerous node edge m.0 m.1 m.2) m.6 (no_danger node edge us n m.0 m.1 m.2 m.3 m.4 m.5)))

  -- ---- a commit

  abbrev as_done : World A → Txn A → Bool → Txn A
  as_done w t b = cond b (record (ended w Done t) { commit = commits w + 1 }) (ended w Done t)

  pub number-numbered : (w : World A) (t : Txn A) → (numbered w t).number ≡ t.number
  number-numbered w t = go (is_read_write t.mode)
    where
      go : (b : Bool) → (as_done w t b).number ≡ t.number
      go true = refl
      go false = refl

  pub done-numbered : (w : World A) (t : Txn A) → (numbered w t).standing ≡ Done
  done-numbered w t = go (is_read_write t.mode)
    where
      go : (b : Bool) → (as_done w t b).standing ≡ Done
      go true = refl
      go false = refl

  pub session-numbered : (w : World A) (t : Txn A) → (numbered w t).session ≡ t.session
  session-numbered w t = go (is_read_write t.mode)
    where
      go : (b : Bool) → (as_done w t b).session ≡ t.session
      go true = refl
      go false = refl

  pub numbered_did : (w v : World A) (t u : Txn A) → commits w ≡ commits v → DidAlike t u → DidAlike (numbered w t) (numbered v u)
  numbered_did w v t u e d = subst (λ b. DidAlike (numbered w t) (as_done v u b)) (ap is_read_write d.mode) (go (is_read_write t.mode))
    where
      go : (b : Bool) → DidAlike (as_done w t b) (as_done v u b)
      go true = record { mode = d.mode; snapshot = d.snapshot; commit = ap (λ n. n + 1) e; reads = d.reads; changes = d.changes; marks = d.marks }
      go false = record { mode = d.mode; snapshot = d.snapshot; commit = d.commit; reads = d.reads; changes = d.changes; marks = d.marks }

  new_commit : (w : World A) (t : Txn A) → t.commit ≡ 0 → ((numbered w t).commit ≡ commits w + 1) ⊎ ((numbered w t).commit ≡ 0)
  new_commit w t z = go (is_read_write t.mode)
    where
      go : (b : Bool) → ((as_done w t b).commit ≡ commits w + 1) ⊎ ((as_done w t b).commit ≡ 0)
      go true = inl refl
      go false = inr z

  module _ (w v : World A) (g : IsOrderly w) (f : IsOrderly v) (h : HasLike w v) (last : commits w ≡ commits v) (t u : Txn A) (p : IsPair w v t u) where
    abbrev Old : World A → Txn A → Txn A → Type 0
    Old x y z = In z x.txns × (eqb z.number (numbered x y).number ≡ false)

    committing_has : HasDone (committing w t) (committing v u)
    committing_has = record {
      done = λ x i c. done x c (In-replaced x (numbered w t) w.txns i);
      apart = λ x z i j c c' e m. apart x z c c' e m (In-replaced x (numbered w t) w.txns i) (In-replaced z (numbered w t) w.txns j);
      unique = λ x z i j e. unique x z e (In-replaced x (numbered v u) v.txns i) (In-replaced z (numbered v u) v.txns j);
    }
      where
        new_in : In (numbered v u) (committing v u)
        new_in = replaced-new u (numbered v u) v.txns p.there (sym (number-numbered v u))

        done : (x : Txn A) → is_done x.standing ≡ true → (x ≡ numbered w t) ⊎ Old w t x → (y : Txn A) × In y (committing v u) × (is_done y.standing ≡ true) × DidAlike x y
        done x c (inl e) = (numbered v u, new_in, ap is_done (done-numbered v u), subst (λ z. DidAlike z (numbered v u)) (sym e) (numbered_did w v t u last p.did))
        done x c (inr o) = (y.0, replaced-In y.0 (numbered v u) v.txns y.1 (none_passes (eqb y.0.number (numbered v u).number) other), s.0, s.1)
          where
            y : (y : Txn A) × In y v.txns × AreTwins w v x y
            y = twin w v h x o.0 (done_counts x c)

            s : (is_done y.0.standing ≡ true) × DidAlike x y.0 × WereActiveAlike w v x y.0
            s = done_twin w v x y.0 x.standing y.0.standing c y.2.1

            other : eqb y.0.number (numbered v u).number ≡ true → ⊥
            other q = not_both (is_done y.0.standing) s.0
                (ap (λ (z : Txn A). is_done z.standing) (f.unique y.0 u y.1 p.there (eqb-true y.0.number (numbered v u).number q ∙ number-numbered v u)) ∙ open_undone u.standing p.opens)

        unmet : (x z : Txn A) → z ≡ numbered w t → In x w.txns → x.commit ≡ z.commit → 0 < z.commit → ⊥
        unmet x z q i e m = at (new_commit w t (g.uncommitted t p.here (open_undone t.standing p.is_open)))
          where
            at : ((numbered w t).commit ≡ commits w + 1) ⊎ ((numbered w t).commit ≡ 0) → ⊥
            at (inl k) = omega (arith, g.committed x i, e, ap (λ (y : Txn A). y.commit) q, k)
            at (inr k) = omega (arith, m, ap (λ (y : Txn A). y.commit) q, k)

        apart : (x z : Txn A) → is_done x.standing ≡ true → is_done z.standing ≡ true → x.commit ≡ z.commit → 0 < z.commit → (x ≡ numbered w t) ⊎ Old w t x → (z ≡ numbered w t) ⊎ Old w t z → x.number ≡ z.number
        apart x z c c' e m (inl q) (inl r) = ap (λ (y : Txn A). y.number) (q ∙ sym r)
        apart x z c c' e m (inl q) (inr r) = absurd (unmet z x q r.0 (sym e) (omega arith))
        apart x z c c' e m (inr q) (inl r) = absurd (unmet x z r q.0 e m)
        apart x z c c' e m (inr q) (inr r) = ap (λ (y : Txn A). y.number) (g.apart x z q.0 r.0 c c' e m)

        unique : (x z : Txn A) → x.number ≡ z.number → (x ≡ numbered v u) ⊎ Old v u x → (z ≡ numbered v u) ⊎ Old v u z → x.commit ≡ z.commit
        unique x z e (inl q) (inl r) = ap (λ (y : Txn A). y.commit) (q ∙ sym r)
        unique x z e (inl q) (inr r) = absurd (not_both (eqb z.number (numbered v u).number) (eq-eqb z.number (numbered v u).number (sym e ∙ ap (λ (y : Txn A). y.number) q)) r.1)
        unique x z e (inr q) (inl r) = absurd (not_both (eqb x.number (numbered v u).number) (eq-eqb x.number (numbered v u).number (e ∙ ap (λ (y : Txn A). y.number) r)) q.1)
        unique x z e (inr q) (inr r) = ap (λ (y : Txn A). y.commit) (f.unique x z q.0 r.0 e)

    -- a commit that would make no structure in the one makes none in the other
    pub no_cause_alike : cause_of v u ≡ None → cause_of w t ≡ None
    no_cause_alike n = no_cause_back (committing w t) (committing v u) committing_has n
