-- What is asked of alike worlds: whether a key is taken, whether a snapshot can still become safe, and an identifier's snapshot.
use Rattle.std.proofs.Common.{◌≡◌, refl, sym, ap, subst, ◌∙◌, ℕ, ◌+◌, ◌<◌, Bool, true, false, not, ◌&&◌, ◌||◌, ◌⊎◌, inl, inr, List, Some, eqb, nat_lt, nat_le, arith}
use Rattle.std.proofs.lemmas.Bool.{and_parts, eqb-true, eq-eqb, ltb-true, lt-ltb, or_cases, or_left, or_right}
use Rattle.std.specs.List.{list_any}
use Rattle.value.proofs.IsolationLemmas.{In}
use Rattle.value.proofs.Basics.{In-any, any-In, find-In}
use Rattle.schema.specs.declared.changes.Change.{Change}
use Rattle.history.specs.Transactions.{Txn, World, Exported_snapshot, commits, edge, exported, is_done, is_living, is_open, is_pending, is_read_write, is_spoilt, spoils, was_active}
use Rattle.history.specs.Events.{with_snapshot}
use Rattle.history.specs.Answer.{has_written, is_taken, is_unseen, meets_another}
use Rattle.serial.proofs.order.SerialTheorem.{edge_parts}
use Rattle.alike.specs.Worlds.{Alike, AreTwins, DidAlike, HasLike, ShowAlike, WereActiveAlike, is_exported_by, is_exporter, is_waiting}
use Rattle.alike.proofs.Sides.{and2, and3, any_moves, find_some, none_passes, not_both, not_true, open_owed, open_undone, same_bool, true_not}
use Rattle.alike.proofs.Orderly.{IsOrderly}
use Rattle.alike.proofs.Edges.{HasDone, edge_moves}
use Rattle.alike.proofs.Twins.{IsPair, active_in, done_counts, done_twin, like, pair_back, pair_of, twin}

module _ {A : Type 0} where
  -- one with a commit number has committed
  pub done_from : (w : World A) → IsOrderly w → (x : Txn A) → In x w.txns → 0 < x.commit → is_done x.standing ≡ true
  done_from w g x i m = go (is_done x.standing) refl
    where
      go : (b : Bool) → is_done x.standing ≡ b → b ≡ true
      go true e = refl
      go false e = absurd (omega (arith, m, g.uncommitted x i e))

  -- the committed ones of a world
  pub done_has : (w v : World A) → IsOrderly w → IsOrderly v → HasLike w v → HasDone w.txns v.txns
  done_has w v g f h = record {
    done = λ x i c. let y = twin w v h x i (done_counts x c) in let s = done_twin w v x y.0 x.standing y.0.standing c y.2.1 in (y.0, y.1, s.0, s.1);
    apart = λ x z i j c c' e m. ap (λ (y : Txn A). y.number) (g.apart x z i j c c' e m);
    unique = λ x z i j e. ap (λ (y : Txn A). y.commit) (f.unique x z i j e);
  }

  module _ (w v : World A) (g : IsOrderly w) (f : IsOrderly v) (h : HasLike w v) where
    -- ---- keys that are taken

    taken_moves : (t u : Txn A) → IsPair w v t u → (c : Change A) (x : Txn A) → In x w.txns → is_taken t x c ≡ true → (y : Txn A) × In y v.txns × (is_taken u y c ≡ true)
    taken_moves t u p c x i e = side (or_cases (is_open x.standing) (nat_lt t.snapshot x.commit) q.1)
      where
        r : ((not (eqb x.number t.number) && is_unseen t x) ≡ true) × (has_written x c ≡ true)
        r = and_parts (not (eqb x.number t.number) && is_unseen t x) (has_written x c) e

        q : (not (eqb x.number t.number) ≡ true) × (is_unseen t x ≡ true)
        q = and_parts (not (eqb x.number t.number)) (is_unseen t x) r.0

        wrote : (y : Txn A) → DidAlike x y → has_written y c ≡ true
        wrote y d = sym (ap (λ cs. list_any (λ z. eqb c.table z.table && Rattle.schema.specs.Plain.same c.key z.key) cs) d.changes) ∙ r.1

        side : (is_open x.standing ≡ true) ⊎ (nat_lt t.snapshot x.commit ≡ true) → (y : Txn A) × In y v.txns × (is_taken u y c ≡ true)
        side (inl o) = (y.0, y.1.there, and3 (not (eqb y.0.number u.number)) (is_unseen u y.0) (has_written y.0 c) (true_not (eqb y.0.number u.number) (none_passes (eqb y.0.number u.number) other)) (or_left (is_open y.0.standing) (nat_lt u.snapshot y.0.commit) y.1.opens) (wrote y.0 y.1.did))
          where
            y : (y : Txn A) × IsPair w v x y
            y = pair_of w v h x i o

            other : eqb y.0.number u.number ≡ true → ⊥
            other s = not_both (eqb x.number t.number) (eq-eqb x.number t.number (ap (λ (z : Txn A). z.number) (g.one x t i p.here (open_owed x.standing o) (open_owed t.standing p.is_open)
                (y.1.session ∙ ap (λ (z : Txn A). z.session) (f.unique y.0 u y.1.there p.there (eqb-true y.0.number u.number s)) ∙ sym p.session)))) (not_true (eqb x.number t.number) q.0)
        side (inr l) = (
          y.0,
          y.1,
          and3 (not (eqb y.0.number u.number)) (is_unseen u y.0) (has_written y.0 c) (true_not (eqb y.0.number u.number) (none_passes (eqb y.0.number u.number) other))
              (or_right (is_open y.0.standing) (nat_lt u.snapshot y.0.commit) (sym (ap (λ n. nat_lt n x.commit) p.did.snapshot ∙ ap (nat_lt u.snapshot) s.1.commit) ∙ l)) (wrote y.0 s.1),
        )
          where
            c' : is_done x.standing ≡ true
            c' = done_from w g x i (let m : t.snapshot < x.commit = ltb-true t.snapshot x.commit l in omega arith)

            y : (y : Txn A) × In y v.txns × AreTwins w v x y
            y = twin w v h x i (done_counts x c')

            s : (is_done y.0.standing ≡ true) × DidAlike x y.0 × WereActiveAlike w v x y.0
            s = done_twin w v x y.0 x.standing y.0.standing c' y.2.1

            other : eqb y.0.number u.number ≡ true → ⊥
            other r = not_both (is_done y.0.standing) s.0 (ap (λ (z : Txn A). is_done z.standing) (f.unique y.0 u y.1 p.there (eqb-true y.0.number u.number r)) ∙ open_undone u.standing p.opens)

    pub meets_moves : (t u : Txn A) → IsPair w v t u → (cs : List (Change A)) → meets_another w t cs ≡ true → meets_another v u cs ≡ true
    meets_moves t u p cs e = any_moves (λ c. list_any (λ x. is_taken t x c) w.txns) (λ c. list_any (λ y. is_taken u y c) v.txns) cs cs
        (λ c i q. (c, i, any_moves (λ x. is_taken t x c) (λ y. is_taken u y c) w.txns v.txns (λ x j s. taken_moves t u p c x j s) q)) e

    -- ---- safe snapshots

    -- the same open transactions were active at the snapshots of both
    abbrev pub Sees : Txn A → Txn A → Type 0
    Sees t u = (x y : Txn A) → IsPair w v x y → was_active t x ≡ was_active u y

    pub sees : (t u : Txn A) → IsPair w v t u → is_waiting t ≡ true → is_waiting u ≡ true → Sees t u
    sees t u p a b x y q = active_in w v x y q.active t u p.here p.there a b p.session

    active_now : (r : World A) → IsOrderly r → (t x : Txn A) → In x r.txns → is_open x.standing ≡ true → was_active (with_snapshot r (commits r) (r.place + 1) t) x ≡ is_read_write x.mode
    active_now r k t x i o = ap (λ b. is_read_write x.mode && nat_lt x.begin (r.place + 1) && (b || nat_lt (r.place + 1) x.end)) o
        ∙ ap (λ b. is_read_write x.mode && b && true) (lt-ltb x.begin (r.place + 1) (omega (arith, k.begun x i))) ∙ last (is_read_write x.mode)
      where
        last : (b : Bool) → (b && true && true) ≡ b
        last true = refl
        last false = refl

    pub sees_now : (t u : Txn A) → Sees (with_snapshot w (commits w) (w.place + 1) t) (with_snapshot v (commits v) (v.place + 1) u)
    sees_now t u x y q = active_now w g t x q.here q.is_open ∙ ap is_read_write q.did.mode ∙ sym (active_now v f u y q.there q.opens)

    pub pending_moves : (t u : Txn A) → Sees t u → is_pending w.txns t ≡ true → is_pending v.txns u ≡ true
    pending_moves t u s e = any_moves (λ x. was_active t x && is_open x.standing) (λ y. was_active u y && is_open y.standing) w.txns v.txns moves e
      where
        moves : (x : Txn A) → In x w.txns → (was_active t x && is_open x.standing) ≡ true → (y : Txn A) × In y v.txns × ((was_active u y && is_open y.standing) ≡ true)
        moves x i q = (y.0, y.1.there, and2 (was_active u y.0) (is_open y.0.standing) (sym (s x y.0 y.1) ∙ r.0) y.1.opens)
          where
            r : (was_active t x ≡ true) × (is_open x.standing ≡ true)
            r = and_parts (was_active t x) (is_open x.standing) q

            y : (y : Txn A) × IsPair w v x y
            y = pair_of w v h x i r.1

    pub spoilt_moves : (t u : Txn A) → IsPair w v t u → is_waiting t ≡ true → is_waiting u ≡ true → is_spoilt w.txns t ≡ true → is_spoilt v.txns u ≡ true
    spoilt_moves t u p a b e = any_moves (λ x. was_active t x && spoils w.txns t x) (λ y. was_active u y && spoils v.txns u y) w.txns v.txns moves e
      where
        moves : (x : Txn A) → In x w.txns → (was_active t x && spoils w.txns t x) ≡ true → (y : Txn A) × In y v.txns × ((was_active u y && spoils v.txns u y) ≡ true)
        moves x i q = (y.0, y.1, and2 (was_active u y.0) (spoils v.txns u y.0) (sym (active_in w v x y.0 s.2 t u p.here p.there a b p.session) ∙ r.0) (and2 (is_done y.0.standing) _ s.0 (any_moves (λ z. edge x z && nat_le z.commit t.snapshot) (λ z. edge y.0 z && nat_le z.commit u.snapshot) w.txns v.txns onward c.1)))
          where
            r : (was_active t x ≡ true) × (spoils w.txns t x ≡ true)
            r = and_parts (was_active t x) (spoils w.txns t x) q

            c : (is_done x.standing ≡ true) × (list_any (λ z. edge x z && nat_le z.commit t.snapshot) w.txns ≡ true)
            c = and_parts (is_done x.standing) (list_any (λ z. edge x z && nat_le z.commit t.snapshot) w.txns) r.1

            y : (y : Txn A) × In y v.txns × AreTwins w v x y
            y = twin w v h x i (done_counts x c.0)

            s : (is_done y.0.standing ≡ true) × DidAlike x y.0 × WereActiveAlike w v x y.0
            s = done_twin w v x y.0 x.standing y.0.standing c.0 y.2.1

            onward : (z : Txn A) → In z w.txns → (edge x z && nat_le z.commit t.snapshot) ≡ true → (z' : Txn A) × In z' v.txns × ((edge y.0 z' && nat_le z'.commit u.snapshot) ≡ true)
            onward z j k = (
              z'.0,
              z'.1,
              and2 (edge y.0 z'.0) (nat_le z'.0.commit u.snapshot) (edge_moves w.txns v.txns (done_has w v g f h) x z y.0 z'.0 i j y.1 z'.1 c.0 d s.1 z'.3 l.0)
                  (sym (ap (λ n. nat_le n t.snapshot) z'.3.commit ∙ ap (nat_le z'.0.commit) p.did.snapshot) ∙ l.1),
            )
              where
                l : (edge x z ≡ true) × (nat_le z.commit t.snapshot ≡ true)
                l = and_parts (edge x z) (nat_le z.commit t.snapshot) k

                d : is_done z.standing ≡ true
                d = done_from w g z j (let m : x.snapshot < z.commit = (edge_parts x z l.0).1 in omega arith)

                z' : (y : Txn A) × In y v.txns × (is_done y.standing ≡ true) × DidAlike z y
                z' = (done_has w v g f h).done z j d

    -- ---- identifiers

    pub exported_moves : (n : ℕ) (x : Exported_snapshot) → exported w n ≡ Some x → (y : Exported_snapshot) × (exported v n ≡ Some y) × ShowAlike w v x y
    exported_moves n x e = (z.0, z.1, subst (ShowAlike w v x) (sym same) y.3)
      where
        k : In x w.exports × ((eqb x.id n && is_living w.txns x) ≡ true)
        k = find-In (λ x. eqb x.id n && is_living w.txns x) w.exports x e

        l : (eqb x.id n ≡ true) × (is_living w.txns x ≡ true)
        l = and_parts (eqb x.id n) (is_living w.txns x) k.1

        t : (t : Txn A) × In t w.txns × ((eqb t.number x.exporter && is_open t.standing) ≡ true)
        t = any-In (λ t. eqb t.number x.exporter && is_open t.standing) w.txns l.1

        y : (y : Exported_snapshot) × In y v.exports × (is_exported_by v t.0.session y ≡ true) × ShowAlike w v x y
        y = like w v h x k.0 t.0.session (In-any (is_exporter t.0.session x) w.txns t.0 t.1 (and2 (eqb t.0.number x.exporter && is_open t.0.standing) (eqb t.0.session t.0.session) t.2 (eq-eqb t.0.session t.0.session refl)))

        lives : is_living v.txns y.0 ≡ true
        lives = any_moves (is_exporter t.0.session y.0) (λ u. eqb u.number y.0.exporter && is_open u.standing) v.txns v.txns (λ u i q. (u, i, (and_parts (eqb u.number y.0.exporter && is_open u.standing) (eqb u.session t.0.session) q).0)) y.2

        z : (z : Exported_snapshot) × (exported v n ≡ Some z)
        z = find_some (λ x. eqb x.id n && is_living v.txns x) v.exports y.0 y.1 (and2 (eqb y.0.id n) (is_living v.txns y.0) (eq-eqb y.0.id n (sym y.3.id ∙ eqb-true x.id n l.0)) lives)

        m : In z.0 v.exports × ((eqb z.0.id n && is_living v.txns z.0) ≡ true)
        m = find-In (λ x. eqb x.id n && is_living v.txns x) v.exports z.0 z.1

        same : z.0 ≡ y.0
        same = f.identified z.0 y.0 m.0 y.1 (eqb-true z.0.id n (and_parts (eqb z.0.id n) (is_living v.txns z.0) m.1).0 ∙ sym (eqb-true x.id n l.0) ∙ y.3.id)

  -- ---- both ways

  module _ (w v : World A) (g : IsOrderly w) (f : IsOrderly v) (h : Alike w v) where
    pub meets_alike : (t u : Txn A) → IsPair w v t u → (cs : List (Change A)) → meets_another w t cs ≡ meets_another v u cs
    meets_alike t u p cs = same_bool (meets_another w t cs) (meets_another v u cs) (meets_moves w v g f h.there t u p cs) (meets_moves v w f g h.back u t (pair_back p) cs)

    pub spoilt_alike : (t u : Txn A) → IsPair w v t u → is_waiting t ≡ true → is_waiting u ≡ true → is_spoilt w.txns t ≡ is_spoilt v.txns u
    spoilt_alike t u p a b = same_bool (is_spoilt w.txns t) (is_spoilt v.txns u) (spoilt_moves w v g f h.there t u p a b) (spoilt_moves v w f g h.back u t (pair_back p) b a)

    pub pending_alike : (t u : Txn A) → ((x y : Txn A) → IsPair w v x y → was_active t x ≡ was_active u y) → is_pending w.txns t ≡ is_pending v.txns u
    pending_alike t u s = same_bool (is_pending w.txns t) (is_pending v.txns u) (pending_moves w v g f h.there t u s) (pending_moves v w f g h.back u t (λ x y p. sym (s y x (pair_back p))))
