-- The likes of transactions and of exported snapshots, as members of lists.
use Rattle.std.proofs.Common.{◌≡◌, refl, sym, subst, ◌∙◌, ℕ, true, true≢false, List}
use Rattle.std.proofs.lemmas.Bool.{or_left, or_right, and_parts}
use Rattle.value.proofs.IsolationLemmas.{In}
use Rattle.statement.specs.declared.reading.Reading.{Reading}
use Rattle.siread.specs.Reads.{CoverAlike}
use Rattle.history.specs.Transactions.{Standing, Open, Doomed, Failed, Aborted, Done, Txn, World, Exported_snapshot, commits, current, is_done, is_open, is_owed, must_wait, tables_at, was_active}
use Rattle.serial.proofs.safe.Prefix.{all_by, by_all}
use Rattle.alike.specs.Worlds.{Alike, AreTwins, DidAlike, FindAlike, HasLike, ShowAlike, SomeOf, StandAlike, WereActiveAlike, counts, is_exported_by, is_waiting}
use Rattle.alike.proofs.Sides.{In_some, some_In, open_owed}
use Rattle.alike.proofs.Orderly.{IsOrderly}

module _ {A : Type 0} where
  -- ---- turned round

  cover_back : {rs qs : List (Reading A)} → CoverAlike rs qs → CoverAlike qs rs
  cover_back h = record { keys = λ more t k. sym (h.keys more t k); references = λ more t j k. sym (h.references more t j k) }

  pub did_back : {t u : Txn A} → DidAlike t u → DidAlike u t
  did_back d = record { mode = sym d.mode; snapshot = sym d.snapshot; commit = sym d.commit; reads = cover_back d.reads; changes = sym d.changes; marks = sym d.marks }

  pub find_back : {t u : Txn A} → FindAlike t u → FindAlike u t
  find_back f = record { known = sym f.known; asked = sym f.asked }

  -- the same, of members
  abbrev pub ActiveAlike : World A → World A → Txn A → Txn A → Type 0
  ActiveAlike w v t u = (x y : Txn A) → In x w.txns → In y v.txns → is_waiting x ≡ true → is_waiting y ≡ true → x.session ≡ y.session → was_active x t ≡ was_active y u

  pub active_in : (w v : World A) (t u : Txn A) → WereActiveAlike w v t u → ActiveAlike w v t u
  active_in w v t u h x y i j p q e =
      by_all (λ z. is_waiting z ≡ true → x.session ≡ z.session → was_active x t ≡ was_active z u) v.txns y
      (by_all (λ z. is_waiting z ≡ true → Rattle.std.specs.List.AllByRecursion (λ z'. is_waiting z' ≡ true → z.session ≡ z'.session → was_active z t ≡ was_active z' u) v.txns) w.txns x h i p) j q e

  pub in_active : (w v : World A) (t u : Txn A) → ActiveAlike w v t u → WereActiveAlike w v t u
  in_active w v t u h = all_by _ w.txns (λ x i p. all_by _ v.txns (λ y j q e. h x y i j p q e))

  pub active_back : (w v : World A) (t u : Txn A) → WereActiveAlike w v t u → WereActiveAlike v w u t
  active_back w v t u h = in_active v w u t (λ x y i j p q e. sym (active_in w v t u h y x j i q p (sym e)))

  pub waiting_open : (x : Txn A) → is_waiting x ≡ true → is_open x.standing ≡ true
  waiting_open x p = (and_parts (is_open x.standing) (must_wait x) p).0

  pub waiting_owed : (x : Txn A) → is_waiting x ≡ true → is_owed x.standing ≡ true
  waiting_owed x p = open_owed x.standing (waiting_open x p)

  -- ---- by how they stand

  pub open_twin : (w v : World A) (t u : Txn A) (st st' : Standing) → is_open st ≡ true → StandAlike w v st st' t u → (is_open st' ≡ true) × DidAlike t u × FindAlike t u × WereActiveAlike w v t u × (tables_at w t.snapshot ≡ tables_at v u.snapshot)
  open_twin w v t u Open Open e h = (refl, h.0, h.1, h.2, h.3)
  open_twin w v t u Open _ e h = absurd h
  open_twin w v t u (Doomed c) st' e h = absurd (true≢false (sym e))
  open_twin w v t u Failed st' e h = absurd (true≢false (sym e))
  open_twin w v t u Aborted st' e h = absurd (true≢false (sym e))
  open_twin w v t u Done st' e h = absurd (true≢false (sym e))

  pub done_twin : (w v : World A) (t u : Txn A) (st st' : Standing) → is_done st ≡ true → StandAlike w v st st' t u → (is_done st' ≡ true) × DidAlike t u × WereActiveAlike w v t u
  done_twin w v t u Done Done e h = (refl, h.0, h.1)
  done_twin w v t u Done _ e h = absurd h
  done_twin w v t u (Doomed c) st' e h = absurd (true≢false (sym e))
  done_twin w v t u Failed st' e h = absurd (true≢false (sym e))
  done_twin w v t u Aborted st' e h = absurd (true≢false (sym e))
  done_twin w v t u Open st' e h = absurd (true≢false (sym e))

  pub owed_twin : (w v : World A) (t u : Txn A) (st st' : Standing) → is_owed st ≡ true → StandAlike w v st st' t u → is_owed st' ≡ true
  owed_twin w v t u Open Open e h = refl
  owed_twin w v t u (Doomed c) (Doomed d) e h = refl
  owed_twin w v t u Failed Failed e h = refl
  owed_twin w v t u Aborted st' e h = absurd (true≢false (sym e))
  owed_twin w v t u Done st' e h = absurd (true≢false (sym e))
  owed_twin w v t u _ _ e h = absurd h

  pub stand_back : (w v : World A) (t u : Txn A) (st st' : Standing) → StandAlike w v st st' t u → StandAlike v w st' st u t
  stand_back w v t u Open Open h = (did_back h.0, find_back h.1, active_back w v t u h.2, sym h.3)
  stand_back w v t u Done Done h = (did_back h.0, active_back w v t u h.1)
  stand_back w v t u (Doomed c) (Doomed d) h = tt
  stand_back w v t u Failed Failed h = tt
  stand_back w v t u _ _ h = absurd h

  pub twins_back : (w v : World A) (t u : Txn A) → AreTwins w v t u → AreTwins v w u t
  twins_back w v t u h = (sym h.0, stand_back w v t u t.standing u.standing h.1)

  pub shows_back : (w v : World A) (x y : Exported_snapshot) → ShowAlike w v x y → ShowAlike v w y x
  shows_back w v x y h = record { id = sym h.id; snapshot = sym h.snapshot; known = sym h.known; tables = sym h.tables }

  pub alike_back : (w v : World A) → Alike w v → Alike v w
  alike_back w v h = record { catalog = sym h.catalog; last = sym h.last; identifiers = sym h.identifiers; tables = sym h.tables; writers = sym h.writers; there = h.back; back = h.there }

  -- ---- the like of a member

  pub twin : (w v : World A) → HasLike w v → (t : Txn A) → In t w.txns → counts t ≡ true → (u : Txn A) × In u v.txns × AreTwins w v t u
  twin w v h t i c = some_In (AreTwins w v t) v.txns (by_all (λ t. counts t ≡ true → SomeOf (AreTwins w v t) v.txns) w.txns t h.txns i c)

  pub like : (w v : World A) → HasLike w v → (x : Exported_snapshot) → In x w.exports → (s : ℕ) → is_exported_by w s x ≡ true → (y : Exported_snapshot) × In y v.exports × (is_exported_by v s y ≡ true) × ShowAlike w v x y
  like w v h x i s e = (r.0, r.1, r.2.0, r.2.1)
    where
      r : (y : Exported_snapshot) × In y v.exports × ((is_exported_by v s y ≡ true) × ShowAlike w v x y)
      r = some_In (λ y. (is_exported_by v s y ≡ true) × ShowAlike w v x y) v.exports
          (by_all (λ x. (s : ℕ) → is_exported_by w s x ≡ true → SomeOf (λ y. (is_exported_by v s y ≡ true) × ShowAlike w v x y) v.exports) w.exports x h.exports i s e)

  pub has_like : (w v : World A) → ((t : Txn A) → In t w.txns → counts t ≡ true → (u : Txn A) × In u v.txns × AreTwins w v t u)
      → ((x : Exported_snapshot) → In x w.exports → (s : ℕ) → is_exported_by w s x ≡ true → (y : Exported_snapshot) × In y v.exports × (is_exported_by v s y ≡ true) × ShowAlike w v x y)
      → HasLike w v
  has_like w v f g = record {
    txns = all_by _ w.txns (λ t i c. let r = f t i c in In_some (AreTwins w v t) v.txns r.0 r.1 r.2);
    exports = all_by _ w.exports (λ x i s e. let r = g x i s e in In_some (λ y. (is_exported_by v s y ≡ true) × ShowAlike w v x y) v.exports r.0 r.1 (r.2, r.3));
  }

  -- ---- open transactions of one session

  pub owed_counts : (t : Txn A) → is_owed t.standing ≡ true → counts t ≡ true
  owed_counts t e = or_left (is_owed t.standing) (is_done t.standing) e

  pub done_counts : (t : Txn A) → is_done t.standing ≡ true → counts t ≡ true
  done_counts t e = or_right (is_owed t.standing) (is_done t.standing) e

  pub record IsPair (w v : World A) (t u : Txn A) : Type 0 where
    pub here : In t w.txns
    pub there : In u v.txns
    pub is_open : is_open t.standing ≡ true
    pub opens : Rattle.history.specs.Transactions.is_open u.standing ≡ true
    pub session : t.session ≡ u.session
    pub did : DidAlike t u
    pub finds : FindAlike t u
    pub active : WereActiveAlike w v t u
    pub shown : tables_at w t.snapshot ≡ tables_at v u.snapshot

  pub pair_of : (w v : World A) → HasLike w v → (t : Txn A) → In t w.txns → is_open t.standing ≡ true → (u : Txn A) × IsPair w v t u
  pair_of w v h t i o = (r.0, record { here = i; there = r.1; is_open = o; opens = s.0; session = r.2.0; did = s.1; finds = s.2; active = s.3; shown = s.4 })
    where
      r : (u : Txn A) × In u v.txns × AreTwins w v t u
      r = twin w v h t i (owed_counts t (open_owed t.standing o))

      s : (is_open r.0.standing ≡ true) × DidAlike t r.0 × FindAlike t r.0 × WereActiveAlike w v t r.0 × (tables_at w t.snapshot ≡ tables_at v r.0.snapshot)
      s = open_twin w v t r.0 t.standing r.0.standing o r.2.1

  -- those of one session are a pair
  pub pair : (w v : World A) → HasLike w v → IsOrderly v → (t u : Txn A) → In t w.txns → In u v.txns → is_open t.standing ≡ true → is_open u.standing ≡ true → t.session ≡ u.session → IsPair w v t u
  pair w v h g t u i j o p e = subst (IsPair w v t) (g.one r.0 u r.1.there j (open_owed r.0.standing r.1.opens) (open_owed u.standing p) (sym r.1.session ∙ e)) r.1
    where
      r : (u : Txn A) × IsPair w v t u
      r = pair_of w v h t i o

  pub pair_back : {w v : World A} {t u : Txn A} → IsPair w v t u → IsPair v w u t
  pair_back {w} {v} {t} {u} p = record { here = p.there; there = p.here; is_open = p.opens; opens = p.is_open; session = sym p.session; did = did_back p.did; finds = find_back p.finds; active = active_back w v t u p.active; shown = sym p.shown }
