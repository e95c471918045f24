-- Alike worlds stay alike where transactions of the same sessions are doomed.
use Rattle.std.proofs.Common.{◌≡◌, refl, sym, ap, subst, ◌∙◌, ℕ, Bool, true, false, true≢false, cond, not, ◌&&◌, ◌||◌, List, [], ◌∷◌, map, Some, None, eqb}
use Rattle.std.proofs.lemmas.Bool.{and_parts, or_cases}
use Rattle.std.specs.List.{filter, find, list_any}
use Rattle.value.specs.declared.refusal.Cause.{Cause}
use Rattle.value.specs.Isolation.{is_doomed}
use Rattle.value.proofs.IsolationLemmas.{In}
use Rattle.value.proofs.Basics.{In-any, any-In}
use Rattle.value.proofs.Lists.{In-filter}
use Rattle.history.specs.Transactions.{Standing, Open, Doomed, Failed, Done, Txn, World, Exported_snapshot, is_open, is_read_write, node, reads_from}
use Rattle.history.specs.Events.{doomed_by, doomed_with}
use Rattle.serial.proofs.structures.Dooms.{In-made, doomed-In}
use Rattle.alike.specs.Worlds.{Alike, AreTwins, HasLike, ShowAlike, StandAlike, WereActiveAlike, counts, is_exported_by, is_exporter, is_writer}
use Rattle.alike.proofs.Sides.{not_both}
use Rattle.alike.proofs.Twins.{IsPair, active_in, has_like, in_active, like, pair_of, twin, waiting_open}
use Rattle.alike.proofs.Writers.{same_stay, writers_after}

any_found : {X : Type 0} (p : X → Bool) (xs : List X) → list_any p xs ≡ true → (x : X) × (find p xs ≡ Some x)
any_found p [] e = absurd (true≢false (sym e))
any_found {X} p (x ∷ xs) e = go (p x) e (any_found p xs)
  where
    go : (b : Bool) → (b || list_any p xs) ≡ true → (list_any p xs ≡ true → (y : X) × (find p xs ≡ Some y)) → (y : X) × (cond b (Some x) (find p xs) ≡ Some y)
    go true e rest = (x, refl)
    go false e rest = rest e

none_found : {X : Type 0} (p : X → Bool) (xs : List X) → list_any p xs ≡ false → find p xs ≡ None
none_found p [] e = refl
none_found {X} p (x ∷ xs) e = go (p x) e (none_found p xs)
  where
    go : (b : Bool) → (b || list_any p xs) ≡ false → (list_any p xs ≡ false → find p xs ≡ None) → cond b (Some x) (find p xs) ≡ None
    go true e rest = absurd (true≢false e)
    go false e rest = rest e

module _ {A : Type 0} where
  -- ---- one transaction

  abbrev pub middle : List Cause → Txn A → Bool
  middle cs t = is_doomed node reads_from cs t

  -- it is as it was, and if it is open it isn't in the middle of a cause; or it is, and is doomed
  pub data Becomes (place : ℕ) (cs : List Cause) (t : Txn A) : Txn A → Type 0 where
    Is_spared : (is_open t.standing ≡ true → middle cs t ≡ false) → Becomes place cs t t
    Is_doomed : (c : Cause) → is_open t.standing ≡ true → middle cs t ≡ true → Becomes place cs t (record t { standing = Doomed c; end = place })

  pub becomes : (place : ℕ) (cs : List Cause) (t : Txn A) → Becomes place cs t (doomed_by place cs t)
  becomes place cs t = go (is_open t.standing) refl (middle cs t) refl
    where
      passes : Cause → Bool
      passes c = eqb c.b.0 t.number

      go : (b : Bool) → is_open t.standing ≡ b → (m : Bool) → middle cs t ≡ m → Becomes place cs t (doomed_with place (cond b (find passes cs) None) t)
      go false o m e = Is_spared (λ q. absurd (not_both (is_open t.standing) q o))
      go true o false e = subst (λ r. Becomes place cs t (doomed_with place r t)) (sym (none_found passes cs e)) (Is_spared (λ q. e))
      go true o true e = let c = any_found passes cs e in subst (λ r. Becomes place cs t (doomed_with place r t)) (sym c.1) (Is_doomed c.0 o e)

  pub session-doomed : (place : ℕ) (cs : List Cause) (t : Txn A) → (doomed_by place cs t).session ≡ t.session
  session-doomed place cs t = go (doomed_by place cs t) (becomes place cs t)
    where
      go : (u : Txn A) → Becomes place cs t u → u.session ≡ t.session
      go u (Is_spared f) = refl
      go u (Is_doomed c o m) = refl

  spared_is : (place : ℕ) (cs : List Cause) (t : Txn A) → (is_open t.standing ≡ true → middle cs t ≡ false) → doomed_by place cs t ≡ t
  spared_is place cs t f = go (doomed_by place cs t) (becomes place cs t)
    where
      go : (u : Txn A) → Becomes place cs t u → u ≡ t
      go u (Is_spared g) = refl
      go u (Is_doomed c o m) = absurd (not_both (middle cs t) m (f o))

  writer_after : (place : ℕ) (cs : List Cause) (t : Txn A) → is_writer (doomed_by place cs t) ≡ (is_writer t && not (middle cs t))
  writer_after place cs t = go (doomed_by place cs t) (becomes place cs t)
    where
      stays : (o r m : Bool) → (o ≡ true → m ≡ false) → (o && r) ≡ ((o && r) && not m)
      stays true true m f = sym (ap not (f refl))
      stays true false m f = refl
      stays false r m f = refl

      gone : (o r m : Bool) → m ≡ true → false ≡ ((o && r) && not m)
      gone true true m e = sym (ap not e)
      gone true false m e = refl
      gone false r m e = refl

      go : (u : Txn A) → Becomes place cs t u → is_writer u ≡ (is_writer t && not (middle cs t))
      go u (Is_spared f) = stays (is_open t.standing) (is_read_write t.mode) (middle cs t) f
      go u (Is_doomed c o m) = gone (is_open t.standing) (is_read_write t.mode) (middle cs t) m

  -- one that is open was there before
  open_before : (place : ℕ) (cs : List Cause) (z : Txn A) (ts : List (Txn A)) → In z (map (doomed_by place cs) ts) → is_open z.standing ≡ true → In z ts × (middle cs z ≡ false)
  open_before place cs z ts i o = let r = In-made place cs z ts i in go r.0 r.1 z (subst (Becomes place cs r.0) (sym r.2) (becomes place cs r.0)) o
    where
      go : (t : Txn A) → In t ts → (u : Txn A) → Becomes place cs t u → is_open u.standing ≡ true → In u ts × (middle cs u ≡ false)
      go t j u (Is_spared f) q = (j, f q)
      go t j u (Is_doomed c p m) q = absurd (true≢false (sym q))

  -- ---- the worlds

  abbrev pub dooming : World A → List Cause → World A
  dooming w cs = record w { txns = map (doomed_by w.place cs) w.txns }

  abbrev pub AreSameSessions : World A → World A → List Cause → List Cause → Type 0
  AreSameSessions w v cs ds = (x y : Txn A) → In x w.txns → In y v.txns → is_open x.standing ≡ true → is_open y.standing ≡ true → x.session ≡ y.session → middle cs x ≡ middle ds y

  module _ (w v : World A) (cs ds : List Cause) (h : HasLike w v) (k : AreSameSessions w v cs ds) where
    active_doomed : (t u : Txn A) → WereActiveAlike w v t u → WereActiveAlike (dooming w cs) (dooming v ds) t u
    active_doomed t u a = in_active (dooming w cs) (dooming v ds) t u (λ x y i j p q e.
        active_in w v t u a x y (open_before w.place cs x w.txns i (waiting_open x p)).0 (open_before v.place ds y v.txns j (waiting_open y q)).0 p q e)

    stand_doomed : (t u : Txn A) (st st' : Standing) → StandAlike w v st st' t u → StandAlike (dooming w cs) (dooming v ds) st st' t u
    stand_doomed t u Open Open a = (a.0, a.1, active_doomed t u a.2, a.3)
    stand_doomed t u Done Done a = (a.0, active_doomed t u a.1)
    stand_doomed t u (Doomed c) (Doomed d) a = tt
    stand_doomed t u Failed Failed a = tt
    stand_doomed t u _ _ a = absurd a

    open_back : (st st' : Standing) (t u : Txn A) → StandAlike w v st st' t u → is_open st' ≡ true → is_open st ≡ true
    open_back Open Open t u a e = refl
    open_back (Doomed c) (Doomed d) t u a e = e
    open_back Failed Failed t u a e = e
    open_back Done Done t u a e = e
    open_back _ _ t u a e = absurd a

    twin_doomed : (z : Txn A) → In z (dooming w cs).txns → counts z ≡ true → (u : Txn A) × In u (dooming v ds).txns × AreTwins (dooming w cs) (dooming v ds) z u
    twin_doomed z i c = let r = In-made w.place cs z w.txns i in go r.0 r.1 z (subst (Becomes w.place cs r.0) (sym r.2) (becomes w.place cs r.0)) c
      where
        go : (t : Txn A) → In t w.txns → (z : Txn A) → Becomes w.place cs t z → counts z ≡ true → (u : Txn A) × In u (dooming v ds).txns × AreTwins (dooming w cs) (dooming v ds) z u
        go t j z (Is_spared f) c = (y.0, subst (λ x. In x (dooming v ds).txns) (spared_is v.place ds y.0 spared) (doomed-In v.place ds y.0 v.txns y.1), (y.2.0, stand_doomed t y.0 t.standing y.0.standing y.2.1))
          where
            y : (u : Txn A) × In u v.txns × AreTwins w v t u
            y = twin w v h t j c

            spared : is_open y.0.standing ≡ true → middle ds y.0 ≡ false
            spared o = let p = open_back t.standing y.0.standing t y.0 y.2.1 o in sym (k t y.0 j y.1 p o y.2.0) ∙ f p
        go t j z (Is_doomed d o m) c = at (doomed_by v.place ds y.0) (becomes v.place ds y.0) (doomed-In v.place ds y.0 v.txns y.1.there)
          where
            y : (u : Txn A) × IsPair w v t u
            y = pair_of w v h t j o

            at : (u : Txn A) → Becomes v.place ds y.0 u → In u (dooming v ds).txns → (u : Txn A) × In u (dooming v ds).txns × AreTwins (dooming w cs) (dooming v ds) (record t { standing = Doomed d; end = w.place }) u
            at u (Is_spared f) i = absurd (not_both (middle ds y.0) (sym (k t y.0 j y.1.there o y.1.opens y.1.session) ∙ m) (f y.1.opens))
            at u (Is_doomed e p n) i = (u, i, (y.1.session, tt))

    like_doomed : (x : Exported_snapshot) → In x w.exports → (s : ℕ) → is_exported_by (dooming w cs) s x ≡ true → (y : Exported_snapshot) × In y v.exports × (is_exported_by (dooming v ds) s y ≡ true) × ShowAlike (dooming w cs) (dooming v ds) x y
    like_doomed x i s e = (y.0, y.1, In-any (is_exporter s y.0) (dooming v ds).txns u.0 (subst (λ a. In a (dooming v ds).txns) (spared_is v.place ds u.0 (λ o. spared)) (doomed-In v.place ds u.0 v.txns u.1)) u.2, record { id = y.3.id; snapshot = y.3.snapshot; known = y.3.known; tables = y.3.tables })
      where
        z : (z : Txn A) × In z (dooming w cs).txns × (is_exporter s x z ≡ true)
        z = any-In (is_exporter s x) (dooming w cs).txns e

        open_of : (a : Exported_snapshot) (t : Txn A) → is_exporter s a t ≡ true → (is_open t.standing ≡ true) × (t.session ≡ s)
        open_of a t q = let r = and_parts (eqb t.number a.exporter && is_open t.standing) (eqb t.session s) q in
            ((and_parts (eqb t.number a.exporter) (is_open t.standing) r.0).1, Rattle.std.proofs.lemmas.Bool.eqb-true t.session s r.1)

        p : (is_open z.0.standing ≡ true) × (z.0.session ≡ s)
        p = open_of x z.0 z.2

        b : In z.0 w.txns × (middle cs z.0 ≡ false)
        b = open_before w.place cs z.0 w.txns z.1 p.0

        y : (y : Exported_snapshot) × In y v.exports × (is_exported_by v s y ≡ true) × ShowAlike w v x y
        y = like w v h x i s (In-any (is_exporter s x) w.txns z.0 b.0 z.2)

        u : (u : Txn A) × In u v.txns × (is_exporter s y.0 u ≡ true)
        u = any-In (is_exporter s y.0) v.txns y.2

        spared : middle ds u.0 ≡ false
        spared = let q = open_of y.0 u.0 u.2 in sym (k z.0 u.0 b.0 u.1 p.0 q.0 (p.1 ∙ sym q.1)) ∙ b.1

    has_doomed : HasLike (dooming w cs) (dooming v ds)
    has_doomed = has_like (dooming w cs) (dooming v ds) twin_doomed like_doomed

  pub alike_doomed : (w v : World A) (cs ds : List Cause) → Alike w v → AreSameSessions w v cs ds → Alike (dooming w cs) (dooming v ds)
  alike_doomed w v cs ds h k = record {
    catalog = h.catalog;
    last = h.last;
    identifiers = h.identifiers;
    tables = h.tables;
    writers = writers_after (doomed_by w.place cs) (λ t. not (middle cs t)) w.txns (λ t i. (session-doomed w.place cs t, writer_after w.place cs t))
        ∙ same_stay (λ t. not (middle cs t)) (λ t. not (middle ds t)) (filter is_writer w.txns) (filter is_writer v.txns) h.writers (λ x y i j e.
        let a = In-filter is_writer x w.txns i in let b = In-filter is_writer y v.txns j in
        ap not (k x y a.0 b.0 (and_parts (is_open x.standing) (is_read_write x.mode) a.1).0 (and_parts (is_open y.standing) (is_read_write y.mode) b.1).0 e))
        ∙ sym (writers_after (doomed_by v.place ds) (λ t. not (middle ds t)) v.txns (λ t i. (session-doomed v.place ds t, writer_after v.place ds t)));
    there = has_doomed w v cs ds h.there k;
    back = has_doomed v w ds cs h.back (λ x y i j o p e. sym (k y x j i p o (sym e)));
  }
