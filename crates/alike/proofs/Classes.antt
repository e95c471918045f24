-- To be alike is reflexive and transitive.
use Rattle.std.proofs.Common.{◌≡◌, refl, sym, ap, ◌∙◌, ℕ, Bool, true, false, true≢false, ◌&&◌, ◌||◌, ◌⊎◌, inl, inr, List}
use Rattle.siread.proofs.AlikeLemmas.{alike_itself, alike_then}
use Rattle.history.specs.Transactions.{Standing, Open, Doomed, Failed, Aborted, Done, Txn, World, Exported_snapshot, is_done, is_open, is_owed, must_wait, was_active}
use Rattle.alike.specs.Worlds.{Alike, DidAlike, HasLike, StandAlike, WereActiveAlike, counts, is_waiting}
use Rattle.alike.proofs.Sides.{open_owed}
use Rattle.alike.proofs.Orderly.{IsOrderly}
use Rattle.alike.proofs.Twins.{IsPair, active_in, has_like, in_active, like, pair_of, twin, waiting_open}

module _ {A : Type 0} where
  -- ---- itself

  did_itself : (t : Txn A) → DidAlike t t
  did_itself t = record { mode = refl; snapshot = refl; commit = refl; reads = alike_itself t.reads; changes = refl; marks = refl }

  active_itself : (w : World A) → IsOrderly w → (t : Txn A) → WereActiveAlike w w t t
  active_itself w g t = in_active w w t t (λ x y i j p q e. ap (λ z. was_active z t) (g.one x y i j (open_owed x.standing (waiting_open x p)) (open_owed y.standing (waiting_open y q)) e))

  stand_itself : (w : World A) → IsOrderly w → (t : Txn A) → (st : Standing) → t.standing ≡ st → counts t ≡ true → StandAlike w w st st t t
  stand_itself w g t Open e c = (did_itself t, record { known = refl; asked = refl }, active_itself w g t, refl)
  stand_itself w g t (Doomed d) e c = tt
  stand_itself w g t Failed e c = tt
  stand_itself w g t Done e c = (did_itself t, active_itself w g t)
  stand_itself w g t Aborted e c = absurd (true≢false (sym c ∙ ap (λ st. is_owed st || is_done st) e))

  has_itself : (w : World A) → IsOrderly w → HasLike w w
  has_itself w g = has_like w w (λ t i c. (t, i, (refl, stand_itself w g t t.standing refl c))) (λ x i s e. (x, i, e, record { id = refl; snapshot = refl; known = refl; tables = refl }))

  pub world_itself : (w : World A) → IsOrderly w → Alike w w
  world_itself w g = record { catalog = refl; last = refl; identifiers = refl; tables = refl; writers = refl; there = has_itself w g; back = has_itself w g }

  -- ---- one after the other

  did_onward : {t u x : Txn A} → DidAlike t u → DidAlike u x → DidAlike t x
  did_onward {t} {u} {x} a b = record { mode = a.mode ∙ b.mode; snapshot = a.snapshot ∙ b.snapshot; commit = a.commit ∙ b.commit; reads = alike_then t.reads u.reads x.reads a.reads b.reads; changes = a.changes ∙ b.changes; marks = a.marks ∙ b.marks }

  module _ (w v z : World A) (h : HasLike w v) (k : HasLike v z) where
    active_onward : (t u x : Txn A) → WereActiveAlike w v t u → WereActiveAlike v z u x → WereActiveAlike w z t x
    active_onward t u x a b = in_active w z t x (λ c d i j p q e.
        let r = pair_of w v h c i (waiting_open c p) in
        let p' = middle_waits c r.0 r.1 p in
        active_in w v t u a c r.0 i r.1.there p p' r.1.session ∙ active_in v z u x b r.0 d r.1.there j p' q (sym r.1.session ∙ e))
      where
        middle_waits : (c d : Txn A) → IsPair w v c d → is_waiting c ≡ true → is_waiting d ≡ true
        middle_waits c d r p = sym (ap (λ o. o && must_wait c) (r.is_open ∙ sym r.opens) ∙ ap (λ m. is_open d.standing && (Rattle.history.specs.Transactions.is_deferrable m && Rattle.std.proofs.Common.not c.known)) r.did.mode
            ∙ ap (λ n. is_open d.standing && (Rattle.history.specs.Transactions.is_deferrable d.mode && Rattle.std.proofs.Common.not n)) r.finds.known) ∙ p

    stand_onward : (t u x : Txn A) (a b c : Standing) → StandAlike w v a b t u → StandAlike v z b c u x → StandAlike w z a c t x
    stand_onward t u x Open Open Open p q = (did_onward p.0 q.0, record { known = p.1.known ∙ q.1.known; asked = p.1.asked ∙ q.1.asked }, active_onward t u x p.2 q.2, p.3 ∙ q.3)
    stand_onward t u x Done Done Done p q = (did_onward p.0 q.0, active_onward t u x p.1 q.1)
    stand_onward t u x (Doomed d) (Doomed e) (Doomed f) p q = tt
    stand_onward t u x Failed Failed Failed p q = tt
    stand_onward t u x Open Open _ p q = absurd q
    stand_onward t u x Done Done _ p q = absurd q
    stand_onward t u x (Doomed d) (Doomed e) _ p q = absurd q
    stand_onward t u x Failed Failed _ p q = absurd q
    stand_onward t u x _ _ c p q = absurd p

    counts_too : (t u : Txn A) (a b : Standing) → StandAlike w v a b t u → (is_owed b || is_done b) ≡ true
    counts_too t u Open Open p = refl
    counts_too t u Done Done p = refl
    counts_too t u (Doomed d) (Doomed e) p = refl
    counts_too t u Failed Failed p = refl
    counts_too t u _ _ p = absurd p

    has_onward : HasLike w z
    has_onward = has_like w z
        (λ t i c. let u = twin w v h t i c in let x = twin v z k u.0 u.1 (counts_too t u.0 t.standing u.0.standing u.2.1) in
        (x.0, x.1, (u.2.0 ∙ x.2.0, stand_onward t u.0 x.0 t.standing u.0.standing x.0.standing u.2.1 x.2.1)))
        (λ a i s e. let b = like w v h a i s e in let c = like v z k b.0 b.1 s b.2 in
        (c.0, c.1, c.2, record { id = b.3.id ∙ c.3.id; snapshot = b.3.snapshot ∙ c.3.snapshot; known = b.3.known ∙ c.3.known; tables = b.3.tables ∙ c.3.tables }))

  pub alike_onward : (w v z : World A) → Alike w v → Alike v z → Alike w z
  alike_onward w v z h k = record {
    catalog = h.catalog ∙ k.catalog;
    last = h.last ∙ k.last;
    identifiers = h.identifiers ∙ k.identifiers;
    tables = h.tables ∙ k.tables;
    writers = h.writers ∙ k.writers;
    there = has_onward w v z h.there k.there;
    back = has_onward z v w k.back h.back;
  }
