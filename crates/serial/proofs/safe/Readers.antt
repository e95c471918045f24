-- Readers of safe snapshots: what is known of such a snapshot stands for good, whether it was asked for or not.
use Rattle.std.proofs.Common.{◌≡◌, refl, ap, subst, ℕ, ◌<◌, ◌≤◌, Bool, true, false, not, ◌&&◌, ◌||◌, ◌⊎◌, inl, inr, List, nat_lt, nat_le, arith}
use Rattle.std.proofs.lemmas.Bool.{not-true, leb-true, ltb-true, and_parts, and_from, or_cases, or_right, false_from_ne_true}
use Rattle.std.specs.List.{list_any}
use Rattle.value.proofs.IsolationLemmas.{In}
use Rattle.value.proofs.Basics.{cases_le, any-In}
use Rattle.value.proofs.Lists.{clash}
use Rattle.history.specs.Transactions.{Txn, World, edge, is_open, is_done, is_pending, is_read_write, is_spoilt, spoils, was_active}
use Rattle.history.specs.Needed.{is_safe_reader, is_settled}
use Rattle.serial.proofs.legal.EndsSeen.{EndsSeen}
use Rattle.serial.proofs.legal.Numbers.{not_done}
use Rattle.serial.proofs.order.SerialTheorem.{IsGood, edge_parts}
use Rattle.serial.proofs.safe.Stamps.{Stamp, Stands, stands_settled}

-- an edge leads to a commit
above_none : (a b : ℕ) → a < b → b ≡ 0 → ⊥
above_none a b l e = grind arith

module _ {A : Type 0} where
  -- a transaction that may write is no safe reader
  pub writer_unsafe : (ts : List (Txn A)) (t : Txn A) → is_read_write t.mode ≡ true → is_safe_reader ts t ≡ false
  writer_unsafe ts t e = ap (λ b. not b && (t.known || is_settled ts t)) e

  -- t's snapshot as one that is known to be safe
  abbrev pub sure : Txn A → Stamp
  sure t = record { snapshot = t.snapshot; taken = t.taken; known = true }

  module _ (w : World A) (g : IsGood w) (t : Txn A) (i : In t w.txns) where
    pub settled_stands : is_settled w.txns t ≡ true → Stands w (sure t)
    settled_stands e =
        let p = and_parts (not (is_pending w.txns t)) (not (is_spoilt w.txns t)) e in
        stands_settled w t g.numbered g.stands i (not-true (is_spoilt w.txns t) p.1) (not-true (is_pending w.txns t) p.0)

    pub safe_stands : is_safe_reader w.txns t ≡ true → Stands w (sure t)
    safe_stands e = go (or_cases t.known (is_settled w.txns t) (and_parts (not (is_read_write t.mode)) (t.known || is_settled w.txns t) e).1)
      where
        go : (t.known ≡ true) ⊎ (is_settled w.txns t ≡ true) → Stands w (sure t)
        go (inl k) = subst (λ (b : Bool). Stands w (record { snapshot = t.snapshot; taken = t.taken; known = b })) k (g.stands.txns t i)
        go (inr s) = settled_stands s

    module _ (ends : EndsSeen w) where
      -- a transaction that was active at the snapshot and has committed has a number above it
      pub active_above : (u : Txn A) → In u w.txns → was_active t u ≡ true → is_done u.standing ≡ true → In u w.log × (is_read_write u.mode ≡ true) × (t.snapshot < u.commit)
      active_above u j e d = go (g.numbered.kind u j)
        where
          q : ((is_read_write u.mode && nat_lt u.begin t.taken) ≡ true) × ((is_open u.standing || nat_lt t.taken u.end) ≡ true)
          q = and_parts (is_read_write u.mode && nat_lt u.begin t.taken) (is_open u.standing || nat_lt t.taken u.end) e

          p : (is_read_write u.mode ≡ true) × (nat_lt u.begin t.taken ≡ true)
          p = and_parts (is_read_write u.mode) (nat_lt u.begin t.taken) q.0

          ended : t.taken < u.end
          ended = side (or_cases (is_open u.standing) (nat_lt t.taken u.end) q.1)
            where
              side : (is_open u.standing ≡ true) ⊎ (nat_lt t.taken u.end ≡ true) → t.taken < u.end
              side (inl r) = absurd (not_done u.standing r d)
              side (inr r) = ltb-true t.taken u.end r

          go : In u w.log ⊎ (u.commit ≡ 0) × (is_done u.standing ≡ true → is_read_write u.mode ≡ false) → In u w.log × (is_read_write u.mode ≡ true) × (t.snapshot < u.commit)
          go (inr k) = clash (is_read_write u.mode) p.0 (k.1 d)
          go (inl k) = side (cases_le u.commit t.snapshot)
            where
              side : (u.commit ≤ t.snapshot) ⊎ (t.snapshot < u.commit) → In u w.log × (is_read_write u.mode ≡ true) × (t.snapshot < u.commit)
              side (inl l) = absurd (let m = ends.txns t i u k l in omega (arith, m, ended))
              side (inr l) = (k, p.0, l)

      pub stands_is_settled : Stands w (sure t) → is_settled w.txns t ≡ true
      stands_is_settled s = and_from _ _ (ap not (false_from_ne_true (is_pending w.txns t) pending)) (ap not (false_from_ne_true (is_spoilt w.txns t) spoilt))
        where
          pending : is_pending w.txns t ≡ true → ⊥
          pending e = go (any-In (λ u. was_active t u && is_open u.standing) w.txns e)
            where
              go : (u : Txn A) × In u w.txns × ((was_active t u && is_open u.standing) ≡ true) → ⊥
              go u =
                  let p = and_parts (was_active t u.0) (is_open u.0.standing) u.2 in
                  let q = and_parts (is_read_write u.0.mode && nat_lt u.0.begin t.taken) (is_open u.0.standing || nat_lt t.taken u.0.end) p.0 in
                  let r = and_parts (is_read_write u.0.mode) (nat_lt u.0.begin t.taken) q.0 in
                  s.none_open refl u.0 u.1 r.0 p.1 (ltb-true u.0.begin t.taken r.1)

          spoilt : is_spoilt w.txns t ≡ true → ⊥
          spoilt e = go (any-In (λ u. was_active t u && spoils w.txns t u) w.txns e)
            where
              go : (u : Txn A) × In u w.txns × ((was_active t u && spoils w.txns t u) ≡ true) → ⊥
              go u = last (any-In (λ v. edge u.0 v && nat_le v.commit t.snapshot) w.txns q.1)
                where
                  p : (was_active t u.0 ≡ true) × (spoils w.txns t u.0 ≡ true)
                  p = and_parts (was_active t u.0) (spoils w.txns t u.0) u.2

                  q : (is_done u.0.standing ≡ true) × (list_any (λ v. edge u.0 v && nat_le v.commit t.snapshot) w.txns ≡ true)
                  q = and_parts (is_done u.0.standing) (list_any (λ v. edge u.0 v && nat_le v.commit t.snapshot) w.txns) p.1

                  above : In u.0 w.log × (is_read_write u.0.mode ≡ true) × (t.snapshot < u.0.commit)
                  above = active_above u.0 u.1 p.0 q.0

                  last : (v : Txn A) × In v w.txns × ((edge u.0 v && nat_le v.commit t.snapshot) ≡ true) → ⊥
                  last v = end (g.numbered.kind v.0 v.1)
                    where
                      r : (edge u.0 v.0 ≡ true) × (nat_le v.0.commit t.snapshot ≡ true)
                      r = and_parts (edge u.0 v.0) (nat_le v.0.commit t.snapshot) v.2

                      end : In v.0 w.log ⊎ (v.0.commit ≡ 0) × (is_done v.0.standing ≡ true → is_read_write v.0.mode ≡ false) → ⊥
                      end (inl k) = s.safe refl u.0 v.0 above.0 k above.2 (leb-true v.0.commit t.snapshot r.1) r.0
                      end (inr k) = above_none u.0.snapshot v.0.commit (edge_parts u.0 v.0 r.0).1 k.0

      -- what stands so is a safe reader's, if it only reads
      pub stands_safe : is_read_write t.mode ≡ false → Stands w (sure t) → is_safe_reader w.txns t ≡ true
      stands_safe r s = and_from _ _ (ap not r) (or_right t.known _ (stands_is_settled s))
