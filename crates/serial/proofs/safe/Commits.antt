-- A reader of a safe snapshot commits, and one that begins while no transaction is open that may write reads from a safe one.
use Rattle.std.proofs.Common.{◌≡◌, refl, sym, ap, ◌∙◌, ℕ, ◌+◌, true, false, not, ◌&&◌, ◌||◌, ◌⊎◌, inl, inr, List, [], ◌∷◌, ◌++◌, None, nat_lt, arith}
use Rattle.std.proofs.lemmas.Bool.{ltb-true, and_parts, and_from, or_cases, false_from_ne_true}
use Rattle.value.specs.declared.refusal.Mode.{Mode}
use Rattle.value.specs.Isolation.{first_cause}
use Rattle.value.proofs.IsolationLemmas.{In}
use Rattle.value.proofs.SerialLemmas.{In-append}
use Rattle.value.proofs.Basics.{filter_none, any-In}
use Rattle.value.proofs.Structures.{cause-kept}
use Rattle.history.specs.declared.event.Record.{Record}
use Rattle.history.specs.Opening.{Opening}
use Rattle.history.specs.Transactions.{Txn, World, edge, is_open, is_pending, is_read_write, is_spoilt, node, spoils, was_active}
use Rattle.history.specs.Events.{begun, world_of}
use Rattle.history.specs.Answer.{Legal, cause_of, committing}
use Rattle.history.specs.Needed.{IsOpenOf, is_safe_reader, is_settled}
use Rattle.serial.proofs.legal.Legal.{current_in}
use Rattle.serial.proofs.needed.Cause.{safe_commit}
use Rattle.serial.proofs.safe.Prefix.{by_all}
use Rattle.serial.proofs.order.SerialTheorem.{IsGood, good_world}

module _ {A : Type 0} where
  pub safe_committed : (o : Opening A) (es : List (Record A)) → Legal o es → (s : ℕ) (t : Txn A) → IsOpenOf (world_of o es) s t → is_safe_reader (world_of o es).txns t ≡ true → cause_of (world_of o es) t ≡ None
  safe_committed o es l s t p e =
      sym (cause-kept node edge (λ (_ : Txn A). false) ts (λ a b d ia ib id q. absurd (safe_commit w (good_world o es l) t (current_in w s t p.0).0 p.1 e a b d ia ib id q)))
      ∙ ap (first_cause node edge) (filter_none (λ (_ : Txn A). false) ts (λ x i. refl))
    where
      w : World A
      w = world_of o es

      ts : List (Txn A)
      ts = committing w t

  -- no transaction is open that may write
  abbrev pub Unwritten : World A → Type 0
  Unwritten w = (u : Txn A) → In u w.txns → is_read_write u.mode ≡ true → is_open u.standing ≡ true → ⊥

  begun_settled : (w : World A) → IsGood w → Unwritten w → (s : ℕ) (m : Mode) → is_settled (w.txns ++ begun w s m ∷ []) (begun w s m) ≡ true
  begun_settled w g none s m = and_from _ _ (ap not (false_from_ne_true (is_pending ts t) pending)) (ap not (false_from_ne_true (is_spoilt ts t) spoilt))
    where
      t : Txn A
      t = begun w s m

      ts : List (Txn A)
      ts = w.txns ++ begun w s m ∷ []

      -- no transaction that may write was active
      inactive : (u : Txn A) → In u w.txns ⊎ ((u ≡ t) ⊎ ⊥) → was_active t u ≡ true → ⊥
      inactive u i e = go i (and_parts (is_read_write u.mode && nat_lt u.begin t.taken) (is_open u.standing || nat_lt t.taken u.end) e)
        where
          go : In u w.txns ⊎ ((u ≡ t) ⊎ ⊥) → ((is_read_write u.mode && nat_lt u.begin t.taken) ≡ true) × ((is_open u.standing || nat_lt t.taken u.end) ≡ true) → ⊥
          go (inl j) q = side (or_cases (is_open u.standing) (nat_lt t.taken u.end) q.1)
            where
              side : (is_open u.standing ≡ true) ⊎ (nat_lt t.taken u.end ≡ true) → ⊥
              side (inl r) = none u j (and_parts (is_read_write u.mode) (nat_lt u.begin t.taken) q.0).0 r
              side (inr r) = let m = g.time.ended_by u j in let k = ltb-true (w.place + 1) u.end r in omega (arith, m, k)
          go (inr (inl p)) q =
              let b : u.begin ≡ w.place + 1 = ap (λ (y : Txn A). y.begin) p in
              let k = ltb-true u.begin (w.place + 1) (and_parts (is_read_write u.mode) (nat_lt u.begin t.taken) q.0).1 in omega (arith, b, k)
          go (inr (inr z)) q = z

      pending : is_pending ts t ≡ true → ⊥
      pending e = go (any-In (λ u. was_active t u && is_open u.standing) ts e)
        where
          go : (u : Txn A) × In u ts × ((was_active t u && is_open u.standing) ≡ true) → ⊥
          go u = inactive u.0 (In-append (λ (_ : Txn A). (0, 0, 0)) u.0 w.txns (begun w s m ∷ []) u.1) (and_parts (was_active t u.0) (is_open u.0.standing) u.2).0

      spoilt : is_spoilt ts t ≡ true → ⊥
      spoilt e = go (any-In (λ u. was_active t u && spoils ts t u) ts e)
        where
          go : (u : Txn A) × In u ts × ((was_active t u && spoils ts t u) ≡ true) → ⊥
          go u = inactive u.0 (In-append (λ (_ : Txn A). (0, 0, 0)) u.0 w.txns (begun w s m ∷ []) u.1) (and_parts (was_active t u.0) (spoils ts t u.0) u.2).0

  pub begun_safe : (o : Opening A) (es : List (Record A)) → Legal o es → Rattle.std.specs.List.AllByRecursion (λ (u : Txn A). is_read_write u.mode ≡ true → is_open u.standing ≡ true → ⊥) (world_of o es).txns
      → (s : ℕ) (m : Mode) → is_settled ((world_of o es).txns ++ begun (world_of o es) s m ∷ []) (begun (world_of o es) s m) ≡ true
  begun_safe o es l none s m = begun_settled (world_of o es) (good_world o es l)
      (λ u i. by_all (λ (x : Txn A). is_read_write x.mode ≡ true → is_open x.standing ≡ true → ⊥) (world_of o es).txns u none i) s m
