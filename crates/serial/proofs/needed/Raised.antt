-- Where the oldest snapshot rises, less matters; and those alone that matter may be kept.
use Rattle.std.proofs.Common.{◌≡◌, refl, sym, ap, ◌∙◌, ℕ, ◌≤◌, Bool, true, not, ◌&&◌, ◌||◌, ◌⊎◌, inl, inr, List, eqb, nat_lt, arith}
use Rattle.std.proofs.lemmas.Bool.{eqb-true, eq-eqb, and_parts, and_from, or_cases, or_left, or_right}
use Rattle.std.proofs.lemmas.Bool.Decides.{nat_tests}
use Rattle.std.specs.Cmp.{both_ways}
use Rattle.std.specs.List.{filter, list_any}
use Rattle.value.proofs.IsolationLemmas.{In}
use Rattle.value.proofs.Basics.{any-In, In-any}
use Rattle.value.proofs.Lists.{filter_alike}
use Rattle.history.specs.declared.event.Record.{Record}
use Rattle.history.specs.Opening.{Opening}
use Rattle.history.specs.Transactions.{Txn, World, edge, is_done, is_owed, is_read_write}
use Rattle.history.specs.Events.{world_of}
use Rattle.history.specs.Answer.{Legal}
use Rattle.history.specs.Needed.{IsOldest, Keeps, is_late_reader, is_met, is_needed, is_recent, kept_of, needed_numbers}
use Rattle.serial.proofs.safe.Prefix.{all_by, by_all}
use Rattle.serial.proofs.order.SerialTheorem.{good_world}

later_too : (n m c : ℕ) → n ≤ m → nat_lt m c ≡ true → nat_lt n c ≡ true
later_too n m c h e = grind (arith, nat_tests)

module _ {A : Type 0} where
  recent_too : (n m : ℕ) (u : Txn A) → n ≤ m → is_recent m u ≡ true → is_recent n u ≡ true
  recent_too n m u l e = let p = and_parts (is_done u.standing && is_read_write u.mode) (nat_lt m u.commit) e in and_from _ _ p.0 (later_too n m u.commit l p.1)

  pub needed_too : (n m : ℕ) (ts : List (Txn A)) (u : Txn A) → n ≤ m → is_needed m ts u ≡ true → is_needed n ts u ≡ true
  needed_too n m ts u l e = last (or_cases (is_owed u.standing || is_recent m u || is_late_reader m u) (is_met m ts u) e)
    where
      first : (is_owed u.standing ≡ true) ⊎ (is_recent m u ≡ true) → is_needed n ts u ≡ true
      first (inl p) = or_left _ _ (or_left _ _ (or_left _ _ p))
      first (inr p) = or_left _ _ (or_left _ _ (or_right (is_owed u.standing) _ (recent_too n m u l p)))

      second : ((is_owed u.standing || is_recent m u) ≡ true) ⊎ (is_late_reader m u ≡ true) → is_needed n ts u ≡ true
      second (inl p) = first (or_cases (is_owed u.standing) (is_recent m u) p)
      second (inr p) = let q = and_parts (is_done u.standing && not (is_read_write u.mode) && not u.known) (nat_lt m u.snapshot) p in
          or_left _ _ (or_right (is_owed u.standing || is_recent n u) _ (and_from _ _ q.0 (later_too n m u.snapshot l q.1)))

      met : (y : Txn A) × In y ts × ((is_recent m y && edge y u) ≡ true) → list_any (λ v. is_recent n v && edge v u) ts ≡ true
      met y = let q = and_parts (is_recent m y.0) (edge y.0 u) y.2 in In-any (λ v. is_recent n v && edge v u) ts y.0 y.1 (and_from _ _ (recent_too n m y.0 l q.0) q.1)

      last : ((is_owed u.standing || is_recent m u || is_late_reader m u) ≡ true) ⊎ (is_met m ts u ≡ true) → is_needed n ts u ≡ true
      last (inl p) = second (or_cases (is_owed u.standing || is_recent m u) (is_late_reader m u) p)
      last (inr p) = let q = and_parts (is_done u.standing) (list_any (λ v. is_recent m v && edge v u) ts) p in
          or_right (is_owed u.standing || is_recent n u || is_late_reader n u) _ (and_from _ _ q.0 (met (any-In (λ v. is_recent m v && edge v u) ts q.1)))

  pub raised : (w : World A) (n m : ℕ) (keep : ℕ → Bool) → Keeps w n keep → n ≤ m → IsOldest w m → Keeps w m keep
  raised w n m keep h l old = record {
    oldest = old;
    needed = all_by _ w.txns (λ u j e. by_all (λ v. is_needed n w.txns v ≡ true → keep v.number ≡ true) w.txns u h.needed j (needed_too n m w.txns u l e));
  }

  pub least_kept : (w : World A) (n : ℕ) → IsOldest w n → Keeps w n (needed_numbers n w.txns)
  least_kept w n old = record { oldest = old; needed = all_by _ w.txns (λ u j e. In-any (λ v. eqb v.number u.number && is_needed n w.txns v) w.txns u j (and_from _ _ (eq-eqb u.number u.number refl) e)) }

  pub least_is : (o : Opening A) (es : List (Record A)) → Legal o es → (n : ℕ) → kept_of (needed_numbers n (world_of o es).txns) (world_of o es).txns ≡ filter (is_needed n (world_of o es).txns) (world_of o es).txns
  least_is o es l n = filter_alike (λ u. needed_numbers n w.txns u.number) (is_needed n w.txns) w.txns (λ u j. both_ways _ _ (λ e. found u j (any-In (λ v. eqb v.number u.number && is_needed n w.txns v) w.txns e))
      (λ e. In-any (λ v. eqb v.number u.number && is_needed n w.txns v) w.txns u j (and_from _ _ (eq-eqb u.number u.number refl) e)))
    where
      w : World A
      w = world_of o es

      found : (u : Txn A) → In u w.txns → (y : Txn A) × In y w.txns × ((eqb y.number u.number && is_needed n w.txns y) ≡ true) → is_needed n w.txns u ≡ true
      found u j y = let q = and_parts (eqb y.0.number u.number) (is_needed n w.txns y.0) y.2 in
          ap (is_needed n w.txns) ((good_world o es l).numbered.unique u y.0 j y.1 (sym (eqb-true y.0.number u.number q.0))) ∙ q.1
