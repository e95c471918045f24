-- The key of what an event commits, from what is kept.
use Rattle.std.proofs.Common.{◌≡◌, refl, sym, ap, ◌∙◌, ℕ, ◌≤◌, ◌&&◌, ◌==◌, Bool, true, false, cond, List, [], ◌∷◌, map, min, nat_lt, Option, Some, None}
use Rattle.std.proofs.lemmas.Bool.{eqb-true, and_parts, false_from_ne_true}
use Rattle.std.specs.List.{filter, find}
use Rattle.std.specs.Option.{option_map}
use Rattle.value.specs.Isolation.{first_part, serial_key, write_key}
use Rattle.value.proofs.IsolationLemmas.{In}
use Rattle.value.proofs.Basics.{find-In}
use Rattle.value.proofs.Lists.{clash, find-alike}
use Rattle.history.specs.Transactions.{Txn, World, edge, is_done, is_read_write, node}
use Rattle.history.specs.Needed.{Keeps, kept_of}
use Rattle.serial.proofs.order.SerialTheorem.{IsGood}
use Rattle.serial.proofs.needed.Keys.{same_key}
use Rattle.transactions.specs.Keys.{committed_at}
use Rattle.transactions.specs.Ledger.{kept}

-- a number with a key
abbrev entry : ℕ → ℕ × ℕ × ℕ → ℕ × (ℕ × ℕ × ℕ)
entry n k = (n, k)

module _ {A : Type 0} where
  -- ---- what is kept of transactions is committed alike

  first_part-kept : (t : Txn A) (us : List (Txn A)) → first_part node edge (kept t) (map kept us) ≡ first_part node edge t us
  first_part-kept t [] = refl
  first_part-kept t (u ∷ us) = ap (λ (m : ℕ). cond (edge t u && nat_lt u.commit t.commit) (min u.commit m) m) (first_part-kept t us)

  key-kept : (us : List (Txn A)) (t : Txn A) → serial_key node edge (map kept us) (kept t) ≡ serial_key node edge us t
  key-kept us t = ap (λ (m : ℕ). cond (is_read_write t.mode) (write_key m t.commit) (t.snapshot, 2, t.end)) (first_part-kept t us)

  done-kept : (ts : List (Txn A)) → filter (λ u. is_done u.standing) (map kept ts) ≡ map kept (filter (λ u. is_done u.standing) ts)
  done-kept [] = refl
  done-kept (t ∷ ts) = go (is_done t.standing) (done-kept ts)
    where
      go : (b : Bool) → filter (λ u. is_done u.standing) (map kept ts) ≡ map kept (filter (λ u. is_done u.standing) ts)
          → cond b (kept t ∷ filter (λ u. is_done u.standing) (map kept ts)) (filter (λ u. is_done u.standing) (map kept ts)) ≡ map kept (cond b (t ∷ filter (λ u. is_done u.standing) ts) (filter (λ u. is_done u.standing) ts))
      go true e = ap (λ us. kept t ∷ us) e
      go false e = e

  found-kept : (place : ℕ) (ts : List (Txn A)) → find (λ t. is_done t.standing && t.end == place) (map kept ts) ≡ option_map kept (find (λ t. is_done t.standing && t.end == place) ts)
  found-kept place [] = refl
  found-kept place (t ∷ ts) = go (is_done t.standing && t.end == place) (found-kept place ts)
    where
      go : (b : Bool) → find (λ u. is_done u.standing && u.end == place) (map kept ts) ≡ option_map kept (find (λ u. is_done u.standing && u.end == place) ts)
          → cond b (Some (kept t)) (find (λ u. is_done u.standing && u.end == place) (map kept ts)) ≡ option_map kept (cond b (Some t) (find (λ u. is_done u.standing && u.end == place) ts))
      go true e = refl
      go false e = e

  pub at-kept : (place : ℕ) (ts : List (Txn A)) → committed_at place (map kept ts) ≡ committed_at place ts
  at-kept place ts =
      ap (λ us. option_map (λ t. entry t.number (serial_key node edge us t)) (find (λ t. is_done t.standing && t.end == place) (map kept ts))) (done-kept ts)
      ∙ ap (option_map (λ t. entry t.number (serial_key node edge (map kept done) t))) (found-kept place ts)
      ∙ go (find (λ t. is_done t.standing && t.end == place) ts)
    where
      done : List (Txn A)
      done = filter (λ u. is_done u.standing) ts

      go : (o : Option (Txn A)) → option_map (λ t. entry t.number (serial_key node edge (map kept done) t)) (option_map kept o) ≡ option_map (λ t. entry t.number (serial_key node edge done t)) o
      go None = refl
      go (Some t) = ap (λ k. Some (entry t.number k)) (key-kept done t)

  -- ---- and those that are kept have what the last event committed, with its key

  -- It holds of the world v after an event, n being the oldest snapshot before it: what committed last may be kept, and reads from n on, if it writes.
  abbrev pub NewIsKept : World A → ℕ → (ℕ → Bool) → Type 0
  NewIsKept v n keep = (x : Txn A) → In x v.txns → is_done x.standing ≡ true → x.end ≡ v.place → (keep x.number ≡ true) × (is_read_write x.mode ≡ true → n ≤ x.snapshot)

  pub committed_alike : (v : World A) → IsGood v → (n : ℕ) (keep : ℕ → Bool) → Keeps v n keep → NewIsKept v n keep → committed_at v.place (kept_of keep v.txns) ≡ committed_at v.place v.txns
  committed_alike v g n keep h new = go (find is_last v.txns) refl
    where
      is_last : Txn A → Bool
      is_last x = is_done x.standing && x.end == v.place

      stays : (x : Txn A) → In x v.txns → is_last x ≡ true → (keep x.number ≡ true) × (is_read_write x.mode ≡ true → n ≤ x.snapshot)
      stays x i e = let p = and_parts (is_done x.standing) (x.end == v.place) e in new x i p.0 (eqb-true x.end v.place p.1)

      same : find is_last (kept_of keep v.txns) ≡ find is_last v.txns
      same = find-alike is_last (λ u. keep u.number) v.txns (λ x i e. false_from_ne_true (is_last x) (λ q. clash (keep x.number) (stays x i q).0 e))

      keyed_by : List (Txn A) → Txn A → ℕ × (ℕ × ℕ × ℕ)
      keyed_by ts t = entry t.number (serial_key node edge (filter (λ u. is_done u.standing) ts) t)

      go : (o : Option (Txn A)) → find is_last v.txns ≡ o → option_map (keyed_by (kept_of keep v.txns)) (find is_last (kept_of keep v.txns)) ≡ option_map (keyed_by v.txns) (find is_last v.txns)
      go None e = ap (option_map (keyed_by (kept_of keep v.txns))) (same ∙ e) ∙ sym (ap (option_map (keyed_by v.txns)) e)
      go (Some x) e =
          let f = find-In is_last v.txns x e in
          ap (option_map (keyed_by (kept_of keep v.txns))) (same ∙ e)
          ∙ ap (λ i. Some (entry x.number i)) (same_key v g n keep h x (stays x f.0 f.1).1)
          ∙ sym (ap (option_map (keyed_by v.txns)) e)
