-- Dooms, keys that are taken, and a session's transaction, from the transactions that matter alone; and so each reply.
use Rattle.std.proofs.Common.{◌≡◌, refl, ap, ◌∙◌, ℕ, ◌<◌, Bool, true, false, cond, not, ◌&&◌, ◌||◌, ◌⊎◌, inl, inr, List, [], ◌++◌, None, eqb, nat_lt, arith}
use Rattle.std.proofs.lemmas.Bool.{eqb-true, ltb-true, and_parts, or_cases, or_left, false_from_ne_true}
use Rattle.std.proofs.lemmas.List.{append-nil}
use Rattle.std.specs.List.{find, list_any}
use Rattle.std.specs.Option.{option_to_list}
use Rattle.value.specs.declared.refusal.Cause.{Cause}
use Rattle.value.specs.Isolation.{cause_from, dooms, is_doomed, is_first, is_live, is_other, with_doom}
use Rattle.value.proofs.IsolationLemmas.{In}
use Rattle.value.proofs.Basics.{any-same_in}
use Rattle.value.proofs.Lists.{clash, find-alike, fold-alike, fold-kept}
use Rattle.schema.specs.declared.changes.Change.{Change}
use Rattle.history.specs.declared.event.Record.{Record}
use Rattle.history.specs.Opening.{Opening}
use Rattle.history.specs.Transactions.{Exported_snapshot, Txn, World, current, is_done, is_living, is_of, is_open, is_owed, is_read_write, node, reads_from}
use Rattle.history.specs.Events.{world_of}
use Rattle.history.specs.Answer.{Legal, has_written, is_taken, is_unseen, meets_another}
use Rattle.history.specs.Needed.{IsOpenOf, Keeps, is_needed, is_safe_reader, kept_of}
use Rattle.serial.proofs.legal.Legal.{current_in}
use Rattle.serial.proofs.safe.Prefix.{by_all}
use Rattle.serial.proofs.order.SerialTheorem.{IsGood, good_world}
use Rattle.serial.proofs.needed.Cause.{in_log, oldest_is, open_owed, recent_kept}
use Rattle.serial.proofs.needed.Questions.{any-kept}

twice : (b : Bool) → not (not b) ≡ true → b ≡ true
twice true e = refl
twice false e = e

module _ {A : Type 0} (w : World A) (n : ℕ) (keep : ℕ → Bool) (h : Keeps w n keep) where
  pub owed_stays : (u : Txn A) → In u w.txns → is_owed u.standing ≡ true → keep u.number ≡ true
  owed_stays u j e = by_all (λ v. is_needed n w.txns v ≡ true → keep v.number ≡ true) w.txns u h.needed j (or_left _ _ (or_left _ _ (or_left _ _ e)))

  pub current_of_kept : (s : ℕ) → find (is_of s) (kept_of keep w.txns) ≡ current w s
  current_of_kept s = find-alike (is_of s) (λ u. keep u.number) w.txns
      (λ u j e. false_from_ne_true (is_of s u) (λ q. clash (keep u.number) (owed_stays u j (and_parts (eqb u.session s) (is_owed u.standing) q).1) e))

  pub living_of_kept : (x : Exported_snapshot) → is_living (kept_of keep w.txns) x ≡ is_living w.txns x
  living_of_kept x = any-kept (λ t. eqb t.number x.exporter && is_open t.standing) (λ u. keep u.number) w.txns
      (λ u j e. owed_stays u j (open_owed u.standing (and_parts (eqb u.number x.exporter) (is_open u.standing) e).1))

  live_stays : (c u : Txn A) → In u w.txns → is_live node reads_from c u ≡ true → keep u.number ≡ true
  live_stays c u j e = owed_stays u j (open_owed u.standing (and_parts (is_other node reads_from u c) (is_open u.standing) (and_parts (is_other node reads_from u c && is_open u.standing) (is_read_write u.mode) e).0).1)

  pub dooms_of_kept : (c : Txn A) → keep c.number ≡ true → dooms node reads_from (kept_of keep w.txns) c ≡ dooms node reads_from w.txns c
  dooms_of_kept c self =
      fold-alike (with_doom node reads_from (kept_of keep w.txns) c) (with_doom node reads_from w.txns c) [] (kept_of keep w.txns)
      (λ causes b. ap (λ o. causes ++ option_to_list (cond (is_live node reads_from c b && reads_from b c) (cause_from node reads_from b c o) None)) (firsts causes b))
      ∙ fold-kept (with_doom node reads_from w.txns c) [] (λ u. keep u.number) w.txns
      (λ causes b j e. ap (λ x. causes ++ option_to_list (cond (x && reads_from b c) (cause_from node reads_from b c (find (is_first node reads_from c causes b) w.txns)) None))
      (false_from_ne_true (is_live node reads_from c b) (λ q. clash (keep b.number) (live_stays c b j q) e)) ∙ append-nil causes)
    where
      stays : (causes : List Cause) (b u : Txn A) → In u w.txns → is_first node reads_from c causes b u ≡ true → keep u.number ≡ true
      stays causes b u j e = go (or_cases (not (is_other node reads_from u c)) (is_live node reads_from c u && not (is_doomed node reads_from causes u)) q.1)
        where
          q : (is_other node reads_from u b ≡ true) × ((not (is_other node reads_from u c) || is_live node reads_from c u && not (is_doomed node reads_from causes u)) ≡ true)
          q = and_parts (is_other node reads_from u b) _ (and_parts (is_other node reads_from u b && (not (is_other node reads_from u c) || is_live node reads_from c u && not (is_doomed node reads_from causes u))) (reads_from u b) e).0

          go : (not (is_other node reads_from u c) ≡ true) ⊎ ((is_live node reads_from c u && not (is_doomed node reads_from causes u)) ≡ true) → keep u.number ≡ true
          go (inl p) = ap keep (eqb-true u.number c.number (twice (eqb u.number c.number) p)) ∙ self
          go (inr p) = live_stays c u j (and_parts (is_live node reads_from c u) (not (is_doomed node reads_from causes u)) p).0

      firsts : (causes : List Cause) (b : Txn A) → find (is_first node reads_from c causes b) (kept_of keep w.txns) ≡ find (is_first node reads_from c causes b) w.txns
      firsts causes b = find-alike (is_first node reads_from c causes b) (λ u. keep u.number) w.txns (λ u j e. false_from_ne_true (is_first node reads_from c causes b u) (λ q. clash (keep u.number) (stays causes b u j q) e))

  module _ (g : IsGood w) (t : Txn A) (i : In t w.txns) (o : is_open t.standing ≡ true) (writes : is_safe_reader w.txns t ≡ false) where
    pub taken_of_kept : (xs : List (Change A)) → list_any (λ x. list_any (λ u. is_taken t u x) (kept_of keep w.txns)) xs ≡ meets_another w t xs
    taken_of_kept xs = any-same_in (λ x. list_any (λ u. is_taken t u x) (kept_of keep w.txns)) (λ x. list_any (λ u. is_taken t u x) w.txns) xs
        (λ x _. any-kept (λ u. is_taken t u x) (λ u. keep u.number) w.txns (λ u j e. stays x u j e))
      where
        stays : (x : Change A) (u : Txn A) → In u w.txns → is_taken t u x ≡ true → keep u.number ≡ true
        stays x u j e = go (or_cases (is_open u.standing) (nat_lt t.snapshot u.commit)
            (and_parts (not (eqb u.number t.number)) (is_unseen t u) (and_parts (not (eqb u.number t.number) && is_unseen t u) (has_written u x) e).0).1)
          where
            go : (is_open u.standing ≡ true) ⊎ (nat_lt t.snapshot u.commit ≡ true) → keep u.number ≡ true
            go (inl p) = owed_stays u j (open_owed u.standing p)
            go (inr p) = recent_kept w g t i o n keep h u j l.1 l.2 above
              where
                above : n < u.commit
                above = let m : t.snapshot < u.commit = ltb-true t.snapshot u.commit p in omega (arith, m, oldest_is w g t i o n keep h writes)

                l : In u w.txns × (is_done u.standing ≡ true) × (is_read_write u.mode ≡ true) × (u.snapshot < u.commit)
                l = g.numbered.logged u (in_log w g t i o u j (omega (arith, above)))

module _ {A : Type 0} where
  pub dooms_kept : (o : Opening A) (es : List (Record A)) → Legal o es → (s : ℕ) (t : Txn A) (n : ℕ) (keep : ℕ → Bool) → IsOpenOf (world_of o es) s t → Keeps (world_of o es) n keep
      → dooms node reads_from (kept_of keep (world_of o es).txns) t ≡ dooms node reads_from (world_of o es).txns t
  dooms_kept o es l s t n keep p h = dooms_of_kept w n keep h t (owed_stays w n keep h t (current_in w s t p.0).0 (open_owed t.standing p.1))
    where
      w : World A
      w = world_of o es

  pub taken_kept : (o : Opening A) (es : List (Record A)) → Legal o es → (s : ℕ) (t : Txn A) (n : ℕ) (keep : ℕ → Bool) → IsOpenOf (world_of o es) s t → Keeps (world_of o es) n keep → is_safe_reader (world_of o es).txns t ≡ false
      → (xs : List (Change A)) → list_any (λ x. list_any (λ u. is_taken t u x) (kept_of keep (world_of o es).txns)) xs ≡ meets_another (world_of o es) t xs
  taken_kept o es l s t n keep p h r = taken_of_kept w n keep h (good_world o es l) t (current_in w s t p.0).0 p.1 r
    where
      w : World A
      w = world_of o es
