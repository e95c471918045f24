-- A snapshot can't become safe where the key of a commit above it stands at or before it, and only there.
use Rattle.std.proofs.Common.{◌≡◌, refl, sym, ap, ◌∙◌, ℕ, ◌+◌, ◌<◌, ◌≤◌, Bool, true, false, cond, ◌&&◌, ◌⊎◌, inl, inr, List, [], ◌∷◌, length, nat_lt, nat_le, arith}
use Rattle.std.proofs.lemmas.Bool.{le-leb, lt-ltb, leb-true, ltb-true, and_parts, and_from, or_right, false_from_ne_true}
use Rattle.std.specs.Cmp.{both_ways}
use Rattle.std.specs.List.{list_any}
use Rattle.value.specs.Isolation.{write_key}
use Rattle.value.proofs.IsolationLemmas.{In, Out, f, first_part-cases, first_part-edge}
use Rattle.value.proofs.SerialLemmas.{NumberedFrom}
use Rattle.value.proofs.SortLemmas.{In-sorted, sorted-In}
use Rattle.value.proofs.Basics.{cases_le, filter-In, any-In, In-any, In-mapped, In-map}
use Rattle.value.proofs.Lists.{In-filter, clash}
use Rattle.history.specs.Transactions.{Txn, World, commits, edge, is_done, is_open, is_read_write, is_spoilt, node, was_active}
use Rattle.history.specs.Transactions as history
use Rattle.history.specs.Serial.{committed, in_commit_order, key, keys_by_commit}
use Rattle.serial.proofs.legal.EndsSeen.{EndsSeen}
use Rattle.serial.proofs.safe.Readers.{active_above}
use Rattle.serial.proofs.order.SerialTheorem.{IsGood, edge_parts, isolated_world}
use Rattle.session.specs.Unspoilt.{is_spoilt_by, spoils}

module _ {A : Type 0} where
  upto : (n : ℕ) (ts : List (Txn A)) (u : Txn A) → NumberedFrom (λ (t : Txn A). t.commit) n ts → In u ts → u.commit ≤ n + length ts
  upto n [] u h k = absurd k
  upto n (t ∷ ts) u h (inl p) = omega (arith, h.0, ap (λ (y : Txn A). y.commit) p)
  upto n (t ∷ ts) u h (inr k) = omega (arith, upto (n + 1) ts u h.1 k)

  -- a number with its key
  abbrev entry : World A → Txn A → ℕ × (ℕ × ℕ × ℕ)
  entry w t = (t.number, key w t)

  abbrev by_end : Txn A → ℕ × ℕ × ℕ
  by_end t = (t.end, 0, 0)

  -- its commit spoils the snapshot
  record Spoiler (w : World A) (n : ℕ) (u : Txn A) : Type 0 where
    among : In u (committed w)
    writes : is_read_write u.mode ≡ true
    first : f node edge u (committed w) ≤ n
    above : n < u.commit

  module _ (w : World A) (g : IsGood w) where
    key-In : (u : Txn A) → In u (committed w) → In (entry w u) (keys_by_commit w)
    key-In u i = In-mapped (entry w) u (in_commit_order w) (sorted-In by_end u (committed w) i)

    In-key : (x : ℕ × (ℕ × ℕ × ℕ)) → In x (keys_by_commit w) → (u : Txn A) × In u (committed w) × (x ≡ entry w u)
    In-key x i = let p = In-map (entry w) x (in_commit_order w) i in (p.0, In-sorted by_end p.0 (committed w) p.1, p.2)

    writes_key : (n : ℕ) (u : Txn A) → is_read_write u.mode ≡ true → spoils n (key w u) ≡ (nat_le (f node edge u (committed w)) n && nat_lt n u.commit)
    writes_key n u r = ap (λ b. spoils n (cond b (write_key (f node edge u (committed w)) u.commit) (u.snapshot, 2, u.end))) r ∙ by_test (f node edge u (committed w)) (nat_lt (f node edge u (committed w)) u.commit)
      where
        by_test : (m : ℕ) (b : Bool) → spoils n (cond b (m, 0, u.commit) (m, 1, u.commit)) ≡ (nat_le m n && nat_lt n u.commit)
        by_test m true = refl
        by_test m false = refl

    reads_key : (n : ℕ) (u : Txn A) → is_read_write u.mode ≡ false → spoils n (key w u) ≡ false
    reads_key n u r = ap (λ b. spoils n (cond b (write_key (f node edge u (committed w)) u.commit) (u.snapshot, 2, u.end))) r

    spoiler : (n : ℕ) → is_spoilt_by (keys_by_commit w) n ≡ true → (u : Txn A) × Spoiler w n u
    spoiler n e = of (any-In (λ (k : ℕ × (ℕ × ℕ × ℕ)). spoils n k.1) (keys_by_commit w) e)
      where
        of : (x : ℕ × (ℕ × ℕ × ℕ)) × In x (keys_by_commit w) × (spoils n x.1 ≡ true) → (u : Txn A) × Spoiler w n u
        of x = by_mode (is_read_write u.mode) refl
          where
            p : (u : Txn A) × In u (committed w) × (x.0 ≡ entry w u)
            p = In-key x.0 x.1

            u : Txn A
            u = p.0

            e' : spoils n (key w u) ≡ true
            e' = sym (ap (λ (y : ℕ × (ℕ × ℕ × ℕ)). spoils n y.1) p.2) ∙ x.2

            by_mode : (b : Bool) → is_read_write u.mode ≡ b → (v : Txn A) × Spoiler w n v
            by_mode true r =
                let q = and_parts (nat_le (f node edge u (committed w)) n) (nat_lt n u.commit) (sym (writes_key n u r) ∙ e') in
                (u, record { among = p.1; writes = r; first = leb-true (f node edge u (committed w)) n q.0; above = ltb-true n u.commit q.1 })
            by_mode false r = clash (spoils n (key w u)) e' (reads_key n u r)

    logged : (n : ℕ) (u : Txn A) → Spoiler w n u → In u w.log
    logged n u s = (isolated_world w g).log_all u s.among s.writes

    -- no commit is above all commits
    pub none_above : (n : ℕ) → commits w ≤ n → is_spoilt_by (keys_by_commit w) n ≡ false
    none_above n l = false_from_ne_true (is_spoilt_by (keys_by_commit w) n) (λ e. let s = spoiler n e in let m = upto w.base.commits w.log s.0 g.numbered.in_order (logged n s.0 s.1) in let a = s.1.above in omega (arith, l, m, a))

    module _ (ends : EndsSeen w) (t : Txn A) (i : In t w.txns) where
      abbrev n : ℕ
      n = t.snapshot

      committed_too : (u v : Txn A) → In v w.txns → edge u v ≡ true → In v (committed w)
      committed_too u v j e = go (g.numbered.kind v j)
        where
          go : In v w.log ⊎ (v.commit ≡ 0) × (is_done v.standing ≡ true → is_read_write v.mode ≡ false) → In v (committed w)
          go (inl k) = filter-In (λ (y : Txn A). is_done y.standing) v w.txns j (g.numbered.logged v k).1
          go (inr k) = absurd (let l = (edge_parts u v e).1 in omega (arith, l, k.0))

      told : is_spoilt w.txns t ≡ true → is_spoilt_by (keys_by_commit w) n ≡ true
      told e = of (any-In (λ u. was_active t u && history.spoils w.txns t u) w.txns e)
        where
          of : (u : Txn A) × In u w.txns × ((was_active t u && history.spoils w.txns t u) ≡ true) → is_spoilt_by (keys_by_commit w) n ≡ true
          of u = last (any-In (λ v. edge u.0 v && nat_le v.commit n) w.txns q.1)
            where
              p : (was_active t u.0 ≡ true) × (history.spoils w.txns t u.0 ≡ true)
              p = and_parts (was_active t u.0) (history.spoils w.txns t u.0) u.2

              q : (is_done u.0.standing ≡ true) × (list_any (λ v. edge u.0 v && nat_le v.commit n) w.txns ≡ true)
              q = and_parts (is_done u.0.standing) (list_any (λ v. edge u.0 v && nat_le v.commit n) w.txns) p.1

              above : In u.0 w.log × (is_read_write u.0.mode ≡ true) × (n < u.0.commit)
              above = active_above w g t i ends u.0 u.1 p.0 q.0

              among : In u.0 (committed w)
              among = filter-In (λ (y : Txn A). is_done y.standing) u.0 w.txns u.1 q.0

              last : (v : Txn A) × In v w.txns × ((edge u.0 v && nat_le v.commit n) ≡ true) → is_spoilt_by (keys_by_commit w) n ≡ true
              last v =
                  let r = and_parts (edge u.0 v.0) (nat_le v.0.commit n) v.2 in
                  let l = first_part-edge node edge u.0 v.0 (committed w) (committed_too u.0 v.0 v.1 r.0) r.0 in
                  let m = leb-true v.0.commit n r.1 in
                  In-any (λ (k : ℕ × (ℕ × ℕ × ℕ)). spoils n k.1) (keys_by_commit w) (entry w u.0) (key-In u.0 among)
                  (writes_key n u.0 above.1 ∙ and_from _ _ (le-leb (f node edge u.0 (committed w)) n (omega (arith, l, m))) (lt-ltb n u.0.commit above.2))

      tells : is_spoilt_by (keys_by_commit w) n ≡ true → is_spoilt w.txns t ≡ true
      tells e = of (spoiler n e)
        where
          of : (u : Txn A) × Spoiler w n u → is_spoilt w.txns t ≡ true
          of u = out (first_part-cases node edge u.0 (committed w))
            where
              s : Spoiler w n u.0
              s = u.1

              inside : In u.0 w.txns × (is_done u.0.standing ≡ true)
              inside = In-filter (λ (y : Txn A). is_done y.standing) u.0 w.txns s.among

              out : (f node edge u.0 (committed w) ≡ u.0.commit) ⊎ Out node edge u.0 (committed w) (f node edge u.0 (committed w)) → is_spoilt w.txns t ≡ true
              out (inl p) = absurd (let a = s.first in let b = s.above in omega (arith, p, a, b))
              out (inr o) = In-any (λ y. was_active t y && history.spoils w.txns t y) w.txns u.0 inside.0 (and_from _ _ active spoils_it)
                where
                  v : Txn A
                  v = o.to

                  shown : v.commit ≤ n
                  shown = let a = s.first in let b = o.least in omega (arith, a, b)

                  begun : u.0.begin < t.taken
                  begun = side (cases_le t.taken u.0.begin)
                    where
                      side : (t.taken ≤ u.0.begin) ⊎ (u.0.begin < t.taken) → u.0.begin < t.taken
                      side (inl l) = absurd (let a = (g.stands.txns t i).behind u.0 inside.0 s.writes l in let b = (edge_parts u.0 v o.is_edge).1 in omega (arith, a, b, shown))
                      side (inr l) = l

                  ended : t.taken < u.0.end
                  ended = (g.stands.txns t i).ahead u.0 (logged n u.0 s) s.above

                  active : was_active t u.0 ≡ true
                  active = and_from _ _ (and_from _ _ s.writes (lt-ltb u.0.begin t.taken begun)) (or_right (is_open u.0.standing) _ (lt-ltb t.taken u.0.end ended))

                  spoils_it : history.spoils w.txns t u.0 ≡ true
                  spoils_it = and_from _ _ inside.1 (In-any (λ y. edge u.0 y && nat_le y.commit n) w.txns v (In-filter (λ (y : Txn A). is_done y.standing) v w.txns o.in_list).0 (and_from _ _ o.is_edge (le-leb v.commit n shown)))

      -- a snapshot can't become safe exactly where one of the keys says so
      pub spoilt_is : is_spoilt w.txns t ≡ is_spoilt_by (keys_by_commit w) n
      spoilt_is = both_ways (is_spoilt w.txns t) (is_spoilt_by (keys_by_commit w) n) told tells
