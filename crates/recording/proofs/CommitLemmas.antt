-- The committed transactions in the order of their commits: a further event only adds at the end.
use Rattle.std.proofs.Common.{◌≡◌, ◌==◌, refl, sym, ap, subst, ◌∙◌, ℕ, ◌+◌, ◌<◌, ◌≤◌, Bool, true, ◌&&◌, ◌⊎◌, inl, inr, List, [], ◌∷◌, ◌++◌, Option, Some, None, nat_le, eq-eqb, arith}
use Rattle.std.specs.List.{find}
use Rattle.std.specs.Option.{option_to_list}
use Rattle.std.proofs.lemmas.Bool.{eqb-true, and_parts, and_from, le-leb, leb-true}
use Rattle.std.proofs.lemmas.List.{append-nil}
use Rattle.value.proofs.IsolationLemmas.{In, Below}
use Rattle.value.proofs.SortLemmas.{Apart, InOrder, Tied, In-sorted, same_order, sorted-In, sorted-InOrder}
use Rattle.value.proofs.SerialLemmas.{In-append, In-left, In-right}
use Rattle.value.proofs.Basics.{find-In}
use Rattle.history.specs.Transactions.{Txn, World, is_done}
use Rattle.history.specs.Serial.{Stays, committed, in_commit_order, key, serial_order}
use Rattle.history.proofs.Alone.{In-filter, filter-In}
use Rattle.serial.proofs.order.SerialTheorem.{IsGood, isolated_world}
use Rattle.recording.proofs.MoveLemmas.{none_found}

module _ {A : Type 0} where
  abbrev pub by_end : Txn A → ℕ × ℕ × ℕ
  by_end t = (t.end, 0, 0)

  abbrev pub done : Txn A → Bool
  done t = is_done t.standing

  -- it committed as the event at this place
  abbrev pub is_at : ℕ → Txn A → Bool
  is_at place t = is_done t.standing && t.end == place

  pub members : (x : World A) (t : Txn A) → In t (committed x) → In t x.txns × (done t ≡ true)
  members x t i = In-filter done x.txns t i

  -- no two committed at one place
  ends_apart : (x : World A) → IsGood x → (ts : List (Txn A)) → ((t : Txn A) → In t ts → In t (committed x)) → Apart (key x) ts → Apart by_end ts
  ends_apart x g [] sub a = tt
  ends_apart x g (t ∷ ts) sub a = (λ u i e. a.0 u i (same u (one u i e)), ends_apart x g ts (λ u i. sub u (inr i)) a.1)
    where
      one : (u : Txn A) → In u ts → Tied (by_end t) (by_end u) → t ≡ u
      one u i e = let p = members x t (sub t (inl refl)) in let q = members x u (sub u (inr i)) in g.time.ends_apart t u p.0 q.0 p.1 q.1 e.0

      same : (u : Txn A) → t ≡ u → Tied (key x t) (key x u)
      same u p = (ap (λ (y : Txn A). (key x y).0) p, ap (λ (y : Txn A). (key x y).1) p, ap (λ (y : Txn A). (key x y).2) p)

  pub ordered : (x : World A) → IsGood x → InOrder by_end (in_commit_order x)
  ordered x g = sorted-InOrder by_end (committed x) (ends_apart x g (committed x) (λ t i. i) (isolated_world x g).keys_apart)

  InOrder-push : (xs : List (Txn A)) (t : Txn A) → InOrder by_end xs → ((x : Txn A) → In x xs → x.end < t.end) → InOrder by_end (xs ++ t ∷ [])
  InOrder-push [] t o h = (λ y i. absurd i, tt)
  InOrder-push (x ∷ xs) t o h = (λ y i. side y (In-append by_end y xs (t ∷ []) i), InOrder-push xs t o.1 (λ y i. h y (inr i)))
    where
      side : (y : Txn A) → In y xs ⊎ ((y ≡ t) ⊎ ⊥) → Below (by_end x) (by_end y)
      side y (inl i) = o.0 y i
      side y (inr (inl p)) = inl (subst (λ (z : Txn A). x.end < z.end) (sym p) (h x (inl refl)))
      side y (inr (inr z)) = absurd z

  -- v is what one more event has made of w
  module _ (w v : World A) (gw : IsGood w) (gv : IsGood v) (stays : Stays w v) (next : v.place ≡ w.place + 1) where
    was : (t : Txn A) → In t (committed w) → In t (committed v) × (t.end ≤ w.place)
    was t i = (In-sorted (key v) t (committed v) both.0, leb-true t.end w.place both.1)
      where
        both : In t (serial_order v) × (nat_le t.end w.place ≡ true)
        both = In-filter (λ y. nat_le y.end w.place) (serial_order v) t (subst (In t) stays.order (sorted-In (key w) t (committed w) i))

    still : (t : Txn A) → In t (committed v) → t.end ≤ w.place → In t (committed w)
    still t i h = In-sorted (key w) t (committed w) (subst (In t) (sym stays.order) (filter-In (λ y. nat_le y.end w.place) (serial_order v) t (sorted-In (key v) t (committed v) i) (le-leb t.end w.place h)))

    two : (m n : ℕ) → m ≤ n + 1 → (m ≤ n) ⊎ (m ≡ n + 1)
    two m n h = grind arith

    -- a committed one had committed before, or has done so by the last event
    split : (t : Txn A) → In t (committed v) → In t (committed w) ⊎ (is_at v.place t ≡ true)
    split t i = go (two t.end w.place (let l = gv.time.ended_by t m.0 in omega (arith, l, next)))
      where
        m : In t v.txns × (done t ≡ true)
        m = members v t i

        go : (t.end ≤ w.place) ⊎ (t.end ≡ w.place + 1) → In t (committed w) ⊎ (is_at v.place t ≡ true)
        go (inl h) = inl (still t i h)
        go (inr e) = inr (and_from (done t) (t.end == v.place) m.1 (eq-eqb t.end v.place (e ∙ sym next)))

    old : (t : Txn A) → In t (in_commit_order w) → In t (committed w)
    old t i = In-sorted by_end t (committed w) i

    pub pushed : (o : Option (Txn A)) → find (is_at v.place) v.txns ≡ o → in_commit_order v ≡ in_commit_order w ++ option_to_list o
    pushed None e = same_order by_end (in_commit_order v) (in_commit_order w) (ordered v gv) (ordered w gw) there (λ t i. sorted-In by_end t (committed v) (was t (old t i)).0) ∙ sym (append-nil (in_commit_order w))
      where
        there : (t : Txn A) → In t (in_commit_order v) → In t (in_commit_order w)
        there t i = go (split t j)
          where
            j : In t (committed v)
            j = In-sorted by_end t (committed v) i

            go : In t (committed w) ⊎ (is_at v.place t ≡ true) → In t (in_commit_order w)
            go (inl k) = sorted-In by_end t (committed w) k
            go (inr q) = absurd (none_found (is_at v.place) v.txns e t (members v t j).0 q)
    pushed (Some x) e =
        same_order by_end (in_commit_order v) (in_commit_order w ++ x ∷ []) (ordered v gv)
        (InOrder-push (in_commit_order w) x (ordered w gw) (λ y i. let l = (was y (old y i)).1 in omega (arith, l, next, x_end))) there back
      where
        x_in : In x v.txns × (is_at v.place x ≡ true)
        x_in = find-In (is_at v.place) v.txns x e

        x_parts : (done x ≡ true) × ((x.end == v.place) ≡ true)
        x_parts = and_parts (done x) (x.end == v.place) x_in.1

        x_end : x.end ≡ v.place
        x_end = eqb-true x.end v.place x_parts.1

        there : (t : Txn A) → In t (in_commit_order v) → In t (in_commit_order w ++ x ∷ [])
        there t i = go (split t j)
          where
            j : In t (committed v)
            j = In-sorted by_end t (committed v) i

            go : In t (committed w) ⊎ (is_at v.place t ≡ true) → In t (in_commit_order w ++ x ∷ [])
            go (inl k) = In-left by_end t (in_commit_order w) (x ∷ []) (sorted-In by_end t (committed w) k)
            go (inr q) =
                let p = and_parts (done t) (t.end == v.place) q in
                In-right by_end t (in_commit_order w) (x ∷ []) (inl (gv.time.ends_apart t x (members v t j).0 x_in.0 p.0 x_parts.0 (eqb-true t.end v.place p.1 ∙ sym x_end)))

        back : (t : Txn A) → In t (in_commit_order w ++ x ∷ []) → In t (in_commit_order v)
        back t i = sorted-In by_end t (committed v) (go (In-append by_end t (in_commit_order w) (x ∷ []) i))
          where
            go : In t (in_commit_order w) ⊎ ((t ≡ x) ⊎ ⊥) → In t (committed v)
            go (inl k) = (was t (old t k)).0
            go (inr (inl p)) = subst (λ (y : Txn A). In y (committed v)) (sym p) (filter-In done v.txns x x_in.0 x_parts.0)
            go (inr (inr z)) = absurd z
