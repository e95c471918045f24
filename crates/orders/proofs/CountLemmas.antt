-- What ways tell of counts, one statement after the other.
use Rattle.std.proofs.Common.{◌≡◌, refl, sym, ap, subst, ◌∙◌, ℕ, zero, suc, ◌+◌, Bool, true, false, true≢false, ◌||◌, ◌⊎◌, inl, inr, List, [], ◌∷◌, ◌++◌, eqb, arith}
use Rattle.std.proofs.lemmas.Bool.{eqb-true, or_left, or_right}
use Rattle.value.specs.declared.value.Value.{Value}
use Rattle.value.proofs.Basics.{any-front, any-back, any-cases, eqb-self}
use Rattle.schema.specs.Definition.{Catalog}
use Rattle.schema.specs.declared.tables.Tables.{Tables}
use Rattle.statement.specs.declared.statement.Statement.{Statement}
use Rattle.statement.specs.declared.reply.Reply.{Reply}
use Rattle.statement.specs.Evaluation.{after}
use Rattle.orders.specs.declared.ways.way.Way.{Way}
use Rattle.orders.specs.Counts.{has, chooses, chosen_in, names_key, named_at, CountsRight}
use Rattle.orders.proofs.StepLemmas.{Adds}

plus_zero : (n : ℕ) → n + 0 ≡ n
plus_zero n = omega arith

plus_suc : (n j : ℕ) → suc n + j ≡ n + suc j
plus_suc n j = omega arith

zero_plus : (j : ℕ) → 0 + j ≡ j
zero_plus j = omega arith

-- a number that is put last
last_there : (n : ℕ) (ns : List ℕ) → has n (ns ++ n ∷ []) ≡ true
last_there n ns = any-back (λ i. eqb i n) ns (n ∷ []) (or_left (eqb n n) false (eqb-self n))

last_or : (i n : ℕ) (ns : List ℕ) → has i (ns ++ n ∷ []) ≡ true → (has i ns ≡ true) ⊎ (n ≡ i)
last_or i n ns h = go (any-cases (λ m. eqb m i) ns (n ∷ []) h)
  where
    alone : (b : Bool) → eqb n i ≡ b → (b || false) ≡ true → n ≡ i
    alone true e f = eqb-true n i e
    alone false e f = absurd (true≢false (sym f))

    go : (has i ns ≡ true) ⊎ ((eqb n i || false) ≡ true) → (has i ns ≡ true) ⊎ (n ≡ i)
    go (inl e) = inl e
    go (inr e) = inr (alone (eqb n i) refl e)

module _ {A : Type 0} where
  -- what the statements of a run from number n on add to the counts of a way
  pub record Extends (c : Catalog) (t : ℕ) (k : Value A) (n : ℕ) (qs : List (Statement A × Reply A)) (X : Tables A) (w u : Way A) : Type 0 where
    pub within : (i : ℕ) → has i u.counted ≡ true → (has i w.counted ≡ true) ⊎ ((j : ℕ) × (i ≡ n + j) × (chosen_in c t k qs X j ≡ true))
    pub all : (j : ℕ) → chosen_in c t k qs X j ≡ true → (has (n + j) u.counted || has (n + j) u.may_count || named_at k qs j) ≡ true
    pub counted : (i : ℕ) → has i w.counted ≡ true → has i u.counted ≡ true
    pub may_count : (i : ℕ) → has i w.may_count ≡ true → has i u.may_count ≡ true

  pub extends_none : (c : Catalog) (t : ℕ) (k : Value A) (n : ℕ) (X : Tables A) (w : Way A) → Extends c t k n [] X w w
  extends_none c t k n X w = record { within = λ i h. inl h; all = λ j e. absurd (true≢false (sym e)); counted = λ i h. h; may_count = λ i h. h }

  pub extends_more : (c : Catalog) (t : ℕ) (k : Value A) (n : ℕ) (q : Statement A × Reply A) (qs : List (Statement A × Reply A)) (X : Tables A) (w v u : Way A) → Adds n (chooses t k q.0 X) (names_key k q.0) w v → Extends c t k (suc n) qs (after c q.0 X) v u
      → Extends c t k n (q ∷ qs) X w u
  extends_more c t k n q qs X w v u adds x = record {
    within = λ i h. by_rest i (x.within i h);
    all = tells;
    counted = λ i h. x.counted i (keeps_counted i adds h);
    may_count = λ i h. x.may_count i (keeps_may i adds h);
  }
    where
      Early : ℕ → Type 0
      Early i = (has i w.counted ≡ true) ⊎ ((j : ℕ) × (i ≡ n + j) × (chosen_in c t k (q ∷ qs) X j ≡ true))

      keeps_counted : (i : ℕ) → Adds n (chooses t k q.0 X) (names_key k q.0) w v → has i w.counted ≡ true → has i v.counted ≡ true
      keeps_counted i (inl ((e, f), g)) h = subst (λ ns. has i ns ≡ true) (sym e) h
      keeps_counted i (inr (inl (e, f, g))) h = subst (λ ns. has i ns ≡ true) (sym e) (any-front (λ m. eqb m i) w.counted (n ∷ []) h)
      keeps_counted i (inr (inr (e, f))) h = subst (λ ns. has i ns ≡ true) (sym e) h

      keeps_may : (i : ℕ) → Adds n (chooses t k q.0 X) (names_key k q.0) w v → has i w.may_count ≡ true → has i v.may_count ≡ true
      keeps_may i (inl ((e, f), g)) h = subst (λ ns. has i ns ≡ true) (sym f) h
      keeps_may i (inr (inl (e, f, g))) h = subst (λ ns. has i ns ≡ true) (sym f) h
      keeps_may i (inr (inr (e, f))) h = subst (λ ns. has i ns ≡ true) (sym f) (any-front (λ m. eqb m i) w.may_count (n ∷ []) h)

      by_step : (i : ℕ) → Adds n (chooses t k q.0 X) (names_key k q.0) w v → has i v.counted ≡ true → Early i
      by_step i (inl ((e, f), g)) h = inl (subst (λ ns. has i ns ≡ true) e h)
      by_step i (inr (inr (e, f))) h = inl (subst (λ ns. has i ns ≡ true) e h)
      by_step i (inr (inl (e, f, g))) h = by_last (last_or i n w.counted (subst (λ ns. has i ns ≡ true) e h))
        where
          by_last : (has i w.counted ≡ true) ⊎ (n ≡ i) → Early i
          by_last (inl a) = inl a
          by_last (inr a) = inr (0, sym a ∙ sym (plus_zero n), g)

      by_rest : (i : ℕ) → (has i v.counted ≡ true) ⊎ ((j : ℕ) × (i ≡ suc n + j) × (chosen_in c t k qs (after c q.0 X) j ≡ true)) → Early i
      by_rest i (inl h) = by_step i adds h
      by_rest i (inr (j, e, g)) = inr (suc j, e ∙ plus_suc n j, g)

      Told : ℕ → Bool → Type 0
      Told i named = (has i u.counted || has i u.may_count || named) ≡ true

      here : Adds n (chooses t k q.0 X) (names_key k q.0) w v → chooses t k q.0 X ≡ true → Told n (names_key k q.0)
      here (inl ((e, f), g)) h = or_right (has n u.counted || has n u.may_count) (names_key k q.0) (g h)
      here (inr (inl (e, f, g))) h = or_left (has n u.counted || has n u.may_count) (names_key k q.0) (or_left (has n u.counted) (has n u.may_count) (x.counted n (subst (λ ns. has n ns ≡ true) (sym e) (last_there n w.counted))))
      here (inr (inr (e, f))) h = or_left (has n u.counted || has n u.may_count) (names_key k q.0) (or_right (has n u.counted) (has n u.may_count) (x.may_count n (subst (λ ns. has n ns ≡ true) (sym f) (last_there n w.may_count))))

      tells : (j : ℕ) → chosen_in c t k (q ∷ qs) X j ≡ true → Told (n + j) (named_at k (q ∷ qs) j)
      tells zero h = subst (λ i. Told i (names_key k q.0)) (sym (plus_zero n)) (here adds h)
      tells (suc j) h = subst (λ i. Told i (named_at k qs j)) (plus_suc n j) (x.all j h)

  pub counts_right : (c : Catalog) (t : ℕ) (k : Value A) (qs : List (Statement A × Reply A)) (X : Tables A) (w u : Way A) → w.counted ≡ [] → Extends c t k 0 qs X w u → CountsRight c t k qs X u
  counts_right c t k qs X w u e x = record {
    sure = λ j h. by_start j (x.within j h);
    all = λ j h. subst (λ i. (has i u.counted || has i u.may_count || named_at k qs j) ≡ true) (zero_plus j) (x.all j h);
  }
    where
      by_start : (j : ℕ) → (has j w.counted ≡ true) ⊎ ((i : ℕ) × (j ≡ 0 + i) × (chosen_in c t k qs X i ≡ true)) → chosen_in c t k qs X j ≡ true
      by_start j (inl h) = absurd (true≢false (sym h ∙ ap (has j) e))
      by_start j (inr (i, p, g)) = subst (λ m. chosen_in c t k qs X m ≡ true) (sym (p ∙ zero_plus i)) g
