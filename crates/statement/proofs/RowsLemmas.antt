-- The rows that a statement chooses are the same on tables that agree where it reads.
use Rattle.std.proofs.Common.{◌≡◌, refl, sym, ap, subst, ◌∙◌, ℕ, zero, suc, Bool, true, false, true≢false, T, cond, not, ◌&&◌, ◌||◌, ◌⊎◌, inl, inr, List, [], ◌∷◌, Option, Some, None, eqb}
use Rattle.std.proofs.lemmas.Bool.{eq-eqb, and_from, and_parts, or_left, or_right}
use Rattle.std.specs.List.{filter, list_any, list_all}
use Rattle.std.specs.declared.cmp.Ordering.{Ordering}
use Rattle.std.specs.declared.cmp.Ordering.TheVariants.{Less, Equal, Greater}
use Rattle.std.specs.Ordering.{is_eq, is_lt, is_le, is_gt, is_ge, ordering_reverse}
use Rattle.std.specs.FinMap.{find, is_sorted}
use Rattle.std.specs.FinMap.Entries.{same_entries, below_all}
use Rattle.value.specs.declared.value.Value.{Value}
use Rattle.value.specs.Order.{value_cmp, value_cmp-total}
use Rattle.value.proofs.IsolationLemmas.{In}
use Rattle.value.proofs.Basics.{le_from_lt, Less-from_lt}
use Rattle.schema.specs.declared.row.Row.{Row}
use Rattle.schema.specs.declared.tables.Tables.{Tables}
use Rattle.schema.specs.Plain.{same, is_null, rows_of}
use Rattle.schema.proofs.PlainLemmas.{same_value, IsOrdered}
use Rattle.statement.specs.declared.condition.Comparison.{Comparison}
use Rattle.statement.specs.declared.condition.Comparison.TheVariants as is
use Rattle.statement.specs.declared.condition.Condition.{Condition}
use Rattle.statement.specs.declared.condition.Condition.TheVariants.{Compare, Between, IsNull, IsNotNull}
use Rattle.statement.specs.declared.reading.End.{End}
use Rattle.statement.specs.declared.reading.End.TheVariants.{Open, Closed, Without}
use Rattle.statement.specs.declared.reading.Extent.{Extent}
use Rattle.statement.specs.declared.reading.Extent.TheVariants.{One, Range}
use Rattle.statement.specs.Conditions.{compares, is_so, holds, satisfies, chosen}
use Rattle.statement.specs.Footprint.{Interval, Nothing, Span, at_value, by_comparison, interval, later, sooner, meet_both, intersection, extent_of, extents, extents_of, in_table}
use Rattle.statement.specs.Cover.{has_key, is_from, is_to}
use Rattle.statement.specs.Agreement.{reads_key, Agree}

T_first : (a b : Bool) → T (a && b) → T a
T_first true b h = tt
T_first false b h = h

T_second : (a b : Bool) → T (a && b) → T b
T_second true b h = h
T_second false b h = absurd h

T_both : (a b : Bool) → T a → T b → T (a && b)
T_both true b g h = h
T_both false b g h = absurd g

less_not_same : (o : Ordering) → T (is_lt o) → is_eq o ≡ false
less_not_same Less h = refl
less_not_same Equal h = absurd h
less_not_same Greater h = refl

choose_either : {A : Type 0} (P : A → Bool) (b : Bool) (x y : A) → P x ≡ true → P y ≡ true → P (cond b x y) ≡ true
choose_either P true x y p q = p
choose_either P false x y p q = q

one_true : (b : Bool) → b ≡ true → (b || false) ≡ true
one_true true e = refl
one_true false e = e

le_cases : (o : Ordering) → is_le o ≡ true → (o ≡ Less) ⊎ (o ≡ Equal)
le_cases Less e = inl refl
le_cases Equal e = inr refl
le_cases Greater e = absurd (true≢false (sym e))

module _ {A : Type 0} where
  -- ---- a filter of a table, at a key

  find-below : (k : Value A) (rows : List (Row A)) → T (below_all value_cmp k rows) → find value_cmp k rows ≡ None
  find-below k [] h = refl
  find-below k (r ∷ rows) h = ap (λ b. cond b (Some r.1) (find value_cmp k rows)) (less_not_same (value_cmp k r.0) (T_first _ _ h)) ∙ find-below k rows (T_second (is_lt (value_cmp k r.0)) _ h)

  below-filter : (p : Row A → Bool) (k : Value A) (rows : List (Row A)) → T (below_all value_cmp k rows) → T (below_all value_cmp k (filter p rows))
  below-filter p k [] h = tt
  below-filter p k (r ∷ rows) h = go (p r) (below-filter p k rows (T_second (is_lt (value_cmp k r.0)) _ h))
    where
      go : (b : Bool) → T (below_all value_cmp k (filter p rows)) → T (below_all value_cmp k (cond b (r ∷ filter p rows) (filter p rows)))
      go true rest = T_both _ _ (T_first (is_lt (value_cmp k r.0)) _ h) rest
      go false rest = rest

  abbrev passed : (Row A → Bool) → Value A → Option (List (Value A)) → Option (List (Value A))
  passed p k None = None
  passed p k (Some fields) = cond (p (k, fields)) (Some fields) None

  find-filter : (p : Row A → Bool) (k : Value A) (rows : List (Row A)) → T (is_sorted value_cmp rows) → find value_cmp k (filter p rows) ≡ passed p k (find value_cmp k rows)
  find-filter p k [] h = refl
  find-filter p k (r ∷ rows) h = go (same k r.0) refl (p r) refl (find-filter p k rows (T_second (below_all value_cmp r.0 rows) _ h))
    where
      go : (e : Bool) → same k r.0 ≡ e → (b : Bool) → p r ≡ b → find value_cmp k (filter p rows) ≡ passed p k (find value_cmp k rows)
          → find value_cmp k (cond b (r ∷ filter p rows) (filter p rows)) ≡ passed p k (cond e (Some r.1) (find value_cmp k rows))
      go true s true q rest = ap (λ e. cond e (Some r.1) (find value_cmp k (filter p rows))) s ∙ sym (ap (λ b. cond b (Some r.1) None) (ap (λ v. p (v, r.1)) (same_value k r.0 s) ∙ q))
      go true s false q rest =
          rest ∙ ap (passed p k) (find-below k rows (subst (λ v. T (below_all value_cmp v rows)) (sym (same_value k r.0 s)) (T_first (below_all value_cmp r.0 rows) _ h)))
          ∙ sym (ap (λ b. cond b (Some r.1) None) (ap (λ v. p (v, r.1)) (same_value k r.0 s) ∙ q))
      go false s true q rest = ap (λ e. cond e (Some r.1) (find value_cmp k (filter p rows))) s ∙ rest
      go false s false q rest = rest

  sorted-filter : (p : Row A → Bool) (rows : List (Row A)) → T (is_sorted value_cmp rows) → T (is_sorted value_cmp (filter p rows))
  sorted-filter p [] h = tt
  sorted-filter p (r ∷ rows) h = go (p r) (sorted-filter p rows (T_second (below_all value_cmp r.0 rows) _ h))
    where
      go : (b : Bool) → T (is_sorted value_cmp (filter p rows)) → T (is_sorted value_cmp (cond b (r ∷ filter p rows) (filter p rows)))
      go true rest = T_both _ _ (below-filter p r.0 rows (T_first (below_all value_cmp r.0 rows) _ h)) rest
      go false rest = rest

  pub value_exact : (x y : Value A) → value_cmp x y ≡ Equal → x ≡ y
  value_exact x y e = same_value x y (ap is_eq e)

  -- Two tables that agree at each key that may pass have the same rows that pass.
  pub same_filter : (p : Row A → Bool) (read : Value A → Bool) → ((row : Row A) → p row ≡ true → read row.0 ≡ true) → (xs ys : List (Row A)) → T (is_sorted value_cmp xs) → T (is_sorted value_cmp ys)
      → ((k : Value A) → read k ≡ true → find value_cmp k xs ≡ find value_cmp k ys) → filter p xs ≡ filter p ys
  same_filter p read f xs ys sx sy agree = same_entries value_cmp value_cmp-total value_exact (filter p xs) (filter p ys) (sorted-filter p xs sx) (sorted-filter p ys sy) at
    where
      unread : (k : Value A) (o : Option (List (Value A))) → read k ≡ false → passed p k o ≡ None
      unread k None e = refl
      unread k (Some fields) e = go (p (k, fields)) refl
        where
          go : (b : Bool) → p (k, fields) ≡ b → cond b (Some fields) None ≡ None
          go true h = absurd (true≢false (sym (f (k, fields) h) ∙ e))
          go false h = refl

      at : (k : Value A) → find value_cmp k (filter p xs) ≡ find value_cmp k (filter p ys)
      at k = find-filter p k xs sx ∙ go (read k) refl ∙ sym (find-filter p k ys sy)
        where
          go : (b : Bool) → read k ≡ b → passed p k (find value_cmp k xs) ≡ passed p k (find value_cmp k ys)
          go true e = ap (passed p k) (agree k e)
          go false e = unread k (find value_cmp k xs) e ∙ sym (unread k (find value_cmp k ys) e)

  -- ---- what satisfies the conditions is in their extents

  abbrev pub in_interval : Value A → Option (Interval A) → Bool
  in_interval k None = true
  in_interval k (Some Nothing) = false
  in_interval k (Some (Span a b)) = is_from a k && is_to b k

  from_later : (k : Value A) (a b : End A) → is_from a k ≡ true → is_from b k ≡ true → is_from (later a b) k ≡ true
  from_later k Open b p q = q
  from_later k (Closed v) Open p q = p
  from_later k (Without v) Open p q = p
  from_later k (Closed v) (Closed w) p q = choose_either (λ e. is_from e k) (is_lt (value_cmp v w)) (Closed w) (Closed v) q p
  from_later k (Closed v) (Without w) p q = choose_either (λ e. is_from e k) (is_gt (value_cmp v w)) (Closed v) (Without w) p q
  from_later k (Without v) (Closed w) p q = choose_either (λ e. is_from e k) (is_lt (value_cmp v w)) (Closed w) (Without v) q p
  from_later k (Without v) (Without w) p q = choose_either (λ e. is_from e k) (is_lt (value_cmp v w)) (Without w) (Without v) q p

  to_sooner : (k : Value A) (a b : End A) → is_to a k ≡ true → is_to b k ≡ true → is_to (sooner a b) k ≡ true
  to_sooner k Open b p q = q
  to_sooner k (Closed v) Open p q = p
  to_sooner k (Without v) Open p q = p
  to_sooner k (Closed v) (Closed w) p q = choose_either (λ e. is_to e k) (is_gt (value_cmp v w)) (Closed w) (Closed v) q p
  to_sooner k (Closed v) (Without w) p q = choose_either (λ e. is_to e k) (is_lt (value_cmp v w)) (Closed v) (Without w) p q
  to_sooner k (Without v) (Closed w) p q = choose_either (λ e. is_to e k) (is_gt (value_cmp v w)) (Closed w) (Without v) q p
  to_sooner k (Without v) (Without w) p q = choose_either (λ e. is_to e k) (is_gt (value_cmp v w)) (Without w) (Without v) q p

  in_both : (k : Value A) (i j : Option (Interval A)) → in_interval k i ≡ true → in_interval k j ≡ true → in_interval k (meet_both i j) ≡ true
  in_both k None j p q = q
  in_both k (Some i) None p q = p
  in_both k (Some Nothing) (Some j) p q = p
  in_both k (Some (Span a b)) (Some Nothing) p q = q
  in_both k (Some (Span a b)) (Some (Span c d)) p q =
      let f = and_parts (is_from a k) (is_to b k) p in
      let g = and_parts (is_from c k) (is_to d k) q in
      and_from _ _ (from_later k a c f.0 g.0) (to_sooner k b d f.1 g.1)

  -- ---- one condition on the key

  not_null : (v w : Value A) (b : Bool) → (not (is_null v) && not (is_null w) && b) ≡ true → (is_null w ≡ false) × (b ≡ true)
  not_null v w b e =
      let p = and_parts (not (is_null v) && not (is_null w)) b e in
      (flip (is_null w) (and_parts (not (is_null v)) (not (is_null w)) p.0).1, p.1)
    where
      flip : (c : Bool) → not c ≡ true → c ≡ false
      flip true h = absurd (true≢false (sym h))
      flip false h = refl

  at_value-in : (k v : Value A) (i : Interval A) → is_null v ≡ false → in_interval k (Some i) ≡ true → in_interval k (Some (at_value v i)) ≡ true
  at_value-in k v i e p = ap (λ b. in_interval k (Some (cond b Nothing i))) e ∙ p

  -- a comparison seen from its other side
  turn : (v k : Value A) → value_cmp v k ≡ ordering_reverse (value_cmp k v)
  turn v k = value_cmp-total.antisymm v k

  comparison_in : (k : Value A) (how : Comparison) (v : Value A) → is_so k how v ≡ true → in_interval k (by_comparison how v) ≡ true
  comparison_in k how v e = go how (not_null k v (compares how (value_cmp k v)) e)
    where
      le_of : (o : Ordering) → is_eq o ≡ true → (is_le (ordering_reverse o) ≡ true) × (is_ge (ordering_reverse o) ≡ true)
      le_of Less h = absurd (true≢false (sym h))
      le_of Equal h = (refl, refl)
      le_of Greater h = absurd (true≢false (sym h))

      gt_of : (o : Ordering) → is_lt o ≡ true → is_gt (ordering_reverse o) ≡ true
      gt_of Less h = refl
      gt_of Equal h = absurd (true≢false (sym h))
      gt_of Greater h = absurd (true≢false (sym h))

      ge_of : (o : Ordering) → is_le o ≡ true → is_ge (ordering_reverse o) ≡ true
      ge_of Less h = refl
      ge_of Equal h = refl
      ge_of Greater h = absurd (true≢false (sym h))

      lt_of : (o : Ordering) → is_gt o ≡ true → is_lt (ordering_reverse o) ≡ true
      lt_of Less h = absurd (true≢false (sym h))
      lt_of Equal h = absurd (true≢false (sym h))
      lt_of Greater h = refl

      less_of : (o : Ordering) → is_ge o ≡ true → is_le (ordering_reverse o) ≡ true
      less_of Less h = absurd (true≢false (sym h))
      less_of Equal h = refl
      less_of Greater h = refl

      go : (c : Comparison) → (is_null v ≡ false) × (compares c (value_cmp k v) ≡ true) → in_interval k (by_comparison c v) ≡ true
      go is.Equal n = at_value-in k v (Span (Closed v) (Closed v)) n.0 (and_from _ _ (ap is_le (turn v k) ∙ (le_of (value_cmp k v) n.1).0) (ap is_ge (turn v k) ∙ (le_of (value_cmp k v) n.1).1))
      go is.NotEqual n = ap (λ b. in_interval k (cond b (Some Nothing) None)) n.0
      go is.Less n = at_value-in k v (Span Open (Without v)) n.0 (ap is_gt (turn v k) ∙ gt_of (value_cmp k v) n.1)
      go is.LessOrEqual n = at_value-in k v (Span Open (Closed v)) n.0 (ap is_ge (turn v k) ∙ ge_of (value_cmp k v) n.1)
      go is.Greater n = at_value-in k v (Span (Without v) Open) n.0 (and_from _ _ (ap is_lt (turn v k) ∙ lt_of (value_cmp k v) n.1) refl)
      go is.GreaterOrEqual n = at_value-in k v (Span (Closed v) Open) n.0 (and_from _ _ (ap is_le (turn v k) ∙ less_of (value_cmp k v) n.1) refl)

  interval_in : (row : Row A) (c : Condition A) → is_null row.0 ≡ false → holds row c ≡ true → in_interval row.0 (interval c) ≡ true
  interval_in row (Compare zero how v) n e = comparison_in row.0 how v e
  interval_in row (Compare (suc m) how v) n e = refl
  interval_in row (Between zero low high) n e = go (and_parts (is_so row.0 is.GreaterOrEqual low) (is_so row.0 is.LessOrEqual high) e)
    where
      go : (is_so row.0 is.GreaterOrEqual low ≡ true) × (is_so row.0 is.LessOrEqual high ≡ true) → in_interval row.0 (Some (at_value low (at_value high (Span (Closed low) (Closed high))))) ≡ true
      go p =
          let f = not_null row.0 low (is_ge (value_cmp row.0 low)) p.0 in
          let g = not_null row.0 high (is_le (value_cmp row.0 high)) p.1 in
          at_value-in row.0 low _ f.0 (at_value-in row.0 high _ g.0 (and_from _ _ (lower (comparison_in row.0 is.GreaterOrEqual low p.0) f.0) (upper (comparison_in row.0 is.LessOrEqual high p.1) g.0)))
        where
          lower : in_interval row.0 (by_comparison is.GreaterOrEqual low) ≡ true → is_null low ≡ false → is_le (value_cmp low row.0) ≡ true
          lower h z = (and_parts (is_le (value_cmp low row.0)) true (ap (λ b. in_interval row.0 (Some (cond b Nothing (Span (Closed low) Open)))) (sym z) ∙ h)).0

          upper : in_interval row.0 (by_comparison is.LessOrEqual high) ≡ true → is_null high ≡ false → is_ge (value_cmp high row.0) ≡ true
          upper h z = ap (λ b. in_interval row.0 (Some (cond b Nothing (Span Open (Closed high))))) (sym z) ∙ h
  interval_in row (Between (suc m) low high) n e = refl
  interval_in row (IsNull zero) n e = absurd (true≢false (sym e ∙ n))
  interval_in row (IsNull (suc m)) n e = refl
  interval_in row (IsNotNull m) n e = refl

  pub intersection_in : (row : Row A) (cs : List (Condition A)) → is_null row.0 ≡ false → satisfies cs row ≡ true → in_interval row.0 (intersection cs) ≡ true
  intersection_in row [] n e = refl
  intersection_in row (c ∷ cs) n e =
      let p = and_parts (holds row c) (list_all (holds row) cs) e in
      in_both row.0 (interval c) (intersection cs) (interval_in row c n p.0) (intersection_in row cs n p.1)

  -- ---- what an interval leaves

  ge_turned : (v k : Value A) → is_ge (value_cmp v k) ≡ true → is_le (value_cmp k v) ≡ true
  ge_turned v k e = go (value_cmp v k) e (value_cmp-total.antisymm k v)
    where
      go : (o : Ordering) → is_ge o ≡ true → value_cmp k v ≡ ordering_reverse o → is_le (value_cmp k v) ≡ true
      go Less e q = absurd (true≢false (sym e))
      go Equal e q = ap is_le q
      go Greater e q = ap is_le q

  gt_turned : (v k : Value A) → is_gt (value_cmp v k) ≡ true → is_lt (value_cmp k v) ≡ true
  gt_turned v k e = go (value_cmp v k) e (value_cmp-total.antisymm k v)
    where
      go : (o : Ordering) → is_gt o ≡ true → value_cmp k v ≡ ordering_reverse o → is_lt (value_cmp k v) ≡ true
      go Less e q = absurd (true≢false (sym e))
      go Equal e q = absurd (true≢false (sym e))
      go Greater e q = ap is_lt q

  -- v before k, or at it, and k before w
  le_lt : (v k w : Value A) → is_le (value_cmp v k) ≡ true → is_lt (value_cmp k w) ≡ true → value_cmp v w ≡ Less
  le_lt v k w p q = go (le_cases (value_cmp v k) p)
    where
      go : (value_cmp v k ≡ Less) ⊎ (value_cmp v k ≡ Equal) → value_cmp v w ≡ Less
      go (inl e) = value_cmp-total.trans v k w e (Less-from_lt (value_cmp k w) q)
      go (inr e) = value_cmp-total.congr v k w e ∙ Less-from_lt (value_cmp k w) q

  lt_le : (v k w : Value A) → is_lt (value_cmp v k) ≡ true → is_le (value_cmp k w) ≡ true → value_cmp v w ≡ Less
  lt_le v k w p q = go (le_cases (value_cmp k w) q)
    where
      go : (value_cmp k w ≡ Less) ⊎ (value_cmp k w ≡ Equal) → value_cmp v w ≡ Less
      go (inl e) = value_cmp-total.trans v k w (Less-from_lt (value_cmp v k) p) e
      go (inr e) = ap (value_cmp v) (sym (value_exact k w e)) ∙ Less-from_lt (value_cmp v k) p

  extent_in : (k : Value A) (a b : End A) → is_from a k ≡ true → is_to b k ≡ true → list_any (has_key k) (extent_of a b) ≡ true
  extent_in k Open b p q = one_true (is_to b k) q
  extent_in k (Closed v) Open p q = one_true (is_le (value_cmp v k) && true) (and_from _ _ p refl)
  extent_in k (Without v) Open p q = one_true (is_lt (value_cmp v k) && true) (and_from _ _ p refl)
  extent_in k (Closed v) (Without w) p q =
      ap (λ o. list_any (has_key k) (cond (is_lt o) (Range (Closed v) (Without w) ∷ []) [])) (le_lt v k w p (gt_turned w k q)) ∙ one_true _ (and_from _ _ p q)
  extent_in k (Without v) (Closed w) p q =
      ap (λ o. list_any (has_key k) (cond (is_lt o) (Range (Without v) (Closed w) ∷ []) [])) (lt_le v k w p (ge_turned w k q)) ∙ one_true _ (and_from _ _ p q)
  extent_in k (Without v) (Without w) p q =
      ap (λ o. list_any (has_key k) (cond (is_lt o) (Range (Without v) (Without w) ∷ []) [])) (lt_le v k w p (le_from_lt (value_cmp k w) (gt_turned w k q))) ∙ one_true _ (and_from _ _ p q)
  extent_in k (Closed v) (Closed w) p q = go (le_cases (value_cmp v k) p) (le_cases (value_cmp k w) (ge_turned w k q))
    where
      Goal : Ordering → Type 0
      Goal o = list_any (has_key k) (cond (is_gt o) [] (cond (is_eq o) (One v ∷ []) (Range (Closed v) (Closed w) ∷ []))) ≡ true

      range : value_cmp v w ≡ Less → list_any (has_key k) (extent_of (Closed v) (Closed w)) ≡ true
      range e = ap (λ o. list_any (has_key k) (cond (is_gt o) [] (cond (is_eq o) (One v ∷ []) (Range (Closed v) (Closed w) ∷ [])))) e ∙ one_true _ (and_from _ _ p q)

      go : (value_cmp v k ≡ Less) ⊎ (value_cmp v k ≡ Equal) → (value_cmp k w ≡ Less) ⊎ (value_cmp k w ≡ Equal) → list_any (has_key k) (extent_of (Closed v) (Closed w)) ≡ true
      go (inl e) f = range (lt_le v k w (ap is_lt e) (ge_turned w k q))
      go (inr e) (inl f) = range (le_lt v k w p (ap is_lt f))
      go (inr e) (inr f) =
          ap (λ o. list_any (has_key k) (cond (is_gt o) [] (cond (is_eq o) (One v ∷ []) (Range (Closed v) (Closed w) ∷ [])))) (value_cmp-total.congr v k w e ∙ f)
          ∙ one_true (same v k) (ap is_eq e)

  extents_in_all : (k : Value A) (i : Option (Interval A)) → in_interval k i ≡ true → list_any (has_key k) (extents i) ≡ true
  extents_in_all k None e = refl
  extents_in_all k (Some Nothing) e = absurd (true≢false (sym e))
  extents_in_all k (Some (Span a b)) e = let p = and_parts (is_from a k) (is_to b k) e in extent_in k a b p.0 p.1

  -- what extents of a table have, the readings of them have there
  pub there : (p : Extent A → Bool) (t : ℕ) (es : List (Extent A)) → list_any p es ≡ true → list_any (λ r. eqb r.table t && p r.extent) (in_table t es) ≡ true
  there p t [] e = e
  there p t (x ∷ es) e = go (p x) (there p t es) e
    where
      go : (b : Bool) → (list_any p es ≡ true → list_any (λ r. eqb r.table t && p r.extent) (in_table t es) ≡ true) → (b || list_any p es) ≡ true → ((eqb t t && b) || list_any (λ r. eqb r.table t && p r.extent) (in_table t es)) ≡ true
      go true rest g = or_left (eqb t t && true) _ (and_from _ _ (eq-eqb t t refl) refl)
      go false rest g = or_right (eqb t t && false) _ (rest g)

  pub read_there : (t : ℕ) (k : Value A) (es : List (Extent A)) → list_any (has_key k) es ≡ true → reads_key (in_table t es) t k ≡ true
  read_there t k es e = there (has_key k) t es e

  -- ---- rows by their keys

  -- a row that is found by its key is among the rows
  pub found_in : (rows : List (Row A)) (k : Value A) (fields : List (Value A)) → find value_cmp k rows ≡ Some fields → In (k, fields) rows
  found_in [] k fields e = cc
  found_in (r ∷ rows) k fields e = go (same k r.0) refl (found_in rows k fields) e
    where
      go : (b : Bool) → same k r.0 ≡ b → (find value_cmp k rows ≡ Some fields → In (k, fields) rows) → cond b (Some r.1) (find value_cmp k rows) ≡ Some fields → ((k, fields) ≡ r) ⊎ In (k, fields) rows
      go true m rest f = let p : r.1 ≡ fields = cc in inl (ap (λ x. (x, fields)) (same_value k r.0 m) ∙ ap (λ y. (r.0, y)) (sym p))
      go false m rest f = inr (rest f)

  -- ---- the chosen rows

  pub record HasKeys (X : Tables A) : Type 0 where
    pub each : (t : ℕ) → list_all (λ row. not (is_null row.0)) (rows_of X t) ≡ true

  -- the key of a row that satisfies the conditions is in their extents
  pub satisfying_read : (row : Row A) (cs : List (Condition A)) → not (is_null row.0) ≡ true → satisfies cs row ≡ true → list_any (has_key row.0) (extents_of cs) ≡ true
  satisfying_read row cs n e = extents_in_all row.0 (intersection cs) (intersection_in row cs (flip (is_null row.0) n) e)
    where
      flip : (c : Bool) → not c ≡ true → c ≡ false
      flip true h = absurd (true≢false (sym h))
      flip false h = refl

  -- the chosen rows are read
  pub chosen_in_extents : (t : ℕ) (cs : List (Condition A)) (X : Tables A) → HasKeys X → list_all (λ row. list_any (has_key row.0) (extents_of cs)) (chosen X t cs) ≡ true
  chosen_in_extents t cs X h = go (rows_of X t) (h.each t)
    where
      go : (rows : List (Row A)) → list_all (λ row. not (is_null row.0)) rows ≡ true → list_all (λ row. list_any (has_key row.0) (extents_of cs)) (filter (satisfies cs) rows) ≡ true
      go [] e = refl
      go (r ∷ rows) e = by_test (satisfies cs r) refl (and_parts (not (is_null r.0)) (list_all (λ row. not (is_null row.0)) rows) e) (go rows)
        where
          by_test : (b : Bool) → satisfies cs r ≡ b → (not (is_null r.0) ≡ true) × (list_all (λ row. not (is_null row.0)) rows ≡ true) → (list_all (λ row. not (is_null row.0)) rows ≡ true → list_all (λ row. list_any (has_key row.0) (extents_of cs)) (filter (satisfies cs) rows) ≡ true)
              → list_all (λ row. list_any (has_key row.0) (extents_of cs)) (cond b (r ∷ filter (satisfies cs) rows) (filter (satisfies cs) rows)) ≡ true
          by_test true q p rest = and_from _ _ (satisfying_read r cs p.0 q) (rest p.1)
          by_test false q p rest = rest p.1

  -- The rows that a statement chooses are the same on tables that agree where it reads.
  pub same_chosen : (t : ℕ) (cs : List (Condition A)) (X Y : Tables A) → IsOrdered X → IsOrdered Y → HasKeys X → HasKeys Y → Agree (in_table t (extents_of cs)) X Y → chosen X t cs ≡ chosen Y t cs
  same_chosen t cs X Y ox oy kx ky agree =
      keep (rows_of X t) (kx.each t) ∙ same_filter proper (λ k. list_any (has_key k) (extents (intersection cs))) reads (rows_of X t) (rows_of Y t) (ox.each t) (oy.each t) at ∙ sym (keep (rows_of Y t) (ky.each t))
    where
      proper : Row A → Bool
      proper row = not (is_null row.0) && satisfies cs row

      reads : (row : Row A) → proper row ≡ true → list_any (has_key row.0) (extents (intersection cs)) ≡ true
      reads row e =
          let p = and_parts (not (is_null row.0)) (satisfies cs row) e in
          extents_in_all row.0 (intersection cs) (intersection_in row cs (flip (is_null row.0) p.0) p.1)
        where
          flip : (c : Bool) → not c ≡ true → c ≡ false
          flip true h = absurd (true≢false (sym h))
          flip false h = refl

      keep : (rows : List (Row A)) → list_all (λ row. not (is_null row.0)) rows ≡ true → filter (satisfies cs) rows ≡ filter proper rows
      keep [] e = refl
      keep (r ∷ rows) e =
          let p = and_parts (not (is_null r.0)) (list_all (λ row. not (is_null row.0)) rows) e in
          ap (λ zs. cond (satisfies cs r) (r ∷ zs) zs) (keep rows p.1) ∙ ap (λ b. cond (b && satisfies cs r) (r ∷ filter proper rows) (filter proper rows)) (sym p.0)

      at : (k : Value A) → list_any (has_key k) (extents (intersection cs)) ≡ true → find value_cmp k (rows_of X t) ≡ find value_cmp k (rows_of Y t)
      at k e = agree.at t k (read_there t k (extents (intersection cs)) e)
