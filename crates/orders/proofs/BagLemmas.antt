-- Answers that agree have the same rows.
use Rattle.std.proofs.Common.{◌≡◌, refl, sym, ap, subst, ◌∙◌, suc, ◌<◌, Bool, true, false, true≢false, cond, ◌⊎◌, inl, inr, List, [], ◌∷◌, ◌++◌, length, zip, eqb, arith}
use Rattle.std.proofs.lemmas.Bool.{eqb-true, eq-eqb, and_parts, and_from}
use Rattle.std.specs.List.{filter, list_all}
use Rattle.value.specs.declared.value.Value.{Value}
use Rattle.value.proofs.IsolationLemmas.{In}
use Rattle.value.proofs.Basics.{zip_same}
use Rattle.schema.specs.Plain.{same}
use Rattle.schema.proofs.PlainLemmas.{same_value}
use Rattle.statement.proofs.Suffices.{same_itself}
use Rattle.statement.proofs.CoverLemmas.{all_in}
use Rattle.orders.specs.Explains.{same_bag, same_values, times}

or_later : {P Q R : Type 0} → P ⊎ Q → (Q → R) → P ⊎ R
or_later (inl p) f = inl p
or_later (inr q) f = inr (f q)

module _ {B : Type 0} where
  -- what stands in a list cuts it in two
  pub record Cut (x : B) (ys : List B) : Type 0 where
    pub before : List B
    pub after : List B
    pub is : ys ≡ before ++ x ∷ after

  pub cut_at : (x : B) (ys : List B) → In x ys → Cut x ys
  cut_at x [] i = absurd i
  cut_at x (y ∷ ys) (inl e) = record { before = []; after = ys; is = ap (λ z. z ∷ ys) (sym e) }
  cut_at x (y ∷ ys) (inr i) = let c = cut_at x ys i in record { before = y ∷ c.before; after = c.after; is = ap (λ zs. y ∷ zs) c.is }

  pub length_cut : (x : B) (xs ys : List B) → length (xs ++ x ∷ ys) ≡ suc (length (xs ++ ys))
  length_cut x [] ys = refl
  length_cut x (y ∷ xs) ys = ap suc (length_cut x xs ys)

  pub in_cut : (z x : B) (xs ys : List B) → In z (xs ++ x ∷ ys) → (z ≡ x) ⊎ In z (xs ++ ys)
  in_cut z x [] ys i = i
  in_cut z x (y ∷ xs) ys (inl e) = inr (inl e)
  in_cut z x (y ∷ xs) ys (inr i) = go (in_cut z x xs ys i)
    where
      go : (z ≡ x) ⊎ In z (xs ++ ys) → (z ≡ x) ⊎ In z (y ∷ (xs ++ ys))
      go (inl e) = inl e
      go (inr j) = inr (inr j)

  count_cut : (p : B → Bool) (x : B) (xs ys : List B) → length (filter p (xs ++ x ∷ ys)) ≡ length (filter p (x ∷ (xs ++ ys)))
  count_cut p x [] ys = refl
  count_cut p x (y ∷ xs) ys = go (p y) (p x) (count_cut p x xs ys)
    where
      go : (b d : Bool) → length (filter p (xs ++ x ∷ ys)) ≡ length (cond d (x ∷ filter p (xs ++ ys)) (filter p (xs ++ ys)))
          → length (cond b (y ∷ filter p (xs ++ x ∷ ys)) (filter p (xs ++ x ∷ ys))) ≡ length (cond d (x ∷ cond b (y ∷ filter p (xs ++ ys)) (filter p (xs ++ ys))) (cond b (y ∷ filter p (xs ++ ys)) (filter p (xs ++ ys))))
      go true true e = ap suc e
      go true false e = ap suc e
      go false true e = e
      go false false e = e

module _ {A : Type 0} where
  same_values-true : (vs ws : List (Value A)) → same_values vs ws ≡ true → vs ≡ ws
  same_values-true vs ws e = let p = and_parts (eqb (length vs) (length ws)) (list_all (λ p. same p.0 p.1) (zip vs ws)) e in zip_same same same_value vs ws (eqb-true (length vs) (length ws) p.0) p.1

  same_each : (vs : List (Value A)) → list_all (λ p. same p.0 p.1) (zip vs vs) ≡ true
  same_each [] = refl
  same_each (v ∷ vs) = and_from _ _ (same_itself v) (same_each vs)

  same_values-self : (vs : List (Value A)) → same_values vs vs ≡ true
  same_values-self vs = and_from _ _ (eq-eqb (length vs) (length vs) refl) (same_each vs)

  in_times : (row : List (Value A)) (rows : List (List (Value A))) → In row rows → 0 < times row rows
  in_times row [] i = absurd i
  in_times row (r ∷ rows) i = go (same_values row r) refl i (in_times row rows)
    where
      go : (b : Bool) → same_values row r ≡ b → (row ≡ r) ⊎ In row rows → (In row rows → 0 < times row rows) → 0 < length (cond b (r ∷ filter (same_values row) rows) (filter (same_values row) rows))
      go true e j rest = omega arith
      go false e (inl q) rest = absurd (true≢false (sym (same_values-self row) ∙ ap (same_values row) q ∙ e))
      go false e (inr j) rest = rest j

  times_in : (row : List (Value A)) (rows : List (List (Value A))) → 0 < times row rows → In row rows
  times_in row [] h = absurd (omega arith)
  times_in row (r ∷ rows) h = go (same_values row r) refl h (times_in row rows)
    where
      go : (b : Bool) → same_values row r ≡ b → 0 < length (cond b (r ∷ filter (same_values row) rows) (filter (same_values row) rows)) → (0 < times row rows → In row rows) → (row ≡ r) ⊎ In row rows
      go true e g rest = inl (same_values-true row r e)
      go false e g rest = inr (rest g)

  -- as many rows, and each of the first as often among the second
  record Bag (vs ws : List (List (Value A))) : Type 0 where
    as_many : length vs ≡ length ws
    as_often : (row : List (Value A)) → In row vs → times row vs ≡ times row ws

  bag_from : (vs ws : List (List (Value A))) → same_bag vs ws ≡ true → Bag vs ws
  bag_from vs ws h =
      let p = and_parts (eqb (length vs) (length ws)) (list_all (λ row. eqb (times row vs) (times row ws)) vs) h in record {
        as_many = eqb-true (length vs) (length ws) p.0;
        as_often = λ row i. eqb-true (times row vs) (times row ws) (all_in (λ (r : List (Value A)). eqb (times r vs) (times r ws)) vs row p.1 i);
      }

  bag_there : (vs ws : List (List (Value A))) (row : List (Value A)) → Bag vs ws → In row vs → In row ws
  bag_there vs ws row b i = times_in row ws (let e = b.as_often row i in let h : 0 < times row vs = in_times row vs i in omega arith)

  fewer_times : (u v : List (Value A)) (xs ys : List (List (Value A))) → times u (v ∷ xs) ≡ times u (v ∷ ys) → times u xs ≡ times u ys
  fewer_times u v xs ys e = go (same_values u v) e
    where
      go : (b : Bool) → length (cond b (v ∷ filter (same_values u) xs) (filter (same_values u) xs)) ≡ length (cond b (v ∷ filter (same_values u) ys) (filter (same_values u) ys)) → times u xs ≡ times u ys
      go true e = let f : suc (times u xs) ≡ suc (times u ys) = e in omega arith
      go false e = e

  bag_back : (vs ws : List (List (Value A))) (row : List (Value A)) → Bag vs ws → In row ws → In row vs
  bag_back [] [] row b i = i
  bag_back [] (w ∷ ws) row b i = absurd (let e : 0 ≡ suc (length ws) = b.as_many in omega arith)
  bag_back (v ∷ vs) ws row b i =
      let c = cut_at v ws (bag_there (v ∷ vs) ws v b (inl refl)) in
      let rest : List (List (Value A)) = c.before ++ c.after in
      let smaller : Bag vs rest = record {
        as_many = (let e : suc (length vs) ≡ length ws = b.as_many in let l : length ws ≡ suc (length rest) = ap length c.is ∙ length_cut v c.before c.after in omega arith);
        as_often = λ u j. fewer_times u v vs rest (b.as_often u (inr j) ∙ ap (times u) c.is ∙ count_cut (same_values u) v c.before c.after);
      } in
      or_later (in_cut row v c.before c.after (subst (In row) c.is i)) (bag_back vs rest row smaller)

  -- Rows that agree: each of the one stands among the other, and they are as many.
  pub same_rows-there : (vs ws : List (List (Value A))) (row : List (Value A)) → same_bag vs ws ≡ true → In row vs → In row ws
  same_rows-there vs ws row h i = bag_there vs ws row (bag_from vs ws h) i

  pub same_rows-back : (vs ws : List (List (Value A))) (row : List (Value A)) → same_bag vs ws ≡ true → In row ws → In row vs
  same_rows-back vs ws row h i = bag_back vs ws row (bag_from vs ws h) i

  pub same_rows-count : (vs ws : List (List (Value A))) → same_bag vs ws ≡ true → length vs ≡ length ws
  same_rows-count vs ws h = (bag_from vs ws h).as_many
