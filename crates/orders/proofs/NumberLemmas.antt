-- As many rows are chosen as there are keys whose row is.
use Rattle.std.proofs.Common.{◌≡◌, refl, sym, ap, subst, ◌∙◌, ℕ, zero, suc, ◌≤◌, pos, Bool, true, false, true≢false, cond, not, ◌&&◌, ◌⊎◌, inl, inr, List, [], ◌∷◌, ◌++◌, map, length, Option, Some, None, eqb, arith, option_map, option_and_then, slice_get}
use Rattle.std.proofs.lemmas.Bool.{eq-eqb, eqb-true, and_parts, and_from}
use Rattle.std.specs.List.{filter}
use Rattle.std.specs.FinMap.{is_sorted}
use Rattle.std.specs.FinMap.Entries.{below_all}
use Rattle.std.specs.Ordering.{is_eq, is_lt}
use Rattle.std.specs.declared.cmp.Ordering.{Ordering}
use Rattle.std.specs.declared.cmp.Ordering.TheVariants.{Less, Equal, Greater}
use Rattle.value.specs.declared.value.Value.{Value}
use Rattle.value.specs.declared.value.Value.TheVariants.{Int}
use Rattle.value.specs.Order.{value_cmp}
use Rattle.value.proofs.IsolationLemmas.{In}
use Rattle.value.proofs.Basics.{any-In, In-any, In-map, In-mapped}
use Rattle.schema.specs.Definition.{Catalog}
use Rattle.schema.specs.declared.row.Row.{Row}
use Rattle.schema.specs.declared.tables.Tables.{Tables}
use Rattle.schema.specs.Plain.{same, cells, field, rows_of, row_at, is_sound}
use Rattle.schema.proofs.PlainLemmas.{same_value}
use Rattle.statement.specs.declared.condition.Condition.{Condition}
use Rattle.statement.specs.declared.statement.Projection.{Projection}
use Rattle.statement.specs.declared.statement.Projection.TheVariants as shown
use Rattle.statement.specs.declared.statement.Statement.{Statement}
use Rattle.statement.specs.declared.statement.Statement.TheVariants.{Select, Insert, Update, Delete}
use Rattle.statement.specs.declared.reply.Reply.{Reply}
use Rattle.statement.specs.declared.reply.Reply.TheVariants.{Updated, Deleted, Rows}
use Rattle.statement.specs.Conditions.{satisfies, chosen}
use Rattle.statement.specs.Evaluation.{outcome, after}
use Rattle.statement.specs.Fits.{fits}
use Rattle.statement.proofs.LawsLemmas.{sound_after}
use Rattle.statement.proofs.Suffices.{same_itself}
use Rattle.orders.specs.Explains.{agrees, alone, are_fit, same_bag}
use Rattle.std.specs.Option.{option_map_or}
use Rattle.orders.specs.declared.transaction.Answered.{Answered}
use Rattle.orders.specs.Counts.{is_chosen, chooses, chosen_in, has_key, are_apart, of_table, number_in, number_told, number_at, names_key, named_at, table_of, table_at}
use Rattle.orders.proofs.BagLemmas.{cut_at, length_cut, in_cut, same_rows-there, same_rows-count}
use Rattle.orders.proofs.ChoiceLemmas.{not_is}
use Rattle.orders.proofs.LeftLemmas.{in_filter, table_sorted, chosen_there, chosen_is-row}
use Rattle.orders.proofs.StepLemmas.{reply_of, update_done, delete_done}

of_own : (t u n m : ℕ) → of_table t u n ≡ Some m → (u ≡ t) × (n ≡ m)
of_own t u n m e = go (eqb u t) refl e
  where
    go : (b : Bool) → eqb u t ≡ b → cond b (Some n) None ≡ Some m → (u ≡ t) × (n ≡ m)
    go true q f = (eqb-true u t q, cc)
    go false q f = cc

module _ {A : Type 0} where
  apart_from : (k : Value A) (ks : List (Value A)) → has_key k ks ≡ false → In k ks → ⊥
  apart_from k ks e i = true≢false (sym (In-any (same k) ks k i (same_itself k)) ∙ e)

  -- keys that are apart, all of which stand among others, are no more than those
  no_more : (ks others : List (Value A)) → are_apart ks ≡ true → ((k : Value A) → In k ks → In k others) → length ks ≤ length others
  no_more [] others a f = omega arith
  no_more (k ∷ ks) others a f =
      let p = and_parts (not (has_key k ks)) (are_apart ks) a in
      let c = cut_at k others (f k (inl refl)) in
      let rest : List (Value A) = c.before ++ c.after in
      let fewer : length ks ≤ length rest = no_more ks rest p.1 (λ x i. other x i (not_is (has_key k ks) p.0) rest (in_cut x k c.before c.after (subst (In x) c.is (f x (inr i))))) in
      let l : length others ≡ suc (length rest) = ap length c.is ∙ length_cut k c.before c.after in
      omega arith
    where
      other : (x : Value A) → In x ks → has_key k ks ≡ false → (rest : List (Value A)) → (x ≡ k) ⊎ In x rest → In x rest
      other x i e rest (inl q) = absurd (apart_from k ks e (subst (λ y. In y ks) q i))
      other x i e rest (inr j) = j

  -- ---- the keys of chosen rows

  length-keys : (rows : List (Row A)) → length (map (λ (row : Row A). row.0) rows) ≡ length rows
  length-keys [] = refl
  length-keys (r ∷ rows) = ap suc (length-keys rows)

  below_apart : (k : Value A) (rows : List (Row A)) (r : Row A) → below_all value_cmp k rows ≡ true → In r rows → same k r.0 ≡ false
  below_apart k [] r h i = absurd i
  below_apart k (x ∷ rows) r h (inl e) = subst (λ (y : Row A). same k y.0 ≡ false) (sym e) (less (value_cmp k x.0) (and_parts (is_lt (value_cmp k x.0)) (below_all value_cmp k rows) h).0)
    where
      less : (o : Ordering) → is_lt o ≡ true → is_eq o ≡ false
      less Less q = refl
      less Equal q = absurd (true≢false (sym q))
      less Greater q = absurd (true≢false (sym q))
  below_apart k (x ∷ rows) r h (inr i) = below_apart k rows r (and_parts (is_lt (value_cmp k x.0)) (below_all value_cmp k rows) h).1 i

  keys_apart : (p : Row A → Bool) (rows : List (Row A)) → is_sorted value_cmp rows ≡ true → are_apart (map (λ (row : Row A). row.0) (filter p rows)) ≡ true
  keys_apart p [] h = refl
  keys_apart p (r ∷ rows) h =
      let q = and_parts (below_all value_cmp r.0 rows) (is_sorted value_cmp rows) h in
      go (p r) q.0 (keys_apart p rows q.1)
    where
      rest : List (Value A)
      rest = map (λ (row : Row A). row.0) (filter p rows)

      alone : (b : Bool) → has_key r.0 rest ≡ b → below_all value_cmp r.0 rows ≡ true → not b ≡ true
      alone false e below = refl
      alone true e below =
          let w = any-In (same r.0) rest e in
          let x = In-map (λ (row : Row A). row.0) w.0 (filter p rows) w.1 in
          absurd (true≢false (sym (sym (ap (same r.0) x.2) ∙ w.2) ∙ below_apart r.0 rows x.0 below (in_filter p rows x.0 x.1).0))

      go : (b : Bool) → below_all value_cmp r.0 rows ≡ true → are_apart rest ≡ true → are_apart (map (λ (row : Row A). row.0) (cond b (r ∷ filter p rows) (filter p rows))) ≡ true
      go true below a = and_from _ _ (alone (has_key r.0 rest) refl below) a
      go false below a = a

  -- ---- how many rows are chosen

  key_there : (k : Value A) (rows : List (Row A)) (gs : List (Value A)) → In (k, gs) rows → In k (map (λ (row : Row A). row.0) rows)
  key_there k rows gs i = In-mapped (λ (row : Row A). row.0) (k, gs) rows i

  has_in : (k : Value A) (ks : List (Value A)) → has_key k ks ≡ true → In k ks
  has_in k ks h = let w = any-In (same k) ks h in subst (λ x. In x ks) (sym (same_value k w.0 w.2)) w.1

  pub at_least : (c : Catalog) (X : Tables A) (t : ℕ) (cs : List (Condition A)) (ks : List (Value A)) → are_apart ks ≡ true → ((k : Value A) → has_key k ks ≡ true → is_chosen k cs (row_at X t k) ≡ true) → length ks ≤ length (chosen X t cs)
  at_least c X t cs ks a f =
      let n : length ks ≤ length (map (λ (row : Row A). row.0) (chosen X t cs)) = no_more ks (map (λ (row : Row A). row.0) (chosen X t cs)) a (λ k i. there k (row_at X t k) refl (f k (In-any (same k) ks k i (same_itself k)))) in
      let l : length (map (λ (row : Row A). row.0) (chosen X t cs)) ≡ length (chosen X t cs) = length-keys (chosen X t cs) in
      omega arith
    where
      there : (k : Value A) (o : Option (List (Value A))) → row_at X t k ≡ o → is_chosen k cs o ≡ true → In k (map (λ (row : Row A). row.0) (chosen X t cs))
      there k None e s = absurd (true≢false (sym s))
      there k (Some gs) e s = key_there k (chosen X t cs) gs (chosen_there X t k cs gs e s)

  pub at_most : (c : Catalog) (X : Tables A) (t : ℕ) (cs : List (Condition A)) (ks : List (Value A)) → is_sound c X ≡ true → ((k : Value A) → is_chosen k cs (row_at X t k) ≡ true → has_key k ks ≡ true) → length (chosen X t cs) ≤ length ks
  at_most c X t cs ks s f =
      let n : length (map (λ (row : Row A). row.0) (chosen X t cs)) ≤ length ks = no_more (map (λ (row : Row A). row.0) (chosen X t cs)) ks (keys_apart (satisfies cs) (rows_of X t) (table_sorted c X t s)) (λ k i. among k (In-map (λ (row : Row A). row.0) k (chosen X t cs) i)) in
      let l : length (map (λ (row : Row A). row.0) (chosen X t cs)) ≡ length (chosen X t cs) = length-keys (chosen X t cs) in
      omega arith
    where
      among : (k : Value A) → (row : Row A) × In row (chosen X t cs) × (k ≡ row.0) → In k ks
      among k (row, i, e) =
          let w = chosen_is-row c X t k cs row s i (sym e) in
          has_in k ks (f k (ap (is_chosen k cs) w.0 ∙ w.1))

  -- ---- what the answer tells

  pub first_answered : (c : Catalog) (q : Statement A × Reply A) (qs : List (Statement A × Reply A)) (X Y : Tables A) → alone c (q ∷ qs) X ≡ Some Y → (agrees (outcome c q.0 X).reply q.1 ≡ true) × (alone c qs (after c q.0 X) ≡ Some Y)
  first_answered c q qs X Y e = go (agrees (outcome c q.0 X).reply q.1) e
    where
      go : (b : Bool) → cond b (alone c qs (after c q.0 X)) None ≡ Some Y → (b ≡ true) × (alone c qs (after c q.0 X) ≡ Some Y)
      go true f = (refl, f)
      go false f = cc

  -- the conditions by which a statement chooses rows of table t, of which there are so many
  abbrev pub ChoosesSo : ℕ → Statement A → Tables A → ℕ → Type 0
  ChoosesSo t q X n = (cs : List (Condition A)) × ((k : Value A) → chooses t k q X ≡ is_chosen k cs (row_at X t k)) × (length (chosen X t cs) ≡ n)

  map_length : (show : Row A → List (Value A)) (rows : List (Row A)) → length (map show rows) ≡ length rows
  map_length show [] = refl
  map_length show (r ∷ rows) = ap suc (map_length show rows)

  select_told : (t u : ℕ) (p : Projection A) (cs : List (Condition A)) (X : Tables A) (n m : ℕ) → of_table t u m ≡ Some n → length (chosen X u cs) ≡ m → ChoosesSo t (Select u p cs) X n
  select_told t u p cs X n m e l =
      let w = of_own t u m n e in
      (cs, (λ k. ap (λ b. b && is_chosen k cs (row_at X t k)) (eq-eqb u t w.0)), sym (ap (λ i. length (chosen X i cs)) w.0) ∙ l ∙ w.1)

  number_is : (ws : List (List (Value A))) (n : ℕ) → number_in ws ≡ Some n → ws ≡ (Int (pos n) ∷ []) ∷ []
  number_is ((Int (pos m) ∷ []) ∷ []) n e = let p : m ≡ n = cc in ap (λ i. (Int (pos i) ∷ []) ∷ []) p
  number_is _ n e = cc

  one_number : (m n : ℕ) → (let a : List (Value A) = Int (pos m) ∷ [] in let b : List (Value A) = Int (pos n) ∷ [] in a ≡ b) → m ≡ n
  one_number m n e = cc

  which : {P : Type 0} (a b : List (Value A)) → (a ≡ b) ⊎ ⊥ → (a ≡ b → P) → P
  which a b (inl q) f = f q
  which a b (inr q) f = absurd q

  number_agrees : (m n : ℕ) (ws : List (List (Value A))) → number_in ws ≡ Some n → same_bag ((Int (pos m) ∷ []) ∷ []) ws ≡ true → m ≡ n
  number_agrees m n ws e bag =
      let row : List (Value A) = Int (pos m) ∷ [] in
      let told : List (Value A) = Int (pos n) ∷ [] in
      which row told (subst (In row) (number_is ws n e) (same_rows-there (row ∷ []) ws row bag (inl refl))) (one_number m n)

  count_told : (t u n m : ℕ) (ws : List (List (Value A))) → cond (eqb u t) (number_in ws) None ≡ Some n → same_bag ((Int (pos m) ∷ []) ∷ []) ws ≡ true → of_table t u m ≡ Some n
  count_told t u n m ws e bag = go (eqb u t) e
    where
      go : (b : Bool) → cond b (number_in ws) None ≡ Some n → cond b (Some m) None ≡ Some n
      go true f = ap Some (number_agrees m n ws f bag)
      go false f = cc

  rows_told : (c : Catalog) (t : ℕ) (q : Statement A) (r : Reply A) (X : Tables A) (n : ℕ) → agrees (outcome c q X).reply r ≡ true → number_told t q r ≡ Some n → ChoosesSo t q X n
  rows_told c t (Insert u values) r X n g e = cc
  rows_told c t (Select u shown.All cs) (Rows ws) X n g e = select_told t u shown.All cs X n (length ws) e (sym (map_length cells (chosen X u cs)) ∙ same_rows-count (map cells (chosen X u cs)) ws g)
  rows_told c t (Select u (shown.Columns ns) cs) (Rows ws) X n g e =
      select_told t u (shown.Columns ns) cs X n (length ws) e (sym (map_length (λ row. map (field row) ns) (chosen X u cs)) ∙ same_rows-count (map (λ row. map (field row) ns) (chosen X u cs)) ws g)
  rows_told c t (Select u shown.Count cs) (Rows ws) X n g e = select_told t u shown.Count cs X n (length (chosen X u cs)) (count_told t u n (length (chosen X u cs)) ws e g) refl
  rows_told c t (Select u p cs) r X n g e = absurd (true≢false (sym g))
  rows_told c t (Update u more cs) r X n g e = go r (reply_of _ _ r (update_done c X u more (chosen X u cs) r g) g) e
    where
      go : (r : Reply A) → agrees (Updated (length (chosen X u cs))) r ≡ true → number_told t (Update u more cs) r ≡ Some n → ChoosesSo t (Update u more cs) X n
      go (Updated m) f h = select_told t u shown.Count cs X n m h (eqb-true (length (chosen X u cs)) m f)
      go _ f h = absurd (true≢false (sym f))
  rows_told c t (Delete u cs) r X n g e = go r (reply_of _ _ r (delete_done c X u (chosen X u cs) r g) g) e
    where
      go : (r : Reply A) → agrees (Deleted (length (chosen X u cs))) r ≡ true → number_told t (Delete u cs) r ≡ Some n → ChoosesSo t (Delete u cs) X n
      go (Deleted m) f h = select_told t u shown.Count cs X n m h (eqb-true (length (chosen X u cs)) m f)
      go _ f h = absurd (true≢false (sym f))

  -- ---- in a run

  -- Keys that are apart, whose rows statement j chose, are at most as many as its answer tells.
  pub told_at_least : (c : Catalog) (t : ℕ) (qs : List (Statement A × Reply A)) (X Y : Tables A) (j n : ℕ) (ks : List (Value A)) → alone c qs X ≡ Some Y → number_at t qs j ≡ Some n → are_apart ks ≡ true
      → ((k : Value A) → has_key k ks ≡ true → chosen_in c t k qs X j ≡ true) → length ks ≤ n
  told_at_least c t [] X Y j n ks a e d f = cc
  told_at_least c t (q ∷ qs) X Y zero n ks a e d f =
      let g = first_answered c q qs X Y a in
      let w = rows_told c t q.0 q.1 X n g.0 e in
      subst (λ m. length ks ≤ m) w.2 (at_least c X t w.0 ks d (λ k h. sym (w.1 k) ∙ f k h))
  told_at_least c t (q ∷ qs) X Y (suc j) n ks a e d f = told_at_least c t qs (after c q.0 X) Y j n ks (first_answered c q qs X Y a).1 e d f

  -- Where all keys whose rows statement j chose stand in a list, that has at least as many as its answer tells.
  pub told_at_most : (c : Catalog) (t : ℕ) (qs : List (Statement A × Reply A)) (X Y : Tables A) (j n : ℕ) (ks : List (Value A)) → is_sound c X ≡ true → are_fit c qs ≡ true → alone c qs X ≡ Some Y → number_at t qs j ≡ Some n
      → ((k : Value A) → chosen_in c t k qs X j ≡ true → has_key k ks ≡ true) → n ≤ length ks
  told_at_most c t [] X Y j n ks s z a e f = cc
  told_at_most c t (q ∷ qs) X Y zero n ks s z a e f =
      let g = first_answered c q qs X Y a in
      let w = rows_told c t q.0 q.1 X n g.0 e in
      subst (λ m. m ≤ length ks) w.2 (at_most c X t w.0 ks s (λ k h. f k (w.1 k ∙ h)))
  told_at_most c t (q ∷ qs) X Y (suc j) n ks s z a e f =
      let p = and_parts (fits c q.0) (are_fit c qs) z in
      told_at_most c t qs (after c q.0 X) Y j n ks (sound_after c q.0 X p.0 s) p.1 (first_answered c q qs X Y a).1 e f

module _ {A : Type 0} where
  -- ---- statements by number

  pub number-at : (t : ℕ) (qs : List (Answered A)) (j : ℕ) → number_at t (map (λ (a : Answered A). (a.statement, a.reply)) qs) j ≡ option_and_then (λ (a : Answered A). number_told t a.statement a.reply) (slice_get qs j)
  number-at t [] j = refl
  number-at t (a ∷ qs) zero = refl
  number-at t (a ∷ qs) (suc j) = number-at t qs j

  pub named-at : (k : Value A) (qs : List (Answered A)) (j : ℕ) → named_at k (map (λ (a : Answered A). (a.statement, a.reply)) qs) j ≡ option_map_or (λ (a : Answered A). names_key k a.statement) (slice_get qs j) false
  named-at k [] j = refl
  named-at k (a ∷ qs) zero = refl
  named-at k (a ∷ qs) (suc j) = named-at k qs j

  pub table-at : (qs : List (Answered A)) (j : ℕ) → table_at (map (λ (a : Answered A). (a.statement, a.reply)) qs) j ≡ option_map (λ (a : Answered A). table_of a.statement) (slice_get qs j)
  table-at [] j = refl
  table-at (a ∷ qs) zero = refl
  table-at (a ∷ qs) (suc j) = table-at qs j
