-- Changes by key, with one more put over those of its key.
use Rattle.std.proofs.Common.{◌≡◌, refl, sym, ap, subst, ◌∙◌, ℕ, suc, ◌+◌, ◌<◌, ◌≤◌, Bool, true, false, T, cond, ◌&&◌, ◌||◌, List, [], ◌∷◌, ◌++◌, length, take, drop, get_or, Bor, Option, Some, None, is_some, unwrap_or, eqb, arith}
use Rattle.std.specs.FinMap.{is_sorted}
use Rattle.std.specs.FinMap.Entries.{same_entries}
use Rattle.std.specs.List.{AllByRecursion, find}
use Rattle.std.specs.Option.{option_map, option_copied}
use Rattle.std.proofs.lemmas.List.Folds.{list_any-append}
use Rattle.std.specs.List.Sorted.{IsStrictlySortedBy}
use Rattle.std.specs.Cmp.{IsTotalOrder}
use Rattle.std.specs.Ordering.{nat_cmp, ordering_then, ordering_reverse, match_ordering}
use Rattle.std.specs.declared.cmp.Ordering.{Ordering}
use Rattle.std.specs.declared.cmp.Ordering.TheVariants.{Less, Equal, Greater}
use Rattle.std.proofs.lemmas.Bool.{eqb-true, and_parts}
use Rattle.std.proofs.lemmas.Cmp.{nat_cmp_total, on_total, then_total, tied_itself}
use Rattle.std.proofs.lemmas.Float.{T_from_true}
use Rattle.std.proofs.lemmas.Map.Lookups.{exact_unsigned}
use Rattle.std.proofs.lemmas.List.{take_more, take_all, take-append-drop, take-append-le}
use Rattle.value.specs.declared.value.Value.{Value}
use Rattle.value.specs.Order.{value_cmp, value_cmp-total, value_cmp-exact}
use Rattle.value.proofs.Basics.{eqb_comm}
use Rattle.schema.specs.declared.row.Row.{Row}
use Rattle.schema.specs.declared.changes.Change.{Change}
use Rattle.schema.specs.declared.tables.Tables.{Tables}
use Rattle.schema.specs.Changing.{change_cmp, change_of, new_row, put_change}
use Rattle.schema.specs.Plain.{same, rows_of, row_at, put_in, put_all}
use Rattle.schema.proofs.PlainLemmas.{IsOrdered, touches, left_by, length-put_in, length-put_all, row_at-put_in, row_at-put_all, put_in-ordered, put_all-ordered, put_all-append, same_value}
use Rattle.schema.proofs.InsertingLemmas.{sorted_from}
use Rattle.transactions.specs.Merged.{AreInKeyOrder, AreMerged, is_changed}

tied_parts : (a b : Ordering) → ordering_then a b ≡ Equal → (a ≡ Equal) × (b ≡ Equal)
tied_parts Less b e = cc
tied_parts Equal b e = (refl, e)
tied_parts Greater b e = cc

pub copied-some : {X : Type 0} (r : Option (Option (Bor X))) → is_some r ≡ is_some (option_map (λ o. option_copied o) r)
copied-some None = refl
copied-some (Some o) = refl

either_more : (a b c : Bool) → (a || (b || c)) ≡ (b || (a || c))
either_more true true c = refl
either_more true false c = refl
either_more false b c = refl

either_same : (a b c : Bool) → a ≡ b → (a || c) ≡ (a || (b || c))
either_same true b c e = refl
either_same false b c e = ap (λ d. d || c) e

module _ {A : Type 0} where
  -- ---- the order of changes

  pub change_cmp-total : IsTotalOrder (change_cmp {A = A})
  change_cmp-total = then_total (on_total (λ (x : Change A). x.table) nat_cmp_total) (on_total (λ (x : Change A). x.key) value_cmp-total)

  -- changes above one
  abbrev pub AreAbove : Change A → List (Change A) → Type 0
  AreAbove x ys = AllByRecursion (λ y. change_cmp x y ≡ Less) ys

  pub above_too : (x y : Change A) (ys : List (Change A)) → change_cmp x y ≡ Less → AreAbove y ys → AreAbove x ys
  above_too x y [] less above = tt
  above_too x y (z ∷ zs) less above = (change_cmp-total.trans x y z less above.0, above_too x y zs less above.1)

  reversed : (x y : Change A) → change_cmp x y ≡ Greater → change_cmp y x ≡ Less
  reversed x y e = change_cmp-total.antisymm y x ∙ ap ordering_reverse e

  put-above : (y x : Change A) (ys : List (Change A)) → change_cmp y x ≡ Less → AreAbove y ys → AreAbove y (put_change ys x)
  put-above y x [] less above = (less, tt)
  put-above y x (z ∷ zs) less above = by_order (change_cmp x z) (put-above y x zs less above.1)
    where
      by_order : (o : Ordering) → AreAbove y (put_change zs x) → AreAbove y (match_ordering o (x ∷ z ∷ zs) (x ∷ zs) (z ∷ put_change zs x))
      by_order Less rest = (less, above)
      by_order Equal rest = (less, above.1)
      by_order Greater rest = (above.0, rest)

  pub same_place : (x y : Change A) → change_cmp x y ≡ Equal → (x.table ≡ y.table) × (x.key ≡ y.key)
  same_place x y e =
      let p = tied_parts (nat_cmp x.table y.table) (value_cmp x.key y.key) e in
      (exact_unsigned x.table y.table p.0, value_cmp-exact x.key y.key p.1)

  pub same_order : (x y z : Change A) → x.table ≡ y.table → x.key ≡ y.key → change_cmp x z ≡ change_cmp y z
  same_order x y z t k = ap (λ n. ordering_then (nat_cmp n z.table) (value_cmp x.key z.key)) t ∙ ap (λ v. ordering_then (nat_cmp y.table z.table) (value_cmp v z.key)) k

  above_same : (x y : Change A) (ys : List (Change A)) → x.table ≡ y.table → x.key ≡ y.key → AreAbove y ys → AreAbove x ys
  above_same x y [] t k above = tt
  above_same x y (z ∷ zs) t k above = (same_order x y z t k ∙ above.0, above_same x y zs t k above.1)

  pub put-sorted : (xs : List (Change A)) (x : Change A) → IsStrictlySortedBy change_cmp xs → IsStrictlySortedBy change_cmp (put_change xs x)
  unfolding IsStrictlySortedBy
  put-sorted [] x sorted = (tt, tt)
  put-sorted (y ∷ ys) x sorted = by_order (change_cmp x y) refl (put-sorted ys x sorted.1)
    where
      by_order : (o : Ordering) → change_cmp x y ≡ o → IsStrictlySortedBy change_cmp (put_change ys x) → IsStrictlySortedBy change_cmp (match_ordering o (x ∷ y ∷ ys) (x ∷ ys) (y ∷ put_change ys x))
      by_order Less e rest = ((e, above_too x y ys e sorted.0), sorted)
      by_order Equal e rest = let p = same_place x y e in (above_same x y ys p.0 p.1 sorted.0, sorted.1)
      by_order Greater e rest = (put-above y x ys (reversed x y e) sorted.0, rest)

  -- ---- what they leave at a key

  -- two changes of one key are at one place
  touching : (t : ℕ) (q : Value A) (x y : Change A) → touches t q x ≡ true → touches t q y ≡ true → change_cmp x y ≡ Equal
  touching t q x y e f =
      let p = and_parts (eqb x.table t) (same q x.key) e in
      let r = and_parts (eqb y.table t) (same q y.key) f in
      let tables : x.table ≡ y.table = eqb-true x.table t p.0 ∙ sym (eqb-true y.table t r.0) in
      let keys : x.key ≡ y.key = sym (same_value q x.key p.1) ∙ same_value q y.key r.1 in
      same_order x y y tables keys ∙ tied_itself change_cmp-total y

  untouched : (t : ℕ) (q : Value A) (x : Change A) (ys : List (Change A)) → touches t q x ≡ true → AreAbove x ys → left_by t q ys ≡ None
  untouched t q x [] e above = refl
  untouched t q x (y ∷ ys) e above = rw (untouched t q x ys e above.1) (go (touches t q y) refl)
    where
      differ : Less ≡ Equal → ⊥
      differ h = cc

      go : (b : Bool) → touches t q y ≡ b → cond b (Some y.fields) None ≡ None
      go true f = absurd (differ (sym above.0 ∙ touching t q x y e f))
      go false f = refl

  touches_alike : (t : ℕ) (q : Value A) (x y : Change A) → x.table ≡ y.table → x.key ≡ y.key → touches t q x ≡ touches t q y
  touches_alike t q x y tables keys = ap (λ n. eqb n t && same q x.key) tables ∙ ap (λ v. eqb y.table t && same q v) keys

  kept : (l : Option (Option (List (Value A)))) → cond (is_some l) l None ≡ l
  kept None = refl
  kept (Some fields) = refl

  left_by-put : (t : ℕ) (q : Value A) (xs : List (Change A)) (x : Change A) → IsStrictlySortedBy change_cmp xs → left_by t q (put_change xs x) ≡ cond (touches t q x) (Some x.fields) (left_by t q xs)
  unfolding IsStrictlySortedBy
  left_by-put t q [] x sorted = refl
  left_by-put t q (y ∷ ys) x sorted = by_order (change_cmp x y) refl (left_by-put t q ys x sorted.1)
    where
      first : (zs : List (Change A)) (b : Bool) → (b ≡ true → left_by t q zs ≡ None) → cond (is_some (left_by t q zs)) (left_by t q zs) (cond b (Some x.fields) None) ≡ cond b (Some x.fields) (left_by t q zs)
      first zs true none = rw (none refl) refl
      first zs false none = kept (left_by t q zs)

      past : (b : Bool) (o : Option (Option (List (Value A)))) → o ≡ cond b (Some x.fields) (left_by t q ys)
          → cond (is_some o) o (cond (touches t q y) (Some y.fields) None) ≡ cond b (Some x.fields) (left_by t q (y ∷ ys))
      past true o e = rw e refl
      past false o e = rw e refl

      here : (b : Bool) → touches t q x ≡ b → touches t q y ≡ b → left_by t q (x ∷ ys) ≡ cond b (Some x.fields) (left_by t q (y ∷ ys))
      here true e f = rw (untouched t q y ys f sorted.0, e) refl
      here false e f = rw (e, f) refl

      by_order : (o : Ordering) → change_cmp x y ≡ o → left_by t q (put_change ys x) ≡ cond (touches t q x) (Some x.fields) (left_by t q ys)
          → left_by t q (match_ordering o (x ∷ y ∷ ys) (x ∷ ys) (y ∷ put_change ys x)) ≡ cond (touches t q x) (Some x.fields) (left_by t q (y ∷ ys))
      by_order Less e rest = first (y ∷ ys) (touches t q x) (λ f. untouched t q x (y ∷ ys) f (e, above_too x y ys e sorted.0))
      by_order Equal e rest = let p = same_place x y e in here (touches t q x) refl (sym (touches_alike t q x y p.0 p.1))
      by_order Greater e rest = past (touches t q x) (left_by t q (put_change ys x)) rest

  -- ---- tables that agree at each key

  pub ordered_from : (X : Tables A) → AreInKeyOrder X → IsOrdered X
  ordered_from X sorted = record { each = λ t. go X t sorted }
    where
      go : (Y : Tables A) (t : ℕ) → AreInKeyOrder Y → T (is_sorted value_cmp (rows_of Y t))
      go [] t s = tt
      go (rows ∷ Y) Rattle.std.proofs.Common.zero s = T_from_true (is_sorted value_cmp rows) (sorted_from rows s.0)
      go (rows ∷ Y) (suc t) s = go Y t s.1

  rest_ordered : (rows : List (Row A)) (X : Tables A) → IsOrdered (rows ∷ X) → IsOrdered X
  rest_ordered rows X o = record { each = λ t. o.each (suc t) }

  same_tables : (X Y : Tables A) → length X ≡ length Y → IsOrdered X → IsOrdered Y → ((t : ℕ) (q : Value A) → t < length X → row_at X t q ≡ row_at Y t q) → X ≡ Y
  same_tables [] [] len ox oy same = refl
  same_tables [] (s ∷ Y) len ox oy same = absurd (omega arith)
  same_tables (r ∷ X) [] len ox oy same = absurd (omega arith)
  same_tables (r ∷ X) (s ∷ Y) len ox oy same =
      ap (λ rows. rows ∷ X) (same_entries value_cmp value_cmp-total value_cmp-exact r s (ox.each 0) (oy.each 0) (λ q. same 0 q (omega arith)))
      ∙ ap (λ Z. s ∷ Z) (same_tables X Y (omega arith) (rest_ordered r X ox) (rest_ordered s Y oy) (λ t q lt. same (suc t) q (omega arith)))

  -- one more change put over those of its key is put in last
  put_over : (xs : List (Change A)) (x : Change A) (X : Tables A) → IsStrictlySortedBy change_cmp xs → AreInKeyOrder X → put_all (put_change xs x) X ≡ put_in x (put_all xs X)
  put_over xs x X sorted order =
      let o = ordered_from X order in
      let long : length (put_all xs X) ≡ length X = length-put_all xs X in
      same_tables (put_all (put_change xs x) X) (put_in x (put_all xs X)) (length-put_all (put_change xs x) X ∙ sym (length-put_in x (put_all xs X) ∙ long)) (put_all-ordered (put_change xs x) X o) (put_in-ordered x (put_all xs X) (put_all-ordered xs X o))
      (λ t q lt.
      let within : t < length X = omega (arith, length-put_all (put_change xs x) X) in
      row_at-put_all (put_change xs x) X t q within
      ∙ ap (λ l. unwrap_or l (row_at X t q)) (left_by-put t q xs x sorted)
      ∙ go t q (touches t q x)
      ∙ ap (cond (touches t q x) x.fields) (sym (row_at-put_all xs X t q within))
      ∙ sym (row_at-put_in x (put_all xs X) t q (omega (arith, long))))
    where
      go : (t : ℕ) (q : Value A) (b : Bool) → unwrap_or (cond b (Some x.fields) (left_by t q xs)) (row_at X t q) ≡ cond b x.fields (unwrap_or (left_by t q xs) (row_at X t q))
      go t q true = refl
      go t q false = refl

  -- ---- by key

  -- a change is of the key
  abbrev pub is_at : ℕ → Value A → Change A → Bool
  is_at t k x = eqb t x.table && same k x.key

  at_alike : (t : ℕ) (k : Value A) (x y : Change A) → x.table ≡ y.table → x.key ≡ y.key → is_at t k x ≡ is_at t k y
  at_alike t k x y tables keys = ap (λ n. eqb t n && same k x.key) tables ∙ ap (λ v. eqb t y.table && same k v) keys

  -- with one more put over those of its key
  changed-put : (t : ℕ) (k : Value A) (ys : List (Change A)) (x : Change A) → is_changed t k (put_change ys x) ≡ (is_at t k x || is_changed t k ys)
  changed-put t k [] x = refl
  changed-put t k (y ∷ ys) x = by_order (change_cmp x y) refl (changed-put t k ys x)
    where
      by_order : (o : Ordering) → change_cmp x y ≡ o → is_changed t k (put_change ys x) ≡ (is_at t k x || is_changed t k ys)
          → is_changed t k (match_ordering o (x ∷ y ∷ ys) (x ∷ ys) (y ∷ put_change ys x)) ≡ (is_at t k x || (is_at t k y || is_changed t k ys))
      by_order Less e rest = refl
      by_order Equal e rest = let p = same_place x y e in either_same (is_at t k x) (is_at t k y) (is_changed t k ys) (at_alike t k x y p.0 p.1)
      by_order Greater e rest = ap (λ b. is_at t k y || b) rest ∙ either_more (is_at t k y) (is_at t k x) (is_changed t k ys)

  changed-next : (t : ℕ) (k : Value A) (ys xs : List (Change A)) (x : Change A) → is_changed t k ys ≡ is_changed t k xs → is_changed t k (put_change ys x) ≡ is_changed t k (xs ++ x ∷ [])
  changed-next t k ys xs x e =
      changed-put t k ys x ∙ ap (λ b. is_at t k x || b) e ∙ last (is_at t k x) (is_changed t k xs) ∙ sym (list_any-append (is_at t k) xs (x ∷ []))
    where
      last : (a b : Bool) → (a || b) ≡ (b || (a || false))
      last true true = refl
      last true false = refl
      last false true = refl
      last false false = refl

  -- what is looked up among them
  pub found-changed : (t : ℕ) (k : Value A) (ys : List (Change A)) → is_some (change_of ys t k) ≡ is_changed t k ys
  found-changed t k [] = refl
  found-changed t k (y ∷ ys) = ap (λ b. is_some (option_map new_row (cond (b && same k y.key) (Some y) (find (λ x. eqb x.table t && same k x.key) ys)))) (eqb_comm y.table t) ∙ go (is_at t k y) (found-changed t k ys)
    where
      go : (b : Bool) → is_some (change_of ys t k) ≡ is_changed t k ys
          → is_some (option_map new_row (cond b (Some y) (find (λ x. eqb x.table t && same k x.key) ys))) ≡ (b || is_changed t k ys)
      go true e = refl
      go false e = e

  -- those that are merged and the others
  pub changed-all : (t : ℕ) (k : Value A) (ys xs : List (Change A)) (n : ℕ) → AreMerged ys (take n xs) → (is_changed t k ys || is_changed t k (drop n xs)) ≡ is_changed t k xs
  changed-all t k ys xs n m =
      ap (λ b. b || is_changed t k (drop n xs)) (m.keys t k) ∙ sym (list_any-append (is_at t k) (take n xs) (drop n xs)) ∙ ap (is_changed t k) (take-append-drop n xs)

  -- ---- merging

  pub merged-none : AreMerged {A = A} [] []
  unfolding IsStrictlySortedBy
  merged-none = record { by_key = tt; keys = λ t k. refl; same = λ X order. refl }

  pub merged-next : (ys xs : List (Change A)) (n : ℕ) (x : Change A) → n < length xs → x ≡ get_or xs n x → AreMerged ys (take n xs) → AreMerged (put_change ys x) (take (n + 1) xs)
  merged-next ys xs n x lt at m = record {
    by_key = put-sorted ys x m.by_key;
    keys = λ t k.
        changed-next t k ys (take n xs) x (m.keys t k)
        ∙ ap (is_changed t k) (sym (take_more xs n x lt ∙ ap (λ z. take n xs ++ z ∷ []) (sym at)));
    same = λ X order.
        put_over ys x X m.by_key order ∙ ap (put_in x) (m.same X order)
        ∙ sym (ap (λ zs. put_all zs X) (take_more xs n x lt ∙ ap (λ z. take n xs ++ z ∷ []) (sym at)) ∙ put_all-append (take n xs) (x ∷ []) X);
  }

  pub merged-appended : (ys xs more : List (Change A)) (n : ℕ) → n ≤ length xs → AreMerged ys (take n xs) → AreMerged ys (take n (xs ++ more))
  merged-appended ys xs more n le m = subst (AreMerged ys) (sym (take-append-le n xs more le)) m

  -- so are all, merged
  pub merged-all : (ys xs : List (Change A)) (n : ℕ) → n ≡ length xs → AreMerged ys (take n xs) → AreMerged ys xs
  merged-all ys xs n all m = subst (AreMerged ys) (ap (λ k. take k xs) all ∙ take_all (length xs) xs (omega arith)) m

  pub merged-whole : (ys xs : List (Change A)) (n : ℕ) → n ≡ length xs → AreMerged ys (take n xs) → (X : Tables A) → AreInKeyOrder X → put_all ys X ≡ put_all xs X
  merged-whole ys xs n all m X order = m.same X order ∙ ap (λ zs. put_all zs X) (ap (λ k. take k xs) all ∙ take_all (length xs) xs (omega arith))
