-- What a statement makes of the ways is so.
use Rattle.std.proofs.Common.{◌-◌, ◌≡◌, refl, sym, ap, subst, ◌∙◌, ℕ, zero, suc, ◌<◌, Bool, true, false, true≢false, cond, ◌&&◌, ◌||◌, ◌⊎◌, inl, inr, List, [], ◌∷◌, ◌++◌, map, length, slice_set, Option, Some, None, is_some, eqb}
use Rattle.std.proofs.Math.Dec.{eqb-suc-zero}
use Rattle.std.specs.Prelude.{option_map, option_to_list, option_and_then}
use Rattle.std.proofs.lemmas.Bool.{eqb-true, and_parts, and_from, ltb-true}
use Rattle.std.specs.List.{find, list_any}
use Rattle.value.specs.declared.value.Value.{Value}
use Rattle.value.specs.declared.refusal.Code.TheVariants as code
use Rattle.value.specs.declared.refusal.Refusal.{Refusal}
use Rattle.value.proofs.Basics.{eqb-self}
use Rattle.schema.specs.Definition.{Catalog, columns_of}
use Rattle.schema.specs.declared.row.Row.{Row}
use Rattle.schema.specs.declared.tables.Tables.{Tables}
use Rattle.schema.specs.Plain.{same, row_at, is_sound, put_all}
use Rattle.schema.proofs.PlainLemmas.{same_value}
use Rattle.statement.specs.declared.condition.Condition.{Condition}
use Rattle.statement.specs.declared.statement.Projection.{Projection}
use Rattle.statement.specs.declared.statement.Projection.TheVariants as shown
use Rattle.statement.specs.declared.statement.Source.{Source}
use Rattle.statement.specs.declared.statement.Source.TheVariants.{Literal, Sum}
use Rattle.statement.specs.declared.statement.Assignment.{Assignment}
use Rattle.statement.specs.declared.statement.Statement.{Statement}
use Rattle.statement.specs.declared.statement.Statement.TheVariants.{Select, Insert, Update, Delete}
use Rattle.statement.specs.declared.outcome.Outcome.{Outcome}
use Rattle.statement.specs.declared.reply.Reply.{Reply}
use Rattle.statement.specs.declared.reply.Reply.TheVariants.{Inserted, Updated, Deleted, Rows, Refused}
use Rattle.statement.specs.Conditions.{satisfies, chosen}
use Rattle.statement.specs.Evaluation.{outcome, after, inserted, updated, deleted, lacks_value, lacks_row, least_column, first_bad, assigned_lacks_value, assigned_out_of_range, assigned_lacks_row, at_column, at_table, least_table, assigned, given, set_field, updated_row, puts, removes, writes_rows, ◌or_else◌}
use Rattle.statement.specs.Fits.{fits, has_table}
use Rattle.statement.proofs.HeldLemmas.{held_length, held_sound}
use Rattle.statement.proofs.Suffices.{same_itself}
use Rattle.orders.specs.Explains.{agrees}
use Rattle.orders.specs.declared.ways.sight.Sight.{Sight}
use Rattle.orders.specs.declared.ways.sight.Sight.TheVariants.{Unseen, Seen, Either}
use Rattle.orders.specs.declared.ways.way.Field.{Field}
use Rattle.orders.specs.declared.ways.way.Field.TheVariants as becomes
use Rattle.orders.specs.declared.ways.way.After.{After}
use Rattle.orders.specs.declared.ways.way.After.TheVariants as comes
use Rattle.orders.specs.declared.ways.way.Way.{Way}
use Rattle.orders.specs.Counts.{chooses, names_key, shows_key}
use Rattle.orders.specs.Ways.{starts, row_before, FieldIs, FieldsAre, Ends, Holds, IsOneOf}
use Rattle.orders.specs.Symbolic.{pins, is_of_key, seen, first_seen, some_seen, some_counted, shows_zero, way_chosen, ways_left, field_now, is_row, chosen_way, tell, counting, given_field, set_given, assigned_fields, assigned_row, assigning, deleting, changed, inserting, may_choose, looks_at, by_sight, step, coarse, sight_of_rows, sight_of_count}
use Rattle.orders.proofs.ChoiceLemmas.{There, Stands, Same, Still, is_chosen, chosen_is, left_is}
use Rattle.orders.proofs.FieldLemmas.{now_is, raised_is, suc_less}
use Rattle.orders.proofs.LeftLemmas.{row_left, changes_of, changed_chosen, unchosen_kept}
use Rattle.orders.proofs.SightLemmas.{FitsSight, count_fits, answer_fits}
use Rattle.orders.proofs.TellLemmas.{tell_is}

first_of_four : (a b c d : Bool) → (a && b && c && d) ≡ true → a ≡ true
first_of_four a b c d h = (and_parts a b (and_parts (a && b) c (and_parts (a && b && c) d h).0).0).0

-- of its own table
pub own_table : (u : ℕ) (b : Bool) → (eqb u u && b) ≡ b
own_table u b = ap (λ a. a && b) (eqb-self u)

module _ {A : Type 0} where
  -- ---- ways in lists

  pub stands_front : (w : Way A) (us vs : List (Way A)) → IsOneOf w us → IsOneOf w (us ++ vs)
  stands_front w [] vs s = absurd s
  stands_front w (u ∷ us) vs (inl e) = inl e
  stands_front w (u ∷ us) vs (inr s) = inr (stands_front w us vs s)

  pub stands_back : (w : Way A) (us vs : List (Way A)) → IsOneOf w vs → IsOneOf w (us ++ vs)
  stands_back w [] vs s = s
  stands_back w (u ∷ us) vs s = inr (stands_back w us vs s)

  stands_option : (w : Way A) (o : Option (Way A)) → o ≡ Some w → IsOneOf w (option_to_list o)
  stands_option w o e = subst (λ p. IsOneOf w (option_to_list p)) (sym e) (inl refl)

  -- ---- counts

  -- what a statement adds to a way's counts: nothing, where the row wasn't chosen or the answer names its key; its number, where it was; or that it may have been
  abbrev pub Adds : ℕ → Bool → Bool → Way A → Way A → Type 0
  Adds j chose named w u =
      (Same w u × (chose ≡ true → named ≡ true))
      ⊎ (((u.counted ≡ w.counted ++ j ∷ []) × (u.may_count ≡ w.may_count) × (chose ≡ true))
      ⊎ ((u.counted ≡ w.counted) × (u.may_count ≡ w.may_count ++ j ∷ [])))

  -- one of the ways that come of a way holds
  abbrev pub Next : Value A → ℕ → Bool → Bool → Way A → List (Way A) → Option (List (Value A)) → Option (List (Value A)) → Type 0
  Next k j chose named w us before now = (u : Way A) × IsOneOf u us × Holds k u before now × Adds j chose named w u

  -- a row that is seen has been named
  abbrev pub SeenByName : Bool → Sight A → Type 0
  SeenByName named Unseen = Unit {0}
  SeenByName named (Seen vs) = named ≡ true
  SeenByName named Either = Unit {0}

  -- ---- by what is told

  counted : (k : Value A) (j : ℕ) (w : Way A) (before now : Option (List (Value A))) → Holds k w before now → Holds k (counting j w) before now
  counted k j w before now h = record { start = go before h.start; end = h.end }
    where
      go : (b : Option (List (Value A))) → starts k w b ≡ true → starts k (counting j w) b ≡ true
      go None s = s
      go (Some fields) s = s

  changed_same : (k : Value A) (q : Statement A) (w : Way A) → Same w (changed k q w)
  changed_same k (Select t p cs) w = (refl, refl)
  changed_same k (Insert t values) w = (refl, refl)
  changed_same k (Update t more cs) w = (refl, refl)
  changed_same k (Delete t cs) w = (refl, refl)

  pub by_sight-holds : (few : Bool) (k : Value A) (j : ℕ) (q : Statement A) (named : Bool) (p : Projection A) (cs : List (Condition A)) (s : Sight A) (w : Way A) (before now new : Option (List (Value A))) → Holds k w before now → FitsSight k p cs now s
      → SeenByName named s → ((gs : List (Value A)) → now ≡ Some gs → satisfies cs (k, gs) ≡ true → (u : Way A) → Holds k u before (Some gs) → Holds k (changed k q u) before new) → (is_chosen k cs now ≡ false → new ≡ now)
      → Next k j (is_chosen k cs now) named w (by_sight few k j (changed k q) p cs s w) before new
  by_sight-holds few k j q named p cs s w before now new h fit name changes kept = go s fit name
    where
      f : Way A → Way A
      f = changed k q

      chose : (gs : List (Value A)) → now ≡ Some gs → satisfies cs (k, gs) ≡ true → There (chosen_way k cs w) (Still k w before (Some gs))
      chose gs e sat = chosen_is k w before gs cs (subst (Holds k w before) e h) sat

      in_front : (s : Sight A) (gs : List (Value A)) → now ≡ Some gs → satisfies cs (k, gs) ≡ true → There (way_chosen k j p cs s w) (λ u. Holds k u before (Some gs) × Adds j (is_chosen k cs now) named w u)
          → Next k j (is_chosen k cs now) named w (by_sight few k j f p cs s w) before new
      in_front s gs e sat (u, at, (g, adds)) = (
        f u,
        stands_front (f u) (option_to_list (option_map f (way_chosen k j p cs s w))) (ways_left few k cs s w) (stands_option (f u) (option_map f (way_chosen k j p cs s w)) (ap (option_map f) at)),
        changes gs e sat u g,
        subst (λ ns. Adds_by ns (f u).may_count) (sym (changed_same k q u).0) (subst (λ ms. Adds_by u.counted ms) (sym (changed_same k q u).1) adds),
      )
        where
          Adds_by : List ℕ → List ℕ → Type 0
          Adds_by ns ms =
              (((ns ≡ w.counted) × (ms ≡ w.may_count)) × (is_chosen k cs now ≡ true → named ≡ true))
              ⊎ (((ns ≡ w.counted ++ j ∷ []) × (ms ≡ w.may_count) × (is_chosen k cs now ≡ true))
              ⊎ ((ns ≡ w.counted) × (ms ≡ w.may_count ++ j ∷ [])))

      behind : (s : Sight A) → is_chosen k cs now ≡ false → Stands (ways_left few k cs s w) (Still k w before now) → Next k j (is_chosen k cs now) named w (by_sight few k j f p cs s w) before new
      behind s n (u, at, (g, same)) = (
        u,
        stands_back u (option_to_list (option_map f (way_chosen k j p cs s w))) (ways_left few k cs s w) at,
        subst (Holds k u before) (sym (kept n)) g,
        inl (same, λ m. absurd (true≢false (sym m ∙ n))),
      )

      either : (b : Bool) → is_chosen k cs now ≡ b → Next k j (is_chosen k cs now) named w (by_sight few k j f p cs Either w) before new
      either false n = behind Either n (left_is few k w before now cs h n)
      either true n = by_row now refl n
        where
          by_row : (o : Option (List (Value A))) → now ≡ o → is_chosen k cs o ≡ true → Next k j (is_chosen k cs now) named w (by_sight few k j f p cs Either w) before new
          by_row None e m = absurd (true≢false (sym m))
          by_row (Some gs) e m =
              let r = chose gs e m in
              let added : (counting j r.0).counted ≡ w.counted ++ j ∷ [] = ap (λ ns. ns ++ j ∷ []) r.2.1.0 in
              in_front Either gs e m (counting j r.0, ap (option_map (counting j)) r.1, (counted k j r.0 before (Some gs) r.2.0, inr (inl (added, r.2.1.1, n))))

      go : (s : Sight A) → FitsSight k p cs now s → SeenByName named s → Next k j (is_chosen k cs now) named w (by_sight few k j f p cs s w) before new
      go Unseen n name = behind Unseen n (left_is few k w before now cs h n)
      go (Seen vs) (gs, e, sat, told) name =
          let r = chose gs e sat in
          let t = tell_is k r.0 before gs p vs r.2.0 told in
          let same : Same w t.0 = (t.2.1.0 ∙ r.2.1.0, t.2.1.1 ∙ r.2.1.1) in
          in_front (Seen vs) gs e sat (t.0, ap (λ o. option_and_then (tell k p vs) o) r.1 ∙ t.1, (t.2.0, inl (same, λ m. name)))
      go Either n name = either (is_chosen k cs now) refl

  -- ---- what UPDATE and DELETE do to the row

  -- what is given to a column doesn't depend on which it is
  given_is : (k : Value A) (w : Way A) (before : Option (List (Value A))) (gs : List (Value A)) (i : ℕ) (s : Source A) → Holds k w before (Some gs) → FieldIs (row_before k before) i (given_field k w s) (given (k, gs) s)
  given_is k w before gs i (Literal v) h = refl
  given_is k w before gs i (Sum n d) h = raised_is (row_before k before) i n d (field_now k w n) _ (now_is k w before gs n h)

  set_is : (row : Row A) (m : ℕ) (fs : List (Field A)) (vs : List (Value A)) (n : ℕ) (f : Field A) (v : Value A) → FieldsAre row m fs vs → ((i : ℕ) → FieldIs row i f v) → FieldsAre row m (slice_set fs n f) (slice_set vs n v)
  set_is row m [] [] n f v h g = tt
  set_is row m [] (x ∷ vs) n f v h g = absurd h
  set_is row m (y ∷ fs) [] n f v h g = absurd h
  set_is row m (y ∷ fs) (x ∷ vs) zero f v h g = (g m, h.1)
  set_is row m (y ∷ fs) (x ∷ vs) (suc n) f v h g = (h.0, set_is row (suc m) fs vs n f v h.1 g)

  set_given-suc : (n : ℕ) (f : Field A) (fs : List (Field A)) → set_given (suc n) f fs ≡ slice_set fs n f
  set_given-suc n f fs = ap (λ b. cond b fs (slice_set fs (suc n - 1) f)) (eqb-suc-zero n) ∙ ap (λ m. slice_set fs m f) (suc_less n)

  assigned_is : (k : Value A) (w : Way A) (before : Option (List (Value A))) (gs : List (Value A)) (more : List (Assignment A)) (fs : List (Field A)) (vs : List (Value A)) → Holds k w before (Some gs) → FieldsAre (row_before k before) 1 fs vs
      → FieldsAre (row_before k before) 1 (assigned_fields k w more fs) (assigned (k, gs) more vs)
  assigned_is k w before gs [] fs vs h e = e
  assigned_is k w before gs (a ∷ more) fs vs h e =
      assigned_is k w before gs more (set_given a.column (given_field k w a.source) fs) (set_field a.column (given (k, gs) a.source) vs) h (set a.column)
    where
      set : (n : ℕ) → FieldsAre (row_before k before) 1 (set_given n (given_field k w a.source) fs) (set_field n (given (k, gs) a.source) vs)
      set zero = e
      set (suc n) =
          subst (λ xs. FieldsAre (row_before k before) 1 xs (slice_set vs n (given (k, gs) a.source))) (sym (set_given-suc n (given_field k w a.source) fs))
          (set_is (row_before k before) 1 fs vs n (given_field k w a.source) (given (k, gs) a.source) e (λ i. given_is k w before gs i a.source h))

  restart : (k : Value A) (w u : Way A) (before : Option (List (Value A))) → u.is_absent ≡ w.is_absent → u.atoms ≡ w.atoms → starts k w before ≡ true → starts k u before ≡ true
  restart k w u None e f s = e ∙ s
  restart k w u (Some fields) e f s = rw (e, f) s

  assigning-holds : (k : Value A) (w : Way A) (before : Option (List (Value A))) (gs : List (Value A)) (more : List (Assignment A)) → Holds k w before (Some gs) → Holds k (assigning k more w) before (Some (assigned (k, gs) more gs))
  assigning-holds k w before gs more h = record { start = restart k w (assigning k more w) before refl refl h.start; end = go w.after h.end }
    where
      go : (r : After A) → Ends (row_before k before) r (Some gs) → Ends (row_before k before) (assigned_row k w more r) (Some (assigned (k, gs) more gs))
      go comes.Gone e = absurd e
      go (comes.Row fs) e = assigned_is k w before gs more fs gs h e
      go comes.Anything e = tt

  deleting-holds : (k : Value A) (w : Way A) (before now : Option (List (Value A))) → Holds k w before now → Holds k (deleting w) before None
  deleting-holds k w before now h = record { start = restart k w (deleting w) before refl refl h.start; end = tt }

  -- ---- INSERT

  all_given : (row : Row A) (m : ℕ) (vs : List (Value A)) → FieldsAre row m (map becomes.Given vs) vs
  all_given row m [] = tt
  all_given row m (v ∷ vs) = (refl, all_given row (suc m) vs)

  inserting-holds : (k : Value A) (j : ℕ) (w : Way A) (before : Option (List (Value A))) (fields : List (Value A)) → Holds k w before None → Next k j false true w (option_to_list (inserting fields w)) before (Some fields)
  inserting-holds k j w before fields h =
      let u : Way A = record w { after = comes.Row (map becomes.Given fields) } in (
        u,
        stands_option u (inserting fields w) (ap (λ b. cond b None (Some u)) (no_row w.after h.end)),
        record { start = restart k w u before refl refl h.start; end = all_given (row_before k before) 1 fields },
        inl ((refl, refl), λ m. absurd (true≢false (sym m))),
      )
    where
      no_row : (r : After A) → Ends (row_before k before) r None → is_row r ≡ false
      no_row comes.Gone e = refl
      no_row (comes.Row fs) e = absurd e
      no_row comes.Anything e = refl

  -- ---- answers that aren't refusals

  refused_differs : (e : Refusal) (r : Reply A) → agrees (Refused e) r ≡ false
  refused_differs e _ = refl

  no_fault : (o : Option Refusal) (x : Outcome A) (r : Reply A) → agrees (o or_else x).reply r ≡ true → (o ≡ None) × ((o or_else x) ≡ x)
  no_fault None x r h = (refl, refl)
  no_fault (Some e) x r h = absurd (true≢false (sym h ∙ refused_differs e r))

  pub reply_of : (x y : Outcome A) (r : Reply A) → x ≡ y → agrees x.reply r ≡ true → agrees y.reply r ≡ true
  reply_of x y r e h = subst (λ (o : Outcome A). agrees o.reply r ≡ true) e h

  pub update_done : (c : Catalog) (X : Tables A) (t : ℕ) (more : List (Assignment A)) (rows : List (Row A)) (r : Reply A) → agrees (updated c t more rows X).reply r ≡ true
      → updated c t more rows X ≡ writes_rows c X (Updated (length rows)) (map (λ row. puts t (updated_row more row)) rows)
  update_done c X t more rows r h =
      let last : Outcome A = writes_rows c X (Updated (length rows)) (map (λ row. puts t (updated_row more row)) rows) in
      let first_fault : Option Refusal = at_column code.NotNullViolation (first_bad (assigned_lacks_value more) (columns_of c t) (map (updated_row more) rows)) in
      let second_fault : Option Refusal = at_column code.NumericValueOutOfRange (first_bad (assigned_out_of_range more) (columns_of c t) (map (updated_row more) rows)) in
      let third_fault : Option Refusal = at_column code.ForeignKeyViolation (first_bad (assigned_lacks_row X more) (columns_of c t) (map (updated_row more) rows)) in
      let a = no_fault first_fault (second_fault or_else (third_fault or_else last)) r h in
      let g = reply_of _ _ r a.1 h in
      let b = no_fault second_fault (third_fault or_else last) r g in
      let d = no_fault third_fault last r (reply_of _ _ r b.1 g) in
      a.1 ∙ b.1 ∙ d.1

  insert_done : (c : Catalog) (X : Tables A) (t : ℕ) (v : Value A) (fields : List (Value A)) (r : Reply A) → agrees (inserted c t (v ∷ fields) X).reply r ≡ true
      → (row_at X t v ≡ None) × (inserted c t (v ∷ fields) X ≡ writes_rows c X Inserted (puts t (v, fields) ∷ []))
  insert_done c X t v fields r h =
      let last : Outcome A = writes_rows c X Inserted (puts t (v, fields) ∷ []) in
      let first_fault : Option Refusal = at_column code.NotNullViolation (least_column lacks_value 0 (columns_of c t) (v ∷ fields)) in
      let second_fault : Option Refusal = at_column code.UniqueViolation (cond (is_some (row_at X t v)) (Some 0) None) in
      let third_fault : Option Refusal = at_column code.ForeignKeyViolation (least_column (lacks_row X) 0 (columns_of c t) (v ∷ fields)) in
      let a = no_fault first_fault (second_fault or_else (third_fault or_else last)) r h in
      let g = reply_of _ _ r a.1 h in
      let b = no_fault second_fault (third_fault or_else last) r g in
      let d = no_fault third_fault last r (reply_of _ _ r b.1 g) in
      (untaken (row_at X t v) b.0, a.1 ∙ b.1 ∙ d.1)
    where
      untaken : (o : Option (List (Value A))) → at_column code.UniqueViolation (cond (is_some o) (Some 0) None) ≡ None → o ≡ None
      untaken None e = refl
      untaken (Some gs) e = cc

  pub delete_done : (c : Catalog) (X : Tables A) (t : ℕ) (rows : List (Row A)) (r : Reply A) → agrees (deleted c t rows X).reply r ≡ true → deleted c t rows X ≡ writes_rows c X (Deleted (length rows)) (map (removes t) rows)
  delete_done c X t rows r h = (no_fault (at_table code.ForeignKeyViolation (least_table t rows 0 c X)) (writes_rows c X (Deleted (length rows)) (map (removes t) rows)) r h).1

  -- ---- one statement

  in_place : (c : Catalog) (X : Tables A) (t : ℕ) → is_sound c X ≡ true → has_table c t ≡ true → t < length X
  in_place c X t h f = subst (λ n. t < n) (sym (held_length c X (held_sound c X h))) (ltb-true t (length c) f)

  pinned_named : (vs : List (Value A)) (b : Bool) → SeenByName b (cond b (Seen vs) Either)
  pinned_named vs true = refl
  pinned_named vs false = tt

  count_named : (k : Value A) (cs : List (Condition A)) (b : Bool) → SeenByName (pins k cs) (cond b Unseen (some_counted k cs))
  count_named k cs true = tt
  count_named k cs false = pinned_named [] (pins k cs)

  rows_named : (k : Value A) (p : Projection A) (cs : List (Condition A)) (ws : List (List (Value A))) → SeenByName (pins k cs || shows_key p) (sight_of_rows k p cs ws)
  rows_named k shown.All cs ws = by_find (find (is_of_key k (0 ∷ [])) ws)
    where
      by_find : (o : Option (List (Value A))) → SeenByName (pins k cs || true) (seen o)
      by_find None = tt
      by_find (Some v) = either_true (pins k cs)
        where
          either_true : (b : Bool) → (b || true) ≡ true
          either_true true = refl
          either_true false = refl
  rows_named k shown.Count cs ws = subst (λ b. SeenByName b (sight_of_rows k shown.Count cs ws)) (or_false (pins k cs)) (count_named k cs (shows_zero ws))
    where
      or_false : (b : Bool) → b ≡ (b || false)
      or_false true = refl
      or_false false = refl
  rows_named k (shown.Columns ns) cs ws = go (pins k cs) (list_any (λ n. eqb n 0) ns)
    where
      go : (a b : Bool) → SeenByName (a || b) (cond a (first_seen ws) (cond b (seen (find (is_of_key k ns) ws)) (some_seen ws)))
      go true b = by_first ws
        where
          by_first : (ws : List (List (Value A))) → SeenByName true (first_seen ws)
          by_first [] = tt
          by_first (w ∷ ws) = refl
      go false true = by_find (find (is_of_key k ns) ws)
        where
          by_find : (o : Option (List (Value A))) → SeenByName true (seen o)
          by_find None = tt
          by_find (Some v) = refl
      go false false = by_some ws
        where
          by_some : (ws : List (List (Value A))) → SeenByName false (some_seen ws)
          by_some [] = tt
          by_some (w ∷ ws) = tt

  select_holds : (few : Bool) (c : Catalog) (t : ℕ) (k : Value A) (j : ℕ) (p : Projection A) (cs : List (Condition A)) (r : Reply A) (w : Way A) (X : Tables A) (before : Option (List (Value A))) → is_sound c X ≡ true → agrees (outcome c (Select t p cs) X).reply r ≡ true
      → Holds k w before (row_at X t k) → Next k j (is_chosen k cs (row_at X t k)) (names_key k (Select t p cs)) w (step few k j (Select t p cs) r w) before (row_at X t k)
  select_holds few c t k j p cs (Rows ws) w X before s g h =
      by_sight-holds few k j (Select t p cs) (names_key k (Select t p cs)) p cs (sight_of_rows k p cs ws) w before (row_at X t k) (row_at X t k) h (answer_fits c X t k cs p ws s g)
      (rows_named k p cs ws) (λ gs e sat u x. subst (Holds k u before) (sym e) x) (λ n. refl)
  select_holds few c t k j p cs _ w X before s g h = absurd (true≢false (sym g))

  update_holds : (few : Bool) (c : Catalog) (t : ℕ) (k : Value A) (j : ℕ) (more : List (Assignment A)) (cs : List (Condition A)) (r : Reply A) (w : Way A) (X : Tables A) (before : Option (List (Value A))) → is_sound c X ≡ true → t < length X
      → agrees (updated c t more (chosen X t cs) X).reply r ≡ true → Holds k w before (row_at X t k)
      → Next k j (is_chosen k cs (row_at X t k)) (pins k cs) w (step few k j (Update t more cs) r w) before (row_at (put_all (updated c t more (chosen X t cs) X).changes X) t k)
  update_holds few c t k j more cs r w X before s l g h =
      let e = update_done c X t more (chosen X t cs) r g in
      subst (λ (o : Outcome A). Next k j (is_chosen k cs (row_at X t k)) (pins k cs) w (step few k j (Update t more cs) r w) before (row_at (put_all o.changes X) t k)) (sym e) (go r (reply_of _ _ r e g))
    where
      new : Row A → Option (List (Value A))
      new row = Some (assigned row more row.1)

      done : Option (List (Value A))
      done = row_at (put_all (changes_of t new (chosen X t cs)) X) t k

      go : (r : Reply A) → agrees (Updated (length (chosen X t cs))) r ≡ true → Next k j (is_chosen k cs (row_at X t k)) (pins k cs) w (step few k j (Update t more cs) r w) before done
      go (Updated n) f =
          by_sight-holds few k j (Update t more cs) (pins k cs) shown.Count cs (sight_of_count k cs n) w before (row_at X t k) done h (count_fits c X t k cs n s f)
          (count_named k cs (eqb n 0)) (λ gs e sat u x. subst (Holds k (assigning k more u) before) (sym (changed_chosen c X t k cs new gs s l e sat)) (assigning-holds k u before gs more x))
          (λ n. unchosen_kept c X t k cs new s n)
      go _ f = absurd (true≢false (sym f))

  delete_holds : (few : Bool) (c : Catalog) (t : ℕ) (k : Value A) (j : ℕ) (cs : List (Condition A)) (r : Reply A) (w : Way A) (X : Tables A) (before : Option (List (Value A))) → is_sound c X ≡ true → t < length X
      → agrees (deleted c t (chosen X t cs) X).reply r ≡ true → Holds k w before (row_at X t k)
      → Next k j (is_chosen k cs (row_at X t k)) (pins k cs) w (step few k j (Delete t cs) r w) before (row_at (put_all (deleted c t (chosen X t cs) X).changes X) t k)
  delete_holds few c t k j cs r w X before s l g h =
      let e = delete_done c X t (chosen X t cs) r g in
      subst (λ (o : Outcome A). Next k j (is_chosen k cs (row_at X t k)) (pins k cs) w (step few k j (Delete t cs) r w) before (row_at (put_all o.changes X) t k)) (sym e) (go r (reply_of _ _ r e g))
    where
      new : Row A → Option (List (Value A))
      new row = None

      done : Option (List (Value A))
      done = row_at (put_all (changes_of t new (chosen X t cs)) X) t k

      go : (r : Reply A) → agrees (Deleted (length (chosen X t cs))) r ≡ true → Next k j (is_chosen k cs (row_at X t k)) (pins k cs) w (step few k j (Delete t cs) r w) before done
      go (Deleted n) f =
          by_sight-holds few k j (Delete t cs) (pins k cs) shown.Count cs (sight_of_count k cs n) w before (row_at X t k) done h (count_fits c X t k cs n s f)
          (count_named k cs (eqb n 0)) (λ gs e sat u x. subst (Holds k (deleting u) before) (sym (changed_chosen c X t k cs new gs s l e sat)) (deleting-holds k u before (Some gs) x))
          (λ n. unchosen_kept c X t k cs new s n)
      go _ f = absurd (true≢false (sym f))

  insert_holds : (few : Bool) (c : Catalog) (t : ℕ) (j : ℕ) (v : Value A) (fields : List (Value A)) (r : Reply A) (w : Way A) (X : Tables A) (before : Option (List (Value A))) → t < length X
      → agrees (inserted c t (v ∷ fields) X).reply r ≡ true → Holds v w before (row_at X t v) → Next v j false true w (step few v j (Insert t (v ∷ fields)) r w) before (row_at (put_all (inserted c t (v ∷ fields) X).changes X) t v)
  insert_holds few c t j v fields r w X before l g h =
      let e = insert_done c X t v fields r g in
      subst (λ (o : Outcome A). Next v j false true w (step few v j (Insert t (v ∷ fields)) r w) before (row_at (put_all o.changes X) t v)) (sym e.1)
      (subst (Next v j false true w (step few v j (Insert t (v ∷ fields)) r w) before) (sym put) (go r (reply_of _ _ r e.1 g) (subst (Holds v w before) e.0 h)))
    where
      put : row_at (put_all (puts t (v, fields) ∷ []) X) t v ≡ Some fields
      put = row_left (puts t (v, fields) ∷ []) X t v (Some fields) l (ap (λ b. cond b (Some (Some fields)) None) (and_from _ _ (eqb-self t) (same_itself v)))

      go : (r : Reply A) → agrees Inserted r ≡ true → Holds v w before None → Next v j false true w (step few v j (Insert t (v ∷ fields)) r w) before (Some fields)
      go Inserted f x = inserting-holds v j w before fields x
      go _ f x = absurd (true≢false (sym f))

  -- What a statement that looks at the key makes of a way that holds.
  pub step_holds : (few : Bool) (c : Catalog) (t : ℕ) (k : Value A) (j : ℕ) (q : Statement A) (r : Reply A) (w : Way A) (X : Tables A) (before : Option (List (Value A))) → is_sound c X ≡ true → fits c q ≡ true → looks_at t k q ≡ true
      → agrees (outcome c q X).reply r ≡ true → Holds k w before (row_at X t k) → Next k j (chooses t k q X) (names_key k q) w (step few k j q r w) before (row_at (after c q X) t k)
  step_holds few c t k j (Select u p cs) r w X before s f l g h =
      let e : u ≡ t = eqb-true u t (and_parts (eqb u t) (may_choose k cs) l).0 in
      subst (λ n. Holds k w before (row_at X n k) → Next k j (chooses n k (Select u p cs) X) (names_key k (Select u p cs)) w (step few k j (Select u p cs) r w) before (row_at X n k)) e
      (λ x. subst (λ b. Next k j b (names_key k (Select u p cs)) w (step few k j (Select u p cs) r w) before (row_at X u k)) (sym (own_table u (is_chosen k cs (row_at X u k)))) (select_holds few c u k j p cs r w X before s g x)) h
  step_holds few c t k j (Update u more cs) r w X before s f l g h =
      let e : u ≡ t = eqb-true u t (and_parts (eqb u t) (may_choose k cs) l).0 in
      let q : Statement A = Update u more cs in
      subst (λ n. Holds k w before (row_at X n k) → Next k j (chooses n k q X) (pins k cs) w (step few k j q r w) before (row_at (after c q X) n k)) e
      (λ x. subst (λ b. Next k j b (pins k cs) w (step few k j q r w) before (row_at (after c q X) u k)) (sym (own_table u (is_chosen k cs (row_at X u k))))
      (update_holds few c u k j more cs r w X before s (in_place c X u s (first_of_four (has_table c u) _ _ _ f)) g x)) h
  step_holds few c t k j (Delete u cs) r w X before s f l g h =
      let e : u ≡ t = eqb-true u t (and_parts (eqb u t) (may_choose k cs) l).0 in
      let q : Statement A = Delete u cs in
      subst (λ n. Holds k w before (row_at X n k) → Next k j (chooses n k q X) (pins k cs) w (step few k j q r w) before (row_at (after c q X) n k)) e
      (λ x. subst (λ b. Next k j b (pins k cs) w (step few k j q r w) before (row_at (after c q X) u k)) (sym (own_table u (is_chosen k cs (row_at X u k))))
      (delete_holds few c u k j cs r w X before s (in_place c X u s (and_parts (has_table c u) _ f).0) g x)) h
  step_holds few c t k j (Insert u []) r w X before s f l g h = absurd (true≢false (sym (and_parts (eqb u t) false l).1))
  step_holds few c t k j (Insert u (v ∷ fields)) r w X before s f l g h =
      let p = and_parts (eqb u t) (same k v) l in
      let e : u ≡ t = eqb-true u t p.0 in
      let d : v ≡ k = sym (same_value k v p.1) in
      let q : Statement A = Insert u (v ∷ fields) in
      let there : u < length X = in_place c X u s (and_parts (has_table c u) _ f).0 in
      subst (λ n. Holds k w before (row_at X n k) → Next k j false true w (step few k j q r w) before (row_at (after c q X) n k)) e
      (subst (λ (x : Value A). Holds x w before (row_at X u x) → Next x j false true w (step few x j q r w) before (row_at (after c q X) u x)) d
      (insert_holds few c u j v fields r w X before there g)) h

  -- ---- statements that aren't read

  pub coarse_holds : (c : Catalog) (t : ℕ) (k : Value A) (j : ℕ) (q : Statement A) (w : Way A) (X : Tables A) (before : Option (List (Value A))) → Holds k w before (row_at X t k)
      → Holds k (coarse j q w) before (row_at (after c q X) t k) × Adds j (chooses t k q X) (names_key k q) w (coarse j q w)
  coarse_holds c t k j (Select u p cs) w X before h = (record { start = restart k w (coarse j (Select u p cs) w) before refl refl h.start; end = h.end }, inr (inr (refl, refl)))
  coarse_holds c t k j (Insert u values) w X before h = (record { start = restart k w (coarse j (Insert u values) w) before refl refl h.start; end = tt }, inr (inr (refl, refl)))
  coarse_holds c t k j (Update u more cs) w X before h = (record { start = restart k w (coarse j (Update u more cs) w) before refl refl h.start; end = tt }, inr (inr (refl, refl)))
  coarse_holds c t k j (Delete u cs) w X before h = (record { start = restart k w (coarse j (Delete u cs) w) before refl refl h.start; end = tt }, inr (inr (refl, refl)))
