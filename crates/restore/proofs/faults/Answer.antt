-- What is read step by step is what the lines say: after lines without a fault, the next is a step where it has none.
use Rattle.std.proofs.Common.{◌≡◌, ◌≢◌, ℕ, ◌+◌, ◌-◌, ◌<◌, ◌≤◌, inl, inr, Bool, true, false, cond, List, [], ◌∷◌, ◌++◌, length, drop, slice_get, Option, Some, None, is_some, Result, Ok, Err, refl, ap, sym, subst, ◌∙◌, arith, length-append, length-set, zero, suc}
use Rattle.std.specs.Prelude.{codes, slice_set}
use Rattle.std.specs.List.{filter_map, slice_split}
use Rattle.std.specs.Option.{option_map_or}
use Rattle.std.specs.Str.{bytes_eq}
use Rattle.std.proofs.lemmas.Bool.Decides.{eqb_tells}
use Rattle.std.proofs.lemmas.List.{get_or-set_same, get_or-set_other, get_or_past, length-map, drop_all}
use Rattle.std.proofs.lemmas.List.Elements.{filter_map-append}
use Rattle.std.proofs.lemmas.Slice.Eq.{bytes_eq-Decides}
use Rattle.value.specs.declared.refusal.Code.{Code}
use Rattle.value.specs.declared.refusal.Code.TheVariants.{BadCopyFileFormat}
use Rattle.value.specs.declared.value.Value.{Value}
use Rattle.schema.specs.Definition.{TableSchema, Catalog, columns_of}
use Rattle.schema.specs.Inserting.{empty_tables, inserting_fault, inserted}
use Rattle.schema.specs.Plain.{cells, rows_of, row_at}
use Rattle.schema.specs.Rows.{put_row}
use Rattle.schema.specs.declared.row.Row.{Row}
use Rattle.schema.specs.declared.tables.Tables.{Tables}
use Rattle.copytext.specs.RoundTrip.{fit_kinds}
use Rattle.dumpplan.specs.Lines.{first_line, copy_line, end_of_rows, rows_line, last_line}
use Rattle.restore.specs.CreateLine.{behind}
use Rattle.restore.specs.Faults.{has_key, row_fault, rows_fault, refused, unless_it_is, copy_fault, create_text, fault_at, counts, fault_behind, line_fault}
use Rattle.restore.specs.Layout.{version, with_table, kinds_of, found, behind_creates, taken_up, catalog_of, parts, lead, row_lines, rows_said, rows_of_table, by_key, Place, Count, Copy, Rows, Nothing, place_in, place_behind}
use Rattle.restore.specs.Progress.{Progress, Start, Created, Before, Within, Behind, Whole, copies, creates, with_row, ended, row, count, step}
use Rattle.restore.specs.Rows.{row_of_line}
use Rattle.restore.specs.Steps.{◌>>=◌}
use Rattle.restore.proofs.taking.Behind.{row_fits, of_their_kinds, without_zeros}
use Rattle.restore.proofs.taking.Keys.{key_found, by_key_has, by_key_more, put_length}
use Rattle.restore.proofs.faults.Layout.{same_catalog, begun_with, pushed, cut_off, catalog_more, more_text, rest_of, rest_same, rest_more, rest_other, rest_ended, at_end, Told}
use Rattle.restore.proofs.faults.Place.{lead_two, at_copy, at_count, at_rows, at_nothing, place_is, row_fault_is, new_key}
use Rattle.restore.proofs.stepwise.Reading.{done_same}
use Rattle.restore.proofs.words.Row.{with_row_is}

pub counts_is : (line : List ℕ) (counted : Bool) → version line ≡ Ok counted → counts line ≡ counted
counts_is line counted says = go (bytes_eq line (first_line true)) (bytes_eq line (first_line false)) says
  where
    go : (a b : Bool) → cond a (Ok true) (cond b (Ok false) (Err BadCopyFileFormat)) ≡ Ok counted → a ≡ counted
    go true b e = done_same {E = Code} true counted e
    go false true e = done_same {E = Code} false counted e
    go false false e = absurd cc

within_catalog : (c : Catalog) (t : ℕ) (d : TableSchema) → slice_get c t ≡ Some d → t < length c
within_catalog [] t d is = absurd cc
within_catalog (e ∷ c) zero d is = omega arith
within_catalog (e ∷ c) (suc t) d is = let h : t < length c = within_catalog c t d is in omega (arith, h)

past_catalog : (c : Catalog) (t : ℕ) → slice_get c t ≡ None → length c ≤ t
past_catalog [] t is = omega arith
past_catalog (e ∷ c) zero is = absurd cc
past_catalog (e ∷ c) (suc t) is = let h : length c ≤ t = past_catalog c t is in omega (arith, h)

-- a line that is another than the one that ends a table's rows
other_than_end : (line wanted : List ℕ) → bytes_eq line wanted ≡ true → bytes_eq wanted end_of_rows ≡ false → bytes_eq line end_of_rows ≡ false
other_than_end line wanted is other = subst (λ (l : List ℕ). bytes_eq l end_of_rows ≡ false) (sym ((bytes_eq-Decides line wanted).0 is)) other

copy_no_end : (d : TableSchema) → bytes_eq (copy_line d) end_of_rows ≡ false
copy_no_end d = refl

rows_no_end : (n : ℕ) → bytes_eq (rows_line n) end_of_rows ≡ false
rows_no_end n = refl

-- no CREATE TABLE line may come any more
abbrev pub Begun : List (List ℕ) → Type 0
Begun lines = (line : List ℕ) → create_text (behind_creates lines) line ≡ None

pub lead_zero : (counted : Bool) → lead counted 0 ≡ 1
lead_zero true = refl
lead_zero false = refl

module _ {A : Type 0} where
  -- ---- the catalog and the tables that the lines after the first have made

  pub record Holds (counted : Bool) (c : Catalog) (X : Tables A) (lines : List (List ℕ)) : Type 0 where
    pub catalog : catalog_of lines ≡ c
    pub count : length X ≡ length c
    pub rows : (u : ℕ) → rows_of X u ≡ by_key (rows_said (kinds_of c u) (row_lines counted lines u))
    pub lengths : (u : ℕ) → length (rows_of X u) ≡ length (row_lines counted lines u)

  -- and they end in lines of a table
  pub record At (counted : Bool) (c : Catalog) (X : Tables A) (first : List ℕ) (lines : List (List ℕ)) (t : ℕ) (part : List (List ℕ)) : Type 0 where
    pub says : version first ≡ Ok counted
    pub holds : Holds counted c X lines
    pub done : List (List (List ℕ))
    pub cut : parts lines ≡ done ++ part ∷ []
    pub tables : length done ≡ t

  abbrev pub IsAt : Progress A → List (List ℕ) → Type 0
  IsAt Start [] = Unit {0}
  IsAt (Created counted c) (first ∷ lines) = (version first ≡ Ok counted) × (catalog_of lines ≡ c) × (behind_creates lines ≡ [])
  IsAt (Before counted c X t) (first ∷ lines) = (part : List (List ℕ)) × At counted c X first lines t part × Begun lines × (length part + 1 ≡ lead counted t)
  IsAt (Within counted c X t) (first ∷ lines) = (part : List (List ℕ)) × At counted c X first lines t part × Begun lines × (lead counted t ≤ length part) × (t < length c)
  IsAt (Behind counted c X t) (first ∷ lines) = (part : List (List ℕ)) × At counted c X first lines (t + 1) part × Begun lines × (counted ≡ true) × (length part ≡ 0)
  IsAt (Whole c X) (first ∷ lines) = (counted : Bool) × (t : ℕ) × (part : List (List ℕ)) × At counted c X first lines t part × Begun lines × (lead counted t ≤ length part) × (length c ≤ t)
  IsAt _ _ = ⊥

  -- a line is a step where it has no fault, and else stops with its code
  abbrev pub Agrees : Result (Progress A) Code → List (List ℕ) → List ℕ → Type 0
  Agrees (Ok p) before line = (line_fault A before line ≡ None) × IsAt p (before ++ line ∷ [])
  Agrees (Err code) before line = line_fault A before line ≡ Some code

  pub place_of : (counted : Bool) (c : Catalog) (X : Tables A) (first : List ℕ) (lines : List (List ℕ)) (t : ℕ) (part : List (List ℕ)) (s : At counted c X first lines t part) → place_behind counted lines ≡ place_in (length c) counted t (length part)
  place_of counted c X first lines t part s =
      place_is counted lines s.done part s.cut ∙ ap (λ (k : Catalog). place_in (length k) counted (length s.done) (length part)) s.holds.catalog
      ∙ ap (λ (n : ℕ). place_in (length c) counted n (length part)) s.tables

  -- ---- a line more

  holds_same : (counted : Bool) (c : Catalog) (X : Tables A) (lines more : List (List ℕ)) → Holds counted c X lines → catalog_of more ≡ catalog_of lines → ((u : ℕ) → row_lines counted more u ≡ row_lines counted lines u) → Holds counted c X more
  holds_same counted c X lines more h catalog same = record {
    catalog = catalog ∙ h.catalog;
    count = h.count;
    rows = λ u. h.rows u ∙ ap (λ (ls : List (List ℕ)). by_key (rows_said (kinds_of c u) ls)) (sym (same u));
    lengths = λ u. h.lengths u ∙ ap length (sym (same u));
  }

  module _ (counted : Bool) (c : Catalog) (X : Tables A) (first : List ℕ) (lines : List (List ℕ)) (t : ℕ) (part : List (List ℕ)) (s : At counted c X first lines t part) (line : List ℕ) (none : create_text (behind_creates lines) line ≡ None) where
    -- what may stand there
    fault_is : (place : Place) → place_in (length c) counted t (length part) ≡ place → line_fault A (first ∷ lines) line ≡ fault_at A counted lines place line
    fault_is place at =
        let here : place_behind counted lines ≡ place = place_of counted c X first lines t part s ∙ at in
        ap (λ (b : Bool). fault_behind A b lines (create_text (behind_creates lines) line) line) (counts_is first counted s.says)
        ∙ ap (λ (o : Option (List ℕ)). fault_behind A counted lines o line) none ∙ ap (λ (p : Place). fault_at A counted lines p line) here

    short : length part < lead counted t → length part < lead counted (length s.done)
    short h = subst (λ (n : ℕ). length part < lead counted n) (sym s.tables) h

    -- a line before the table's rows
    led : bytes_eq line end_of_rows ≡ false → length part < lead counted t → At counted c X first (lines ++ line ∷ []) t (part ++ line ∷ [])
    led other h =
        let cut : parts (lines ++ line ∷ []) ≡ s.done ++ (part ++ line ∷ []) ∷ [] = pushed lines line none s.done part s.cut other in
        record {
          says = s.says;
          holds = holds_same counted c X lines (lines ++ line ∷ []) s.holds (same_catalog lines line none) (rest_same (lead counted) (parts lines) (parts (lines ++ line ∷ [])) s.done part s.cut line cut (short h));
          done = s.done;
          cut = cut;
          tables = s.tables;
        }

    -- the line that ends them
    ended_at : bytes_eq line end_of_rows ≡ true → At counted c X first (lines ++ line ∷ []) (t + 1) []
    ended_at is = record {
      says = s.says;
      holds = holds_same counted c X lines (lines ++ line ∷ []) s.holds (same_catalog lines line none) (rest_ended (lead counted) (parts lines) (parts (lines ++ line ∷ [])) (cut_off lines line none is));
      done = s.done ++ part ∷ [];
      cut = cut_off lines line none is ∙ ap (λ (ps : List (List (List ℕ))). ps ++ [] ∷ []) s.cut;
      tables = length-append s.done (part ∷ []) ∙ ap (λ (n : ℕ). n + 1) s.tables;
    }

    one_more : length (part ++ line ∷ []) ≡ length part + 1
    one_more = length-append part (line ∷ [])

    -- ---- a COPY line, or the last line

    pub copies_agree : (o : Option TableSchema) → slice_get c t ≡ o → length part + 1 ≡ lead counted t → Agrees (copies counted c X t o line) (first ∷ lines) line
    copies_agree o at h = by_table o at
      where
        is_fault : (p : Option TableSchema) → slice_get c t ≡ p → line_fault A (first ∷ lines) line ≡ copy_fault p line
        is_fault p e = fault_is (Copy t) (at_copy (length c) counted t (length part) h) ∙ ap (λ (k : Catalog). copy_fault (slice_get k t) line) s.holds.catalog ∙ ap (λ (q : Option TableSchema). copy_fault q line) e

        less : length part < lead counted t
        less = omega (arith, h)

        by_table : (p : Option TableSchema) → slice_get c t ≡ p → Agrees (copies counted c X t p line) (first ∷ lines) line
        by_table (Some d) e = go (bytes_eq line (copy_line d)) refl
          where
            go : (b : Bool) → bytes_eq line (copy_line d) ≡ b → Agrees (cond b (Ok (Within counted c X t)) (Err BadCopyFileFormat)) (first ∷ lines) line
            go true is =
                let to = led (other_than_end line (copy_line d) is (copy_no_end d)) less in
                let long : lead counted t ≤ length (part ++ line ∷ []) = omega (arith, h, one_more) in
                (is_fault (Some d) e ∙ rw is refl, (part ++ line ∷ [], to, begun_with lines line none, long, within_catalog c t d e))
            go false is = is_fault (Some d) e ∙ rw is refl
        by_table None e = go (bytes_eq line last_line) refl
          where
            go : (b : Bool) → bytes_eq line last_line ≡ b → Agrees (cond b (Ok (Whole c X)) (Err BadCopyFileFormat)) (first ∷ lines) line
            go true is =
                let to = led (other_than_end line last_line is refl) less in
                let long : lead counted t ≤ length (part ++ line ∷ []) = omega (arith, h, one_more) in
                (is_fault None e ∙ rw is refl, (counted, t, part ++ line ∷ [], to, begun_with lines line none, long, past_catalog c t e))
            go false is = is_fault None e ∙ rw is refl

    -- ---- the number of a table's rows

    pub count_agrees : (u : ℕ) → t ≡ u + 1 → counted ≡ true → length part ≡ 0 → Agrees (count counted c X u line) (first ∷ lines) line
    count_agrees u next is_counted none_yet = go (bytes_eq line (rows_line (length (rows_of X u)))) refl
      where
        two : lead counted t ≡ 2
        two = ap (λ (b : Bool). lead b t) is_counted ∙ ap (lead true) next ∙ lead_two u

        place : place_in (length c) counted t (length part) ≡ Count u
        place =
            let above : length part + 1 < lead counted t = omega (arith, two, none_yet) in
            let same : t - 1 ≡ u = omega (arith, next) in
            at_count (length c) counted t (length part) above ∙ ap Count same

        is_fault : line_fault A (first ∷ lines) line ≡ unless_it_is (rows_line (length (rows_of X u))) line
        is_fault = fault_is (Count u) place ∙ ap (λ (n : ℕ). unless_it_is (rows_line n) line) (sym (s.holds.lengths u))

        go : (b : Bool) → bytes_eq line (rows_line (length (rows_of X u))) ≡ b → Agrees (cond b (Ok (Before counted c X (u + 1))) (Err BadCopyFileFormat)) (first ∷ lines) line
        go true is =
            let less : length part < lead counted t = omega (arith, two, none_yet) in
            let to = led (other_than_end line (rows_line (length (rows_of X u))) is (rows_no_end (length (rows_of X u)))) less in
            let full : length (part ++ line ∷ []) + 1 ≡ lead counted t = omega (arith, two, none_yet, one_more) in
            let P : ℕ → Type 0 = λ n. (p : List (List ℕ)) × At counted c X first (lines ++ line ∷ []) n p × Begun (lines ++ line ∷ []) × (length p + 1 ≡ lead counted n) in
            (is_fault ∙ rw is refl, subst P next (part ++ line ∷ [], to, begun_with lines line none, full))
        go false is = is_fault ∙ rw is refl

    -- ---- a row, or the line after the rows

    row_there : (u : ℕ) (k : Value A) → is_some (row_at X u k) ≡ has_key (rows_of_table counted lines u) k
    row_there u k =
        key_found k (rows_of X u) ∙ ap (λ (rs : List (Row A)). has_key rs k) (s.holds.rows u) ∙ by_key_has k (rows_said (kinds_of c u) (row_lines counted lines u))
        ∙ ap (λ (d : Catalog). has_key (rows_said (kinds_of d u) (row_lines counted lines u)) k) (sym s.holds.catalog)

    abbrev earlier : ℕ → List (Row A)
    earlier = rows_of_table counted lines

    module _ (long : lead counted t ≤ length part) (within : t < length c) where
      at_row : line_fault A (first ∷ lines) line ≡ rows_fault c earlier t line
      at_row = fault_is (Rows t) (at_rows (length c) counted t (length part) long within) ∙ ap (λ (k : Catalog). rows_fault k earlier t line) s.holds.catalog

      -- a row that is taken
      put_in : (r : Row A) → row_of_line (kinds_of c t) line ≡ Ok r → bytes_eq line end_of_rows ≡ false → has_key (earlier t) r.0 ≡ false
          → At counted c (slice_set X t (put_row (rows_of X t) r)) first (lines ++ line ∷ []) t (part ++ line ∷ [])
      put_in r read other new = record {
        says = s.says;
        holds = record {
          catalog = same_catalog lines line none ∙ s.holds.catalog;
          count = simp length-set s.holds.count;
          rows = λ u. rows_at u (eqb_tells u t);
          lengths = λ u. lengths_at u (eqb_tells u t);
        };
        done = s.done;
        cut = cut;
        tables = s.tables;
      }
        where
          cut : parts (lines ++ line ∷ []) ≡ s.done ++ (part ++ line ∷ []) ∷ []
          cut = pushed lines line none s.done part s.cut other

          inside : t < length X
          inside = omega (arith, s.holds.count, within)

          -- a row line more in this table
          lines_here : row_lines counted (lines ++ line ∷ []) t ≡ row_lines counted lines t ++ line ∷ []
          lines_here = subst (λ (n : ℕ). row_lines counted (lines ++ line ∷ []) n ≡ row_lines counted lines n ++ line ∷ []) s.tables
              (rest_more (lead counted) (parts lines) (parts (lines ++ line ∷ [])) s.done part s.cut line cut (subst (λ (n : ℕ). lead counted n ≤ length part) (sym s.tables) long))

          lines_there : (u : ℕ) → u ≢ t → row_lines counted (lines ++ line ∷ []) u ≡ row_lines counted lines u
          lines_there u differ = rest_other (lead counted) (parts lines) (parts (lines ++ line ∷ [])) s.done part s.cut line cut u (λ e. differ (e ∙ s.tables))

          said_here : rows_said (kinds_of c t) (row_lines counted (lines ++ line ∷ []) t) ≡ rows_said (kinds_of c t) (row_lines counted lines t) ++ r ∷ []
          said_here =
              ap (rows_said (kinds_of c t)) lines_here ∙ filter_map-append (λ (l : List ℕ). found (row_of_line {A = A} (kinds_of c t) l)) (row_lines counted lines t) (line ∷ [])
              ∙ ap (λ (o : Result (Row A) Code). rows_said (kinds_of c t) (row_lines counted lines t) ++ filter_map (λ (q : Result (Row A) Code). found q) (o ∷ [])) read

          here : rows_of (slice_set X t (put_row (rows_of X t) r)) t ≡ put_row (rows_of X t) r
          here = get_or-set_same X t (put_row (rows_of X t) r) [] inside

          rows_here : rows_of (slice_set X t (put_row (rows_of X t) r)) t ≡ by_key (rows_said (kinds_of c t) (row_lines counted (lines ++ line ∷ []) t))
          rows_here =
              here ∙ ap (λ (rs : List (Row A)). put_row rs r) (s.holds.rows t) ∙ sym (by_key_more (rows_said (kinds_of c t) (row_lines counted lines t)) r) ∙ ap by_key (sym said_here)

          rows_there : (u : ℕ) → u ≢ t → rows_of (slice_set X t (put_row (rows_of X t) r)) u ≡ by_key (rows_said (kinds_of c u) (row_lines counted (lines ++ line ∷ []) u))
          rows_there u differ = get_or-set_other X t u (put_row (rows_of X t) r) [] differ ∙ s.holds.rows u ∙ ap (λ (ls : List (List ℕ)). by_key (rows_said (kinds_of c u) ls)) (sym (lines_there u differ))

          rows_at : (u : ℕ) → Told u t → rows_of (slice_set X t (put_row (rows_of X t) r)) u ≡ by_key (rows_said (kinds_of c u) (row_lines counted (lines ++ line ∷ []) u))
          rows_at u (inl p) = subst (λ (n : ℕ). rows_of (slice_set X t (put_row (rows_of X t) r)) n ≡ by_key (rows_said (kinds_of c n) (row_lines counted (lines ++ line ∷ []) n))) (sym p.1) rows_here
          rows_at u (inr p) = rows_there u p.1

          absent : has_key (rows_of X t) r.0 ≡ false
          absent = sym (key_found r.0 (rows_of X t)) ∙ row_there t r.0 ∙ new

          lengths_here : length (rows_of (slice_set X t (put_row (rows_of X t) r)) t) ≡ length (row_lines counted (lines ++ line ∷ []) t)
          lengths_here =
              ap length here ∙ put_length (rows_of X t) r absent ∙ ap (λ (n : ℕ). n + 1) (s.holds.lengths t) ∙ sym (length-append (row_lines counted lines t) (line ∷ [])) ∙ ap length (sym lines_here)

          lengths_at : (u : ℕ) → Told u t → length (rows_of (slice_set X t (put_row (rows_of X t) r)) u) ≡ length (row_lines counted (lines ++ line ∷ []) u)
          lengths_at u (inl p) = subst (λ (n : ℕ). length (rows_of (slice_set X t (put_row (rows_of X t) r)) n) ≡ length (row_lines counted (lines ++ line ∷ []) n)) (sym p.1) lengths_here
          lengths_at u (inr p) = ap length (get_or-set_other X t u (put_row (rows_of X t) r) [] p.1) ∙ s.holds.lengths u ∙ ap length (sym (lines_there u p.1))

      inserted_agrees : (r : Row A) (o : Option Code) → row_of_line (kinds_of c t) line ≡ Ok r → bytes_eq line end_of_rows ≡ false → inserting_fault c X t r ≡ o
          → Agrees (inserted c X t r >>= λ Y. Ok (Within counted c Y t)) (first ∷ lines) line
      inserted_agrees r o read other stands = go o stands
        where
          fits : fit_kinds (kinds_of c t) (cells r) ≡ true
          fits = row_fits {A = A} (kinds_of c t) line r read

          same_fault : inserting_fault c X t r ≡ row_fault c earlier t r
          same_fault = row_fault_is X earlier row_there c t r (of_their_kinds (columns_of c t) (cells r) fits) (without_zeros (kinds_of c t) (cells r) fits)

          is_fault : line_fault A (first ∷ lines) line ≡ inserting_fault c X t r
          is_fault = at_row ∙ rw (other, read) (sym same_fault)

          go : (p : Option Code) → inserting_fault c X t r ≡ p → Agrees (inserted c X t r >>= λ Y. Ok (Within counted c Y t)) (first ∷ lines) line
          go (Some code) is = rw is (is_fault ∙ is)
          go None is =
              let to = put_in r read other (new_key X earlier row_there c t r (sym same_fault ∙ is)) in
              let more : lead counted t ≤ length (part ++ line ∷ []) = omega (arith, one_more, long) in
              rw is (is_fault ∙ is, (part ++ line ∷ [], to, begun_with lines line none, more, within))

      pub row_agrees : Agrees (row counted c X t line) (first ∷ lines) line
      row_agrees = go (bytes_eq line end_of_rows) refl
        where
          ended_agrees : (b : Bool) → counted ≡ b → bytes_eq line end_of_rows ≡ true → IsAt (ended b c X t) (first ∷ lines ++ line ∷ [])
          ended_agrees true is e = subst (λ (b : Bool). IsAt (Behind b c X t) (first ∷ lines ++ line ∷ [])) is ([], ended_at e, begun_with lines line none, is, refl)
          ended_agrees false is e =
              let one : 1 ≡ lead counted (t + 1) = sym (ap (λ (b : Bool). lead b (t + 1)) is) in
              subst (λ (b : Bool). IsAt (Before b c X (t + 1)) (first ∷ lines ++ line ∷ [])) is ([], ended_at e, begun_with lines line none, one)

          by_row : (r : Result (Row A) Code) → row_of_line (kinds_of c t) line ≡ r → bytes_eq line end_of_rows ≡ false → Agrees ((r >>= λ x. inserted c X t x) >>= λ Y. Ok (Within counted c Y t)) (first ∷ lines) line
          by_row (Ok r) read other = inserted_agrees r (inserting_fault c X t r) read other refl
          by_row (Err code) read other = at_row ∙ rw (other, read) refl

          go : (b : Bool) → bytes_eq line end_of_rows ≡ b → Agrees (cond b (Ok (ended counted c X t)) (with_row c X t line >>= λ Y. Ok (Within counted c Y t))) (first ∷ lines) line
          go true is = (at_row ∙ rw is refl, ended_agrees counted refl is)
          go false is =
              subst (λ (r : Result (Tables A) Code). Agrees (r >>= λ Y. Ok (Within counted c Y t)) (first ∷ lines) line) (sym (with_row_is c X t line)) (by_row (row_of_line (kinds_of c t) line) refl is)

  -- nothing may follow the last line
  pub nothing_agrees : (counted : Bool) (c : Catalog) (X : Tables A) (first : List ℕ) (lines : List (List ℕ)) (t : ℕ) (part : List (List ℕ)) (s : At counted c X first lines t part) (line : List ℕ) → create_text (behind_creates lines) line ≡ None
      → lead counted t ≤ length part → length c ≤ t → line_fault A (first ∷ lines) line ≡ Some BadCopyFileFormat
  nothing_agrees counted c X first lines t part s line none long past = fault_is counted c X first lines t part s line none Nothing (at_nothing (length c) counted t (length part) long past)

-- ---- the first lines

module _ (counted : Bool) (lines : List (List ℕ)) (empty : behind_creates lines ≡ []) where
  one_part : parts lines ≡ [] ∷ []
  one_part = ap (slice_split (λ (l : List ℕ). bytes_eq l end_of_rows)) empty

  no_rows : (u : ℕ) → row_lines counted lines u ≡ []
  no_rows u =
      ap (λ (ps : List (List (List ℕ))). rest_of (lead counted) ps u) one_part ∙ ap (drop (lead counted u)) (at_end [] u ∙ get_or_past [] u [] (omega arith)) ∙ drop_all (lead counted u) [] (omega arith)

module _ (A : Type 0) where
  empty_rows : (c : Catalog) (u : ℕ) → rows_of {A = A} (empty_tables c) u ≡ []
  empty_rows [] u = get_or_past [] u [] (omega arith)
  empty_rows (d ∷ c) zero = refl
  empty_rows (d ∷ c) (suc u) = empty_rows c u

  module _ (counted : Bool) (c : Catalog) (first : List ℕ) (lines : List (List ℕ)) (says : version first ≡ Ok counted) (catalog : catalog_of lines ≡ c) (empty : behind_creates lines ≡ []) where
    pub start : At {A = A} counted c (empty_tables c) first lines 0 []
    start = record {
      says = says;
      holds = record {
        catalog = catalog;
        count = length-map c (λ d. []);
        rows = λ u. empty_rows c u ∙ sym (ap (λ (ls : List (List ℕ)). by_key (rows_said (kinds_of c u) ls)) (no_rows counted lines empty u));
        lengths = λ u. ap length (empty_rows c u) ∙ sym (ap length (no_rows counted lines empty u));
      };
      done = [];
      cut = one_part counted lines empty;
      tables = refl;
    }

    module _ (line : List ℕ) where
      text_fault : (o : Option (List ℕ)) → behind (codes "CREATE TABLE ") line ≡ o → line_fault A (first ∷ lines) line ≡ fault_behind A counted lines o line
      text_fault o is =
          ap (λ (b : Bool). fault_behind A b lines (create_text (behind_creates lines) line) line) (counts_is first counted says)
          ∙ ap (λ (xs : List (List ℕ)). fault_behind A counted lines (create_text xs line) line) empty ∙ ap (λ (p : Option (List ℕ)). fault_behind A counted lines p line) is

      created_agrees : (text : List ℕ) → behind (codes "CREATE TABLE ") line ≡ Some text → (r : Result Catalog Code) → with_table c text ≡ r → Agrees {A = A} (r >>= λ d. Ok (Created counted d)) (first ∷ lines) line
      created_agrees text at (Err code) is = text_fault (Some text) at ∙ ap (λ (k : Catalog). refused (with_table k text)) catalog ∙ ap refused is
      created_agrees text at (Ok d) is =
          let one : catalog_of (lines ++ line ∷ []) ≡ d =
          catalog_more lines line text empty at ∙ ap (λ (k : Catalog). taken_up k text) catalog ∙ ap (λ (r : Result Catalog Code). option_map_or (λ e. e) (found r) c) is in
          (text_fault (Some text) at ∙ ap (λ (k : Catalog). refused (with_table k text)) catalog ∙ ap refused is, (says, one, (more_text lines line text empty at).1))

      begins : (o : Option (List ℕ)) → behind (codes "CREATE TABLE ") line ≡ o → Agrees {A = A} (creates counted c o line) (first ∷ lines) line
      begins (Some text) is = created_agrees text is (with_table c text) refl
      begins None is =
          let none : create_text (behind_creates lines) line ≡ None = ap (λ (xs : List (List ℕ)). create_text xs line) empty ∙ is in
          copies_agree counted c (empty_tables c) first lines 0 [] start line none (slice_get c 0) refl (sym (lead_zero counted))

  first_agrees : (line : List ℕ) (r : Result Bool Code) → version line ≡ r → Agrees {A = A} (r >>= λ counted. Ok (Created counted [])) [] line
  first_agrees line (Ok counted) is = (ap refused is, (is, refl, refl))
  first_agrees line (Err code) is = ap refused is

module _ {A : Type 0} where
  -- each line is a step where it has no fault
  pub stepped : (p : Progress A) (before : List (List ℕ)) (line : List ℕ) → IsAt p before → Agrees (step p line) before line
  unfolding step
  stepped Start [] line at = first_agrees A line (version line) refl
  stepped Start (first ∷ lines) line at = absurd at
  stepped (Created counted c) [] line at = absurd at
  stepped (Created counted c) (first ∷ lines) line at = begins A counted c first lines at.0 at.1 at.2 line (behind (codes "CREATE TABLE ") line) refl
  stepped (Before counted c X t) [] line at = absurd at
  stepped (Before counted c X t) (first ∷ lines) line at = copies_agree counted c X first lines t at.0 at.1 line (at.2 line) (slice_get c t) refl at.3
  stepped (Within counted c X t) [] line at = absurd at
  stepped (Within counted c X t) (first ∷ lines) line at = row_agrees counted c X first lines t at.0 at.1 line (at.2 line) at.3 at.4
  stepped (Behind counted c X t) [] line at = absurd at
  stepped (Behind counted c X t) (first ∷ lines) line at = count_agrees counted c X first lines (t + 1) at.0 at.1 line (at.2 line) t refl at.3 at.4
  stepped (Whole c X) [] line at = absurd at
  stepped (Whole c X) (first ∷ lines) line at = nothing_agrees at.0 c X first lines at.1 at.2 at.3 line (at.4 line) at.5 at.6
