-- A dump read line by line is what its lines say.
use Rattle.std.proofs.Common.{◌≡◌, ℕ, ◌+◌, ◌-◌, ◌==◌, ◌<◌, ◌≤◌, ◌⊎◌, inl, inr, Bool, true, false, List, [], ◌∷◌, ◌++◌, length, take, Option, None, Result, Ok, Err, refl, ap, sym, ◌∙◌, arith, length-append, append_assoc}
use Rattle.std.proofs.Math.Seq.{take-append_seam}
use Rattle.std.proofs.lemmas.List.{ext_get_or}
use Rattle.std.proofs.lemmas.List.FromFn.{get_or-map-range_with_len, length-map-range_with_len}
use Rattle.value.specs.declared.refusal.Code.{Code}
use Rattle.value.specs.declared.refusal.Code.TheVariants.{BadCopyFileFormat}
use Rattle.schema.specs.Definition.{Catalog}
use Rattle.schema.specs.Inserting.{empty_tables}
use Rattle.schema.specs.declared.tables.Tables.{Tables}
use Rattle.restore.specs.declared.error.RestoreFault.{RestoreFault}
use Rattle.restore.specs.Faults.{is_nothing, are_whole, end_fault, line_fault, first_of, first_fault}
use Rattle.restore.specs.Layout.{version, kinds_of, catalog_of, lead, row_lines, rows_said, rows_of_table, by_key, tables_of, Place, Count, Copy, Rows, Nothing, place_behind}
use Rattle.restore.specs.Progress.{Progress, Start, Created, Before, Within, Behind, Whole, step, whole, after, read_lines, read_in_steps}
use Rattle.restore.specs.Reading.{said_by, unless_faulty, read_dump}
use Rattle.restore.specs.Steps.{Stops, fault, no_memory, restore_fault}
use Rattle.restore.specs.declared.error.ReadError.{ReadError}
use Rattle.restore.specs.declared.error.ReadError.TheVariants as read
use Rattle.restore.proofs.faults.Answer.{Holds, At, IsAt, Agrees, counts_is, place_of, start, lead_zero, stepped}
use Rattle.restore.proofs.faults.Layout.{first_part}
use Rattle.restore.proofs.faults.Place.{lead_two, at_copy, at_count, at_rows, at_nothing, one_less}
use Rattle.restore.proofs.stepwise.Reading.{more_lines}

all_but_last : (before all : List (List ℕ)) (last : List ℕ) → all ≡ before ++ last ∷ [] → take (length all - 1) all ≡ before
all_but_last before all last is = rw is (ap (λ (n : ℕ). take n (before ++ last ∷ [])) (one_less before last) ∙ take-append_seam before (last ∷ []))

-- ---- where the lines end

ends_at : (counted : Bool) (first : List ℕ) (lines : List (List ℕ)) (place : Place) → version first ≡ Ok counted → place_behind counted lines ≡ place → are_whole (first ∷ lines) ≡ is_nothing place
ends_at counted first lines place says at = ap (λ (b : Bool). is_nothing (place_behind b lines)) (counts_is first counted says) ∙ ap is_nothing at

module _ {A : Type 0} where
  abbrev answer : ℕ → List (List ℕ) → Result (Catalog × Tables A) RestoreFault
  answer n before = unless_faulty (first_of n (end_fault before []) None) (said_by before)

  in_part : (n : ℕ) (before : List (List ℕ)) → are_whole before ≡ false → answer n before ≡ Err (fault n BadCopyFileFormat)
  in_part n before h = rw h refl

  tables_are : (counted : Bool) (c : Catalog) (X : Tables A) (lines : List (List ℕ)) → Holds counted c X lines → tables_of counted lines ≡ X
  tables_are counted c X lines h =
      let count : length (tables_of {A = A} counted lines) ≡ length (catalog_of lines) = length-map-range_with_len (λ (t : ℕ). by_key (rows_of_table {A = A} counted lines t)) 0 (length (catalog_of lines)) in
      let tables : length (catalog_of lines) ≡ length X = ap length h.catalog ∙ sym h.count in
      ext_get_or [] (tables_of counted lines) X (count ∙ tables) (λ i less.
      get_or-map-range_with_len (λ (t : ℕ). by_key (rows_of_table {A = A} counted lines t)) 0 (length (catalog_of lines)) i i [] (omega (arith, less, count)) (omega arith)
      ∙ ap (λ (d : Catalog). by_key (rows_said {A = A} (kinds_of d i) (row_lines counted lines i))) h.catalog ∙ sym (h.rows i))

  abbrev pub told : Catalog × Tables A → Result (Catalog × Tables A) RestoreFault
  told x = Ok x

  abbrev pub stopped : RestoreFault → Result (Catalog × Tables A) RestoreFault
  stopped f = Err f

  abbrev read_as : Catalog → Tables A → Result (Catalog × Tables A) RestoreFault
  read_as c X = Ok (c, X)

  all_come : (n : ℕ) (counted : Bool) (c : Catalog) (X : Tables A) (first : List ℕ) (lines : List (List ℕ)) (t : ℕ) (part : List (List ℕ)) (s : At counted c X first lines t part) → lead counted t ≤ length part → length c ≤ t → answer n (first ∷ lines) ≡ read_as c X
  all_come n counted c X first lines t part s long past =
      let over : are_whole (first ∷ lines) ≡ true =
      ends_at counted first lines Nothing s.says (place_of counted c X first lines t part s ∙ at_nothing (length c) counted t (length part) long past) in
      let none : answer n (first ∷ lines) ≡ Ok (said_by (first ∷ lines)) = rw over refl in
      none ∙ ap (λ (b : Bool). read_as (catalog_of lines) (tables_of b lines)) (counts_is first counted s.says)
      ∙ ap (λ (X : Tables A). read_as (catalog_of lines) X) (tables_are counted c X lines s.holds) ∙ ap (λ (d : Catalog). read_as d X) s.holds.catalog

  end_agrees : (n : ℕ) (p : Progress A) (before : List (List ℕ)) → IsAt p before → whole n p ≡ answer n before
  end_agrees n Start [] at = refl
  end_agrees n Start (first ∷ lines) at = absurd at
  end_agrees n (Created counted c) [] at = absurd at
  end_agrees n (Created counted c) (first ∷ lines) at =
      let s = start A counted c first lines at.0 at.1 at.2 in
      sym (in_part n (first ∷ lines) (ends_at counted first lines (Copy 0) at.0 (place_of counted c (empty_tables c) first lines 0 [] s ∙ at_copy (length c) counted 0 0 (sym (lead_zero counted)))))
  end_agrees n (Before counted c X t) [] at = absurd at
  end_agrees n (Before counted c X t) (first ∷ lines) at =
      sym (in_part n (first ∷ lines) (ends_at counted first lines (Copy t) at.1.says (place_of counted c X first lines t at.0 at.1 ∙ at_copy (length c) counted t (length at.0) at.3)))
  end_agrees n (Within counted c X t) [] at = absurd at
  end_agrees n (Within counted c X t) (first ∷ lines) at =
      sym (in_part n (first ∷ lines) (ends_at counted first lines (Rows t) at.1.says (place_of counted c X first lines t at.0 at.1 ∙ at_rows (length c) counted t (length at.0) at.3 at.4)))
  end_agrees n (Behind counted c X t) [] at = absurd at
  end_agrees n (Behind counted c X t) (first ∷ lines) at =
      let two : lead counted (t + 1) ≡ 2 = ap (λ (b : Bool). lead b (t + 1)) at.3 ∙ lead_two t in
      let above : length at.0 + 1 < lead counted (t + 1) = omega (arith, two, at.4) in
      sym (in_part n (first ∷ lines) (ends_at counted first lines (Count (t + 1 - 1)) at.1.says (place_of counted c X first lines (t + 1) at.0 at.1 ∙ at_count (length c) counted (t + 1) (length at.0) above)))
  end_agrees n (Whole c X) [] at = absurd at
  end_agrees n (Whole c X) (first ∷ lines) at = sym (all_come n at.0 c X first lines at.1 at.2 at.3 at.5 at.6)

  -- ---- all lines

  lines_agree : (n : ℕ) (p : Progress A) (before : List (List ℕ)) (line : List ℕ) (lines all : List (List ℕ)) → n ≡ length before + 1 → IsAt p before → all ≡ before ++ line ∷ lines
      → read_lines n p (line ∷ lines) ≡ unless_faulty (first_fault A before (line ∷ lines)) (said_by (take (length all - 1) all))
  unfolding read_lines
  lines_agree n p before [] [] all number at is =
      end_agrees n p before at ∙ ap (λ (m : ℕ). unless_faulty (first_of m (end_fault before []) None) (said_by before)) number
      ∙ ap (λ (ls : List (List ℕ)). unless_faulty (first_of (length before + 1) (end_fault before []) None) (said_by ls)) (sym (all_but_last before all [] is))
  lines_agree n p before (b ∷ text) [] all number at is = ap (λ (m : ℕ). Err (fault m BadCopyFileFormat)) number
  lines_agree n p before line (next ∷ lines) all number at is =
      more_lines n p line (next ∷ lines) (λ e. absurd cc)
      ∙ go (step p line) (stepped p before line at) (λ q h.
      lines_agree (n + 1) q (before ++ line ∷ []) next lines all (ap (λ (m : ℕ). m + 1) (number ∙ sym (length-append before (line ∷ [])))) h (is ∙ sym (append_assoc before (line ∷ []) (next ∷ lines))))
    where
      later : Option RestoreFault
      later = first_fault A (before ++ line ∷ []) (next ∷ lines)

      said : Catalog × Tables A
      said = said_by (take (length all - 1) all)

      go : (r : Result (Progress A) Code) → Agrees r before line → ((q : Progress A) → IsAt q (before ++ line ∷ []) → read_lines (n + 1) q (next ∷ lines) ≡ unless_faulty later said)
          → after n r (λ more. read_lines (n + 1) more (next ∷ lines)) ≡ unless_faulty (first_of (length before + 1) (line_fault A before line) later) said
      go (Err code) agrees rest = rw agrees (ap (λ (m : ℕ). Err (fault m code)) number)
      go (Ok q) agrees rest = rw agrees.0 (rest q agrees.1)

  pub dump_agrees : (dump : List ℕ) → read_in_steps {A = A} dump ≡ read_dump dump
  dump_agrees dump =
      let p = first_part (λ (b : ℕ). b == 10) dump in
      ap (read_lines 1 Start) p.2 ∙ lines_agree 1 Start [] p.0 p.1 (p.0 ∷ p.1) refl tt refl
      ∙ sym (ap (λ (ls : List (List ℕ)). unless_faulty (first_fault A [] ls) (said_by (take (length ls - 1) ls))) p.2)

  -- what was read is what is answered
  pub answers_read : (dump : List ℕ) (x : Catalog × Tables A) → read_in_steps dump ≡ Ok x → (told x ≡ read_dump dump) ⊎ (told x ≡ Err no_memory)
  answers_read dump x h = inl (sym h ∙ dump_agrees dump)

  -- and what stopped it
  pub answers_stopped : (dump : List ℕ) (e : ReadError) (f : RestoreFault) → Stops e (read_in_steps {A = A} dump) → f ≡ restore_fault e → (stopped f ≡ read_dump dump) ⊎ (stopped f ≡ Err no_memory)
  answers_stopped dump read.Memory f h is = inr (ap stopped is)
  answers_stopped dump (read.Faulty g) f h is = inl (ap stopped is ∙ sym h ∙ dump_agrees dump)
