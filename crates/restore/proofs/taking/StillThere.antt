-- Rows that are there stay there while others are put in, and not-false do references that were found.
use Rattle.std.proofs.Common.{◌≡◌, ℕ, ◌<◌, ◌≤◌, Bool, true, false, cond, not, ◌&&◌, ◌⊎◌, inl, inr, List, [], ◌∷◌, length, Option, Some, None, is_some, slice_set, Result, Ok, Err, refl, ap, sym, subst, ◌∙◌}
use Rattle.std.specs.List.{list_any}
use Rattle.std.proofs.lemmas.Bool.{and_parts, not-false, not-true, or_parts, or_from}
use Rattle.value.specs.declared.refusal.Code.{Code}
use Rattle.value.specs.declared.value.Value.{Value}
use Rattle.value.specs.Order.{value_cmp}
use Rattle.value.proofs.Basics.{cases_le}
use Rattle.schema.specs.Definition.{Column, Catalog}
use Rattle.schema.specs.declared.changes.Change.{Change}
use Rattle.schema.specs.declared.row.Row.{Row}
use Rattle.schema.specs.declared.tables.Tables.{Tables}
use Rattle.schema.specs.Inserting.{dangles, lacks_value, inserting_fault, inserted}
use Rattle.schema.specs.Plain.{cells, rows_of, row_at, is_there, put_in}
use Rattle.schema.specs.Rows.{put_row}
use Rattle.schema.proofs.InsertingLemmas.{put_changed}
use Rattle.schema.proofs.PlainLemmas.{row_at-put_in, rows_of-past, touches}
use Rattle.schema.proofs.SoundLemmas.{there_still}
use Rattle.std.specs.Ordering.{is_lt}
use Rattle.restore.specs.declared.error.LineError.{LineError}
use Rattle.restore.specs.declared.rows.ReadPiece.{ReadPiece}
use Rattle.restore.specs.Rows.{is_free, rise_from, rise, AreStillThere, AreKnown, MayRise}
use Rattle.restore.proofs.taking.Behind.{none_dangles}
use Rattle.restore.proofs.stepwise.Reading.{done_same}

swap : (a b c : Bool) → (a ≡ true → b ≡ true) → (a && c) ≡ true → (b && c) ≡ true
swap true true c f h = h
swap true false c f h = absurd (let e = f refl in cc)
swap false b c f h = absurd cc

module _ {A : Type 0} where
  pub still-same : (X : Tables A) → AreStillThere X X
  still-same X = λ t key h. h

  pub still-on : (X Y Z : Tables A) → AreStillThere X Y → AreStillThere Y Z → AreStillThere X Z
  still-on X Y Z f g = λ t key h. g t key (f t key h)

  -- ---- a row that is put in

  is_put : (X : Tables A) (t : ℕ) (row : Row A) → slice_set X t (put_row (rows_of X t) row) ≡ put_in (record { table = t; key = row.0; fields = Some row.1 }) X
  is_put X t row = ap (slice_set X t) (put_changed {U = Unit {0}} {E = Unit {0}} (Ok tt) (rows_of X t) (put_row (rows_of X t) row) row row.0 row.1 (Some row.1) refl refl refl)

  pub still-put : (X : Tables A) (t : ℕ) (row : Row A) → AreStillThere X (slice_set X t (put_row (rows_of X t) row))
  still-put X t row = λ u key h. subst (λ (Y : Tables A). is_some (row_at Y u key) ≡ true) (sym (is_put X t row)) (go u key h (cases_le (length X) u))
    where
      x : Change A
      x = record { table = t; key = row.0; fields = Some row.1 }

      go : (u : ℕ) (key : Value A) → is_some (row_at X u key) ≡ true → (length X ≤ u) ⊎ (u < length X) → is_some (row_at (put_in x X) u key) ≡ true
      go u key h (inl past) = absurd (let none = rw (rows_of-past X u past) at h in cc)
      go u key h (inr within) = ap is_some (row_at-put_in x X u key within) ∙ by (touches u key x)
        where
          by : (b : Bool) → is_some (cond b (Some row.1) (row_at X u key)) ≡ true
          by true = refl
          by false = h

  pub still-inserted : (c : Catalog) (X Y : Tables A) (t : ℕ) (row : Row A) → inserted c X t row ≡ Ok Y → AreStillThere X Y
  still-inserted c X Y t row h = go (inserting_fault c X t row) refl
    where
      go : (o : Option Code) → inserting_fault c X t row ≡ o → AreStillThere X Y
      go (Some code) is = absurd (let e = rw is at h in cc)
      go None is = subst (AreStillThere X) (done_same {E = Code} (slice_set X t (put_row (rows_of X t) row)) Y (rw is at h)) (still-put X t row)

  -- ---- references that were found

  still_dangles : (X Y : Tables A) (ds : List Column) (vs : List (Value A)) → AreStillThere X Y → dangles X ds vs ≡ false → dangles Y ds vs ≡ false
  still_dangles X Y [] [] f h = refl
  still_dangles X Y [] (v ∷ vs) f h = refl
  still_dangles X Y (d ∷ ds) [] f h = refl
  still_dangles X Y (d ∷ ds) (v ∷ vs) f h =
      let p = or_parts (not (is_there X d v)) (dangles X ds vs) h in
      let there : is_there Y d v ≡ true = there_still X Y d v (λ u. f u v) (not-false (is_there X d v) p.0) in
      or_from (not (is_there Y d v)) (dangles Y ds vs) (ap not there) (still_dangles X Y ds vs f p.1)

  -- what is free with references looked up somewhere is not-false with these looked up elsewhere
  abbrev pub IsFreeToo : Option (Tables A) → Option (Tables A) → List Column → Type 0
  IsFreeToo known K ds = (row : Row A) → is_free known ds row ≡ true → is_free K ds row ≡ true

  pub free-still : (X Y : Tables A) (ds : List Column) → AreStillThere X Y → IsFreeToo (Some X) (Some Y) ds
  free-still X Y ds f row h = swap (not (dangles X ds (cells row))) (not (dangles Y ds (cells row))) (not (lacks_value ds (cells row))) (λ e. ap not (still_dangles X Y ds (cells row) f (not-true (dangles X ds (cells row)) e))) h

  pub free-nowhere : (Y : Tables A) (ds : List Column) → IsFreeToo None (Some Y) ds
  free-nowhere Y ds row h =
      swap (not (list_any (λ d. is_some d.references) ds)) (not (dangles Y ds (cells row))) (not (lacks_value ds (cells row)))
      (λ e. ap not (none_dangles Y ds (cells row) (not-true (list_any (λ d. is_some d.references) ds) e))) h

  pub rise_from-too : (known K : Option (Tables A)) (ds : List Column) (key : Value A) (rows : List (Result (Row A) LineError)) → IsFreeToo known K ds → rise_from known ds key rows ≡ true → rise_from K ds key rows ≡ true
  rise_from-too known K ds key [] f h = refl
  rise_from-too known K ds key (Err e ∷ rows) f h = absurd cc
  rise_from-too known K ds key (Ok row ∷ rows) f h =
      let p = and_parts (is_lt (value_cmp key row.0) && is_free known ds row) (rise_from known ds row.0 rows) h in
      let q = and_parts (is_lt (value_cmp key row.0)) (is_free known ds row) p.0 in
      rw (q.0, f row q.1) (rise_from-too known K ds row.0 rows f p.1)

  pub rise-too : (known K : Option (Tables A)) (ds : List Column) (rows : List (Result (Row A) LineError)) → IsFreeToo known K ds → rise known ds rows ≡ true → rise K ds rows ≡ true
  rise-too known K ds [] f h = absurd cc
  rise-too known K ds (Err e ∷ rows) f h = absurd cc
  rise-too known K ds (Ok row ∷ rows) f h =
      let p = and_parts (is_free known ds row) (rise_from known ds row.0 rows) h in
      rw (f row p.0) (rise_from-too known K ds row.0 rows f p.1)

module _ {A E : Type 0} where
  -- pieces of which it is known whether they rise
  pub may_rise : (known : Option (Tables A)) (Y : Tables A) (ds : List Column) (pieces : List (Result (ReadPiece A) E)) → IsFreeToo known (Some Y) ds → AreKnown known ds pieces → MayRise Y ds pieces
  may_rise known Y ds [] f h = tt
  may_rise known Y ds (Ok piece ∷ pieces) f h = ((λ rises. rise-too known (Some Y) ds piece.rows.items f (sym h.0 ∙ rises)), may_rise known Y ds pieces f h.1)
  may_rise known Y ds (Err e ∷ pieces) f h = (tt, may_rise known Y ds pieces f h.1)

  -- pieces that may rise may still
  pub may_still : (X Y : Tables A) (ds : List Column) (pieces : List (Result (ReadPiece A) E)) → AreStillThere X Y → MayRise X ds pieces → MayRise Y ds pieces
  may_still X Y ds [] f h = tt
  may_still X Y ds (Ok piece ∷ pieces) f h = ((λ rises. rise-too (Some X) (Some Y) ds piece.rows.items (free-still X Y ds f) (h.0 rises)), may_still X Y ds pieces f h.1)
  may_still X Y ds (Err e ∷ pieces) f h = (tt, may_still X Y ds pieces f h.1)

  pub may_first : (X : Tables A) (ds : List Column) (left rest : List (Result (ReadPiece A) E)) (piece : ReadPiece A) → left ≡ Ok piece ∷ rest → MayRise X ds left → piece.rise ≡ true → rise (Some X) ds piece.rows.items ≡ true
  may_first X ds left rest piece e h = (subst (MayRise X ds) e h).0

  pub may_rest : (X : Tables A) (ds : List Column) (left rest : List (Result (ReadPiece A) E)) (piece : ReadPiece A) → left ≡ Ok piece ∷ rest → MayRise X ds left → MayRise X ds rest
  may_rest X ds left rest piece e h = (subst (MayRise X ds) e h).1
