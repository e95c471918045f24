-- The rows that a SELECT of a legal history shows have fields of the kinds that it names.
use Rattle.std.proofs.Common.{◌≡◌, ℕ, zero, suc, ◌<◌, Bool, true, false, true≢false, cond, not, ◌&&◌, List, [], ◌∷◌, length, get_or, map, Option, Some, None, is_some, refl, sym, ap, subst, ◌∙◌}
use Rattle.std.specs.Prelude.{nat_lt, pos, slice_get}
use Rattle.std.specs.List.{cons_option, filter, list_all}
use Rattle.std.specs.Option.{option_map, option_map_or}
use Rattle.std.proofs.lemmas.Bool.{and_from, and_parts, ltb-true}
use Rattle.value.specs.declared.refusal.Code.TheVariants as code
use Rattle.value.specs.declared.refusal.Refusal.{Refusal}
use Rattle.value.specs.declared.value.Value.{Value}
use Rattle.value.specs.declared.value.Value.TheVariants.{Null, Int}
use Rattle.schema.specs.Definition.{Catalog, Column, columns_of}
use Rattle.schema.specs.declared.row.Row.{Row}
use Rattle.schema.specs.declared.tables.Tables.{Tables}
use Rattle.schema.specs.Plain.{cells, field, has_kind, in_range, is_null, is_sound, row_at, rows_of}
use Rattle.statement.specs.Conditions.{chosen, satisfies}
use Rattle.statement.specs.Evaluation.{assigned_lacks_row, assigned_lacks_value, assigned_out_of_range, at_column, at_table, first_bad, lacks_row, lacks_value, least_column, least_table, outcome, puts, removes, shown, updated_row, writes, writes_rows, ◌or_else◌}
use Rattle.statement.specs.Fits.{Fits, column_passes, condition_fits, has_table, literals_fit, projection_fits, takes}
use Rattle.statement.specs.Walk.{is_row_of}
use Rattle.statement.specs.declared.condition.Condition.{Condition}
use Rattle.statement.specs.declared.outcome.Outcome.{Outcome}
use Rattle.statement.specs.declared.reply.Reply.{Reply}
use Rattle.statement.specs.declared.reply.Reply.TheVariants as reply
use Rattle.statement.specs.declared.statement.Projection.{Projection}
use Rattle.statement.specs.declared.statement.Projection.TheVariants as projection
use Rattle.statement.specs.declared.statement.Statement.{Statement}
use Rattle.statement.specs.declared.statement.Statement.TheVariants.{Select, Insert, Update, Delete}
use Rattle.statement.proofs.HeldLemmas.{held_sound, held_table}
use Rattle.history.specs.Answer.{evaluated, is_refused, meets_another, of_cause, refuses, refuses_row, reply_from, reply_of, run_reply}
use Rattle.history.specs.Transactions.{Aborted, Done, Doomed, Failed, Open, Standing, Txn, World, current, is_read_write, must_wait}
use Rattle.history.specs.declared.event.Action.TheVariants.{Run}
use Rattle.copytext.specs.RoundTrip.{fit_kinds}
use Rattle.transcript.specs.Reading.{kinds_named, kinds_shown}
use Rattle.recording.specs.Runs.{is_small, is_small_row}
use Rattle.recording.proofs.ReadingLemmas.{AreShown}
use Rattle.recording.proofs.TurnLemmas.{are_rows}

module _ {A : Type 0} where
  abbrev rows_in : Reply A → List (List (Value A))
  rows_in (reply.Rows rows) = rows
  rows_in _ = []

  -- ---- rows are shown by a SELECT alone

  no_rows : (o p q : Option Refusal) (x : Outcome A) → are_rows x.reply ≡ false → are_rows (o or_else p or_else q or_else x).reply ≡ false
  no_rows (Some r) p q x e = refl
  no_rows None (Some r) q x e = refl
  no_rows None None (Some r) x e = refl
  no_rows None None None x e = e

  -- the statement is a SELECT, and these are its rows
  pub record Selects (c : Catalog) (q : Statement A) (X : Tables A) (rows : List (List (Value A))) : Type 0 where
    pub table : ℕ
    pub projection : Projection A
    pub conditions : List (Condition A)
    pub is : q ≡ Select table projection conditions
    pub shows : rows ≡ shown projection (chosen X table conditions)

  none_shown : (c : Catalog) (q : Statement A) (X : Tables A) (rows : List (List (Value A))) → are_rows (outcome c q X).reply ≡ false → (outcome c q X).reply ≡ reply.Rows rows → Selects c q X rows
  none_shown c q X rows h e = absurd (true≢false (sym (ap are_rows e) ∙ h))

  selects : (c : Catalog) (q : Statement A) (X : Tables A) (rows : List (List (Value A))) → (outcome c q X).reply ≡ reply.Rows rows → Selects c q X rows
  selects c (Select t p ws) X rows e = record { table = t; projection = p; conditions = ws; is = refl; shows = sym (ap rows_in e) }
  selects c (Insert t []) X rows e = none_shown c (Insert t []) X rows refl e
  selects c (Insert t (k ∷ fields)) X rows e = none_shown c (Insert t (k ∷ fields)) X rows (no_rows
      (at_column code.NotNullViolation (least_column lacks_value 0 (columns_of c t) (k ∷ fields)))
      (at_column code.UniqueViolation (cond (is_some (row_at X t k)) (Some 0) None))
      (at_column code.ForeignKeyViolation (least_column (lacks_row X) 0 (columns_of c t) (k ∷ fields)))
      (writes_rows c X reply.Inserted (puts t (k, fields) ∷ [])) refl) e
  selects c (Update t more ws) X rows e = none_shown c (Update t more ws) X rows (no_rows
      (at_column code.NotNullViolation (first_bad (assigned_lacks_value more) (columns_of c t) (map (updated_row more) (chosen X t ws))))
      (at_column code.NumericValueOutOfRange (first_bad (assigned_out_of_range more) (columns_of c t) (map (updated_row more) (chosen X t ws))))
      (at_column code.ForeignKeyViolation (first_bad (assigned_lacks_row X more) (columns_of c t) (map (updated_row more) (chosen X t ws))))
      (writes_rows c X (reply.Updated (length (chosen X t ws))) (map (λ row. puts t (updated_row more row)) (chosen X t ws))) refl) e
  selects c (Delete t ws) X rows e = none_shown c (Delete t ws) X rows (no_rows
      None None
      (at_table code.ForeignKeyViolation (least_table t (chosen X t ws) 0 c X))
      (writes_rows c X (reply.Deleted (length (chosen X t ws))) (map (removes t) (chosen X t ws))) refl) e

  -- ---- of an open transaction

  -- a refusal has no rows
  refused_rows : (r : Reply A) (rows : List (List (Value A))) → are_rows r ≡ false → r ≡ reply.Rows rows → ⊥
  refused_rows r rows h e = true≢false (sym (ap are_rows e) ∙ h)

  ran_rows : (w : World A) (t : Txn A) (q : Statement A) (rows : List (List (Value A))) → run_reply w t q ≡ reply.Rows rows → (outcome w.catalog q t.own).reply ≡ reply.Rows rows
  ran_rows w t q rows e = first (must_wait t) e
    where
      o : Outcome A
      o = outcome w.catalog q t.own

      fourth : (b : Bool) → cond b refuses_row o.reply ≡ reply.Rows rows → o.reply ≡ reply.Rows rows
      fourth true f = absurd (refused_rows refuses_row rows refl f)
      fourth false f = f

      third : (b : Bool) → cond b o.reply (cond (meets_another w t o.changes) refuses_row o.reply) ≡ reply.Rows rows → o.reply ≡ reply.Rows rows
      third true f = f
      third false f = fourth (meets_another w t o.changes) f

      second : (b : Bool) → cond b (refuses code.ReadOnlySqlTransaction) (evaluated w t o) ≡ reply.Rows rows → o.reply ≡ reply.Rows rows
      second true f = absurd (refused_rows (refuses code.ReadOnlySqlTransaction) rows refl f)
      second false f = third (is_refused o.reply) f

      first : (b : Bool) → cond b (refuses code.ObjectNotInPrerequisiteState) (cond (writes q && not (is_read_write t.mode)) (refuses code.ReadOnlySqlTransaction) (evaluated w t o)) ≡ reply.Rows rows → o.reply ≡ reply.Rows rows
      first true f = absurd (refused_rows (refuses code.ObjectNotInPrerequisiteState) rows refl f)
      first false f = second (writes q && not (is_read_write t.mode)) f

  by_standing : (w : World A) (t : Txn A) (q : Statement A) (rows : List (List (Value A))) (st : Standing) → reply_from st w t (Run q) ≡ reply.Rows rows → (outcome w.catalog q t.own).reply ≡ reply.Rows rows
  by_standing w t q rows Open e = ran_rows w t q rows e
  by_standing w t q rows (Doomed c) e = absurd (refused_rows (reply.Refused (of_cause c)) rows refl e)
  by_standing w t q rows Failed e = absurd (refused_rows (refuses code.InFailedSqlTransaction) rows refl e)
  by_standing w t q rows Aborted e = absurd (refused_rows (refuses code.NoActiveSqlTransaction) rows refl e)
  by_standing w t q rows Done e = absurd (refused_rows (refuses code.NoActiveSqlTransaction) rows refl e)

  pub shown_by : (w : World A) (s : ℕ) (q : Statement A) (rows : List (List (Value A))) (o : Option (Txn A)) → current w s ≡ o → reply_of w o (Run q) ≡ reply.Rows rows
      → (t : Txn A) × (current w s ≡ Some t) × Selects w.catalog q t.own rows
  shown_by w s q rows None c e = absurd (refused_rows (refuses code.NoActiveSqlTransaction) rows refl e)
  shown_by w s q rows (Some t) c e = (t, c, selects w.catalog q t.own rows (by_standing w t q rows t.standing e))

  -- ---- kinds

  kinds_of_all : (ds : List Column) (vs : List (Value A)) → literals_fit ds vs ≡ true → fit_kinds (map (λ d. d.kind) ds) vs ≡ true
  kinds_of_all [] [] h = refl
  kinds_of_all [] (v ∷ vs) h = absurd (true≢false (sym h))
  kinds_of_all (d ∷ ds) [] h = absurd (true≢false (sym h))
  kinds_of_all (d ∷ ds) (v ∷ vs) h =
      let p = and_parts (takes v d) (literals_fit ds vs) h in
      and_from (has_kind d.kind v) (fit_kinds (map (λ e. e.kind) ds) vs) p.0 (kinds_of_all ds vs p.1)

  kind_there : (ds : List Column) (vs : List (Value A)) (n : ℕ) (d : Column) → literals_fit ds vs ≡ true → slice_get ds n ≡ Some d → has_kind d.kind (get_or vs n Null) ≡ true
  kind_there [] vs n d h e = absurd cc
  kind_there (b ∷ ds) [] n d h e = absurd (true≢false (sym h))
  kind_there (b ∷ ds) (v ∷ vs) zero d h e = let same : b ≡ d = cc in subst (λ x. has_kind x.kind v ≡ true) same (and_parts (takes v b) (literals_fit ds vs) h).0
  kind_there (b ∷ ds) (v ∷ vs) (suc n) d h e = kind_there ds vs n d (and_parts (takes v b) (literals_fit ds vs) h).1 e

  kinds_of_named : (ds : List Column) (row : Row A) (ns : List ℕ) → literals_fit ds (cells row) ≡ true → list_all (column_passes (λ d. true) ds) ns ≡ true → fit_kinds (kinds_named ds ns) (map (field row) ns) ≡ true
  kinds_of_named ds row [] h k = refl
  kinds_of_named ds row (n ∷ ns) h k =
      let p = and_parts (column_passes (λ d. true) ds n) (list_all (column_passes (λ d. true) ds) ns) k in
      go (slice_get ds n) refl p.0 (kinds_of_named ds row ns h p.1)
    where
      go : (o : Option Column) → slice_get ds n ≡ o → option_map_or (λ (d : Column). true) o false ≡ true → fit_kinds (kinds_named ds ns) (map (field row) ns) ≡ true
          → fit_kinds (cons_option (option_map (λ (d : Column). d.kind) o) (kinds_named ds ns)) (field row n ∷ map (field row) ns) ≡ true
      go None e f rest = absurd (true≢false (sym f))
      go (Some d) e f rest = and_from (has_kind d.kind (field row n)) (fit_kinds (kinds_named ds ns) (map (field row) ns)) (kind_there ds (cells row) n d h e) rest

  some_field : (row : List (Value A)) → is_small_row row ≡ true → 0 < length row
  some_field row h = ltb-true 0 (length row) (and_parts (nat_lt 0 (length row)) (list_all is_small row) h).0

  filtered : (f p : Row A → Bool) (rows : List (Row A)) → list_all p rows ≡ true → list_all p (filter f rows) ≡ true
  filtered f p [] h = refl
  filtered f p (r ∷ rows) h =
      let k = and_parts (p r) (list_all p rows) h in
      go (f r) k.0 (filtered f p rows k.1)
    where
      go : (b : Bool) → p r ≡ true → list_all p (filter f rows) ≡ true → list_all p (cond b (r ∷ filter f rows) (filter f rows)) ≡ true
      go true here rest = and_from (p r) (list_all p (filter f rows)) here rest
      go false here rest = rest

  all_shown : (ds : List Column) (rows : List (Row A)) → list_all (is_row_of ds) rows ≡ true → list_all is_small_row (map cells rows) ≡ true → AreShown (map (λ d. d.kind) ds) (map cells rows)
  all_shown ds [] h k = tt
  all_shown ds (r ∷ rows) h k =
      let p = and_parts (is_row_of ds r) (list_all (is_row_of ds) rows) h in
      let q = and_parts (not (is_null r.0)) (literals_fit ds (cells r)) p.0 in
      let z = and_parts (is_small_row (cells r)) (list_all is_small_row (map cells rows)) k in
      (kinds_of_all ds (cells r) q.1, some_field (cells r) z.0, all_shown ds rows p.1 z.1)

  named_shown : (ds : List Column) (ns : List ℕ) (rows : List (Row A)) → list_all (column_passes (λ d. true) ds) ns ≡ true → list_all (is_row_of ds) rows ≡ true → list_all is_small_row (map (λ row. map (field row) ns) rows) ≡ true
      → AreShown (kinds_named ds ns) (map (λ row. map (field row) ns) rows)
  named_shown ds ns [] fits h k = tt
  named_shown ds ns (r ∷ rows) fits h k =
      let p = and_parts (is_row_of ds r) (list_all (is_row_of ds) rows) h in
      let q = and_parts (not (is_null r.0)) (literals_fit ds (cells r)) p.0 in
      let z = and_parts (is_small_row (map (field r) ns)) (list_all is_small_row (map (λ row. map (field row) ns) rows)) k in
      (kinds_of_named ds r ns q.1 fits, some_field (map (field r) ns) z.0, named_shown ds ns rows fits p.1 z.1)

  -- the row with the number of rows
  abbrev count_row : List (Row A) → List (Value A)
  count_row rows = Int (pos (length rows)) ∷ []

  are_shown : (ds : List Column) (p : Projection A) (rows : List (Row A)) → projection_fits ds p ≡ true → list_all (is_row_of ds) rows ≡ true → list_all is_small_row (shown p rows) ≡ true → AreShown (kinds_shown ds p) (shown p rows)
  are_shown ds projection.All rows fits h k = all_shown ds rows h k
  are_shown ds projection.Count rows fits h k =
      let row = and_parts (is_small_row (count_row rows)) true k in
      let small = and_parts (nat_lt 0 (length (count_row rows))) (list_all is_small (count_row rows)) row.0 in
      let number = and_parts (in_range (pos (length rows))) true small.1 in
      (and_from (in_range (pos (length rows))) true number.0 refl, some_field (count_row rows) row.0, tt)
  are_shown ds (projection.Columns ns) rows fits h k = named_shown ds ns rows fits h k

  -- what a SELECT that fits shows of sound tables
  pub fits_shown : (c : Catalog) (X : Tables A) (t : ℕ) (p : Projection A) (ws : List (Condition A)) → is_sound c X ≡ true → Fits c (Select t p ws) → list_all is_small_row (shown p (chosen X t ws)) ≡ true
      → (t < length c) × AreShown (kinds_shown (columns_of c t) p) (shown p (chosen X t ws))
  fits_shown c X t p ws sound fits small =
      let a = and_parts (has_table c t && projection_fits (columns_of c t) p) (list_all (condition_fits (columns_of c t)) ws) fits in
      let b = and_parts (has_table c t) (projection_fits (columns_of c t) p) a.0 in
      (ltb-true t (length c) b.0, are_shown (columns_of c t) p (chosen X t ws) b.1 (filtered (satisfies ws) (is_row_of (columns_of c t)) (rows_of X t) (held_table c X t (held_sound c X sound)).1) small)
