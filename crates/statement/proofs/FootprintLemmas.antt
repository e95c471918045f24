-- Lemmas of the readings of statements.
use Rattle.std.proofs.Common.{◌≡◌, ℕ, zero, suc, ◌<◌, List, [], ◌∷◌, ◌++◌, Some, None, Result, Ok, Err, slice_get, refl, sym, ap, subst, length, ◌∙◌, append_assoc, drop, arith}
use Rattle.std.proofs.lemmas.List.{append-nil}
use Rattle.std.specs.Result.{OnOk}
use Rattle.value.specs.declared.value.Value.{Value}
use Rattle.schema.specs.Definition.{Column, Catalog}
use Rattle.statement.specs.declared.reading.Extent.{Extent}
use Rattle.statement.specs.declared.reading.Reading.{Reading}
use Rattle.schema.specs.Plain.{columns_of}
use Rattle.statement.specs.Footprint.{column_at, in_table, reads_named, reads_fields, reads_columns, reads_referencing}

-- the column of a place that there is
pub column_at-some : (ds : List Column) (n : ℕ) (d : Column) → slice_get ds n ≡ Some d → column_at ds n ≡ d ∷ []
column_at-some [] n d e = cc
column_at-some (b ∷ ds) zero d e = let same : b ≡ d = cc in ap (λ x. x ∷ []) same
column_at-some (b ∷ ds) (suc n) d e = column_at-some ds n d e

pub column_at-none : (ds : List Column) (n : ℕ) → slice_get ds n ≡ None → column_at ds n ≡ []
column_at-none [] n e = refl
column_at-none (b ∷ ds) zero e = cc
column_at-none (b ∷ ds) (suc n) e = column_at-none ds n e

module _ {A : Type 0} where
  -- what is read of the tables from one on is what is read of it, and of those after it
  referencing_step : (es : List (Extent A)) (t : ℕ) (c : Catalog) (u k : ℕ) → k < length c → reads_referencing es t u (drop k c) ≡ in_table u (reads_columns es t (columns_of c k)) ++ reads_referencing es t (suc u) (drop (suc k) c)
  referencing_step es t [] u k lt = absurd (omega arith)
  referencing_step es t (d ∷ ds) u zero lt = refl
  referencing_step es t (d ∷ ds) u (suc k) lt = referencing_step es t ds u k (omega arith)

  pub referencing_more : (es : List (Extent A)) (t : ℕ) (c : Catalog) (u m table : ℕ) (columns : List Column) (old new : List (Reading A)) → u < length c → m ≡ suc u → table ≡ u → columns ≡ columns_of c table
      → new ≡ old ++ in_table table (reads_columns es t columns) → new ++ reads_referencing es t m (drop m c) ≡ old ++ reads_referencing es t u (drop u c)
  referencing_more es t c u m table columns old new lt next same cols e =
      subst (λ n. new ++ reads_referencing es t n (drop n c) ≡ old ++ reads_referencing es t u (drop u c)) (sym next)
      (ap (λ r. r ++ reads_referencing es t (suc u) (drop (suc u) c)) (e ∙ ap (λ v. old ++ in_table v (reads_columns es t columns)) same ∙ ap (λ ds. old ++ in_table u (reads_columns es t ds)) (cols ∙ ap (columns_of c) same))
      ∙ append_assoc old (in_table u (reads_columns es t (columns_of c u))) (reads_referencing es t (suc u) (drop (suc u) c))
      ∙ ap (λ r. old ++ r) (sym (referencing_step es t c u u lt)))

  -- where no value is left, no key is named
  pub fields_none : (ds : List Column) (vs : List (Value A)) (old : List (Reading A)) → length vs < 1 → old ≡ old ++ reads_fields ds vs
  fields_none [] vs old few = sym (append-nil old)
  fields_none (d ∷ ds) [] old few = sym (append-nil old)
  fields_none (d ∷ ds) (v ∷ vs) old few = absurd (omega arith)

  -- what the first value names, and then what the others name
  pub fields_step : {T E : Type 0} (r : Result T E) (ds ds' : List Column) (vs vs' : List (Value A)) (d : Column) (v : Value A) (old mid new : List (Reading A)) → mid ≡ old ++ reads_named d v
      → OnOk r (new ≡ mid ++ reads_fields ds' vs') → ds ≡ d ∷ ds' → vs ≡ v ∷ vs' → OnOk r (new ≡ old ++ reads_fields ds vs)
  fields_step (Err e) ds ds' vs vs' d v old mid new first rest same_ds same_vs = tt
  fields_step (Ok x) ds ds' vs vs' d v old mid new first rest same_ds same_vs =
      rest ∙ ap (λ m. m ++ reads_fields ds' vs') first ∙ append_assoc old (reads_named d v) (reads_fields ds' vs') ∙ ap (λ zs. old ++ reads_fields zs (v ∷ vs')) (sym same_ds) ∙ ap (λ zs. old ++ reads_fields ds zs) (sym same_vs)
