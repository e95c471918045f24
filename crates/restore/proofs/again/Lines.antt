-- The lines of a dump, read one after another.
use Rattle.std.proofs.Common.{◌≡◌, ℕ, zero, suc, ◌+◌, ◌≤◌, nat_lt, Bool, true, false, true≢false, Ok, Result, not, ◌&&◌, List, [], ◌∷◌, ◌++◌, length, map, Some, slice_get, refl, sym, ap, subst, ◌∙◌, append_assoc, arith}
use Rattle.std.specs.List.{list_all}
use Rattle.std.proofs.lemmas.Bool.{and_parts, and_from}
use Rattle.std.proofs.lemmas.List.{append-nil, length-append}
use Rattle.value.specs.declared.refusal.Code.{Code}
use Rattle.schema.specs.Definition.{TableDef, Column, TableSchema, Catalog, columns_of}
use Rattle.schema.specs.declared.tables.Tables.{Tables}
use Rattle.schema.specs.Adding.{is_well_named, added}
use Rattle.dumpplan.specs.Lines.{written_column, written, create_line, first_line}
use Rattle.schema.specs.WellFormed.{is_key_unmarked, is_table_after, are_tables_after}
use Rattle.restore.specs.Steps.{◌>>=◌}
use Rattle.restore.specs.CreateLine.{well_formed, table_of}
use Rattle.restore.specs.Reading.{Progress, Start, Created, Whole, step, after, read_lines}
use Rattle.restore.proofs.again.Catalog.{IsTableAfter, table_after, IsFound, IsFound-push, IsNamed, columns_named, defined_again, added_again}
use Rattle.restore.proofs.again.Spelling.{is_key_first, behind_words, table_again}

-- a table of the catalog, by its place
pub at_seam : (cs ds : Catalog) (d : TableSchema) → slice_get (cs ++ d ∷ ds) (length cs) ≡ Some d
at_seam [] ds d = refl
at_seam (c ∷ cs) ds d = at_seam cs ds d

pub columns_at : (c : Catalog) (t : ℕ) (d : TableSchema) → slice_get c t ≡ Some d → columns_of c t ≡ d.columns
columns_at [] t d h = cc
columns_at (e ∷ c) zero d h = let same : e ≡ d = cc in ap (λ (x : TableSchema). x.columns) same
columns_at (e ∷ c) (suc t) d h = columns_at c t d h

-- ---- what a table of the catalog is written as

key_first : (c : Catalog) (ds : List Column) → nat_lt 0 (length ds) ≡ true → is_key_unmarked ds ≡ true → list_all is_well_named (map (written_column c) ds) ≡ true → is_key_first (map (written_column c) ds) ≡ true
key_first c [] some unmarked named = absurd (true≢false (sym some))
key_first c (d ∷ ds) some unmarked named =
    let p = and_parts (is_well_named (written_column c d)) (list_all is_well_named (map (written_column c) ds)) named in
    and_from (not d.not_null && is_well_named (written_column c d)) (list_all is_well_named (map (written_column c) ds)) (and_from (not d.not_null) (is_well_named (written_column c d)) unmarked p.0) p.1

pub written_key_first : (c before : Catalog) (d : TableSchema) → IsNamed c → IsTableAfter before d → is_key_first (map (written_column c) d.columns) ≡ true
written_key_first c before d named after = key_first c d.columns after.some after.unmarked (columns_named c named d.columns after.names)

-- its CREATE TABLE line reads as that
table_read : (c before : Catalog) (d : TableSchema) → IsNamed c → IsTableAfter before d → table_of (behind_words (written c d)) ≡ Ok (written c d)
table_read c before d named after = table_again (written c d) after.name (written_key_first c before d named after) ∙ ap well_formed (defined_again c before d named after)

module _ {A : Type 0} where
  -- ---- lines read one after another

  -- reading these lines goes from what was read before to what is read then
  abbrev pub GoesTo : Progress A → List (List ℕ) → Progress A → Type 0
  GoesTo p ls q = (n : ℕ) (next : List ℕ) (lines : List (List ℕ)) → (m : ℕ) × (read_lines n p (ls ++ next ∷ lines) ≡ read_lines m q (next ∷ lines))

  read_step : (n : ℕ) (p : Progress A) (line next : List ℕ) (lines : List (List ℕ)) → read_lines n p (line ∷ next ∷ lines) ≡ after n (step p line) (λ more. read_lines (n + 1) more (next ∷ lines))
  unfolding read_lines
  read_step n p [] next lines = refl
  read_step n p (b ∷ line) next lines = refl

  pub nowhere : (p : Progress A) → GoesTo p [] p
  nowhere p n next lines = (n, refl)

  stepped : (n : ℕ) (p q : Progress A) (line next : List ℕ) (lines : List (List ℕ)) → step p line ≡ Ok q → read_lines n p (line ∷ next ∷ lines) ≡ read_lines (n + 1) q (next ∷ lines)
  stepped n p q line next lines s = read_step n p line next lines ∙ ap (λ r. after n r (λ more. read_lines (n + 1) more (next ∷ lines))) s

  pub goes_on : (p q r : Progress A) (line : List ℕ) (ls : List (List ℕ)) → step p line ≡ Ok q → GoesTo q ls r → GoesTo p (line ∷ ls) r
  goes_on p q r line [] s g n next lines = let rest = g (n + 1) next lines in (rest.0, stepped n p q line next lines s ∙ rest.1)
  goes_on p q r line (l ∷ ls) s g n next lines = let rest = g (n + 1) next lines in (rest.0, stepped n p q line l (ls ++ next ∷ lines) s ∙ rest.1)

  pub goes_through : (p q r : Progress A) (ls ms : List (List ℕ)) → GoesTo p ls q → GoesTo q ms r → GoesTo p (ls ++ ms) r
  goes_through p q r ls [] f g n next lines =
      let first = f n next lines in
      let rest = g first.0 next lines in
      (rest.0, ap (λ (all : List (List ℕ)). read_lines n p (all ++ next ∷ lines)) (append-nil ls) ∙ first.1 ∙ rest.1)
  goes_through p q r ls (m ∷ ms) f g n next lines =
      let first = f n m (ms ++ next ∷ lines) in
      let rest = g first.0 next lines in
      (rest.0, ap (read_lines n p) (append_assoc ls (m ∷ ms) (next ∷ lines)) ∙ first.1 ∙ rest.1)

  -- what a line leads to doesn't depend on which of two it follows
  pub goes_alike : (p q r : Progress A) (line : List ℕ) (ls : List (List ℕ)) → step p line ≡ step q line → GoesTo q (line ∷ ls) r → GoesTo p (line ∷ ls) r
  goes_alike p q r line [] s g n next lines =
      let rest = g n next lines in
      (rest.0, read_step n p line next lines ∙ ap (λ x. after n x (λ more. read_lines (n + 1) more (next ∷ lines))) s ∙ sym (read_step n q line next lines) ∙ rest.1)
  goes_alike p q r line (l ∷ ls) s g n next lines =
      let rest = g n next lines in
      (rest.0, read_step n p line l (ls ++ next ∷ lines) ∙ ap (λ x. after n x (λ more. read_lines (n + 1) more (l ∷ ls ++ next ∷ lines))) s ∙ sym (read_step n q line l (ls ++ next ∷ lines)) ∙ rest.1)

  -- nothing follows the last line
  pub reads_whole : (p : Progress A) (ls : List (List ℕ)) (c : Catalog) (X : Tables A) → GoesTo p ls (Whole c X) → (n : ℕ) → read_lines n p (ls ++ [] ∷ []) ≡ Ok (c, X)
  unfolding read_lines
  reads_whole p ls c X g n = (g n [] []).1

  -- ---- the first line

  pub first_step : (counted : Bool) → step {A = A} Start (first_line counted) ≡ Ok (Created counted [])
  unfolding step
  first_step true = refl
  first_step false = refl

  -- ---- CREATE TABLE lines

  abbrev made : Bool → Result Catalog Code → Result (Progress A) Code
  made counted r = r >>= λ c. Ok (Created counted c)

  create_step : (counted : Bool) (before now : Catalog) (d : TableDef) → table_of (behind_words d) ≡ Ok d → added before d ≡ Ok now → step {A = A} (Created counted before) (create_line d) ≡ Ok (Created counted now)
  unfolding step
  create_step counted before now d table more = ap (λ (r : Result TableDef Code). made counted (r >>= λ e. added before e)) table ∙ ap (made counted) more

  -- the CREATE TABLE lines of a catalog make the catalog
  pub created_again : (counted : Bool) (c before ds : Catalog) → before ++ ds ≡ c → IsNamed c → length c ≤ 256 → IsFound before → are_tables_after before ds ≡ true
      → GoesTo (Created counted before) (map (λ d. create_line (written c d)) ds) (Created counted c)
  created_again counted c before [] same named few found h = subst (λ (x : Catalog). GoesTo (Created counted before) [] (Created counted x)) (sym (append-nil before) ∙ same) (nowhere (Created counted before))
  created_again counted c before (d ∷ ds) same named few found h =
      let p = and_parts (is_table_after before d) (are_tables_after (before ++ d ∷ []) ds) h in
      let facts = table_after before d p.0 in
      let many : length before + suc (length ds) ≡ length c = sym (length-append before (d ∷ ds)) ∙ ap length same in
      let more : added before (written c d) ≡ Ok (before ++ d ∷ []) =
      subst (λ (x : Catalog). added before (written x d) ≡ Ok (before ++ d ∷ [])) same (added_again before (d ∷ ds) d found facts (omega (arith, many, few))) in
      goes_on (Created counted before) (Created counted (before ++ d ∷ [])) (Created counted c) (create_line (written c d)) (map (λ e. create_line (written c e)) ds)
      (create_step counted before (before ++ d ∷ []) (written c d) (table_read c before d named facts) more)
      (created_again counted c (before ++ d ∷ []) ds (append_assoc before (d ∷ []) ds ∙ same) named few (IsFound-push before d found facts.new) p.1)
