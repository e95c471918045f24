-- Worked examples of covers, computed on the definitions.
use Rattle.std.proofs.Common.{◌≡◌, refl, ℕ, Bool, true, false, List, [], ◌∷◌, ◌++◌, map}
use Rattle.statement.specs.declared.reading.End.TheVariants.{Open, Closed, Without}
use Rattle.statement.specs.declared.reading.Extent.{Extent}
use Rattle.statement.specs.declared.reading.Extent.TheVariants.{Whole, One, Range, Referencing}
use Rattle.statement.specs.Cover.{covers, covers_value}
use Rattle.statement.proofs.ExampleWords.{Anywhere, n, reading}

-- these extents of table 0 cover key k
abbrev cover : List (Extent Anywhere) → ℕ → Bool
cover es k = covers (map (reading 0) es) 0 (n k)

-- and the rows of table 0 with k in column j
abbrev cover_rows_with : List (Extent Anywhere) → ℕ → ℕ → Bool
cover_rows_with es j k = covers_value (map (reading 0) es) 0 j (n k)

abbrev keys : List ℕ → List (Extent Anywhere)
keys ks = map (λ k. One (n k)) ks

-- the rows with one of these in column 1
abbrev rows_with : List ℕ → List (Extent Anywhere)
rows_with ks = map (λ k. Referencing 1 (n k)) ks

abbrev eight : List ℕ
eight = 1 ∷ 3 ∷ 5 ∷ 7 ∷ 9 ∷ 11 ∷ 13 ∷ 15 ∷ []

-- ---- keys

eight_keys_leave_gaps : cover (keys eight) 4 ≡ false
eight_keys_leave_gaps = refl

eight_keys_are_covered : cover (keys eight) 15 ≡ true
eight_keys_are_covered = refl

nine_keys_leave_none : cover (keys (17 ∷ eight)) 4 ≡ true
nine_keys_leave_none = refl

nine_keys_end_at_the_greatest : cover (keys (17 ∷ eight)) 18 ≡ false
nine_keys_end_at_the_greatest = refl

a_key_counts_once : cover (keys (1 ∷ 1 ∷ eight)) 4 ≡ false
a_key_counts_once = refl

other_tables_are_not_covered : covers (map (reading 0) (keys eight)) 1 (n 1) ≡ false
other_tables_are_not_covered = refl

-- ---- ranges

abbrev from_to : ℕ → ℕ → Extent Anywhere
from_to a b = Range (Closed (n a)) (Closed (n b))

abbrev four : List (Extent Anywhere)
four = from_to 10 19 ∷ from_to 30 39 ∷ from_to 50 59 ∷ from_to 70 79 ∷ []

four_ranges_leave_gaps : cover four 25 ≡ false
four_ranges_leave_gaps = refl

absent_keys_are_covered : cover four 55 ≡ true
absent_keys_are_covered = refl

a_range_counts_once : cover (from_to 10 19 ∷ four) 25 ≡ false
a_range_counts_once = refl

five_ranges_cover_the_table : cover (from_to 90 99 ∷ four) 25 ≡ true
five_ranges_cover_the_table = refl

many_keys_are_a_range : cover (four ++ keys (17 ∷ eight)) 25 ≡ true
many_keys_are_a_range = refl

few_keys_are_none : cover (four ++ keys eight) 25 ≡ false
few_keys_are_none = refl

-- `> 3` and `>= 4` are two ranges
ranges_as_written : cover (Range (Without (n 33)) Open ∷ Range (Closed (n 34)) Open ∷ from_to 10 11 ∷ from_to 13 14 ∷ from_to 16 17 ∷ []) 1 ≡ true
ranges_as_written = refl

open_end_is_not_covered : cover (Range (Without (n 3)) Open ∷ []) 3 ≡ false
open_end_is_not_covered = refl

-- ---- references

a_reference_covers_no_key : cover (rows_with eight) 1 ≡ false
a_reference_covers_no_key = refl

eight_references_leave_gaps : cover_rows_with (rows_with eight) 1 4 ≡ false
eight_references_leave_gaps = refl

eight_references_are_covered : cover_rows_with (rows_with eight) 1 15 ≡ true
eight_references_are_covered = refl

of_their_column_alone : cover_rows_with (rows_with eight) 2 15 ≡ false
of_their_column_alone = refl

nine_references_cover_the_table : cover (rows_with (17 ∷ eight)) 4 ≡ true
nine_references_cover_the_table = refl

over_all_columns : cover (Referencing 2 (n 1) ∷ rows_with eight) 4 ≡ true
over_all_columns = refl

a_reference_counts_once : cover (rows_with (1 ∷ 1 ∷ eight)) 4 ≡ false
a_reference_counts_once = refl

references_are_no_keys : cover (rows_with eight ++ keys eight ++ four) 25 ≡ false
references_are_no_keys = refl

a_table_read_whole_covers_all : cover_rows_with (Whole ∷ []) 1 4 ≡ true
a_table_read_whole_covers_all = refl
