-- Worked examples of footprints, computed on the definitions.
use Rattle.std.proofs.Common.{◌≡◌, refl, pos, true, false, Some, [], ◌∷◌}
use Rattle.value.specs.declared.value.Value.TheVariants.{Null}
use Rattle.schema.specs.Definition.{Catalog}
use Rattle.statement.specs.declared.condition.Comparison.TheVariants as is
use Rattle.statement.specs.declared.condition.Condition.TheVariants.{Compare, Between, IsNull, IsNotNull}
use Rattle.statement.specs.declared.statement.Source.TheVariants.{Literal, Sum}
use Rattle.statement.specs.declared.statement.Statement.TheVariants.{Insert, Update, Delete}
use Rattle.statement.specs.declared.reading.End.TheVariants.{Open, Closed, Without}
use Rattle.statement.specs.declared.reading.Extent.TheVariants.{Whole, One, Range, Referencing}
use Rattle.statement.specs.Footprint.{extents_of, footprint}
use Rattle.statement.proofs.ExampleWords.{Anywhere, column, plain, p_and_c, n, key, set, reading}

-- ---- what a WHERE reads of its table

-- id >= 10 AND id < 10
nothing_between : extents_of (key is.GreaterOrEqual 10 ∷ key is.Less 10 ∷ []) ≡ []
nothing_between = refl

-- id >= 10 AND id <= 10
one_key : extents_of (key is.GreaterOrEqual 10 ∷ key is.LessOrEqual 10 ∷ []) ≡ One (n 10) ∷ []
one_key = refl

-- id > 3 AND id <> 7
above_three : extents_of (key is.Greater 3 ∷ key is.NotEqual 7 ∷ []) ≡ Range (Without (n 3)) Open ∷ []
above_three = refl

-- p = 1
no_condition_on_the_key : extents_of {A = Anywhere} (Compare 1 is.Equal (n 1) ∷ []) ≡ Whole ∷ []
no_condition_on_the_key = refl

no_condition : extents_of {A = Anywhere} [] ≡ Whole ∷ []
no_condition = refl

-- id <> 7, and id IS NOT NULL
any_other_key : extents_of (key is.NotEqual 7 ∷ []) ≡ Whole ∷ []
any_other_key = refl

any_key : extents_of {A = Anywhere} (IsNotNull 0 ∷ []) ≡ Whole ∷ []
any_key = refl

-- id <> NULL, id IS NULL, and id BETWEEN NULL AND 3
differs_from_null : extents_of {A = Anywhere} (Compare 0 is.NotEqual Null ∷ []) ≡ []
differs_from_null = refl

null_key : extents_of {A = Anywhere} (IsNull 0 ∷ []) ≡ []
null_key = refl

null_end : extents_of {A = Anywhere} (Between 0 Null (n 3) ∷ []) ≡ []
null_end = refl

-- id BETWEEN 20 AND 10
ends_exchanged : extents_of {A = Anywhere} (Between 0 (n 20) (n 10) ∷ []) ≡ []
ends_exchanged = refl

-- id BETWEEN 10 AND 20 AND id < 20 AND id >= 5
narrowest : extents_of {A = Anywhere} (Between 0 (n 10) (n 20) ∷ key is.Less 20 ∷ key is.GreaterOrEqual 5 ∷ []) ≡ Range (Closed (n 10)) (Without (n 20)) ∷ []
narrowest = refl

-- id > 3 AND id < 5 is a range, though 4 alone is in it
no_arithmetic : extents_of (key is.Greater 3 ∷ key is.Less 5 ∷ []) ≡ Range (Without (n 3)) (Without (n 5)) ∷ []
no_arithmetic = refl

-- id > 4 AND id >= 4, and id < 4 AND id <= 4, in either order
open_lower_end : extents_of (key is.Greater 4 ∷ key is.GreaterOrEqual 4 ∷ []) ≡ Range (Without (n 4)) Open ∷ []
open_lower_end = refl

open_lower_end_last : extents_of (key is.GreaterOrEqual 4 ∷ key is.Greater 4 ∷ []) ≡ Range (Without (n 4)) Open ∷ []
open_lower_end_last = refl

open_upper_end : extents_of (key is.Less 4 ∷ key is.LessOrEqual 4 ∷ []) ≡ Range Open (Without (n 4)) ∷ []
open_upper_end = refl

open_upper_end_last : extents_of (key is.LessOrEqual 4 ∷ key is.Less 4 ∷ []) ≡ Range Open (Without (n 4)) ∷ []
open_upper_end_last = refl

-- id >= 4 AND id > 3, and id <= 4 AND id < 5
closed_end_is_narrower : extents_of (key is.GreaterOrEqual 4 ∷ key is.Greater 3 ∷ key is.LessOrEqual 4 ∷ key is.Less 5 ∷ []) ≡ One (n 4) ∷ []
closed_end_is_narrower = refl

-- ---- INSERT

-- INSERT INTO c VALUES (5, 1)
key_and_reference : footprint p_and_c (Insert 1 (n 5 ∷ n 1 ∷ [])) ≡ reading 1 (One (n 5)) ∷ reading 0 (One (n 1)) ∷ []
key_and_reference = refl

-- INSERT INTO c VALUES (NULL, NULL)
nulls_name_nothing : footprint {A = Anywhere} p_and_c (Insert 1 (Null ∷ Null ∷ [])) ≡ []
nulls_name_nothing = refl

-- ---- UPDATE

-- UPDATE c SET p = 2 WHERE id = 5
assigned_reference : footprint p_and_c (Update 1 (set 1 (Literal (n 2)) ∷ []) (key is.Equal 5 ∷ [])) ≡ reading 1 (One (n 5)) ∷ reading 0 (One (n 2)) ∷ []
assigned_reference = refl

-- UPDATE c SET p = p + 1 WHERE id = 5
assigned_sum : footprint p_and_c (Update 1 (set 1 (Sum 1 (pos 1)) ∷ []) (key is.Equal 5 ∷ [])) ≡ reading 1 (One (n 5)) ∷ reading 0 Whole ∷ []
assigned_sum = refl

-- UPDATE c SET p = NULL WHERE id = 5
assigned_null : footprint p_and_c (Update 1 (set 1 (Literal Null) ∷ []) (key is.Equal 5 ∷ [])) ≡ reading 1 (One (n 5)) ∷ []
assigned_null = refl

-- ---- DELETE

-- DELETE FROM p WHERE id = 1
one_key_goes : footprint p_and_c (Delete 0 (key is.Equal 1 ∷ [])) ≡ reading 0 (One (n 1)) ∷ reading 1 (Referencing 1 (n 1)) ∷ []
one_key_goes = refl

-- DELETE FROM p WHERE id = 1 AND id = 2
no_key_goes : footprint p_and_c (Delete 0 (key is.Equal 1 ∷ key is.Equal 2 ∷ [])) ≡ []
no_key_goes = refl

-- DELETE FROM p WHERE id > 1, and DELETE FROM p
many_keys_go : footprint p_and_c (Delete 0 (key is.Greater 1 ∷ [])) ≡ reading 0 (Range (Without (n 1)) Open) ∷ reading 1 Whole ∷ []
many_keys_go = refl

all_keys_go : footprint {A = Anywhere} p_and_c (Delete 0 []) ≡ reading 0 Whole ∷ reading 1 Whole ∷ []
all_keys_go = refl

-- DELETE FROM c: nothing references c
unreferenced_table : footprint {A = Anywhere} p_and_c (Delete 1 []) ≡ reading 1 Whole ∷ []
unreferenced_table = refl

-- p, and two tables that reference it: one by its key and its third column, one by its second
abbrev referenced_thrice : Catalog
referenced_thrice =
    record { name = []; columns = plain ∷ [] } ∷ record { name = []; columns = column false (Some 0) ∷ plain ∷ column false (Some 0) ∷ [] }
    ∷ record { name = []; columns = plain ∷ column true (Some 0) ∷ [] } ∷ []

each_referencing_column : footprint referenced_thrice (Delete 0 (key is.Equal 1 ∷ [])) ≡ reading 0 (One (n 1)) ∷ reading 1 (Referencing 0 (n 1)) ∷ reading 1 (Referencing 2 (n 1)) ∷ reading 2 (Referencing 1 (n 1)) ∷ []
each_referencing_column = refl

each_referencing_table_once : footprint {A = Anywhere} referenced_thrice (Delete 0 []) ≡ reading 0 Whole ∷ reading 1 Whole ∷ reading 2 Whole ∷ []
each_referencing_table_once = refl
