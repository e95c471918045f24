-- Worked examples of what statements answer, change and mark, computed on the definitions.
use Rattle.std.proofs.Common.{◌≡◌, refl, pos, negsuc, true, false, Some, None, [], ◌∷◌}
use Rattle.value.specs.declared.value.Value.TheVariants.{Null, Int, Text, Bytes}
use Rattle.value.specs.declared.kind.Kind.{Kind}
use Rattle.value.specs.declared.kind.Kind.TheVariants as kind
use Rattle.value.specs.declared.refusal.Code.TheVariants as code
use Rattle.value.specs.declared.refusal.Place.TheVariants as place
use Rattle.schema.specs.Definition.{Catalog}
use Rattle.schema.specs.declared.tables.Tables.{Tables}
use Rattle.statement.specs.declared.condition.Comparison.TheVariants as is
use Rattle.statement.specs.declared.condition.Condition.TheVariants.{Compare, Between, IsNull, IsNotNull}
use Rattle.statement.specs.declared.statement.Projection.TheVariants.{All, Count, Columns}
use Rattle.statement.specs.declared.statement.Source.TheVariants.{Literal, Sum}
use Rattle.statement.specs.declared.statement.Statement.TheVariants.{Select, Insert, Update, Delete}
use Rattle.statement.specs.declared.reply.Reply.TheVariants.{Updated, Deleted, Rows}
use Rattle.statement.specs.Evaluation.{outcome, after}
use Rattle.statement.proofs.ExampleWords.{Anywhere, column, plain, p_and_c, n, two_and_two, t_alone, holding, key, set, refused, reply, mark}

-- ---- references and nulls

-- UPDATE c SET p = NULL WHERE id > 5
null_where_none_may_be : reply p_and_c (Update 1 (set 1 (Literal Null) ∷ []) (key is.Greater 5 ∷ [])) two_and_two ≡ refused code.NotNullViolation (place.Column 2)
null_where_none_may_be = refl

-- UPDATE c SET p = p + 1
sum_names_no_row : reply p_and_c (Update 1 (set 1 (Sum 1 (pos 1)) ∷ []) []) two_and_two ≡ refused code.ForeignKeyViolation (place.Column 2)
sum_names_no_row = refl

-- DELETE FROM p WHERE id = 1
referenced_row : reply p_and_c (Delete 0 (key is.Equal 1 ∷ [])) two_and_two ≡ refused code.ForeignKeyViolation (place.Table 2)
referenced_row = refl

-- SELECT count(*) FROM c WHERE p <> NULL
nothing_differs_from_null : reply p_and_c (Select 1 Count (Compare 1 is.NotEqual Null ∷ [])) two_and_two ≡ Rows ((n 0 ∷ []) ∷ [])
nothing_differs_from_null = refl

-- rows of t with and without a value
abbrev some_null : Tables Anywhere
some_null = holding ((n 1, Null ∷ []) ∷ (n 2, n 7 ∷ []) ∷ [])

is_null_holds : reply t_alone (Select 0 All (IsNull 1 ∷ [])) some_null ≡ Rows ((n 1 ∷ Null ∷ []) ∷ [])
is_null_holds = refl

is_not_null_holds : reply t_alone (Select 0 All (IsNotNull 1 ∷ [])) some_null ≡ Rows ((n 2 ∷ n 7 ∷ []) ∷ [])
is_not_null_holds = refl

null_field_compares_with_nothing : reply t_alone (Select 0 Count (Compare 1 is.LessOrEqual (n 9) ∷ [])) some_null ≡ Rows ((n 1 ∷ []) ∷ [])
null_field_compares_with_nothing = refl

null_is_no_end : reply t_alone (Select 0 Count (Between 1 Null (n 9) ∷ [])) some_null ≡ Rows ((n 0 ∷ []) ∷ [])
null_is_no_end = refl

-- UPDATE t SET v = v + 1
null_stays_null : after t_alone (Update 0 (set 1 (Sum 1 (pos 1)) ∷ []) []) some_null ≡ holding ((n 1, Null ∷ []) ∷ (n 2, n 8 ∷ []) ∷ [])
null_stays_null = refl

-- a null reference keeps nobody from going
abbrev named_by_none : Tables Anywhere
named_by_none = ((n 1, []) ∷ []) ∷ ((n 5, Null ∷ []) ∷ []) ∷ []

unreferenced_row : reply p_and_c (Delete 0 []) named_by_none ≡ Deleted 1
unreferenced_row = refl

-- a key that is itself a reference: p, and e (id bigint PRIMARY KEY REFERENCES p)
abbrev by_key : Catalog
by_key = record { name = []; columns = plain ∷ [] } ∷ record { name = []; columns = column false (Some 0) ∷ [] } ∷ []

referenced_by_a_key : reply by_key (Delete 0 []) (((n 1, []) ∷ []) ∷ ((n 1, []) ∷ []) ∷ []) ≡ refused code.ForeignKeyViolation (place.Table 2)
referenced_by_a_key = refl

-- ---- SELECT

abbrev three : Tables Anywhere
three = holding ((n 1, n 30 ∷ []) ∷ (n 2, n 20 ∷ []) ∷ (n 3, n 10 ∷ []) ∷ [])

-- SELECT v, id, v FROM t WHERE id BETWEEN 2 AND 3
column_named_twice : reply t_alone (Select 0 (Columns (1 ∷ 0 ∷ 1 ∷ [])) (Between 0 (n 2) (n 3) ∷ [])) three ≡ Rows ((n 20 ∷ n 2 ∷ n 20 ∷ []) ∷ (n 10 ∷ n 3 ∷ n 10 ∷ []) ∷ [])
column_named_twice = refl

-- WHERE id BETWEEN 3 AND 2
ends_exchanged : reply t_alone (Select 0 All (Between 0 (n 3) (n 2) ∷ [])) three ≡ Rows []
ends_exchanged = refl

-- one table of one column of this kind
abbrev of_kind : Kind → Catalog
of_kind k = record { name = []; columns = record { name = []; kind = k; not_null = false; references = None } ∷ [] } ∷ []

-- texts by their bytes, and a beginning before the whole: Z, Za, a
texts_by_bytes : reply (of_kind kind.Text) (Select 0 All (Compare 0 is.Less (Text (97 ∷ [])) ∷ [])) (holding ((Text (90 ∷ []), []) ∷ (Text (90 ∷ 97 ∷ []), []) ∷ (Text (97 ∷ []), []) ∷ []))
    ≡ Rows ((Text (90 ∷ []) ∷ []) ∷ (Text (90 ∷ 97 ∷ []) ∷ []) ∷ [])
texts_by_bytes = refl

byteas_by_bytes : reply (of_kind kind.Bytea) (Select 0 All (Compare 0 is.GreaterOrEqual (Bytes (0 ∷ [])) ∷ [])) (holding ((Bytes [], []) ∷ (Bytes (0 ∷ []), []) ∷ (Bytes (255 ∷ []), []) ∷ []))
    ≡ Rows ((Bytes (0 ∷ []) ∷ []) ∷ (Bytes (255 ∷ []) ∷ []) ∷ [])
byteas_by_bytes = refl

-- ---- INSERT: null, then the key, then the reference

null_first : reply p_and_c (Insert 1 (n 5 ∷ Null ∷ [])) two_and_two ≡ refused code.NotNullViolation (place.Column 2)
null_first = refl

least_null_first : reply p_and_c (Insert 1 (Null ∷ Null ∷ [])) two_and_two ≡ refused code.NotNullViolation (place.Column 1)
least_null_first = refl

then_the_key : reply p_and_c (Insert 1 (n 5 ∷ n 9 ∷ [])) two_and_two ≡ refused code.UniqueViolation (place.Column 1)
then_the_key = refl

then_the_reference : reply p_and_c (Insert 1 (n 7 ∷ n 9 ∷ [])) two_and_two ≡ refused code.ForeignKeyViolation (place.Column 2)
then_the_reference = refl

put_in_key_order : after p_and_c (Insert 1 (n 4 ∷ n 1 ∷ [])) two_and_two ≡ ((n 1, []) ∷ (n 2, []) ∷ []) ∷ ((n 4, n 1 ∷ []) ∷ (n 5, n 1 ∷ []) ∷ (n 6, n 2 ∷ []) ∷ []) ∷ []
put_in_key_order = refl

-- ---- UPDATE: in stages over all rows

-- UPDATE t SET v = v + 1 at the greatest bigint, and v - 1 at the least
overflow : reply t_alone (Update 0 (set 1 (Sum 1 (pos 1)) ∷ []) []) (holding ((n 1, n 9223372036854775807 ∷ []) ∷ [])) ≡ refused code.NumericValueOutOfRange (place.Column 2)
overflow = refl

underflow : reply t_alone (Update 0 (set 1 (Sum 1 (negsuc 0)) ∷ []) []) (holding ((n 1, Int (negsuc 9223372036854775807) ∷ []) ∷ [])) ≡ refused code.NumericValueOutOfRange (place.Column 2)
underflow = refl

-- p, and w (id bigint PRIMARY KEY, r bigint REFERENCES p, a bigint, b bigint NOT NULL)
abbrev wide : Catalog
wide = record { name = []; columns = plain ∷ [] } ∷ record { name = []; columns = plain ∷ column false (Some 0) ∷ plain ∷ column true None ∷ [] } ∷ []

-- Row 1 would overflow in a and name nothing in r, row 2 has no a to give to b.
abbrev faulty : Tables Anywhere
faulty = ((n 1, []) ∷ []) ∷ ((n 1, n 1 ∷ n 9223372036854775807 ∷ n 0 ∷ []) ∷ (n 2, n 1 ∷ Null ∷ n 0 ∷ []) ∷ []) ∷ []

-- SET r = 9, a = a + 1, b = a + 0
null_before_all : reply wide (Update 1 (set 1 (Literal (n 9)) ∷ set 2 (Sum 2 (pos 1)) ∷ set 3 (Sum 2 (pos 0)) ∷ []) []) faulty ≡ refused code.NotNullViolation (place.Column 4)
null_before_all = refl

-- SET r = 9, a = a + 1
range_before_reference : reply wide (Update 1 (set 1 (Literal (n 9)) ∷ set 2 (Sum 2 (pos 1)) ∷ []) []) faulty ≡ refused code.NumericValueOutOfRange (place.Column 3)
range_before_reference = refl

-- SET r = 9, b = 1: a column that isn't assigned has no fault
reference_last : reply wide (Update 1 (set 3 (Literal (n 1)) ∷ set 1 (Literal (n 9)) ∷ []) []) faulty ≡ refused code.ForeignKeyViolation (place.Column 2)
reference_last = refl

-- SET a = 0 WHERE id = 9
no_row_no_fault : reply wide (Update 1 (set 1 (Literal (n 9)) ∷ []) (key is.Equal 9 ∷ [])) faulty ≡ Updated 0
no_row_no_fault = refl

-- t with two columns beside the key: SET a = b + 0, b = a + 0 exchanges them
abbrev two_values : Catalog
two_values = record { name = []; columns = plain ∷ plain ∷ plain ∷ [] } ∷ []

assignments_read_the_row_before : after two_values (Update 0 (set 1 (Sum 2 (pos 0)) ∷ set 2 (Sum 1 (pos 0)) ∷ []) []) (holding ((n 1, n 10 ∷ n 20 ∷ []) ∷ [])) ≡ holding ((n 1, n 20 ∷ n 10 ∷ []) ∷ [])
assignments_read_the_row_before = refl

-- A row that satisfies the conditions counts as written, though it stays as it was.
counts_as_written : (outcome t_alone (Update 0 (set 1 (Literal (n 7)) ∷ []) (Compare 1 is.Equal (n 7) ∷ [])) some_null).changes ≡ record { table = 0; key = n 2; fields = Some (n 7 ∷ []) } ∷ []
counts_as_written = refl

-- ---- faults change nothing

fault_changes_nothing : after p_and_c (Delete 0 []) two_and_two ≡ two_and_two
fault_changes_nothing = refl

fault_marks_nothing : (outcome p_and_c (Update 1 (set 1 (Sum 1 (pos 1)) ∷ []) []) two_and_two).marks ≡ []
fault_marks_nothing = refl

-- ---- marks: the references of written rows, before and after

marks_of_insert : (outcome p_and_c (Insert 1 (n 7 ∷ n 2 ∷ [])) two_and_two).marks ≡ mark 1 1 2 ∷ []
marks_of_insert = refl

-- UPDATE c SET p = 2
marks_of_update : (outcome p_and_c (Update 1 (set 1 (Literal (n 2)) ∷ []) []) two_and_two).marks ≡ mark 1 1 1 ∷ mark 1 1 2 ∷ mark 1 1 2 ∷ mark 1 1 2 ∷ []
marks_of_update = refl

marks_of_delete : (outcome p_and_c (Delete 1 (key is.Equal 5 ∷ [])) two_and_two).marks ≡ mark 1 1 1 ∷ []
marks_of_delete = refl

null_is_no_mark : (outcome p_and_c (Delete 1 []) named_by_none).marks ≡ []
null_is_no_mark = refl

marks_of_a_key : (outcome by_key (Insert 1 (n 1 ∷ [])) (((n 1, []) ∷ []) ∷ [] ∷ [])).marks ≡ mark 1 0 1 ∷ []
marks_of_a_key = refl
