-- The ways of a transaction at a key, by going over its statements and their answers with one row whose fields aren't known.
-- A way serves as what is known after some of the statements: what was asked of the row before, and what there is now.
use Rattle.std.specs.Prelude.{ℕ, suc, ℤ, pos, ◌+ℤ◌, ◌-ℤ◌, ◌-◌, ◌^◌, ◌==◌, nat_le, nat_lt, Bool, true, false, not, ◌&&◌, ◌||◌, if◌then◌else◌, Option, Some, None, unwrap_or, option_map, option_to_list, option_and_then, List, [], ◌∷◌, ◌++◌, length, map, replicate, slice_get, slice_set, ◌+◌}
use Rattle.std.specs.List.{filter, find, flat_map, list_all, list_any}
use Rattle.std.specs.Option.{option_map_or, option_or}
use Rattle.value.specs.declared.value.Value.{Value}
use Rattle.value.specs.declared.value.Value.TheVariants.{Null, Int}
use Rattle.schema.specs.Definition.{Catalog, columns_of}
use Rattle.schema.specs.Plain.{same, is_null, in_range}
use Rattle.statement.specs.declared.condition.Comparison.{Comparison}
use Rattle.statement.specs.declared.condition.Comparison.TheVariants as is
use Rattle.statement.specs.declared.condition.Condition.{Condition}
use Rattle.statement.specs.declared.condition.Condition.TheVariants.{Compare, Between, IsNull, IsNotNull}
use Rattle.statement.specs.declared.statement.Projection.{Projection}
use Rattle.statement.specs.declared.statement.Projection.TheVariants as shown
use Rattle.statement.specs.declared.statement.Source.{Source}
use Rattle.statement.specs.declared.statement.Source.TheVariants.{Literal, Sum}
use Rattle.statement.specs.declared.statement.Assignment.{Assignment}
use Rattle.statement.specs.declared.statement.Statement.{Statement}
use Rattle.statement.specs.declared.statement.Statement.TheVariants.{Select, Insert, Update, Delete}
use Rattle.statement.specs.declared.reply.Reply.{Reply}
use Rattle.statement.specs.declared.reply.Reply.TheVariants.{Inserted, Updated, Deleted, Rows}
use Rattle.statement.specs.Evaluation.{added, out_of_range, writes}
use Rattle.orders.specs.declared.ways.sight.Sight.{Sight}
use Rattle.orders.specs.declared.ways.sight.Sight.TheVariants.{Unseen, Seen, Either}
use Rattle.orders.specs.declared.ways.way.Atom.{Atom}
use Rattle.orders.specs.declared.ways.way.Field.{Field}
use Rattle.orders.specs.declared.ways.way.Field.TheVariants as becomes
use Rattle.orders.specs.declared.ways.way.After.{After}
use Rattle.orders.specs.declared.ways.way.After.TheVariants as comes
use Rattle.orders.specs.declared.ways.way.Way.{Way}
pub use Rattle.orders.specs.Ways.{column_of}
use Rattle.orders.specs.Ways.{value_meets}

-- Above so many ways no statement makes two of one.
abbrev pub most_ways : ℕ
most_ways = 64

-- Above so many ways, or conditions that a row may fail, it isn't told which of these it failed.
abbrev pub most_apart : ℕ
most_apart = 12

abbrev pub most_parts : ℕ
most_parts = 4

-- Columns are numbered by 32 bits; a row that has more tells nothing of those.
abbrev pub last_column : ℕ
last_column = 2 ^ 32 - 1

-- a number less another, where 64 bits hold it
abbrev pub taken_away : ℤ → ℤ → Option ℤ
taken_away x d = if in_range (x -ℤ d) then Some (x -ℤ d) else None

-- two comparisons are the same
abbrev pub same_comparison : Comparison → Comparison → Bool
same_comparison is.Equal is.Equal = true
same_comparison is.NotEqual is.NotEqual = true
same_comparison is.Less is.Less = true
same_comparison is.LessOrEqual is.LessOrEqual = true
same_comparison is.Greater is.Greater = true
same_comparison is.GreaterOrEqual is.GreaterOrEqual = true
same_comparison _ _ = false

module _ {A : Type 0} where
  -- ---- what the row has now

  -- a number added to what column n has
  abbrev pub raised : ℕ → ℤ → Field A → Field A
  raised n d becomes.Kept = becomes.Sum n d
  raised n d (becomes.Given v) = if out_of_range (added v d) then becomes.Anything else becomes.Given (added v d)
  raised n d (becomes.Sum m e) = if in_range (e +ℤ d) then becomes.Sum m (e +ℤ d) else becomes.Anything
  raised n d becomes.Anything = becomes.Anything

  -- the value that a condition on column n says it has
  abbrev pub value_of : ℕ → Condition A → Option (Value A)
  value_of n (Compare m is.Equal v) = if m == n then Some v else None
  value_of n (IsNull m) = if m == n then Some Null else None
  value_of n _ = None

  abbrev pub value_told : ℕ → Atom A → Option (Value A)
  value_told n a = if a.truth then value_of n a.condition else None

  -- the value that column n was found to have
  abbrev pub found : ℕ → List (Atom A) → Option (Value A)
  found n [] = None
  found n (a ∷ atoms) = option_or (value_told n a) (found n atoms)

  -- what column n had before
  abbrev pub field_before : Way A → ℕ → Field A
  field_before w n = if w.is_absent then becomes.Kept else option_map_or becomes.Given (found n w.atoms) becomes.Kept

  -- what is said of a column, with what was found
  abbrev pub known : Way A → ℕ → Field A → Field A
  known w n becomes.Kept = field_before w n
  known w n (becomes.Sum m d) = raised m d (field_before w m)
  known w n f = f

  abbrev pub field_of : After A → ℕ → Field A
  field_of (comes.Row fs) n = unwrap_or (slice_get fs n) becomes.Anything
  field_of _ n = becomes.Anything

  -- What column n has now, where there is a row: of the row before, or given.
  abbrev pub field_now : Value A → Way A → ℕ → Field A
  field_now k w n = if n == 0 then becomes.Given k else known w n (field_of w.after (n - 1))

  -- ---- conditions

  abbrev pub field_passes : Condition A → Field A → Bool
  field_passes c (becomes.Given v) = value_meets v c
  field_passes c _ = false

  abbrev pub field_fails : Condition A → Field A → Bool
  field_fails c (becomes.Given v) = not (value_meets v c)
  field_fails c _ = false

  abbrev pub is_kept : Field A → Bool
  is_kept becomes.Kept = true
  is_kept _ = false

  -- the row meets the condition, whatever was there before; or it doesn't; or it does where the row before did
  abbrev pub passes : Value A → Way A → Condition A → Bool
  passes k w c = field_passes c (field_now k w (column_of c))

  abbrev pub doubts : Value A → Way A → Condition A → Bool
  doubts k w c = not (passes k w c)

  abbrev pub fails : Value A → Way A → Condition A → Bool
  fails k w c = field_fails c (field_now k w (column_of c))

  abbrev pub is_asked : Value A → Way A → Condition A → Bool
  is_asked k w c = is_kept (field_now k w (column_of c))

  abbrev pub holds_before : Condition A → Atom A
  holds_before c = record { condition = c; truth = true }

  abbrev pub fails_before : Condition A → Atom A
  fails_before c = record { condition = c; truth = false }

  -- a way with more asked
  abbrev pub asking : Way A → List (Atom A) → Way A
  asking w atoms = record w { atoms = w.atoms ++ atoms }

  abbrev pub is_gone : After A → Bool
  is_gone comes.Gone = true
  is_gone _ = false

  abbrev pub is_row : After A → Bool
  is_row (comes.Row fs) = true
  is_row _ = false

  -- The row is there and satisfies the conditions: none where that can't be.
  abbrev pub chosen_way : Value A → List (Condition A) → Way A → Option (Way A)
  chosen_way k cs w = if is_gone w.after || list_any (fails k w) cs then None else Some (asking w (map holds_before (filter (is_asked k w) cs)))

  -- two conditions are the same
  abbrev pub same_condition : Condition A → Condition A → Bool
  same_condition (Compare n how v) (Compare m other u) = n == m && (same_comparison how other && same v u)
  same_condition (Between n low high) (Between m least most) = n == m && (same low least && same high most)
  same_condition (IsNull n) (IsNull m) = n == m
  same_condition (IsNotNull n) (IsNotNull m) = n == m
  same_condition _ _ = false

  -- what was asked of the row before says that the condition fails
  abbrev pub denies : Condition A → Atom A → Bool
  denies c a = not a.truth && same_condition a.condition c

  abbrev pub is_denied : Way A → Condition A → Bool
  is_denied w c = list_any (denies c) w.atoms

  -- the way in which the condition fails
  abbrev pub failing : Value A → Way A → Condition A → Way A
  failing k w c = if is_asked k w c then asking w (fails_before c ∷ []) else w

  -- Of conditions that may fail it is told which one does: they are few, each is asked of the row before, and none is known to fail.
  abbrev pub are_apart : Bool → Value A → Way A → List (Condition A) → Bool
  are_apart few k w cs = few && (nat_le (length cs) most_parts && (list_all (is_asked k w) cs && not (list_any (is_denied w) cs)))

  -- one of these conditions fails, or there is no row
  abbrev pub denied : Bool → Value A → Way A → List (Condition A) → List (Way A)
  denied few k w [] = w ∷ []
  denied few k w (c ∷ []) = failing k w c ∷ []
  denied few k w cs = if are_apart few k w cs then map (failing k w) cs else w ∷ []

  -- There is no row, or it doesn't satisfy the conditions: none where that can't be.
  abbrev pub left_ways : Bool → Value A → List (Condition A) → Way A → List (Way A)
  left_ways few k cs w = if is_row w.after && list_all (passes k w) cs then [] else denied few k w (filter (doubts k w) cs)

  -- ---- what answers tell

  -- the condition leaves no key but this
  abbrev pub pins_key : Value A → Condition A → Bool
  pins_key k (Compare n is.Equal v) = n == 0 && same k v
  pins_key k (Between n low high) = n == 0 && (same k low && same k high)
  pins_key k _ = false

  abbrev pub pins : Value A → List (Condition A) → Bool
  pins k cs = list_any (pins_key k) cs

  -- the key of a row, where it is among the columns shown
  abbrev pub shown_key : List ℕ → List (Value A) → Option (Value A)
  shown_key (n ∷ ns) (v ∷ vs) = if n == 0 then Some v else shown_key ns vs
  shown_key _ _ = None

  abbrev pub is_of_key : Value A → List ℕ → List (Value A) → Bool
  is_of_key k ns row = option_map_or (same k) (shown_key ns row) false

  abbrev pub first_seen : List (List (Value A)) → Sight A
  first_seen [] = Unseen
  first_seen (row ∷ rows) = Seen row

  abbrev pub seen : Option (List (Value A)) → Sight A
  seen None = Unseen
  seen (Some row) = Seen row

  abbrev pub some_seen : List (List (Value A)) → Sight A
  some_seen [] = Unseen
  some_seen (row ∷ rows) = Either

  -- what is told by a number of rows that isn't zero
  abbrev pub some_counted : Value A → List (Condition A) → Sight A
  some_counted k cs = if pins k cs then Seen [] else Either

  abbrev pub shows_zero : List (List (Value A)) → Bool
  shows_zero rows = list_any (is_of_key (Int (pos 0)) (0 ∷ [])) rows

  -- what rows tell whose columns are named
  abbrev pub sight_of_columns : Value A → List ℕ → List (Condition A) → List (List (Value A)) → Sight A
  sight_of_columns k ns cs rows =
      if pins k cs then first_seen rows
      else if list_any (λ n. n == 0) ns then seen (find (is_of_key k ns) rows)
      else some_seen rows

  abbrev pub sight_of_rows : Value A → Projection A → List (Condition A) → List (List (Value A)) → Sight A
  sight_of_rows k shown.All cs rows = seen (find (is_of_key k (0 ∷ [])) rows)
  sight_of_rows k shown.Count cs rows = if shows_zero rows then Unseen else some_counted k cs
  sight_of_rows k (shown.Columns ns) cs rows = sight_of_columns k ns cs rows

  abbrev pub sight_of_count : Value A → List (Condition A) → ℕ → Sight A
  sight_of_count k cs n = if n == 0 then Unseen else some_counted k cs

  -- what a value tells of the column that has it: where the row before has it still, it is found
  abbrev pub found_to_be : ℕ → Value A → Condition A
  found_to_be n v = if is_null v then IsNull n else Compare n is.Equal v

  -- the way with a column of the row before found to have a value
  abbrev pub finding : ℕ → Value A → Way A → Way A
  finding n v w = asking w (holds_before (found_to_be n v) ∷ [])

  abbrev pub tell_before : ℕ → Option ℤ → Way A → Way A
  tell_before m None w = w
  tell_before m (Some n) w = finding m (Int n) w

  -- what a sum tells of the column that a number was added to
  abbrev pub tell_sum : ℕ → ℤ → Value A → Way A → Way A
  tell_sum m d (Int x) w = tell_before m (taken_away x d) w
  tell_sum m d _ w = w

  -- what a value tells of a column that was given one
  abbrev pub tell_given : Value A → Value A → Way A → Option (Way A)
  tell_given v u w = if same v u then Some w else None

  abbrev pub tell_as : ℕ → Value A → Way A → Field A → Option (Way A)
  tell_as n v w becomes.Kept = Some (finding n v w)
  tell_as n v w (becomes.Given u) = tell_given v u w
  tell_as n v w (becomes.Sum m d) = Some (tell_sum m d v w)
  tell_as n v w becomes.Anything = Some w

  abbrev pub tell_field : Value A → ℕ → Value A → Way A → Option (Way A)
  tell_field k n v w = tell_as n v w (field_now k w n)

  abbrev pub tell_all : Value A → ℕ → List (Value A) → Way A → Option (Way A)
  tell_all k n [] w = Some w
  tell_all k n (v ∷ vs) w = if nat_lt n last_column then option_and_then (tell_all k (n + 1) vs) (tell_field k n v w) else Some w

  abbrev pub tell_columns : Value A → List ℕ → List (Value A) → Way A → Option (Way A)
  tell_columns k (n ∷ ns) (v ∷ vs) w = option_and_then (tell_columns k ns vs) (tell_field k n v w)
  tell_columns k _ _ w = Some w

  -- what is shown of the row; none where it can't be
  abbrev pub tell : Value A → Projection A → List (Value A) → Way A → Option (Way A)
  tell k shown.All row w = tell_all k 0 row w
  tell k shown.Count row w = Some w
  tell k (shown.Columns ns) row w = tell_columns k ns row w

  -- ---- what statements do to the row

  abbrev pub counting : ℕ → Way A → Way A
  counting j w = record w { counted = w.counted ++ j ∷ [] }

  abbrev pub given_field : Value A → Way A → Source A → Field A
  given_field k w (Literal v) = becomes.Given v
  given_field k w (Sum n d) = raised n d (field_now k w n)

  abbrev pub set_given : ℕ → Field A → List (Field A) → List (Field A)
  set_given n f fs = if n == 0 then fs else slice_set fs (n - 1) f

  abbrev pub assigned_fields : Value A → Way A → List (Assignment A) → List (Field A) → List (Field A)
  assigned_fields k w [] fs = fs
  assigned_fields k w (a ∷ more) fs = assigned_fields k w more (set_given a.column (given_field k w a.source) fs)

  abbrev pub assigned_row : Value A → Way A → List (Assignment A) → After A → After A
  assigned_row k w more (comes.Row fs) = comes.Row (assigned_fields k w more fs)
  assigned_row k w more r = r

  abbrev pub assigning : Value A → List (Assignment A) → Way A → Way A
  assigning k more w = record w { after = assigned_row k w more w.after }

  abbrev pub deleting : Way A → Way A
  deleting w = record w { after = comes.Gone }

  -- what an UPDATE or a DELETE does to a way whose row it chooses
  abbrev pub changed : Value A → Statement A → Way A → Way A
  changed k (Update t more cs) w = assigning k more w
  changed k (Delete t cs) w = deleting w
  changed k _ w = w

  -- A key that is put in was not there.
  abbrev pub inserting : List (Value A) → Way A → Option (Way A)
  inserting fields w = if is_row w.after then None else Some (record w { after = comes.Row (map becomes.Given fields) })

  -- ---- one statement

  -- the condition leaves this key out
  abbrev pub leaves_out : Value A → Condition A → Bool
  leaves_out k c = column_of c == 0 && not (value_meets k c)

  -- the conditions on the key leave this key
  abbrev pub may_choose : Value A → List (Condition A) → Bool
  may_choose k cs = not (list_any (leaves_out k) cs)

  abbrev pub puts_in : Value A → List (Value A) → Bool
  puts_in k [] = false
  puts_in k (v ∷ fields) = same k v

  -- a statement looks at the row of key k in table t, or at whether there is one
  abbrev pub looks_at : ℕ → Value A → Statement A → Bool
  looks_at t k (Select u p cs) = u == t && may_choose k cs
  looks_at t k (Insert u values) = u == t && puts_in k values
  looks_at t k (Update u more cs) = u == t && may_choose k cs
  looks_at t k (Delete u cs) = u == t && may_choose k cs

  -- the way in which the row was chosen, by what the answer of statement j tells
  abbrev pub way_chosen : Value A → ℕ → Projection A → List (Condition A) → Sight A → Way A → Option (Way A)
  way_chosen k j p cs Unseen w = None
  way_chosen k j p cs (Seen row) w = option_and_then (tell k p row) (chosen_way k cs w)
  way_chosen k j p cs Either w = option_map (counting j) (chosen_way k cs w)

  -- the ways in which it wasn't
  abbrev pub ways_left : Bool → Value A → List (Condition A) → Sight A → Way A → List (Way A)
  ways_left few k cs (Seen row) w = []
  ways_left few k cs _ w = left_ways few k cs w

  -- what comes of a way where a chosen row is changed by f
  abbrev pub by_sight : Bool → Value A → ℕ → (Way A → Way A) → Projection A → List (Condition A) → Sight A → Way A → List (Way A)
  by_sight few k j f p cs s w = option_to_list (option_map f (way_chosen k j p cs s w)) ++ ways_left few k cs s w

  -- by a SELECT
  abbrev pub selected : Bool → Value A → ℕ → Statement A → Projection A → List (Condition A) → Reply A → Way A → List (Way A)
  selected few k j q p cs (Rows rows) w = by_sight few k j (changed k q) p cs (sight_of_rows k p cs rows) w
  selected few k j q p cs _ w = w ∷ []

  -- by an INSERT of the key
  abbrev pub put_in : List (Value A) → Reply A → Way A → List (Way A)
  put_in (v ∷ fields) Inserted w = option_to_list (inserting fields w)
  put_in _ _ w = w ∷ []

  -- by an UPDATE or a DELETE that is answered by a number
  abbrev pub counted_by : Bool → Value A → ℕ → Statement A → List (Condition A) → ℕ → Way A → List (Way A)
  counted_by few k j q cs n w = by_sight few k j (changed k q) shown.Count cs (sight_of_count k cs n) w

  abbrev pub updated_by : Bool → Value A → ℕ → Statement A → List (Condition A) → Reply A → Way A → List (Way A)
  updated_by few k j q cs (Updated n) w = counted_by few k j q cs n w
  updated_by few k j q cs _ w = w ∷ []

  abbrev pub deleted_by : Bool → Value A → ℕ → Statement A → List (Condition A) → Reply A → Way A → List (Way A)
  deleted_by few k j q cs (Deleted n) w = counted_by few k j q cs n w
  deleted_by few k j q cs _ w = w ∷ []

  -- What comes of one of few ways, or of more, by statement j, which looks at the row, and its answer. An answer that isn't of the statement's kind tells nothing.
  abbrev pub step : Bool → Value A → ℕ → Statement A → Reply A → Way A → List (Way A)
  step few k j (Select t p cs) r w = selected few k j (Select t p cs) p cs r w
  step few k j (Insert t values) r w = put_in values r w
  step few k j (Update t more cs) r w = updated_by few k j (Update t more cs) cs r w
  step few k j (Delete t cs) r w = deleted_by few k j (Delete t cs) cs r w

  -- a statement may have chosen the row or not, and done anything to it if it writes
  abbrev pub after_unread : ℕ → Bool → Way A → Way A
  after_unread j writing w = record w { after = if writing then comes.Anything else w.after; may_count = w.may_count ++ j ∷ [] }

  -- what is known where a statement isn't read
  abbrev pub coarse : ℕ → Statement A → Way A → Way A
  coarse j q w = after_unread j (writes q) w

  -- what comes of ways by statement j, which looks at the row
  abbrev pub looked_at : Value A → ℕ → Statement A → Reply A → List (Way A) → List (Way A)
  looked_at k j q r ws = if nat_le (length ws) most_ways then flat_map (step (nat_le (length ws) most_apart) k j q r) ws else map (coarse j q) ws

  -- What comes of ways by statement j and its answer.
  abbrev pub steps : ℕ → Value A → ℕ → Statement A → Reply A → List (Way A) → List (Way A)
  steps t k j q r ws = if looks_at t k q then looked_at k j q r ws else ws

  -- ---- all statements

  -- the statements from number j on
  abbrev pub steps_from : ℕ → Value A → ℕ → List (Statement A × Reply A) → List (Way A) → List (Way A)
  steps_from t k j [] ws = ws
  steps_from t k j (q ∷ qs) ws = steps_from t k (suc j) qs (steps t k j q.0 q.1 ws)

  -- nothing has been done: there is no row, or one with so many fields beside its key
  abbrev pub absent_way : Way A
  absent_way = record { is_absent = true; atoms = []; after = comes.Gone; counted = []; may_count = [] }

  abbrev pub present_way : ℕ → Way A
  present_way n = record { is_absent = false; atoms = []; after = comes.Row (replicate n becomes.Kept); counted = []; may_count = [] }

  abbrev pub first_ways : ℕ → List (Way A)
  first_ways n = absent_way ∷ present_way n ∷ []

  -- The ways of a transaction's statements and answers at the row of key k in table t.
  abbrev pub ways_of : Catalog → ℕ → Value A → List (Statement A × Reply A) → List (Way A)
  ways_of c t k qs = steps_from t k 0 qs (first_ways (length (columns_of c t) - 1))

  -- one of the statements looks at the row
  abbrev pub is_looked_at : ℕ → Value A → List (Statement A × Reply A) → Bool
  is_looked_at t k qs = list_any (λ q. looks_at t k q.0) qs
