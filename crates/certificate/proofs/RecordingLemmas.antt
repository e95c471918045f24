-- What a recording says of a row before all transactions, and of transactions that don't look at a spot.
use Rattle.std.proofs.Common.{◌≡◌, ◌⊎◌, refl, sym, ap, ◌∙◌, ℕ, ℤ, ◌+ℤ◌, Bool, true, false, true≢false, not, ◌&&◌, ◌==◌, cond, if◌then◌else◌, inl, inr, List, [], ◌∷◌, find, Option, Some, None, is_some, option_map}
use Rattle.std.proofs.lemmas.Bool.{and_parts, cases_Bool, eqb-true}
use Rattle.std.proofs.lemmas.Option.{same_Some, option_and_then_some}
use Rattle.std.specs.List.{list_all}
use Rattle.std.specs.Option.{option_and_then}
use Rattle.std.specs.FinMap as finmap
use Rattle.std.specs.Ordering.{is_eq}
use Rattle.value.specs.declared.value.Value.{Value}
use Rattle.value.specs.declared.value.Value.TheVariants.{Null, Int, Text, Bytes}
use Rattle.value.specs.Order.{value_cmp}
use Rattle.schema.specs.declared.row.Row.{Row}
use Rattle.schema.specs.declared.tables.Tables.{Tables}
use Rattle.schema.specs.Definition.{Catalog}
use Rattle.schema.specs.Plain.{is_null, same, row_at, rows_of}
use Rattle.schema.proofs.PlainLemmas.{same_value}
use Rattle.schema.specs.Rows.{Rows, row_of}
use Rattle.statement.specs.Conditions.{compares}
use Rattle.statement.specs.declared.condition.Comparison.TheVariants as is
use Rattle.statement.specs.declared.condition.Condition.{Condition}
use Rattle.statement.specs.declared.condition.Condition.TheVariants.{Compare, Between, IsNull, IsNotNull}
use Rattle.statement.specs.declared.statement.Statement.{Statement}
use Rattle.statement.specs.declared.reply.Reply.{Reply}
use Rattle.orders.specs.Explains.{Trace}
use Rattle.orders.specs.Symbolic.{is_looked_at, ways_of}
use Rattle.orders.specs.Ways.{allows, allows_value, as_said, column_of, plus, value_meets}
use Rattle.orders.specs.declared.ways.way.Atom.{Atom}
use Rattle.orders.specs.declared.ways.way.Way.{Way}
use Rattle.orders.proofs.CoverLemmas.{unlooked_ways}
use Rattle.certificate.specs.declared.known.Spot.{Spot}
use Rattle.certificate.specs.Additions.{AreCounted}
use Rattle.certificate.specs.Cells.{same_spot}
use Rattle.certificate.specs.Order.{Exact}
use Rattle.certificate.specs.Recorded.{board_of, is_held, number_in, number_of, numbers, same_state, wants}
use Rattle.certificate.proofs.AmongLemmas.{all-each, find-one}

none-some : {T : Type 0} (x : T) → None ≡ Some x → ⊥
none-some x e = cc

module _ {A : Type 0} where
  -- ---- what is called the same is the same

  spot-is : (s t : Spot A) → same_spot s t ≡ true → s ≡ t
  spot-is s t h =
      let p = and_parts (s.table == t.table) (same s.key t.key) h in
      ap (λ (n : ℕ). record { table = n; key = s.key }) (eqb-true s.table t.table p.0) ∙ ap (λ (v : Value A). record { table = t.table; key = v }) (same_value s.key t.key p.1)

  state-is : (s t : Option (Value A)) → same_state s t ≡ true → s ≡ t
  state-is None None h = refl
  state-is None (Some w) h = absurd (true≢false (sym h))
  state-is (Some v) None h = absurd (true≢false (sym h))
  state-is (Some v) (Some w) h = ap Some (same_value v w h)

  -- ---- numbers

  added-is : (s : Option (Value A)) (d n : ℤ) → number_of s ≡ Some n → number_of (plus d s) ≡ Some (n +ℤ d)
  added-is None d n e = absurd (none-some n e)
  added-is (Some Null) d n e = absurd (none-some n e)
  added-is (Some (Int m)) d n e = ap (λ q. Some (q +ℤ d)) (same_Some m n e)
  added-is (Some (Text t)) d n e = absurd (none-some n e)
  added-is (Some (Bytes t)) d n e = absurd (none-some n e)

  -- what meets a condition that holds it to a number is that number
  number-met : (v : Value A) (c : Condition A) (n : ℤ) → value_meets v c ≡ true → number_in c ≡ Some n → number_of (Some v) ≡ Some n
  number-met v (Compare m is.Equal w) n h e =
      ap (λ u. number_of (Some u)) (same_value v w (and_parts (not (is_null {A = A} v) && not (is_null {A = A} w)) (compares is.Equal (value_cmp {A = A} v w)) h).1) ∙ e
  number-met v (Compare m is.NotEqual w) n h e = absurd (none-some n e)
  number-met v (Compare m is.Less w) n h e = absurd (none-some n e)
  number-met v (Compare m is.LessOrEqual w) n h e = absurd (none-some n e)
  number-met v (Compare m is.Greater w) n h e = absurd (none-some n e)
  number-met v (Compare m is.GreaterOrEqual w) n h e = absurd (none-some n e)
  number-met v (Between m low high) n h e = absurd (none-some n e)
  number-met v (IsNull m) n h e = absurd (none-some n e)
  number-met v (IsNotNull m) n h e = absurd (none-some n e)

  asked-is : (n : ℕ) (v : Value A) (a : Atom A) (m : ℤ) → allows_value n v a ≡ true → is_held n a ≡ true → number_in a.condition ≡ Some m → number_of (Some v) ≡ Some m
  asked-is n v a m h g e =
      let p = and_parts (a.truth && column_of a.condition == n) (is_some (number_in a.condition)) g in
      let q = and_parts a.truth (column_of a.condition == n) p.0 in
      let said : as_said a.truth (value_meets v a.condition) ≡ true = sym (ap (λ t. if t then as_said a.truth (value_meets v a.condition) else true) q.1) ∙ h in
      number-met v a.condition m (sym (ap (λ t. as_said t (value_meets v a.condition)) q.0) ∙ said) e

  wanted-by : (w : Way A) (n : ℕ) (s : Option (Value A)) (m : ℤ) (a : Atom A) → w.is_absent ≡ false → allows w n s ≡ true → find (is_held n) w.atoms ≡ Some a → number_in a.condition ≡ Some m → number_of s ≡ Some m
  wanted-by w n None m a t h f e = absurd (true≢false (sym h ∙ t))
  wanted-by w n (Some v) m a t h f e =
      let p = and_parts (not w.is_absent) (list_all (allows_value n v) w.atoms) h in
      let one = find-one (is_held n) w.atoms a f in
      asked-is n v a m (all-each (allows_value n v) a w.atoms p.1 one.0) one.1 e

  wanted-is : (w : Way A) (n : ℕ) (s : Option (Value A)) (m : ℤ) → allows w n s ≡ true → wants w n ≡ Some m → number_of s ≡ Some m
  wanted-is w n s m h e = go (cases_Bool w.is_absent)
    where
      go : (w.is_absent ≡ true) ⊎ (w.is_absent ≡ false) → number_of s ≡ Some m
      go (inl t) = absurd (none-some m (sym (ap (λ b. if b then None else option_and_then (λ a. number_in a.condition) (find (is_held n) w.atoms)) t) ∙ e))
      go (inr t) =
          let found : option_and_then (λ a. number_in a.condition) (find (is_held n) w.atoms) ≡ Some m = sym (ap (λ b. if b then None else option_and_then (λ a. number_in a.condition) (find (is_held n) w.atoms)) t) ∙ e in
          option_and_then_some (λ a. number_in a.condition) (find (is_held n) w.atoms) m found (λ a f g. wanted-by w n s m a t h f g)

  pub board-exact : (c : Catalog) (X : Tables A) (ts : List (Trace A)) → Exact (board_of c X ts)
  board-exact c X ts = record { spot = λ s t h. spot-is s t h; state = λ s t h. state-is s t h }

  pub are-counted : (c : Catalog) (X : Tables A) (ts : List (Trace A)) → AreCounted (board_of c X ts) numbers
  are-counted c X ts = record { added = λ s d n h. added-is s d n h; wanted = λ w n s m h e. wanted-is w n s m h e }

  -- ---- rows and transactions

  -- the fields beside a key, of its row
  find-row : (rows : Rows A) (key : Value A) → finmap.find value_cmp key rows ≡ option_map (λ row. row.1) (row_of rows key)
  find-row [] key = refl
  find-row (row ∷ rows) key = by_test (is_eq (value_cmp key row.0)) (find-row rows key)
    where
      by_test : (b : Bool) → finmap.find value_cmp key rows ≡ option_map (λ row. row.1) (row_of rows key)
          → cond b (Some row.1) (finmap.find value_cmp key rows) ≡ option_map (λ row. row.1) (cond b (Some row) (row_of rows key))
      by_test true e = refl
      by_test false e = e

  pub row-found : (o : Option (Row A)) (X : Tables A) (t : ℕ) (key : Value A) → o ≡ row_of (rows_of X t) key → option_map (λ row. row.1) o ≡ row_at X t key
  row-found o X t key e = ap (option_map (λ (row : Row A). row.1)) e ∙ sym (find-row (rows_of X t) key)

  -- who looks at nothing there does nothing
  pub idle-ways : (c : Catalog) (t : ℕ) (key : Value A) (qs : List (Statement A × Reply A)) → is_looked_at t key qs ≡ false → ways_of c t key qs ≡ ways_of c t key []
  idle-ways c t key qs e = unlooked_ways c t key qs e ∙ sym (unlooked_ways c t key [] refl)
