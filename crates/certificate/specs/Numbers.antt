-- What lines of a certificate may say of numbers of rows. The spots of a table are found from the recording.
use Rattle.std.specs.Prelude.{ℕ, nat_le, nat_lt, Bool, false, not, ◌&&◌, option_and_then, Option, Some, None, List, [], ◌∷◌, map, slice_get}
use Rattle.std.specs.List.{filter, list_all}
use Rattle.std.specs.Option.{option_map_or}
use Rattle.std.specs.BTreeSet.{insert_key}
use Rattle.value.specs.declared.value.Value.{Value}
use Rattle.value.specs.Order.{value_cmp}
use Rattle.schema.specs.Plain.{is_null}
use Rattle.orders.specs.Counts.{number_at, table_at}
use Rattle.certificate.specs.declared.known.Spot.{Spot}
use Rattle.certificate.specs.Board.{Board}
use Rattle.certificate.specs.Knowledge.{Known, is_present}
use Rattle.certificate.specs.Recorded.{Recording, board, keys_of}
use Rattle.certificate.specs.Sums.{at_least, at_most, others}

module _ {A : Type 0} where
  -- values put among those that are there, each once, in their order
  abbrev pub put_in_order : List (Value A) → List (Value A) → List (Value A)
  put_in_order ks [] = ks
  put_in_order ks (v ∷ vs) = put_in_order (insert_key value_cmp ks v) vs

  abbrev pub is_key : Value A → Bool
  is_key v = not (is_null v)

  abbrev pub spot_of : ℕ → Value A → Spot A
  spot_of u k = record { table = u; key = k }

module _ {A : Type 0} (r : Recording A) where
  -- the values that table u may ever have as keys, each once, in their order
  abbrev pub table_keys : ℕ → List (Value A)
  table_keys u = put_in_order [] (keys_of r.opening r.transactions u)

  -- none of them is null
  abbrev pub has_keys_alone : ℕ → Bool
  has_keys_alone u = list_all is_key (table_keys u)

  -- the spots of table u that may ever have a row
  abbrev pub spots : ℕ → List (Spot A)
  spots u = map (spot_of u) (filter is_key (table_keys u))

  -- the table of statement j of a transaction
  abbrev pub table_of : ℕ → ℕ → Option ℕ
  table_of y j = option_and_then (λ t. table_at t.statements j) (slice_get r.transactions y)

  -- how many rows of table u statement j of a transaction chose, by its answer
  abbrev pub number_of : ℕ → ℕ → ℕ → Option ℕ
  number_of y u j = option_and_then (λ t. number_at u t.statements j) (slice_get r.transactions y)

module _ {A : Type 0} (r : Recording A) (k : Known (Option (Value A)) (Spot A)) where
  -- statement j of y surely chose more rows of table u than its answer tells; or can't have chosen so many
  abbrev pub is_over : ℕ → ℕ → ℕ → Bool
  is_over y j u = option_map_or (λ n. nat_lt n (at_least (board r) k y j (spots r u))) (number_of r y u j) false

  abbrev pub is_under : ℕ → ℕ → ℕ → Bool
  is_under y j u = has_keys_alone r u && option_map_or (λ n. nat_lt (at_most (board r) k y j (spots r u)) n) (number_of r y u j) false

  abbrev pub is_overfull : ℕ → ℕ → Bool
  is_overfull y j = is_present (board r) k y && option_map_or (is_over y j) (table_of r y j) false

  abbrev pub is_lacking : ℕ → ℕ → Bool
  is_lacking y j = is_present (board r) k y && option_map_or (is_under y j) (table_of r y j) false

  -- at the spots but one, it surely chose as many as its answer tells; or can't have
  abbrev pub is_filled_beside : ℕ → ℕ → Spot A → Bool
  is_filled_beside y j s = option_map_or (λ n. nat_le n (at_least (board r) k y j (others (board r) k s (spots r s.table)))) (number_of r y s.table j) false

  abbrev pub is_short_beside : ℕ → ℕ → Spot A → Bool
  is_short_beside y j s = has_keys_alone r s.table && option_map_or (λ n. nat_lt (at_most (board r) k y j (others (board r) k s (spots r s.table))) n) (number_of r y s.table j) false

  -- the way with a number counts where no more may be counted, or doesn't where one more must be
  abbrev pub is_too_many : ℕ → ℕ → Spot A → ℕ → Bool
  is_too_many y j s m = option_map_or (λ w. (board r).counts w j && is_filled_beside y j s) (slice_get ((board r).ways y s) m) false

  abbrev pub is_too_few : ℕ → ℕ → Spot A → ℕ → Bool
  is_too_few y j s m = option_map_or (λ w. not ((board r).may_count y s w j) && is_short_beside y j s) (slice_get ((board r).ways y s) m) false
