-- What is known of a recording where an order is looked for: who had ended before whom began, and what each transaction may have done to each row.
use Rattle.std.specs.Prelude.{ℕ, ℤ, Bool, true, false, List}

-- What a way does to a cell: it keeps it, leaves this state, adds a number to what another column of the row had, or nobody knows.
pub data Effect (S : Type 0) : Type 0 where
  Keeps : Effect S
  Leaves : S → Effect S
  Adds : ℕ → ℤ → Effect S
  Unknown : Effect S

-- it writes the cell
abbrev pub is_write : {S : Type 0} → Effect S → Bool
is_write Keeps = false
is_write _ = true

-- Transactions by place. W are ways, S states of a cell, P spots, each a key of a table; cells are the columns of a spot.
pub record Board (W S P : Type 0) : Type 0 where
  pub count : ℕ  -- how many transactions there are
  pub precedes : ℕ → ℕ → Bool  -- the first had ended before the second began
  pub committed : ℕ → Bool  -- it is known to have committed
  pub ways : ℕ → P → List W  -- what a transaction may have done at a spot
  pub allows : W → ℕ → S → Bool  -- a way may begin where the column has this state
  pub effect : P → W → ℕ → Effect S  -- what it does to a column of the spot
  pub opening : P → ℕ → S  -- the column's state before all transactions
  pub plus : S → ℤ → S  -- a state with a number added
  pub overflows : S → ℤ → Bool  -- which is out of range
  pub counts : W → ℕ → Bool  -- by a way, a statement of the transaction, by its number, chose the row
  pub may_count : ℕ → P → W → ℕ → Bool  -- by a way of a transaction at a spot, it may have
  pub tells : ℕ → P → ℕ → ℕ → Bool  -- a statement of a transaction chose so many rows of the spot's table, by its answer
  pub keys : P → List P  -- the spots of its table that may ever have a row
  pub same_table : P → P → Bool
  pub same_spot : P → P → Bool
  pub same_state : S → S → Bool
