-- What an order that explains a recording makes of each spot, and when what is known holds of it.
use Rattle.std.specs.Prelude.{◌≡◌, ◌⊎◌, ◌<◌, ◌≤◌, ℕ, suc, Bool, true, Some, List, [], ◌∷◌, length, slice_get}
use Rattle.std.specs.List.{list_all, list_any}
use Rattle.certificate.specs.Board.{Board, Effect, Keeps, Leaves, Adds, Unknown}
use Rattle.certificate.specs.Knowledge.{Cell, Excluded, Finding, Known, are_apart}

-- it stands in the list
abbrev pub Among : {T : Type 0} → T → List T → Type 0
Among x [] = ⊥
Among x (y ∷ ys) = (x ≡ y) ⊎ Among x ys

-- the states of a spot's columns before a transaction, and after it, and which of its statements, by their numbers, chose the row
pub record Turn (S : Type 0) : Type 0 where
  pub before : ℕ → S
  pub after : ℕ → S
  pub chosen : ℕ → Bool

module _ {W S P : Type 0} (b : Board W S P) where
  -- what an effect makes of a column
  abbrev pub Does : (ℕ → S) → ℕ → S → Effect S → Type 0
  Does before n after Keeps = after ≡ before n
  Does before n after (Leaves s) = after ≡ s
  Does before n after (Adds m d) = after ≡ b.plus (before m) d
  Does before n after Unknown = Unit {0}

  -- the transaction at place x did at the spot what its way with this number says
  pub record HasWay (x : ℕ) (s : P) (turn : Turn S) (n : ℕ) (w : W) : Type 0 where
    pub way : slice_get (b.ways x s) n ≡ Some w
    pub allowed : (column : ℕ) → b.allows w column (turn.before column) ≡ true
    pub does : (column : ℕ) → Does turn.before column (turn.after column) (b.effect s w column)
    pub counted : (j : ℕ) → b.counts w j ≡ true → turn.chosen j ≡ true
    pub may_count : (j : ℕ) → turn.chosen j ≡ true → b.may_count x s w j ≡ true

  -- An order of places in which each transaction stands at most once, and once if it committed; time is kept; and at each spot each did one of its ways, beginning where the one before it ended; and each statement chose as many rows as it was answered.
  pub record Play (order : List ℕ) (turns : P → ℕ → Turn S) : Type 0 where
    pub once : (i j x : ℕ) → slice_get order i ≡ Some x → slice_get order j ≡ Some x → i ≡ j
    pub within : (i x : ℕ) → slice_get order i ≡ Some x → x < b.count
    pub complete : (x : ℕ) → b.committed x ≡ true → (i : ℕ) × (slice_get order i ≡ Some x)
    pub timely : (i j x y : ℕ) → slice_get order i ≡ Some x → slice_get order j ≡ Some y → b.precedes x y ≡ true → i < j
    pub opened : (s : P) (column : ℕ) → (turns s 0).before column ≡ b.opening s column
    pub joined : (s : P) (i column : ℕ) → (turns s (suc i)).before column ≡ (turns s i).after column
    pub ways : (s : P) (i x : ℕ) → slice_get order i ≡ Some x → (n : ℕ) × (w : W) × HasWay x s (turns s i) n w
    pub no_fewer : (i x : ℕ) (s : P) (j n : ℕ) (ss : List P) → slice_get order i ≡ Some x → b.tells x s j n ≡ true → list_all (b.same_table s) ss ≡ true → are_apart b ss ≡ true
        → ((u : P) → Among u ss → (turns u i).chosen j ≡ true) → length ss ≤ n
    pub no_more : (i x : ℕ) (s : P) (j n : ℕ) (ss : List P) → slice_get order i ≡ Some x → b.tells x s j n ≡ true
        → ((u : P) → Among u (b.keys s) → (turns u i).chosen j ≡ true → list_any (b.same_spot u) ss ≡ true) → n ≤ length ss

  -- words for what is the same say so
  pub record Exact : Type 0 where
    pub spot : (s t : P) → b.same_spot s t ≡ true → s ≡ t
    pub state : (s t : S) → b.same_state s t ≡ true → s ≡ t

  module _ (order : List ℕ) (turns : P → ℕ → Turn S) where
    -- the first stands before the second, if both stand
    abbrev pub IsBefore : ℕ → ℕ → Type 0
    IsBefore x y = (i j : ℕ) → slice_get order i ≡ Some x → slice_get order j ≡ Some y → i < j

    abbrev pub IsThere : ℕ → Type 0
    IsThere x = (i : ℕ) × (slice_get order i ≡ Some x)

    abbrev pub IsExcluded : Excluded P → Type 0
    IsExcluded e = (i : ℕ) (w : W) → slice_get order i ≡ Some e.place → HasWay e.place e.spot (turns e.spot i) e.way w → ⊥

    abbrev pub IsFound : Finding S P → Type 0
    IsFound f = (i : ℕ) → slice_get order i ≡ Some f.place → (turns f.cell.spot i).before f.cell.column ≡ f.state

    -- what is known holds of the order
    pub record Valid (k : Known S P) : Type 0 where
      pub pairs : (p : ℕ × ℕ) → Among p k.pairs → IsBefore p.0 p.1
      pub excluded : (e : Excluded P) → Among e k.excluded → IsExcluded e
      pub findings : (f : Finding S P) → Among f k.findings → IsFound f
      pub present : (x : ℕ) → Among x k.present → IsThere x
      pub absent : (x : ℕ) → Among x k.absent → IsThere x → ⊥

    -- from place i on, and before place j, all keep the cell
    abbrev pub AllKeep : Cell P → ℕ → ℕ → Type 0
    AllKeep c i j = (m x : ℕ) → i ≤ m → m < j → slice_get order m ≡ Some x → (n : ℕ) × (w : W) × HasWay x c.spot (turns c.spot m) n w × (b.effect c.spot w c.column ≡ Keeps)

    -- before place j the cell is as it was at first, and nobody has written it
    pub record IsUnwritten (c : Cell P) (j : ℕ) : Type 0 where
      pub kept : AllKeep c 0 j
      pub state : (turns c.spot j).before c.column ≡ b.opening c.spot c.column

    -- it is as the transaction at place i left it, and nobody has written it since
    pub record IsLeftBy (c : Cell P) (j i x n : ℕ) (w : W) : Type 0 where
      pub earlier : i < j
      pub at : slice_get order i ≡ Some x
      pub way : HasWay x c.spot (turns c.spot i) n w
      pub writes : b.effect c.spot w c.column ≡ Keeps → ⊥
      pub state : (turns c.spot j).before c.column ≡ (turns c.spot i).after c.column
      pub kept : AllKeep c (suc i) j
