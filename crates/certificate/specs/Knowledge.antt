-- What a certificate has shown so far, and from whom a transaction may have what it found.
use Rattle.std.specs.Prelude.{ℕ, ℤ, zero, suc, ◌==◌, Bool, true, false, not, ◌&&◌, ◌||◌, Option, Some, None, List, [], ◌∷◌, ◌++◌, find, if◌then◌else◌}
use Rattle.std.specs.List.{filter, list_all, list_any}
use Rattle.std.specs.Option.{option_map}
use Rattle.certificate.specs.Board.{Board, Effect, Keeps, Leaves, Adds, Unknown, is_write}

-- a column of a spot
pub record Cell (P : Type 0) : Type 0 where
  pub spot : P
  pub column : ℕ

-- that a way, by its number, is none in which the transaction did what it did at the spot
pub record Excluded (P : Type 0) : Type 0 where
  pub place : ℕ
  pub spot : P
  pub way : ℕ

-- what a transaction found in a cell
pub record Finding (S P : Type 0) : Type 0 where
  pub place : ℕ
  pub cell : Cell P
  pub state : S

-- What is known: of two transactions that the first comes before the second, if the order has both; ways that are out of the question; what was found; who is in the order, and who isn't.
pub record Known (S P : Type 0) : Type 0 where
  pub pairs : List (ℕ × ℕ)
  pub excluded : List (Excluded P)
  pub findings : List (Finding S P)
  pub present : List ℕ
  pub absent : List ℕ

module _ {S P : Type 0} where
  -- ---- one fact more

  abbrev pub with_pair : Known S P → ℕ → ℕ → Known S P
  with_pair k x y = record k { pairs = k.pairs ++ (x, y) ∷ [] }

  abbrev pub with_excluded : Known S P → ℕ → P → ℕ → Known S P
  with_excluded k x s n = record k { excluded = k.excluded ++ record { place = x; spot = s; way = n } ∷ [] }

  abbrev pub with_found : Known S P → ℕ → Cell P → S → Known S P
  with_found k x c v = record k { findings = k.findings ++ record { place = x; cell = c; state = v } ∷ [] }

  abbrev pub with_present : Known S P → ℕ → Known S P
  with_present k x = record k { present = k.present ++ x ∷ [] }

  abbrev pub with_absent : Known S P → ℕ → Known S P
  with_absent k x = record k { absent = k.absent ++ x ∷ [] }

abbrev pub is_among : ℕ → List ℕ → Bool
is_among i is = list_any (λ j. j == i) is

-- the places below one, the last first
abbrev pub places_below : ℕ → List ℕ
places_below zero = []
places_below (suc n) = n ∷ places_below n

module _ {W S P : Type 0} (b : Board W S P) where
  -- no spot stands twice
  abbrev pub are_apart : List P → Bool
  are_apart [] = true
  are_apart (s ∷ ss) = not (list_any (b.same_spot s) ss) && are_apart ss

module _ {W S P : Type 0} (b : Board W S P) (k : Known S P) where
  -- ---- who is there, and before whom

  abbrev pub comes_before : ℕ → ℕ → Bool
  comes_before x y = b.precedes x y || list_any (λ p. p.0 == x && p.1 == y) k.pairs

  abbrev pub is_present : ℕ → Bool
  is_present x = b.committed x || is_among x k.present

  -- ---- ways

  abbrev pub is_excluded : ℕ → P → ℕ → Bool
  is_excluded x s n = list_any (λ e. e.place == x && e.way == n && b.same_spot e.spot s) k.excluded

  -- the ways that are left, from the one with this number on
  abbrev pub left_from : ℕ → P → ℕ → List W → List W
  left_from x s n [] = []
  left_from x s n (w ∷ ws) = if is_excluded x s n then left_from x s (suc n) ws else w ∷ left_from x s (suc n) ws

  abbrev pub left : ℕ → P → List W
  left x s = left_from x s 0 (b.ways x s)

  abbrev pub may_write : ℕ → Cell P → Bool
  may_write x c = list_any (λ w. is_write (b.effect c.spot w c.column)) (left x c.spot)

  abbrev pub surely_writes : ℕ → Cell P → Bool
  surely_writes x c = list_all (λ w. is_write (b.effect c.spot w c.column)) (left x c.spot)

  -- ---- from whom a transaction may have what it found

  -- what a transaction found in a column at a spot, if it is known
  abbrev pub found_in : ℕ → P → ℕ → Option S
  found_in x s n = option_map (λ f. f.state) (find (λ f. f.place == x && f.cell.column == n && b.same_spot f.cell.spot s) k.findings)

  -- what is left by an effect passes a test; what isn't known may
  abbrev pub passes_sum : (S → Bool) → ℤ → Option S → Bool
  passes_sum may d None = true
  passes_sum may d (Some s) = b.overflows s d || may (b.plus s d)

  abbrev pub passes : (S → Bool) → ℕ → P → Effect S → Bool
  passes may x s Keeps = false
  passes may x s (Leaves v) = may v
  passes may x s (Adds m d) = passes_sum may d (found_in x s m)
  passes may x s Unknown = true

  -- one of the ways that are left of a transaction leaves what passes
  abbrev pub may_leave : (S → Bool) → ℕ → Cell P → Bool
  may_leave may x c = list_any (λ w. passes may x c.spot (b.effect c.spot w c.column)) (left x c.spot)

  -- it is in the order, and writes the cell
  abbrev pub is_writer : Cell P → ℕ → Bool
  is_writer c y = is_present y && surely_writes y c

  -- those that write the cell before y
  abbrev pub writers : Cell P → ℕ → List ℕ
  writers c y = filter (λ z. comes_before z y && is_writer c z) (places_below b.count)

  -- a writer stands between x and y
  abbrev pub is_overwritten : Cell P → ℕ → ℕ → Bool
  is_overwritten c x y = list_any (λ z. comes_before x z) (writers c y)

  -- y may have the cell from x, where what it asks of the cell is this
  abbrev pub may_be_from : (S → Bool) → Cell P → ℕ → ℕ → Bool
  may_be_from may c y x = not (x == y) && not (is_among x k.absent) && not (comes_before y x) && not (is_overwritten c x y) && may_leave may x c

  abbrev pub sources : (S → Bool) → Cell P → ℕ → List ℕ
  sources may c y = filter (may_be_from may c y) (places_below b.count)

  -- y may have the cell from the opening
  abbrev pub may_be_first : (S → Bool) → Cell P → ℕ → Bool
  may_be_first may c y = may (b.opening c.spot c.column) && list_all (λ z. false) (writers c y)

  -- one of these ways may begin where the column has this state
  abbrev pub one_allows : List W → ℕ → S → Bool
  one_allows ws n s = list_any (λ w. b.allows w n s) ws

  -- what y asks of the cell: one of its ways that are left may begin so
  abbrev pub asks : Cell P → ℕ → S → Bool
  asks c y = one_allows (left y c.spot) c.column
