-- What additions leave: where all others only add to a cell, a reader finds the number that a base left, and what those add that stand between the two.
use Rattle.std.specs.Prelude.{◌≡◌, ℕ, zero, suc, ℤ, pos, ◌+ℤ◌, int_lt, int_le, ◌==◌, Bool, true, false, ◌&&◌, ◌||◌, if◌then◌else◌, Option, Some, None, List, [], ◌∷◌}
use Rattle.std.specs.List.{list_all, list_any}
use Rattle.std.specs.Option.{option_and_then, option_map_or}
use Rattle.schema.specs.Plain.{in_range}
use Rattle.certificate.specs.Board.{Board, Effect, Keeps, Leaves, Adds, Unknown}
use Rattle.certificate.specs.Knowledge.{Cell, Known, comes_before, is_among, is_present, left, places_below}

-- ---- numbers

abbrev pub same_int : ℤ → ℤ → Bool
same_int m n = int_le m n && int_le n m

-- a sum of 64 bits
abbrev pub plus_in_range : ℤ → ℤ → Option ℤ
plus_in_range m n = if in_range (m +ℤ n) then Some (m +ℤ n) else None

-- what an addition that may count adds at most, and at least
abbrev pub part : Bool → ℤ → ℤ
part true d = if int_lt d (pos 0) then pos 0 else d
part false d = if int_lt d (pos 0) then d else pos 0

abbrev pub agrees : Option ℤ → Option ℤ → Bool
agrees (Some m) (Some n) = same_int m n
agrees (Some m) None = false
agrees None n = false

-- the number of all, where it is the same
abbrev pub common : {T : Type 0} → (T → Option ℤ) → List T → Option ℤ
common f [] = None
common f (x ∷ xs) = if list_all (λ y. agrees (f y) (f x)) xs then f x else None

-- a sum, where there is a number
abbrev pub sum_of : Option ℤ → ℤ → Option ℤ
sum_of None d = None
sum_of (Some n) d = plus_in_range n d

-- what it adds at most, or at least, where it surely counts, or may
abbrev pub share_of : Bool → Bool → Option ℤ → Option ℤ
share_of upper between None = None
share_of upper between (Some d) = Some (if between then d else part upper d)

-- a number is above what may be found at most, or below what may be found at least
abbrev pub misses : Bool → Option ℤ → ℤ → Bool
misses upper None n = false
misses true (Some t) n = int_lt t n
misses false (Some t) n = int_lt n t

-- how states are read as numbers
pub record Numbers (W S : Type 0) : Type 0 where
  pub number : S → Option ℤ  -- a state that is a number
  pub wants : W → ℕ → Option ℤ  -- the number that a column must have before a way, where it is one alone

module _ {W S P : Type 0} (b : Board W S P) (reads : Numbers W S) where
  -- they are read as the board counts
  pub record AreCounted : Type 0 where
    pub added : (s : S) (d n : ℤ) → reads.number s ≡ Some n → reads.number (b.plus s d) ≡ Some (n +ℤ d)
    pub wanted : (w : W) (column : ℕ) (s : S) (n : ℤ) → b.allows w column s ≡ true → reads.wants w column ≡ Some n → reads.number s ≡ Some n

-- what an effect adds to its column
abbrev pub addition : {S : Type 0} → ℕ → Effect S → Option ℤ
addition n Keeps = Some (pos 0)
addition n (Leaves s) = None
addition n (Adds from d) = if from == n then Some d else None
addition n Unknown = None

-- the number that an effect leaves in its column, where states are read as numbers, and this was there before
abbrev pub outcome : {S : Type 0} → (S → Option ℤ) → Option ℤ → ℕ → Effect S → Option ℤ
outcome number before n Keeps = before
outcome number before n (Leaves s) = number s
outcome number before n (Adds from d) = if from == n then sum_of before d else None
outcome number before n Unknown = None

module _ {W S P : Type 0} (b : Board W S P) (reads : Numbers W S) (k : Known S P) where
  -- ---- ways

  abbrev pub way_adds : Cell P → W → Option ℤ
  way_adds c w = addition c.column (b.effect c.spot w c.column)

  abbrev pub way_leaves : Cell P → W → Option ℤ
  way_leaves c w = outcome reads.number (reads.wants w c.column) c.column (b.effect c.spot w c.column)

  -- what a transaction adds to a cell, the number that it leaves there, and the one that it needs there, by all of its ways that are left
  abbrev pub adds : Cell P → ℕ → Option ℤ
  adds c z = common (way_adds c) (left b k z c.spot)

  abbrev pub leaves_number : Cell P → ℕ → Option ℤ
  leaves_number c x = common (way_leaves c) (left b k x c.spot)

  abbrev pub wants_number : Cell P → ℕ → Option ℤ
  wants_number c y = common (λ w. reads.wants w c.column) (left b k y c.spot)

  -- ---- between a base, which is a transaction or the opening, and a reader

  abbrev pub is_at_base : Option ℕ → ℕ → Bool
  is_at_base None z = false
  is_at_base (Some x) z = z == x || comes_before b k z x

  abbrev pub is_after_base : Option ℕ → ℕ → Bool
  is_after_base None z = true
  is_after_base (Some x) z = comes_before b k x z

  -- it doesn't stand between them
  abbrev pub is_outside : Option ℕ → ℕ → ℕ → Bool
  is_outside base y z = z == y || is_among z k.absent || comes_before b k y z || is_at_base base z

  -- it surely does
  abbrev pub is_between : Option ℕ → ℕ → ℕ → Bool
  is_between base y z = is_present b k z && is_after_base base z && comes_before b k z y

  -- what one adds between them, at most or at least; nothing is known where one may do anything else
  abbrev pub share : Bool → Option ℕ → Cell P → ℕ → ℕ → Option ℤ
  share upper base c y z = if is_outside base y z then Some (pos 0) else share_of upper (is_between base y z) (adds c z)

  -- a number, and what those below a place add
  abbrev pub total : Bool → Option ℕ → Cell P → ℕ → ℕ → ℤ → Option ℤ
  total upper base c y zero t = Some t
  total upper base c y (suc n) t = option_and_then (λ d. option_and_then (λ u. total upper base c y n u) (plus_in_range t d)) (share upper base c y n)

  abbrev pub base_number : Option ℕ → Cell P → Option ℤ
  base_number None c = reads.number (b.opening c.spot c.column)
  base_number (Some x) c = leaves_number c x

  -- the most, or the least, that a reader may have found
  abbrev pub bound : Bool → Option ℕ → Cell P → ℕ → Option ℤ
  bound upper base c y = option_and_then (total upper base c y b.count) (base_number base c)

  abbrev pub is_base : Option ℕ → ℕ → Bool
  is_base None y = true
  is_base (Some x) y = is_present b k x && comes_before b k x y

  -- by a base, a reader can't have found this number
  abbrev pub is_out : Cell P → ℕ → ℤ → Option ℕ → Bool
  is_out c y n base = is_base base y && (misses false (bound false base c y) n || misses true (bound true base c y) n)

  abbrev pub is_out_of_all : Cell P → ℕ → ℤ → Bool
  is_out_of_all c y n = is_out c y n None || list_any (λ x. is_out c y n (Some x)) (places_below b.count)

  -- additions can't have come to the number that a reader, which is there, needs
  abbrev pub is_beyond : Cell P → ℕ → Bool
  is_beyond c y = is_present b k y && option_map_or (is_out_of_all c y) (wants_number c y) false
