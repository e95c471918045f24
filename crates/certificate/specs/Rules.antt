-- What a line of a certificate may say, by what is known so far.
use Rattle.std.specs.Prelude.{ℕ, ℤ, ◌==◌, Bool, false, not, ◌&&◌, ◌||◌, Option, Some, None, [], ◌∷◌}
use Rattle.std.specs.List.{list_all}
use Rattle.certificate.specs.Board.{Board, Effect, Keeps, Leaves, Adds, Unknown}
use Rattle.certificate.specs.Knowledge.{Cell, Known, comes_before, is_present, left, surely_writes, found_in, passes, sources, may_be_first, one_allows, asks}

module _ {W S P : Type 0} (b : Board W S P) (k : Known S P) where
  -- x comes before y, and y before z
  abbrev pub is_joined : ℕ → ℕ → ℕ → Bool
  is_joined x y z = is_present b k y && comes_before b k x y && comes_before b k y z

  -- y has the cell from nobody but those that pass the test, and not from the opening
  abbrev pub is_only_from : (ℕ → Bool) → Cell P → ℕ → Bool
  is_only_from test c y = is_present b k y && list_all test (sources b k (asks b k c y) c y) && not (may_be_first b k (asks b k c y) c y)

  -- y has the cell from x alone
  abbrev pub is_source : ℕ → ℕ → Cell P → Bool
  is_source x y c = is_only_from (λ z. z == x) c y

  -- x writes the cell, and comes after all from whom y may have it: so it comes after y
  abbrev pub is_later : ℕ → ℕ → Cell P → Bool
  is_later y x c = is_present b k y && surely_writes b k x c && not (x == y) && list_all (λ z. not (z == x) && comes_before b k z x) (sources b k (asks b k c y) c y)

  -- x writes the cell and comes before y, which has it from z alone: so x comes before z
  abbrev pub is_earlier : ℕ → ℕ → ℕ → Cell P → Bool
  is_earlier x z y c = surely_writes b k x c && not (x == z) && comes_before b k x y && is_only_from (λ v. v == z) c y

  -- x is all from whom y may have the cell, or comes before them: so it comes before y
  abbrev pub is_common : ℕ → ℕ → Cell P → Bool
  is_common x y c = is_only_from (λ z. z == x || comes_before b k x z) c y

  -- nobody leaves what a way needs in the cell
  abbrev pub is_needless : W → Cell P → ℕ → Bool
  is_needless w c y = list_all (λ z. false) (sources b k (one_allows b k (w ∷ []) c.column) c y) && not (may_be_first b k (one_allows b k (w ∷ []) c.column) c y)

  -- what x leaves by an effect at a spot is this state
  abbrev pub is_sum : S → ℤ → Option S → Bool
  is_sum v d None = false
  is_sum v d (Some s) = not (b.overflows s d) && b.same_state (b.plus s d) v

  abbrev pub leaves_same : S → ℕ → P → Effect S → Bool
  leaves_same v x s Keeps = false
  leaves_same v x s (Leaves u) = b.same_state u v
  leaves_same v x s (Adds m d) = is_sum v d (found_in b k x s m)
  leaves_same v x s Unknown = false

  -- what z leaves in the cell is this state, or isn't what is asked
  abbrev pub leaves_only : (S → Bool) → S → Cell P → ℕ → Bool
  leaves_only may v c z = list_all (λ w. not (passes b k may z c.spot (b.effect c.spot w c.column)) || leaves_same v z c.spot (b.effect c.spot w c.column)) (left b k z c.spot)

  -- all from whom y may have the cell leave this state
  abbrev pub is_found : S → Cell P → ℕ → Bool
  is_found v c y = list_all (λ z. leaves_only (asks b k c y) v c z) (sources b k (asks b k c y) c y) && (not (may_be_first b k (asks b k c y) c y) || b.same_state (b.opening c.spot c.column) v)

  -- ---- contradictions

  abbrev pub is_cycle : ℕ → ℕ → Bool
  is_cycle x y = is_present b k x && is_present b k y && comes_before b k x y && comes_before b k y x

  -- there is nobody from whom y may have the cell
  abbrev pub is_sourceless : Cell P → ℕ → Bool
  is_sourceless c y = is_only_from (λ z. false) c y

  -- no way is left of y at the spot
  abbrev pub is_wayless : ℕ → P → Bool
  is_wayless y s = is_present b k y && list_all (λ w. false) (left b k y s)
