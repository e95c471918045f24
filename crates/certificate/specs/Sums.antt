-- What the number of rows tells that a statement chose, by its answer.
use Rattle.std.specs.Prelude.{ℕ, nat_le, nat_lt, Bool, not, ◌&&◌, List, length}
use Rattle.std.specs.List.{filter, list_all, list_any}
use Rattle.certificate.specs.Board.{Board}
use Rattle.certificate.specs.Knowledge.{Known, are_apart, is_present, left}

module _ {W S P : Type 0} (b : Board W S P) (k : Known S P) where
  -- by each way that is left, statement j of a transaction chose the row; by one of them it may have
  abbrev pub surely_counts : ℕ → ℕ → P → Bool
  surely_counts y j s = list_all (λ w. b.counts w j) (left b k y s)

  abbrev pub may_count : ℕ → ℕ → P → Bool
  may_count y j s = list_any (λ w. b.may_count y s w j) (left b k y s)

  -- of these spots, so many rows were chosen at least, and at most
  abbrev pub at_least : ℕ → ℕ → List P → ℕ
  at_least y j ss = length (filter (surely_counts y j) ss)

  abbrev pub at_most : ℕ → ℕ → List P → ℕ
  at_most y j ss = length (filter (may_count y j) ss)

  -- spots of one table, each once
  abbrev pub are_of_table : P → List P → Bool
  are_of_table s ss = list_all (b.same_table s) ss && are_apart b ss

  -- all spots of a table that may ever have a row are among these
  abbrev pub are_all : P → List P → Bool
  are_all s ss = list_all (λ u. list_any (b.same_spot u) ss) (b.keys s)

  abbrev pub others : P → List P → List P
  others s ss = filter (λ u. not (b.same_spot s u)) ss

  -- ---- contradictions: statement j of y surely chose more rows of the table of s than its answer n tells, or can't have chosen so many

  abbrev pub is_overfull : ℕ → ℕ → ℕ → P → List P → Bool
  is_overfull y j n s ss = is_present b k y && b.tells y s j n && are_of_table s ss && nat_lt n (at_least y j ss)

  abbrev pub is_lacking : ℕ → ℕ → ℕ → P → List P → Bool
  is_lacking y j n s ss = is_present b k y && b.tells y s j n && are_all s ss && nat_lt (at_most y j ss) n

  -- ---- ways that are out of the question, since by them it would

  abbrev pub would_overfill : W → ℕ → ℕ → ℕ → P → List P → Bool
  would_overfill w y j n s ss = b.counts w j && b.tells y s j n && b.same_table s s && are_of_table s ss && nat_le n (at_least y j (others s ss))

  abbrev pub would_lack : W → ℕ → ℕ → ℕ → P → List P → Bool
  would_lack w y j n s ss = not (b.may_count y s w j) && b.tells y s j n && are_all s ss && nat_lt (at_most y j (others s ss)) n
