-- What a core keeps of the world of its history.
use Rattle.std.specs.Prelude.{◌≡◌, ℕ, ◌+◌, ◌≤◌, Bool, length, map}
use Rattle.std.specs.List.{filter, AllByRecursion}
use Rattle.history.specs.Transactions.{World, commits, is_living}
use Rattle.history.specs.Needed.{Keeps, kept_of}
use Rattle.transactions.specs.Ledger.{Ledger, kept}

module _ {A : Type 0} where
  -- What is kept has at least the world's transactions that matter, without statements and own tables; of the world's identifiers those that live;
  -- and all numbers are used up that the world has used up.
  pub record Represents (w : World A) (l : Ledger A) : Type 0 where
    pub oldest : ℕ
    pub keep : ℕ → Bool
    pub keeps : Keeps w oldest keep
    pub seen : oldest ≤ commits w
    pub txns : l.txns ≡ map kept (kept_of keep w.txns)
    pub exports : filter (is_living w.txns) l.exports ≡ filter (is_living w.txns) w.exports
    pub exporters : AllByRecursion (λ x. x.exporter ≤ w.base.transactions + length w.txns) l.exports
    pub transactions : l.base.transactions + length l.txns ≡ w.base.transactions + length w.txns
    pub commits : l.base.commits ≡ commits w
    pub identifiers : l.base.identifiers + length l.exports ≡ w.base.identifiers + length w.exports
    pub place : l.place ≡ w.place
