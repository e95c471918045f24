-- Checkpoints: a history goes on from the tables and the numbers that another leaves.
use Rattle.std.specs.Prelude.{◌+◌, length}
use Rattle.history.specs.declared.base.Base.{Base}
use Rattle.history.specs.Opening.{Opening}
use Rattle.history.specs.Transactions.{World, commits, tables_at}

module _ {A : Type 0} where
  -- the numbers of transactions, commits, identifiers and events so far
  abbrev pub base_after : World A → Base
  base_after w = record {
    transactions = w.base.transactions + length w.txns;
    commits = commits w;
    identifiers = w.base.identifiers + length w.exports;
    events = w.place;
  }

  -- the tables of all commits so far, from which counting goes on
  abbrev pub opening_after : World A → Opening A
  opening_after w = record { catalog = w.catalog; tables = tables_at w (commits w); base = base_after w }
