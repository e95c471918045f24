-- The serial order of a core's history, as it is printed.
use Rattle.std.specs.Prelude.{ℕ, Bool, true, false, List, ◌++◌, codes}
use Rattle.std.specs.Fmt.{decimal}
use Rattle.std.specs.List.{flat_map}
use Rattle.history.specs.Transactions.{World}
use Rattle.history.specs.Serial.{serial_order, with_keys}

-- the line of a committed transaction: its number, and the three parts of its serial key
abbrev pub key_line : ℕ × (ℕ × ℕ × ℕ) → List ℕ
key_line e = codes "txn " ++ decimal e.0 ++ (codes " key " ++ decimal e.1.0) ++ (codes " " ++ decimal e.1.1) ++ (codes " " ++ decimal e.1.2) ++ codes "\n"

abbrev pub key_lines : List (ℕ × (ℕ × ℕ × ℕ)) → List ℕ
key_lines = flat_map key_line

-- whether the order is a serial order
abbrev pub check_line : Bool → List ℕ
check_line true = codes "check yes\n"
check_line false = codes "check no\n"

-- the committed transactions of a world in the serial order
abbrev pub order_lines : {A : Type 0} → World A → List ℕ
order_lines w = key_lines (with_keys w (serial_order w))
