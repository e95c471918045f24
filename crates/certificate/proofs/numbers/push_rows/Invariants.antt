use Rattle.std.proofs.Common.{◌≡◌, ◌++◌, length, map}
use Rattle.schema.specs.Plain.{rows_of}
use Rattle.schema.specs.Rows.{rows_left}
use Rattle.certificate.proofs.numbers.push_rows.Given as goal

-- the keys so far, and those of the rows left
abbrev pub invariant-loop-next : goal.invariant-loop-next
invariant-loop-next g l =
    let rows = rows_of l.tables l.table in
    l.keys.items ++ map (λ row. row.0) (rows_left rows l.next) ≡ l.fn.keys.items ++ map (λ row. row.0) rows

abbrev pub decreases-loop-next : goal.decreases-loop-next
decreases-loop-next g l = length (rows_left (rows_of l.tables l.table) l.next)
