use Rattle.std.proofs.Common.{sym, subst}
use Rattle.mvrows.specs.HeldRows.{AreLaidOut}
use Rattle.mvrows.proofs.table.Table.replaced.Goals as goal

pub replaced_pages-requires : goal.replaced_pages-requires
replaced_pages-requires g c = subst AreLaidOut (sym c.as_slice.ensures.value) c.self.invariant
