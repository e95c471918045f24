use Rattle.std.proofs.Common.{ap, ◌∙◌, List, Bor}
use Rattle.std.specs.List.{slice_get}
use Rattle.schema.specs.Plain.{rows_of}
use Rattle.schema.specs.Walking.{lent}
use Rattle.schema.specs.declared.row.Row.{Row}
use Rattle.snapshot.proofs.AheadLemmas.{first_ahead}
use Rattle.snapshot.proofs.ahead.Ahead.first.Goals as goal

pub returns : goal.returns
returns g c =
    let i = c.self.inside in
    c.row_at.ensures ∙ ap (λ (b : List (Bor (Row g.row.A.Denot))). slice_get (lent b) i.place) c.as_slice.ensures.value
    ∙ first_ahead (rows_of (g.R.SnapshotReader.tables i.reader.now) i.table) (lent i.batch.items) c.args.self.now i.place c.self.view_is c.self.invariant.1
