use Rattle.std.proofs.Common.{List, Bor, slice_get, sym, ap, ◌∙◌}
use Rattle.schema.specs.Plain.{rows_of}
use Rattle.schema.specs.Walking.{lent, rows_behind}
use Rattle.schema.specs.declared.row.Row.{Row}
use Rattle.schema.proofs.WalkLemmas.{given_here, none_here, none_read}
use Rattle.schema.proofs.walk.Walk.next.Goals as goal

pub returns-in-Some-clause-step : goal.returns-in-Some-clause-step
returns-in-Some-clause-step g c =
    let rows = rows_of (g.R.SnapshotReader.tables c.self.inside.reader.now) c.self.inside.table in
    let place = c.self.inside.place in
    given_here rows (lent c.self.inside.batch.items) c.args.self.now place c.in-Some.row.now c.self.view_is (c.in-Some.ensures ∙ ap (λ (b : List (Bor (Row g.row.A.Denot))). slice_get (lent b) place) c.as_slice.ensures.value)

pub returns-in-Some-given-clause-step : goal.returns-in-Some-given-clause-step
returns-in-Some-given-clause-step g c =
    let rows = rows_of (g.R.SnapshotReader.tables c.self.inside.reader.now) c.self.inside.table in
    let place = c.self.inside.place in
    let behind = none_here rows (lent c.self.inside.batch.items) c.args.self.now place c.self.view_is (c.in_default.ensures ∙ ap (λ (b : List (Bor (Row g.row.A.Denot))). slice_get (lent b) place) c.as_slice.ensures.value) in
    let came = c.in_ok-self-inside.ensures.rows ∙ ap (λ (b : List (Bor (Row g.row.A.Denot))). rows_behind rows (lent b)) c.as_slice-2.ensures.value ∙ sym behind in
    given_here rows (lent c.in_ok-self-inside.field-0.items) c.args.self.now 0 c.in-Some-given.row.now came (c.in-Some-given.ensures ∙ ap (λ (b : List (Bor (Row g.row.A.Denot))). slice_get (lent b) 0) c.as_slice-3.ensures.value)

pub returns-in-None-clause-step : goal.returns-in-None-clause-step
returns-in-None-clause-step g c =
    let rows = rows_of (g.R.SnapshotReader.tables c.self.inside.reader.now) c.self.inside.table in
    let place = c.self.inside.place in
    let behind = none_here rows (lent c.self.inside.batch.items) c.args.self.now place c.self.view_is (c.in_default.ensures ∙ ap (λ (b : List (Bor (Row g.row.A.Denot))). slice_get (lent b) place) c.as_slice.ensures.value) in
    let came = c.in_ok-self-inside.ensures.rows ∙ ap (λ (b : List (Bor (Row g.row.A.Denot))). rows_behind rows (lent b)) c.as_slice-2.ensures.value ∙ sym behind in
    none_read rows (lent c.in_ok-self-inside.field-0.items) c.args.self.now came (c.in-None.ensures ∙ ap (λ (b : List (Bor (Row g.row.A.Denot))). slice_get (lent b) 0) c.as_slice-3.ensures.value)
