use Rattle.std.proofs.Common.{◌≡◌, None, ap, ◌∙◌}
use Rattle.schema.specs.Adding.{adding_fault}
use Rattle.schema.specs.WellFormed.{is_table_after}
use Rattle.schema.proofs.AddingLemmas.{room, few_columns}
use Rattle.schema.proofs.WellFormedLemmas.{resolved_table}
use Rattle.schema.proofs.catalog.Catalog.add.Goals as goal

pub resolved-requires : goal.resolved-requires
resolved-requires g c =
    let none : adding_fault c.args.self.now c.args.table ≡ None = cc (c.adding_fault.ensures, c.in_default.is) in
    few_columns c.args.self.now c.args.table none

pub push-requires-clause-well_formed : goal.push-requires-clause-well_formed
push-requires-clause-well_formed g c =
    let none : adding_fault c.args.self.now c.args.table ≡ None = cc (c.adding_fault.ensures, c.in_default.is) in
    ap (is_table_after c.args.self.now) c.in_ok-table.ensures.ok ∙ resolved_table c.args.self.now c.args.table none c.well_formed-2.ensures.made c.well_formed-2.ensures.unmarked

pub push-requires-clause-room : goal.push-requires-clause-room
push-requires-clause-room g c =
    let none : adding_fault c.args.self.now c.args.table ≡ None = cc (c.adding_fault.ensures, c.in_default.is) in
    room c.args.self.now c.args.table none
