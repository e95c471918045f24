use Rattle.std.proofs.Common.{◌≡◌, None}
use Rattle.schema.specs.Inserting.{inserting_fault}
use Rattle.schema.proofs.InsertingLemmas.{put_sound}
use Rattle.schema.proofs.tables.Tables.insert.Goals as goal

pub returns-clause-sound : goal.returns-clause-sound
returns-clause-sound g c = λ sound.
    let none : inserting_fault c.args.catalog.now c.args.self.now c.args.table c.args.row ≡ None = cc (c.inserting_fault.ensures.fault, c.in_default.is) in
    put_sound c.put.result c.args.catalog.now c.args.self.now c.put.new.self c.args.table c.args.row c.put.ensures.ok c.put.ensures.err c.requires.same_tables c.inserting_fault.ensures.key none (c.inserting_fault.ensures.made c.in_default.is) sound
