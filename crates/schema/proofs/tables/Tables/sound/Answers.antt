use Rattle.std.proofs.Common.{◌<◌, sym, ap, ◌∙◌, length, slice_get, get_or, arith}
use Rattle.schema.proofs.InsertingLemmas.{another_number, still_sound, not_sound}
use Rattle.schema.proofs.tables.Tables.sound.Goals as goal

pub returns-then-len : goal.returns-then-len
returns-then-len g c = sym (another_number c.args.catalog.now c.args.self.now (λ e. omega (arith, e, c.if-len.true, c.len.ensures, c.len-2.ensures.len, ap length c.self.view_is)))

pub returns-then-not-is_sound_table : goal.returns-then-not-is_sound_table
returns-then-not-is_sound_table g c =
    let items = c.deref-table-items.ensures.value ∙ c.self.view_is in
    let within : c.loop-place.place < length c.args.self.now = omega (arith, ap length items) in
    let at = c.table-item.is ∙ ap (λ tables. get_or tables c.loop-place.place c.table-item.result) items in
    let schema = ap (slice_get c.args.catalog.now) (sym c.at.ensures) ∙ c.table-schema.ensures.table in
    not_sound c.args.self.now c.args.catalog.now c.loop-place.place c.table-schema.result.now c.table-item.result schema within at (sym c.is_sound_table.ensures ∙ c.if-not-is_sound_table.true) c.loop-place.invariant

pub loop-place-preserved : goal.loop-place-preserved
loop-place-preserved g c =
    let items = c.deref-table-items.ensures.value ∙ c.self.view_is in
    let within : c.loop-place.place < length c.args.self.now = omega (arith, ap length items) in
    let at = c.table-item.is ∙ ap (λ tables. get_or tables c.loop-place.place c.table-item.result) items in
    let schema = ap (slice_get c.args.catalog.now) (sym c.at.ensures) ∙ c.table-schema.ensures.table in
    still_sound c.args.self.now c.args.catalog.now c.loop-place.place c.table-schema.result.now c.table-item.result schema within at (sym c.is_sound_table.ensures ∙ c.if-not-is_sound_table.false) c.loop-place.invariant
