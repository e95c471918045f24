use Rattle.std.proofs.Common.{ap, sym, ◌∙◌}
use Rattle.std.specs.Prelude.{slice_get, false}
use Rattle.std.specs.Option.{option_map_or}
use Rattle.schema.specs.Plain.{same}
use Rattle.schema.specs.declared.row.Row.{Row}
use Rattle.schema.proofs.PutLemmas.{gone-at, gone-missing}
use Rattle.schema.proofs.table.page.remove.Goals as goal

pub returns-then-is_at : goal.returns-then-is_at
returns-then-is_at g c =
    let at = ap (λ rs. option_map_or (λ (r : Row _). same c.args.key.now r.0) (slice_get rs c.args.place) false) (sym c.as_slice.ensures.value) ∙ sym c.if-is_at.ensures in
    gone-at c.args.key.now c.args.place c.args.rows.now.items c.remove.new.self.items c.requires.ordered c.requires.before at c.remove.ensures.items

pub returns-else-is_at : goal.returns-else-is_at
returns-else-is_at g c =
    let isnt = ap (λ rs. option_map_or (λ (r : Row _). same c.args.key.now r.0) (slice_get rs c.args.place) false) (sym c.as_slice.ensures.value) ∙ sym c.if-is_at.ensures in
    gone-missing c.args.key.now c.args.place c.args.rows.now.items c.requires.ordered c.requires.before c.requires.within isnt
