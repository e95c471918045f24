use Rattle.std.proofs.Common.{ap, sym, ◌∙◌}
use Rattle.std.specs.Prelude.{slice_get, false}
use Rattle.std.specs.Option.{option_map_or}
use Rattle.schema.specs.Plain.{same}
use Rattle.schema.specs.declared.row.Row.{Row}
use Rattle.schema.proofs.PutLemmas.{put-over, put-new}
use Rattle.schema.proofs.table.page.put.Goals as goal

pub returns-then-is_at-clause-ok : goal.returns-then-is_at-clause-ok
returns-then-is_at-clause-ok g c =
    let at = ap (λ rs. option_map_or (λ (r : Row _). same c.args.row.0 r.0) (slice_get rs c.args.place) false) (sym c.as_slice.ensures.value) ∙ ap (λ x. option_map_or (λ (r : Row _). same x r.0) (slice_get c.as_slice.result.now c.args.place) false) (sym (c.value.ensures.value ∙ c.key.ensures)) ∙ sym c.if-is_at.ensures in
    put-over c.args.row c.args.place c.args.rows.now.items c.requires.before at

pub returns-in_ok-insert-clause-ok : goal.returns-in_ok-insert-clause-ok
returns-in_ok-insert-clause-ok g c =
    let isnt = ap (λ rs. option_map_or (λ (r : Row _). same c.args.row.0 r.0) (slice_get rs c.args.place) false) (sym c.as_slice.ensures.value) ∙ ap (λ x. option_map_or (λ (r : Row _). same x r.0) (slice_get c.as_slice.result.now c.args.place) false) (sym (c.value.ensures.value ∙ c.key.ensures)) ∙ sym c.if-is_at.ensures in
    c.in_ok-insert.ensures.items ∙ put-new c.args.row c.args.place c.args.rows.now.items c.requires.before c.requires.within isnt
