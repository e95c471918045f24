use Rattle.std.proofs.Common.{ap, sym, arith, length, List, ◌≡◌, ◌∙◌}
use Rattle.std.proofs.lemmas.List.{length-map}
use Rattle.mvrows.specs.Versions.{shown_rows}
use Rattle.mvrows.specs.HeldRows.{Held, rows_in, rows_held}
use Rattle.mvrows.proofs.CopiedLemmas.{as_many}
use Rattle.mvrows.proofs.view.View.tables.Goals as goal

pub copy_all_shown-requires-clause-few : goal.copy_all_shown-requires-clause-few
copy_all_shown-requires-clause-few g c =
    let held = c.self.inside.versions.tables.items in
    let long : length c.as_slice.result.now ≡ length c.args.self.now =
    ap length c.as_slice.ensures.value ∙ sym (length-map held (λ (t : List (Held _)). rows_in t))
    ∙ sym (length-map (rows_held held) (shown_rows c.self.inside.versions.snapshot)) ∙ ap length c.self.view_is in
    omega (arith, long, c.requires, c.len-count.ensures.len, c.len-count.ensures.few)

pub copy_all_shown-requires-clause-none : goal.copy_all_shown-requires-clause-none
copy_all_shown-requires-clause-none g c =
    let held = c.self.inside.versions.tables.items in
    let long : length c.as_slice.result.now ≡ length c.args.self.now =
    ap length c.as_slice.ensures.value ∙ sym (length-map held (λ (t : List (Held _)). rows_in t))
    ∙ sym (length-map (rows_held held) (shown_rows c.self.inside.versions.snapshot)) ∙ ap length c.self.view_is in
    c.in_ok-copies.ensures.ok ∙ as_many c.args.catalog.now c.as_slice.result.now (c.requires ∙ sym long)
