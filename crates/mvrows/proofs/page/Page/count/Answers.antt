use Rattle.std.proofs.Common.{length, ap, ◌∙◌}
use Rattle.mvrows.specs.Versions.{shown_rows}
use Rattle.mvrows.proofs.page.Page.count.Goals as goal

pub returns : goal.returns
returns g c = c.count_shown.ensures ∙ ap (λ ks. length (shown_rows c.args.snapshot ks)) (c.as_slice.ensures.value ∙ c.self.view_is)
