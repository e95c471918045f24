use Rattle.std.proofs.Common.{sym, ◌∙◌}
use Rattle.schema.specs.Paged.{row_key}
use Rattle.schema.proofs.PagedLemmas.{last-behind, none-behind}
use Rattle.schema.proofs.table.is_behind.Goals as goal

pub returns-in-Some-clause-behind : goal.returns-in-Some-clause-behind
returns-in-Some-clause-behind g c = λ behind. last-behind row_key (λ page. page) c.args.key c.args.pages.now c.in-Some.page.now c.requires (sym c.in-Some.ensures.value) (sym c.is_before.ensures ∙ behind)

pub returns-in-None-clause-behind : goal.returns-in-None-clause-behind
returns-in-None-clause-behind g c = λ behind. none-behind row_key (λ page. page) c.args.key.now c.args.pages.now (sym c.in-None.ensures.value)
