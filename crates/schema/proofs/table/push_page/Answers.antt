use Rattle.std.proofs.Common.{ap, sym, subst, ◌++◌, ◌∙◌}
use Rattle.schema.specs.Paged.{row_key, joined, has_rows}
use Rattle.schema.specs.Rows.{IsInKeyOrder}
use Rattle.schema.proofs.PagedLemmas.{pushed, pushed-laid_out}
use Rattle.schema.proofs.PutLemmas.{put-last, put_row-in_order}
use Rattle.schema.proofs.table.push_page.Goals as goal

pub returns-clause-ok : goal.returns-clause-ok
returns-clause-ok g c =
    pushed row_key (λ page. page) c.args.pages.now.items c.push.new.self.items c.in_ok-page.page c.in_ok-push.ensures.items
    ∙ ap (λ rows. joined c.args.pages.now.items ++ rows) c.in_ok-page.ensures.ok
    ∙ sym (put-last c.args.row (joined c.args.pages.now.items) c.requires.behind)

pub returns-clause-laid_out : goal.returns-clause-laid_out
returns-clause-laid_out g c =
    let sorted = put_row-in_order c.args.row (joined c.args.pages.now.items) c.requires.laid_out.0 in
    let last = put-last c.args.row (joined c.args.pages.now.items) c.requires.behind ∙ sym (ap (λ rows. joined c.args.pages.now.items ++ rows) c.in_ok-page.ensures.ok) in
    pushed-laid_out row_key (λ page. page) c.args.pages.now.items c.push.new.self.items c.in_ok-page.page c.in_ok-push.ensures.items (subst IsInKeyOrder last sorted) (ap has_rows c.in_ok-page.ensures.ok) c.requires.laid_out
