use Rattle.std.proofs.Common.{subst, length, ◌<◌, ◌∙◌}
use Rattle.schema.specs.Paged.{row_key}
use Rattle.schema.proofs.PagedLemmas.{placed, answered-ok, answered-err, answered-laid_out}
use Rattle.schema.proofs.PutLemmas.{put-local, put-has_rows}
use Rattle.schema.proofs.table.put_at.Goals as goal

pub returns-clause-ok : goal.returns-clause-ok
returns-clause-ok g c =
    let p = placed row_key (λ page. page) c.args.row.0 c.value.result.now c.args.pages.now.items c.as_slice.result.now c.place_of-place.result c.as_slice.ensures.value (c.value.ensures.value ∙ c.key.ensures) c.place_of-place.ensures.placed in
    let range = subst (λ ps. c.place_of-place.result < length ps) c.as_slice.ensures.value c.place_of-place.ensures.range in
    answered-ok row_key (λ page. page) c.put.result c.args.row.0 _ c.args.pages.now.items c.place_of-place.result c.index_mut-page.result.now c.put.new.self (put-local c.args.row) p range c.index_mut-page.ensures.value c.put.ensures.ok

pub returns-clause-err : goal.returns-clause-err
returns-clause-err g c =
    let range = subst (λ ps. c.place_of-place.result < length ps) c.as_slice.ensures.value c.place_of-place.ensures.range in
    answered-err row_key (λ page. page) c.put.result c.args.pages.now.items c.place_of-place.result c.index_mut-page.result.now c.put.new.self range c.index_mut-page.ensures.value c.put.ensures.err

pub returns-clause-laid_out : goal.returns-clause-laid_out
returns-clause-laid_out g c =
    let p = placed row_key (λ page. page) c.args.row.0 c.value.result.now c.args.pages.now.items c.as_slice.result.now c.place_of-place.result c.as_slice.ensures.value (c.value.ensures.value ∙ c.key.ensures) c.place_of-place.ensures.placed in
    let range = subst (λ ps. c.place_of-place.result < length ps) c.as_slice.ensures.value c.place_of-place.ensures.range in
    answered-laid_out row_key (λ page. page) c.put.result c.args.row.0 _ c.args.pages.now.items c.place_of-place.result c.index_mut-page.result.now c.put.new.self (put-local c.args.row) (put-has_rows c.args.row) p range c.index_mut-page.ensures.value c.put.ensures.ok c.put.ensures.err c.requires.laid_out
