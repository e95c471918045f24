use Rattle.std.proofs.Common.{arith, length, ◌<◌, ◌≤◌, ◌-◌, ◌+◌}
use Rattle.schema.specs.Paged.{row_key}
use Rattle.schema.proofs.PagedLemmas.{behind-placed, answered-ok, answered-err, answered-laid_out}
use Rattle.schema.proofs.PutLemmas.{put-local, put-has_rows}
use Rattle.schema.proofs.table.push_last.Goals as goal

pub push-requires : goal.push-requires
push-requires g c =
    let lt : c.len-place.result - 1 < length c.args.pages.now.items = omega (arith, c.requires.some, c.len-place.ensures, c.args.pages.now.ok) in
    let past : length c.args.pages.now.items ≤ c.len-place.result - 1 + 1 = omega (arith, c.requires.some, c.len-place.ensures, c.args.pages.now.ok) in
    let parts = behind-placed row_key (λ page. page) c.args.row.0 c.args.pages.now.items (c.len-place.result - 1) c.index_mut-page.result.now lt past c.index_mut-page.ensures.value c.requires.behind in
    parts.1

pub returns-clause-ok : goal.returns-clause-ok
returns-clause-ok g c =
    let lt : c.len-place.result - 1 < length c.args.pages.now.items = omega (arith, c.requires.some, c.len-place.ensures, c.args.pages.now.ok) in
    let past : length c.args.pages.now.items ≤ c.len-place.result - 1 + 1 = omega (arith, c.requires.some, c.len-place.ensures, c.args.pages.now.ok) in
    let parts = behind-placed row_key (λ page. page) c.args.row.0 c.args.pages.now.items (c.len-place.result - 1) c.index_mut-page.result.now lt past c.index_mut-page.ensures.value c.requires.behind in
    answered-ok row_key (λ page. page) c.push.result c.args.row.0 _ c.args.pages.now.items (c.len-place.result - 1) c.index_mut-page.result.now c.push.new.self (put-local c.args.row) parts.0 lt c.index_mut-page.ensures.value c.push.ensures.ok

pub returns-clause-err : goal.returns-clause-err
returns-clause-err g c =
    let lt : c.len-place.result - 1 < length c.args.pages.now.items = omega (arith, c.requires.some, c.len-place.ensures, c.args.pages.now.ok) in
    answered-err row_key (λ page. page) c.push.result c.args.pages.now.items (c.len-place.result - 1) c.index_mut-page.result.now c.push.new.self lt c.index_mut-page.ensures.value c.push.ensures.err

pub returns-clause-laid_out : goal.returns-clause-laid_out
returns-clause-laid_out g c =
    let lt : c.len-place.result - 1 < length c.args.pages.now.items = omega (arith, c.requires.some, c.len-place.ensures, c.args.pages.now.ok) in
    let past : length c.args.pages.now.items ≤ c.len-place.result - 1 + 1 = omega (arith, c.requires.some, c.len-place.ensures, c.args.pages.now.ok) in
    let parts = behind-placed row_key (λ page. page) c.args.row.0 c.args.pages.now.items (c.len-place.result - 1) c.index_mut-page.result.now lt past c.index_mut-page.ensures.value c.requires.behind in
    answered-laid_out row_key (λ page. page) c.push.result c.args.row.0 _ c.args.pages.now.items (c.len-place.result - 1) c.index_mut-page.result.now c.push.new.self (put-local c.args.row) (put-has_rows c.args.row) parts.0 lt c.index_mut-page.ensures.value c.push.ensures.ok c.push.ensures.err c.requires.laid_out
