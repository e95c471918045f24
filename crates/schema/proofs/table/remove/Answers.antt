use Rattle.std.proofs.Common.{refl, sym, subst, length, ◌<◌, None, ◌∙◌}
use Rattle.schema.specs.Paged.{row_key}
use Rattle.schema.specs.Plain.{changed}
use Rattle.schema.proofs.PagedLemmas.{placed, changed-in, changed-laid_out, gone-in, gone-laid_out}
use Rattle.schema.proofs.PutLemmas.{gone-local}
use Rattle.schema.proofs.table.remove.Goals as goal

pub returns-then-not-has_rows-clause-rows : goal.returns-then-not-has_rows-clause-rows
returns-then-not-has_rows-clause-rows g c =
    let p = placed row_key (λ page. page) c.args.key.now c.args.key.now c.args.pages.now.items c.as_slice.result.now c.place_of-place.result c.as_slice.ensures.value refl c.place_of-place.ensures.placed in
    let range = subst (λ ps. c.place_of-place.result < length ps) c.as_slice.ensures.value c.place_of-place.ensures.range in
    gone-in row_key (λ page. page) c.args.key.now (changed c.args.key.now None) c.args.pages.now.items c.remove-then-not-has_rows.new.self.items c.place_of-place.result c.index_mut-page.result.now c.remove.new.self (gone-local c.args.key.now) p range c.index_mut-page.ensures.value c.remove.ensures (sym c.has_rows.ensures ∙ c.if-not-has_rows.true) c.remove-then-not-has_rows.ensures.items

pub returns-then-not-has_rows-clause-laid_out : goal.returns-then-not-has_rows-clause-laid_out
returns-then-not-has_rows-clause-laid_out g c =
    let p = placed row_key (λ page. page) c.args.key.now c.args.key.now c.args.pages.now.items c.as_slice.result.now c.place_of-place.result c.as_slice.ensures.value refl c.place_of-place.ensures.placed in
    let range = subst (λ ps. c.place_of-place.result < length ps) c.as_slice.ensures.value c.place_of-place.ensures.range in
    gone-laid_out row_key (λ page. page) c.args.key.now (changed c.args.key.now None) c.args.pages.now.items c.remove-then-not-has_rows.new.self.items c.place_of-place.result c.index_mut-page.result.now c.remove.new.self (gone-local c.args.key.now) p range c.index_mut-page.ensures.value c.remove.ensures (sym c.has_rows.ensures ∙ c.if-not-has_rows.true) c.remove-then-not-has_rows.ensures.items c.requires.laid_out

pub returns-else-not-has_rows-clause-rows : goal.returns-else-not-has_rows-clause-rows
returns-else-not-has_rows-clause-rows g c =
    let p = placed row_key (λ page. page) c.args.key.now c.args.key.now c.args.pages.now.items c.as_slice.result.now c.place_of-place.result c.as_slice.ensures.value refl c.place_of-place.ensures.placed in
    let range = subst (λ ps. c.place_of-place.result < length ps) c.as_slice.ensures.value c.place_of-place.ensures.range in
    changed-in row_key (λ page. page) c.args.key.now (changed c.args.key.now None) c.args.pages.now.items c.place_of-place.result c.index_mut-page.result.now c.remove.new.self (gone-local c.args.key.now) p range c.index_mut-page.ensures.value c.remove.ensures

pub returns-else-not-has_rows-clause-laid_out : goal.returns-else-not-has_rows-clause-laid_out
returns-else-not-has_rows-clause-laid_out g c =
    let p = placed row_key (λ page. page) c.args.key.now c.args.key.now c.args.pages.now.items c.as_slice.result.now c.place_of-place.result c.as_slice.ensures.value refl c.place_of-place.ensures.placed in
    let range = subst (λ ps. c.place_of-place.result < length ps) c.as_slice.ensures.value c.place_of-place.ensures.range in
    changed-laid_out row_key (λ page. page) c.args.key.now (changed c.args.key.now None) c.args.pages.now.items c.place_of-place.result c.index_mut-page.result.now c.remove.new.self (gone-local c.args.key.now) p range c.index_mut-page.ensures.value c.remove.ensures (sym c.has_rows.ensures ∙ c.if-not-has_rows.false) c.requires.laid_out
