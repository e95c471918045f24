use Rattle.std.proofs.Common.{ap, sym, subst, length, ◌<◌, ◌∙◌}
use Rattle.schema.specs.Paged.{row_key, joined, AreLaidOut}
use Rattle.schema.proofs.PagedLemmas.{same-in, same-laid_out, cut-joined, cut-laid_out}
use Rattle.schema.proofs.table.cut.Goals as goal

pub returns-in_err-upper-clause-rows : goal.returns-in_err-upper-clause-rows
returns-in_err-upper-clause-rows g c =
    same-in row_key (λ page. page) c.reserve.new.self.items c.args.place c.index_mut-page.result.now c.cut.new.self (subst (λ ps. c.args.place < length ps) (sym c.reserve.ensures.items) c.requires.range) c.index_mut-page.ensures.value c.in_err-upper.ensures.err
    ∙ ap joined c.reserve.ensures.items

pub returns-in_err-upper-clause-laid_out : goal.returns-in_err-upper-clause-laid_out
returns-in_err-upper-clause-laid_out g c =
    same-laid_out row_key (λ page. page) c.reserve.new.self.items c.args.place c.index_mut-page.result.now c.cut.new.self (subst (λ ps. c.args.place < length ps) (sym c.reserve.ensures.items) c.requires.range) c.index_mut-page.ensures.value c.in_err-upper.ensures.err
    (subst AreLaidOut (sym c.reserve.ensures.items) c.requires.laid_out)

pub returns-clause-rows : goal.returns-clause-rows
returns-clause-rows g c =
    cut-joined row_key (λ page. page) c.reserve.new.self.items c.insert.new.self.items c.args.place c.index_mut-page.result.now c.cut.new.self c.in_ok-upper.upper (subst (λ ps. c.args.place < length ps) (sym c.reserve.ensures.items) c.requires.range) c.index_mut-page.ensures.value c.in_ok-upper.ensures.parts c.in_ok-insert.ensures.items
    ∙ ap joined c.reserve.ensures.items

pub returns-clause-laid_out : goal.returns-clause-laid_out
returns-clause-laid_out g c =
    cut-laid_out row_key (λ page. page) c.reserve.new.self.items c.insert.new.self.items c.args.place c.index_mut-page.result.now c.cut.new.self c.in_ok-upper.upper (subst (λ ps. c.args.place < length ps) (sym c.reserve.ensures.items) c.requires.range) c.index_mut-page.ensures.value c.in_ok-upper.ensures.parts c.in_ok-upper.ensures.rows.0 c.in_ok-upper.ensures.rows.1 c.in_ok-insert.ensures.items
    (subst AreLaidOut (sym c.reserve.ensures.items) c.requires.laid_out)
