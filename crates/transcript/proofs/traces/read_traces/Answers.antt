use Rattle.std.proofs.Common.{◌∙◌, refl}
use Rattle.std.proofs.lemmas.Result.{err_from_is_err_and}
use Rattle.transcript.proofs.ReadingLemmas.{names_or_lacks}
use Rattle.transcript.proofs.TraceLemmas.{given, not_given, unread}
use Rattle.transcript.proofs.traces.read_traces.Goals as goal

pub returns-in_err-last-clause-reads : goal.returns-in_err-last-clause-reads
returns-in_err-last-clause-reads g c =
    let p = err_from_is_err_and c.from_residual.result c.from_residual.ensures.1 in
    let fault = c.in_err-last.field-0.0 in
    rw (p.1, p.2) (unread c.args.catalog.now c.args.has_time c.args.text.now c.new-reader.result c.new-reader.ensures fault.reason fault.line c.in_err-last.ensures.reads)

pub returns-in-Ok-clause-reads : goal.returns-in-Ok-clause-reads
returns-in-Ok-clause-reads g c =
    given c.args.catalog.now c.args.has_time c.args.text.now c.new-reader.result c.new-reader.ensures c.read_lines.new.reader c.in_ok-last.last (c.in-Ok.traces.transactions.items, _) c.in_ok-last.ensures.reads c.in-Ok.ensures.gives

pub returns-in-Err-clause-reads : goal.returns-in-Err-clause-reads
returns-in-Err-clause-reads g c =
    let error = c.in-Err.error in
    let fault = c.at.result in
    names_or_lacks _ _ c.in_ok-last.last fault.line refl c.at.ensures.line error fault.reason (λ m. c.at.ensures.reason ∙ c.reason.ensures ∙ m)
    (not_given c.args.catalog.now c.args.has_time c.args.text.now c.new-reader.result c.new-reader.ensures error c.read_lines.new.reader c.in_ok-last.last c.in_ok-last.ensures.reads c.in-Err.ensures.gives)
