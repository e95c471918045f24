use Rattle.std.proofs.Common.{◌⊎◌, ◌∙◌, subst, sym}
use Rattle.transcript.specs.Reading.{traces}
use Rattle.library.specs.Checking.{EndsTraces}
use Rattle.library.specs.Memory.{RanOut}
use Rattle.library.proofs.CheckLemmas.{ends_by_fault}
use Rattle.library.proofs.checking.recorded_output.Goals as goal

pub returns-in-Ok : goal.returns-in-Ok
returns-in-Ok g c =
    let e = c.traces_output.result.end in
    let text = c.traces_output.result.text.items in
    subst (λ r. RanOut e text ⊎ EndsTraces c.args.catalog r e text) (sym c.in-Ok.ensures.reads) c.traces_output.ensures

pub returns-in-Err : goal.returns-in-Err
returns-in-Err g c =
    let e = c.nothing.result.end in
    let text = c.nothing.result.text.items in
    ends_by_fault c.in-Err.fault.reason c.in-Err.fault.line e text (λ r. EndsTraces c.args.catalog r e text) (traces c.args.catalog c.args.has_time c.args.transcript.now) c.in-Err.ensures.reads (c.nothing.ensures.end ∙ c.end_of_fault.ensures) c.nothing.ensures.text (λ x. x)
