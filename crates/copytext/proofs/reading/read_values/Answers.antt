use Rattle.std.proofs.Common.{get_or, refl, ap, ◌∙◌, arith}
use Rattle.value.specs.declared.kind.Kind.TheVariants.{Bigint}
use Rattle.std.specs.Option.{option_copied}
use Rattle.std.proofs.lemmas.Result.{err_from_is_err_and}
use Rattle.copytext.specs.Reading.{cut_more, field_values}
use Rattle.copytext.proofs.ValueLemmas.{values_go_on, values_stop, values_run_out, ok_answer}
use Rattle.copytext.proofs.reading.read_values.Goals as goal

pub returns-in_default-clause-ok : goal.returns-in_default-clause-ok
returns-in_default-clause-ok g c =
    values_run_out c.loop-kind.values.items (field_values c.args.kinds.now (cut_more (option_copied c.args.fields))) c.args.kinds.now (cut_more (option_copied c.loop-kind.rest)) c.loop-kind.kind-index
    (ap (λ rest. cut_more (option_copied rest)) c.in_default.is) c.loop-kind.invariant

pub returns-in_err-read_field-clause-err : goal.returns-in_err-read_field-clause-err
returns-in_err-read_field-clause-err g c =
    let p = err_from_is_err_and c.from_residual-in_err-read_field.result c.from_residual-in_err-read_field.ensures.1 in
    rw (p.1, p.2) (values_stop c.loop-kind.values.items (field_values c.args.kinds.now (cut_more (option_copied c.args.fields))) c.args.kinds.now (cut_more (option_copied c.loop-kind.rest)) (cut_more (option_copied c.first_field.result.1))
    c.loop-kind.kind-index (get_or c.args.kinds.now c.loop-kind.kind-index Bigint) Bigint c.first_field.result.0.now c.in_err-read_field.field-0.0
    (omega arith) refl (ap (λ rest. cut_more (option_copied rest)) c.in-Some.is ∙ c.first_field.ensures.fields) c.in_err-read_field.ensures c.loop-kind.invariant)

pub loop-kind-preserved : goal.loop-kind-preserved
loop-kind-preserved g c =
    let v = c.in_ok-read_field.field-0 in
    rw c.in_ok-push.ensures.items (values_go_on c.loop-kind.values.items (field_values c.args.kinds.now (cut_more (option_copied c.args.fields))) c.args.kinds.now (cut_more (option_copied c.loop-kind.rest)) (cut_more (option_copied c.first_field.result.1))
    c.loop-kind.kind-index (get_or c.args.kinds.now c.loop-kind.kind-index Bigint) Bigint c.first_field.result.0.now v
    (omega arith) refl (ap (λ rest. cut_more (option_copied rest)) c.in-Some.is ∙ c.first_field.ensures.fields) (ok_answer v _ c.in_ok-read_field.ensures) c.loop-kind.invariant)
