use Rattle.std.proofs.Common.{◌<◌, length, suc, drop, ap, sym, ◌∙◌, arith, add-one}
use Rattle.statement.specs.Evaluation.{assigned, set_field}
use Rattle.statement.proofs.UpdatingLemmas.{assign_next, length-set_field}
use Rattle.statement.proofs.evaluate.update.updated_row.Goals as goal

pub loop-assignment-preserved : goal.loop-assignment-preserved
loop-assignment-preserved g c =
    let lt : c.loop-assignment.assignment-index < length c.args.assignments.now = omega arith in
    let rest = c.loop-assignment.fields.items in record {
      rest = rw add-one (
          ap (assigned c.args.row.now (drop (suc c.loop-assignment.assignment-index) c.args.assignments.now)) (c.set_field.ensures ∙ ap (λ v. set_field c.assignment-item.result.column v rest) c.in_ok-value.ensures.ok)
          ∙ sym (assign_next c.args.row.now c.args.assignments.now c.loop-assignment.assignment-index c.assignment-item.result rest lt c.assignment-item.is)
          ∙ c.loop-assignment.invariant.rest
          );
      count = ap length c.set_field.ensures ∙ length-set_field c.assignment-item.result.column c.in_ok-value.value rest ∙ c.loop-assignment.invariant.count;
    }
