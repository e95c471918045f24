use Rattle.std.proofs.Common.{◌<◌, ap, sym, ◌∙◌, inl, Ok, length, arith}
use Rattle.schema.proofs.AddingLemmas.{not_distinct, distinct_so_far, was_there, was_new}
use Rattle.schema.proofs.definition.are_distinct.Goals as goal

pub returns-then-not-branch : goal.returns-then-not-branch
returns-then-not-branch g c =
    let within : c.loop-column.column-index < length c.args.columns.now = omega arith in
    let there = was_there c.in_ok-insert.field-0 _ c.in_ok-insert.ensures.added c.if-not-branch.true in
    let stops = not_distinct c.loop-column.names.keys c.name.result c.args.columns.now c.loop-column.column-index c.column-item.result within c.column-item.is c.name.ensures there in
    inl (ap Ok (sym stops ∙ c.loop-column.invariant))

pub loop-column-preserved : goal.loop-column-preserved
loop-column-preserved g c =
    let within : c.loop-column.column-index < length c.args.columns.now = omega arith in
    let new = was_new c.in_ok-insert.field-0 _ c.in_ok-insert.ensures.added c.if-not-branch.false in
    distinct_so_far c.loop-column.names.keys c.name.result c.args.columns.now c.loop-column.column-index c.column-item.result within c.column-item.is c.name.ensures c.insert.new.self.keys new c.in_ok-insert.ensures.keys ∙ c.loop-column.invariant
