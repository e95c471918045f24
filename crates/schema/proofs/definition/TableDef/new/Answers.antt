use Rattle.std.proofs.Common.{ap, sym, ◌∙◌, inl, Ok, arith}
use Rattle.schema.proofs.AddingLemmas.{answered, has_column, defined_so}
use Rattle.schema.specs.Adding.{is_well_made, without_key_mark}
use Rattle.schema.proofs.WellFormedLemmas.{unmarked_twice, made_unmarked}
use Rattle.schema.proofs.definition.TableDef.new.Goals as goal

pub without_key_mark-columns-requires : goal.without_key_mark-columns-requires
without_key_mark-columns-requires g c =
    let made = answered c.in_ok-is_well_made.field-0 _ (rw (c.as_slice.ensures.value, c.as_str.ensures) at c.in_ok-is_well_made.ensures) c.if-not-branch.false in
    omega (arith, has_column c.args.name c.args.columns.items made, c.args.columns.ok.0)

pub invariant_of-result : goal.invariant_of-result
invariant_of-result g c =
    let made = answered c.in_ok-is_well_made.field-0 _ (rw (c.as_slice.ensures.value, c.as_str.ensures) at c.in_ok-is_well_made.ensures) c.if-not-branch.false in
    let columns = c.without_key_mark-columns.ensures in
    (ap (is_well_made c.args.name) columns ∙ made_unmarked c.args.name c.args.columns.items made, ap without_key_mark columns ∙ unmarked_twice c.args.columns.items ∙ sym columns)

pub returns : goal.returns
returns g c =
    let made = answered c.in_ok-is_well_made.field-0 _ (rw (c.as_slice.ensures.value, c.as_str.ensures) at c.in_ok-is_well_made.ensures) c.if-not-branch.false in
    inl (ap (λ columns. Ok (record { name = c.args.name; columns = columns })) c.without_key_mark-columns.ensures ∙ sym (defined_so c.args.name c.args.columns.items made))
