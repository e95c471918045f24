use Rattle.std.proofs.Common.{sym}
use Rattle.std.proofs.lemmas.Bool.{ltb-false}
use Rattle.siread.specs.Bounds.{count_in}
use Rattle.siread.specs.declared.extent.Form.TheVariants as form
use Rattle.siread.proofs.InnerLemmas.{inner_found, inner_not_found}
use Rattle.siread.proofs.cover.inner_key.Goals as goal

pub returns-then-has_spare_keys-clause-some : goal.returns-then-has_spare_keys-clause-some
returns-then-has_spare_keys-clause-some g c = inner_found c.args.table c.args.readings.now c.first_inner.result c.requires (sym c.if-has_spare_keys.ensures) c.first_inner.ensures

pub returns-then-has_spare_keys-clause-none : goal.returns-then-has_spare_keys-clause-none
returns-then-has_spare_keys-clause-none g c = inner_not_found c.args.table c.args.readings.now c.first_inner.result c.requires (sym c.if-has_spare_keys.ensures) c.first_inner.ensures

pub returns-else-has_spare_keys-clause-none : goal.returns-else-has_spare_keys-clause-none
returns-else-has_spare_keys-clause-none g c = ltb-false 9 (count_in c.args.table form.Key c.args.readings.now) (sym c.if-has_spare_keys.ensures)
