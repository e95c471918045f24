use Rattle.std.proofs.Common.{Some, ap, ◌∙◌}
use Rattle.std.specs.List.{find}
use Rattle.std.specs.Option.{option_map}
use Rattle.schema.specs.Changing.{new_row}
use Rattle.schema.specs.Plain.{same}
use Rattle.schema.proofs.ListedLemmas.{change_of-listed}
use Rattle.schema.proofs.changes.listed.get_within.Goals as goal

pub returns-in-Some : goal.returns-in-Some
returns-in-Some g c = ap Some c.row.ensures ∙ ap (option_map new_row) c.in-Some.ensures ∙ ap (λ k. option_map new_row (find (λ x. same k x.key) c.args.list.now)) c.value.ensures.value ∙ change_of-listed c.args.table c.args.list.now c.args.key.now c.requires

pub returns-in-None : goal.returns-in-None
returns-in-None g c = ap (option_map new_row) c.in-None.ensures ∙ ap (λ k. option_map new_row (find (λ x. same k x.key) c.args.list.now)) c.value.ensures.value ∙ change_of-listed c.args.table c.args.list.now c.args.key.now c.requires
