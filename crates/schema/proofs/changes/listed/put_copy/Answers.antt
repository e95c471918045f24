use Rattle.std.proofs.Common.{◌∙◌}
use Rattle.schema.proofs.ListedLemmas.{key_of-new_row}
use Rattle.schema.proofs.changes.listed.put_copy.Goals as goal

pub put-requires : goal.put-requires
put-requires g c = key_of-new_row c.args.change.now c.in_ok-row.row c.in_ok-key.key c.in_ok-row.ensures.ok (c.in_ok-key.ensures.ok ∙ c.key.ensures)
