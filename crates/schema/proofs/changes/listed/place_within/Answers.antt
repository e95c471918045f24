use Rattle.std.proofs.Common.{◌≡◌, sym, ap, ◌∙◌}
use Rattle.schema.proofs.ListedLemmas.{takes_place}
use Rattle.schema.proofs.changes.listed.place_within.Goals as goal

pub returns-then-is_at : goal.returns-then-is_at
returns-then-is_at g c =
    let before = rw c.value.ensures.value at c.start-place.ensures.before in
    let is = rw c.value-2.ensures.value at (sym c.is_at.ensures ∙ c.if-is_at.true) in
    takes_place c.args.table c.args.list.now c.args.key.now c.start-place.result c.requires before is
