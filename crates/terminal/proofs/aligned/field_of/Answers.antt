use Rattle.std.proofs.Common.{◌∙◌, ap, rules}
use Rattle.std.proofs.lemmas.Iterator.Consumers.{nth_from_yields_List}
use Rattle.std.proofs.lemmas.Iterator.Splits.{YieldsList-from_slice_split}
use Rattle.terminal.specs.Tables.{or_empty}
use Rattle.terminal.proofs.aligned.field_of.Goals as goal

pub returns : goal.returns
returns c = c.or_empty.ensures ∙ ap or_empty (nth_from_yields_List c.nth.result c.nth.new.self c.args.column c.nth.ensures.ran (YieldsList-from_slice_split _ _ c.args.row.now c.split.ensures.rest c.split.ensures.done c.split.ensures.closure (λ x r q k. search rules)))
