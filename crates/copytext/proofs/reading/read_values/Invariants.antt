use Rattle.std.proofs.Common.{◌≡◌, drop}
use Rattle.std.specs.Option.{option_copied}
use Rattle.copytext.specs.Reading.{cut_more, field_values}
use Rattle.copytext.proofs.ValueLemmas.{in_front}
use Rattle.copytext.proofs.reading.read_values.Given as goal

-- the values so far, in front of those of the rest
abbrev pub invariant-loop-kind : goal.invariant-loop-kind
invariant-loop-kind g l = in_front l.values.items (field_values (drop l.kind-index l.kinds) (cut_more (option_copied l.rest))) ≡ field_values l.kinds (cut_more (option_copied l.fields))
