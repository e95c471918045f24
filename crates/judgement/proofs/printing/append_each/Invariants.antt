use Rattle.std.proofs.Common.{◌≡◌, ◌++◌, take}
use Rattle.std.specs.List.{flat_map}
use Rattle.judgement.specs.Telling.{hindered_text, names_of}
use Rattle.judgement.proofs.printing.append_each.Given as goal

-- those so far
abbrev pub invariant-loop-hindered : goal.invariant-loop-hindered
invariant-loop-hindered g l = l.text.items ≡ l.fn.text.items ++ flat_map (hindered_text (names_of l.traces.names.items) l.traces.transactions.items) (take l.hindered-index l.each)
