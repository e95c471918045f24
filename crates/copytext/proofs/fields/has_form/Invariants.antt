use Rattle.std.proofs.Common.{◌≡◌, ◌≤◌, ◌+◌, ◌&&◌, eqb, length}
use Rattle.std.specs.List.{list_all}
use Rattle.copytext.specs.Reading.{cut, is_field}
use Rattle.copytext.proofs.fields.has_form.Given as goal

-- the fields found so far, and those of the rest
abbrev pub invariant-loop-found : goal.invariant-loop-found
invariant-loop-found l = (l.found ≤ l.count) × ((list_all is_field (cut l.text) && eqb (l.found + length (cut l.text)) l.count) ≡ (list_all is_field (cut l.line) && eqb (length (cut l.line)) l.count))

abbrev pub decreases-loop-found : goal.decreases-loop-found
decreases-loop-found l = length l.text
