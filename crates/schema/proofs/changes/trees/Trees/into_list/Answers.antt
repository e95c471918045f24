use Rattle.std.proofs.Common.{◌+◌, ◌++◌, ap, sym, ◌∙◌, arith, length, add-one, append_assoc, append-nil}
use Rattle.std.proofs.lemmas.List.{nil_from_length}
use Rattle.schema.specs.Changing.{changes_in, changes_from}
use Rattle.schema.proofs.changes.trees.Trees.into_list.Goals as goal

pub loop-changes-preserved : goal.loop-changes-preserved
loop-changes-preserved g c =
    let list = c.loop-changes.list.items in
    let place = c.loop-changes.place in
    let first = c.in-Some.changes in
    let rest = c.next.new.self.rest.items in (
      ap (λ xs. xs ++ changes_from (place + 1) rest) (c.in_ok-move_into.ensures.ok ∙ ap (λ n. list ++ changes_in n first) c.at.ensures)
          ∙ append_assoc list (changes_in place first) (changes_from (place + 1) rest)
          ∙ ap (λ n. list ++ (changes_in place first ++ changes_from n rest)) (add-one place)
          ∙ ap (λ cs. list ++ changes_from place cs) (sym c.in-Some.ensures.steps.0)
          ∙ c.loop-changes.invariant.0,
      omega (arith, ap length c.in-Some.ensures.steps.0, c.loop-changes.invariant.1),
    )

pub returns-clause-ok : goal.returns-clause-ok
returns-clause-ok g c =
    let rest = c.loop-changes.changes-iterator.rest in
    let none = nil_from_length rest.items (omega (arith, rest.ok.0, c.in-None.ensures.steps.0)) in
    sym (append-nil c.loop-changes.list.items) ∙ ap (λ cs. c.loop-changes.list.items ++ changes_from c.loop-changes.place cs) (sym none) ∙ c.loop-changes.invariant.0
