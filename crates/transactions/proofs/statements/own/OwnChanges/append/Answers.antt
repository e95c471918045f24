use Rattle.std.proofs.Common.{ap, sym, subst, ◌∙◌, ◌++◌, length, drop, take, arith, length-append}
use Rattle.std.specs.List.Sorted.{IsStrictlySortedBy}
use Rattle.schema.specs.Changing.{change_cmp}
use Rattle.transactions.specs.Merged.{AreMerged}
use Rattle.transactions.proofs.MergedLemmas.{merged-appended}
use Rattle.transactions.proofs.statements.own.OwnChanges.append.Goals as goal

pub invariant_of-self-2 : goal.invariant_of-self-2
invariant_of-self-2 g c =
    let merged = c.self.inside.merged in
    let count = c.self.inside.count in
    let before = c.self.inside.list.items in
    let list = c.append_reserved.ensures ∙ ap (λ xs. xs ++ c.args.changes.items) c.in_ok-reserve.ensures.items in (
      omega (arith, ap length list, length-append before c.args.changes.items, c.self.invariant.0),
      subst (λ ys. AreMerged merged (take count ys)) (sym list) (merged-appended merged before c.args.changes.items count c.self.invariant.0 c.self.invariant.1),
      λ e. subst (λ ys. IsStrictlySortedBy change_cmp (drop count ys)) c.as_slice.ensures.value (c.are_by_key_behind-self-inside.ensures e),
    )
