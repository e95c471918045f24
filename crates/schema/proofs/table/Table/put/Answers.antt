use Rattle.std.proofs.Common.{ap, sym, subst, length, ◌+◌, ◌∙◌}
use Rattle.schema.specs.Rows.{put_row}
use Rattle.schema.specs.Paged.{row_key, joined}
use Rattle.schema.specs.Pages.{IsBehind}
use Rattle.schema.proofs.NextLemmas.{count-behind}
use Rattle.schema.proofs.table.Table.put.Goals as goal

pub invariant_of-self-then-is_behind : goal.invariant_of-self-then-is_behind
invariant_of-self-then-is_behind g c =
    let behind : IsBehind row_key c.args.row.0 (joined c.self.inside.pages.items) =
    subst (λ ps. IsBehind row_key c.args.row.0 (joined ps)) c.as_slice.ensures.value (subst (λ k. IsBehind row_key k (joined c.as_slice.result.now)) (c.value.ensures.value ∙ c.key.ensures) (c.is_behind.ensures.behind c.if-is_behind.true)) in
    (c.push.ensures.laid_out, c.in_ok-count.ensures.ok ∙ ap (λ n. n + 1) c.self.invariant.1 ∙ sym (count-behind c.args.row (joined c.self.inside.pages.items) behind) ∙ ap length (sym c.in_ok-push.ensures.ok))

pub invariant_of-self-else-is_behind : goal.invariant_of-self-else-is_behind
invariant_of-self-else-is_behind g c = (
  c.put_within.ensures.laid_out,
  c.in_ok-count-2.ensures.ok c.args.row (sym (c.value-else-is_behind.ensures.value ∙ c.key-else-is_behind.ensures)) ∙ ap (λ rows. length (put_row rows c.args.row)) (sym c.self.view_is) ∙ ap length (sym c.in_ok-put_within.ensures.ok),
)
