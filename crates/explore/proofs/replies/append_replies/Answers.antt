use Rattle.std.proofs.Common.{◌++◌, ap, sym, ◌∙◌, List, ℕ, arith}
use Rattle.std.proofs.lemmas.List.{append-nil}
use Rattle.explore.proofs.Counting.{none_told}
use Rattle.explore.proofs.Gathering.{told_all, told_next}
use Rattle.explore.proofs.replies.append_replies.Goals as goal

pub loop-replies-init : goal.loop-replies-init
loop-replies-init g c = sym (ap (λ (t : List ℕ). c.args.text.now.items ++ t) (none_told c.args.entries.now) ∙ append-nil c.args.text.now.items)

pub loop-replies-preserved : goal.loop-replies-preserved
loop-replies-preserved g c =
    told_next c.args.entries.now c.args.told.now c.texts-replies-items.result.now c.loop-replies.replies-index c.replies-item.result c.args.text.now.items c.loop-replies.text.items c.append_all.new.text.items c.requires c.texts-replies-items.ensures c.loop-replies-test.true c.replies-item.is c.loop-replies.invariant c.in_ok-append_all.ensures

pub returns : goal.returns
returns g c = record {
  ok = told_all c.args.entries.now c.args.told.now c.texts-replies-items.result.now c.loop-replies.replies-index c.args.text.now.items c.loop-replies.text.items c.requires c.texts-replies-items.ensures (omega (arith, c.loop-replies-test.false)) c.loop-replies.auto.replies-index-end c.loop-replies.invariant;
}
