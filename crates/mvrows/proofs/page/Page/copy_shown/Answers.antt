use Rattle.std.proofs.Common.{ap, sym, arith, ◌∙◌, Some}
use Rattle.std.specs.Option.{option_copied}
use Rattle.mvrows.proofs.CopiedLemmas.{key-shown, key-not_shown}
use Rattle.mvrows.proofs.page.Page.copy_shown.Goals.{in-Some+in_ok-copy+in_ok-put, in_default}
use Rattle.mvrows.proofs.page.Page.copy_shown.Goals as goal

pub loop-chain-preserved : goal.loop-chain-preserved
loop-chain-preserved g c = elim c.match-row_at.branch [
  | in-Some+in_ok-copy+in_ok-put w ↦
      w.copies-is
      ∙ key-shown c.args.snapshot c.deref-chain-items.result.now c.loop-chain.chain-index c.chain-item.result w.in_ok-copy.field-0 c.args.copies.now c.loop-chain.copies w.put.new.self c.args.table (omega arith) c.chain-item.is
      (sym c.row_at.ensures ∙ ap option_copied w.in-Some.is ∙ ap Some (sym w.in_ok-copy.ensures.ok)) c.requires c.loop-chain.invariant w.in_ok-put.ensures.ok
  | in_default w ↦
      w.copies-is
      ∙ key-not_shown c.args.snapshot c.deref-chain-items.result.now c.loop-chain.chain-index c.chain-item.result c.args.copies.now c.loop-chain.copies c.args.table (omega arith) c.chain-item.is
      (sym c.row_at.ensures ∙ ap option_copied w.in_default.is) c.loop-chain.invariant
]
