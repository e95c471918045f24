use Rattle.std.proofs.Common.{sym, ap, ◌∙◌, ◌-◌, length, map, take, drop, arith}
use Rattle.std.proofs.lemmas.List.{nil_from_length}
use Rattle.schema.specs.Plain.{is_sound, put_all}
use Rattle.orders.specs.Explains.{alone}
use Rattle.orders.specs.Undone.{put_back}
use Rattle.orders.proofs.AloneLemmas.{alone-step, alone-stops, first-fits, none-is, some-is}
use Rattle.orders.proofs.UndoLemmas.{ordered-sound}
use Rattle.orders.proofs.alone.run_alone.Goals as goal

pub answer-requires-clause-fits : goal.answer-requires-clause-fits
answer-requires-clause-fits g c = first-fits (λ a. (a.statement, a.reply)) c.args.catalog.now c.loop-left.left.now c.answered-item.result c.in-len1-up.len_at_least c.answered-item.is c.loop-left.invariant.1

pub returns-in_default-2-clause-ok : goal.returns-in_default-2-clause-ok
returns-in_default-2-clause-ok g c = (
  sym (alone-stops (λ a. (a.statement, a.reply)) c.args.catalog.now c.loop-left.left.now c.answered-item.result c.loop-left.tables c.in-len1-up.len_at_least c.answered-item.is (none-is (λ v. v.items) c.in_ok-changes.field-0 _ c.in_default-2.is c.in_ok-changes.ensures.ok)
      ∙ c.loop-left.invariant.0),
  c.in_ok-take_back.ensures.ok ∙ ap (λ xs. put_back xs c.loop-left.tables) c.as_slice.ensures.value ∙ c.loop-left.invariant.3,
)

pub put_changes-requires : goal.put_changes-requires
put_changes-requires g c = ordered-sound c.args.catalog.now c.loop-left.tables c.loop-left.invariant.2

pub loop-left-preserved : goal.loop-left-preserved
loop-left-preserved g c =
    let rest = take (length c.loop-left.left.now - 1) (drop 1 c.loop-left.left.now) in
    let s = alone-step (λ a. (a.statement, a.reply)) c.args.catalog.now c.loop-left.left.now c.answered-item.result c.loop-left.tables c.in-Some.changes.items c.in-len1-up.len_at_least c.answered-item.is c.loop-left.invariant.1 c.loop-left.invariant.2
    (some-is (λ v. v.items) c.in_ok-changes.field-0 c.in-Some.changes _ c.in-Some.is c.in_ok-changes.ensures.ok) in
    let after = c.in_ok-put_changes.ensures.ok ∙ ap (λ xs. put_all xs c.loop-left.tables) c.as_slice-in-len1-up.ensures.value in (
      ap (alone c.args.catalog.now (map (λ a. (a.statement, a.reply)) rest)) after ∙ s.0 ∙ c.loop-left.invariant.0,
      s.1,
      ap (is_sound c.args.catalog.now) after ∙ s.2,
      c.in_ok-put_changes.ensures.back ∙ c.loop-left.invariant.3,
    )

pub returns-clause-ok : goal.returns-clause-ok
returns-clause-ok g c =
    let none = nil_from_length c.loop-left.left.now (omega (arith, c.in_default.len_below)) in (
      sym (ap (λ qs. alone c.args.catalog.now (map (λ a. (a.statement, a.reply)) qs) c.loop-left.tables) (sym none) ∙ c.loop-left.invariant.0),
      c.loop-left.invariant.3,
    )
