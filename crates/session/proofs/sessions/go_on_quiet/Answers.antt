use Rattle.std.proofs.Common.{ap, sym, subst, ◌∙◌, ◌≡◌, ◌==◌, ◌||◌, ◌+◌, ◌^◌, true, false, nat_le, inl, Ok, Err}
use Rattle.std.proofs.lemmas.Bool.{or_parts}
use Rattle.value.specs.Refusals.{AnswersOrNoMemory}
use Rattle.history.specs.declared.base.Base.{Base}
use Rattle.history.specs.Answer.{checkpoint_answer}
use Rattle.session.specs.Core.{from_opening}
use Rattle.session.proofs.CoreLemmas.{as_many, checkpoint_is, checkpoint_many, checkpoint_sound, counts_so}
use Rattle.session.proofs.OpenLemmas.{opened_or_none}
use Rattle.session.proofs.sessions.go_on_quiet.Goals as goal

pub returns-then-exceeds : goal.returns-then-exceeds
returns-then-exceeds g c =
    let many : (c.args.max_events == 0 || nat_le (2 ^ 64) (c.args.world.now.place + c.args.max_events)) ≡ true = ap (λ (b : Base). c.args.max_events == 0 || nat_le (2 ^ 64) (b.events + c.args.max_events)) (sym c.counted-base.ensures.value) ∙ sym c.exceeds.ensures ∙ c.if-exceeds.true in
    inl (ap Err c.of_code.ensures ∙ sym (ap (from_opening c.args.max_events) (checkpoint_many c.args.history.now c.args.world.now c.requires.kept c.args.max_events c.requires.quiet many)))

pub tables-requires : goal.tables-requires
tables-requires g c = as_many c.args.history.now c.args.world.now c.requires.kept c.args.rows.now c.requires.rows c.catalog.result.now c.catalog.ensures

pub open_on-requires-clause-sound : goal.open_on-requires-clause-sound
open_on-requires-clause-sound g c =
    checkpoint_sound c.args.history.now c.args.world.now c.requires.kept c.args.rows.now c.requires.rows c.in_ok-catalog.catalog c.in_ok-tables.tables c.counted-base.result (c.in_ok-catalog.ensures.ok ∙ c.catalog-2.ensures) c.counted-base.ensures.value c.in_ok-tables.ensures.ok

pub open_on-requires-clause-room : goal.open_on-requires-clause-room
open_on-requires-clause-room g c = counts_so (c.args.max_events == 0) c.counted-base.result.events c.args.max_events (sym c.exceeds.ensures ∙ c.if-exceeds.false)

pub returns : goal.returns
returns g c =
    let few : (c.args.max_events == 0 || nat_le (2 ^ 64) (c.args.world.now.place + c.args.max_events)) ≡ false = ap (λ (b : Base). c.args.max_events == 0 || nat_le (2 ^ 64) (b.events + c.args.max_events)) (sym c.counted-base.ensures.value) ∙ sym c.exceeds.ensures ∙ c.if-exceeds.false in
    let opens : checkpoint_answer c.args.history.now.opening c.args.history.now.records c.args.max_events ≡ Ok (record { catalog = c.in_ok-catalog.catalog; tables = c.in_ok-tables.tables; base = c.counted-base.result }) =
    checkpoint_is c.args.history.now c.args.world.now c.requires.kept c.args.rows.now c.requires.rows c.args.max_events c.in_ok-catalog.catalog c.in_ok-tables.tables c.counted-base.result c.requires.quiet few
    (c.in_ok-catalog.ensures.ok ∙ c.catalog-2.ensures) c.counted-base.ensures.value c.in_ok-tables.ensures.ok in
    subst (AnswersOrNoMemory c.open_on.result) (sym (ap (from_opening c.args.max_events) opens))
    (opened_or_none (c.args.max_events == 0) c.open_on.result _ (or_parts (c.args.max_events == 0) (nat_le (2 ^ 64) (c.args.world.now.place + c.args.max_events)) few).0 c.open_on.ensures.ok c.open_on.ensures.refused)
