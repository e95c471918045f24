use Rattle.std.proofs.Common.{ap, ◌∙◌}
use Rattle.schema.specs.Plain.{is_sound, put_all}
use Rattle.orders.proofs.AloneLemmas.{redone-sound, some-is}
use Rattle.orders.proofs.alone.redo.Goals as goal

pub returns-clause-sound : goal.returns-clause-sound
returns-clause-sound g c =
    ap (is_sound c.args.catalog.now) (c.in_ok-apply_all.ensures.ok ∙ ap (λ xs. put_all xs c.args.tables.now) c.as_slice.ensures.value)
    ∙ redone-sound c.args.catalog.now (c.args.answered.now.statement, c.args.answered.now.reply) c.args.tables.now c.in-Some.changes.items c.requires.fits c.requires.sound
    (some-is (λ v. v.items) c.in_ok-changes.field-0 c.in-Some.changes _ c.in-Some.is c.in_ok-changes.ensures.ok)
