use Rattle.std.proofs.Common.{◌∙◌, ap, subst}
use Rattle.std.specs.Option.{option_map}
use Rattle.value.proofs.Basics.{IfOk_then}
use Rattle.schema.specs.Plain.{is_sound}
use Rattle.orders.specs.Explains.{are_fit}
use Rattle.orders.specs.Undone.{HasRun}
use Rattle.orders.proofs.PopLemmas.{with-tables}
use Rattle.orders.proofs.walk.Walk.run.Goals as goal

pub run_alone-requires-clause-fits : goal.run_alone-requires-clause-fits
run_alone-requires-clause-fits g c = ap (are_fit c.args.catalog.now) c.answered.ensures ∙ c.requires.fits

pub run_alone-requires-clause-sound : goal.run_alone-requires-clause-sound
run_alone-requires-clause-sound g c = ap (λ w. is_sound c.args.catalog.now w.tables) c.self.view_is ∙ c.requires.sound

pub returns-clause-ok : goal.returns-clause-ok
returns-clause-ok g c =
    IfOk_then c.run_alone.result c.run_alone.ensures.ok (λ b h.
    subst (λ X. HasRun c.args.catalog.now c.args.transaction.now.statements X (option_map (λ v. v.items) b) c.run_alone.new.tables) (ap (λ w. w.tables) c.self.view_is)
    (subst (λ qs. HasRun c.args.catalog.now qs c.self.inside.tables (option_map (λ v. v.items) b) c.run_alone.new.tables) c.answered.ensures h))

pub returns-clause-others : goal.returns-clause-others
returns-clause-others g c = IfOk_then c.run_alone.result c.run_alone.ensures.ok (λ b h. with-tables c.args.self.now c.run_alone.new.tables c.self.view_is)
