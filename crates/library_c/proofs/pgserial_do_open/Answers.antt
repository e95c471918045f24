use Rattle.std.proofs.Common.{Option, [], ◌≡◌, ◌∙◌, subst}
use Rattle.library_c.specs.Opening.{Opens}
use Rattle.library_c.specs.declared.kept.Kept.{Kept}
use Rattle.library_c.proofs.OpeningLemmas.{begins_as}
use Rattle.shell.specs.Shells.{opening}
use Rattle.library_c.proofs.pgserial_do_open.Goals as goal

pub returns-clause-opened : goal.returns-clause-opened
returns-clause-opened c = λ some. subst (λ (v : Option Kept). Opens v c.args.most_events c.begin_in.new.handle.value c.begin_in.result) c.in_default.ensures.taken
    (begins_as (λ k. k.server ≡ c.new.result) (λ k. k.server ≡ opening [] c.args.most_events) c.begin_in.new.handle.value c.begin_in.result (λ k same. same ∙ c.new.ensures) c.begin_in.ensures)
