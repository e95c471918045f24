use Rattle.std.proofs.Common.{◌≡◌, ◌∙◌, ap, sym, subst, refl, true, map}
use Rattle.std.proofs.lemmas.Result.{IfOk-weaker}
use Rattle.clap.specs.Words.{App, FailsBy, app_of, fault_of, is_simple, is_simple_and_free, subcommand_of}
use Rattle.clap.proofs.OnLiterals.{clap_on_literals}
use Rattle.program.specs.CommandLine.{pgserial}
use Rattle.program.proofs.task.matches_of.Goals as goal

is_free : is_simple_and_free pgserial ≡ true
unfolding clap_on_literals
is_free = refl

simple : is_simple pgserial ≡ true
unfolding clap_on_literals
simple = refl

pub returns-clause-fails : goal.returns-clause-fails
returns-clause-fails c =
    let is : app_of c.in_ok-program.program ≡ pgserial = c.in_ok-program.ensures in
    let r = c.try_get_matches_from.result in
    subst (λ (a : App). FailsBy (fault_of a (map (λ w. w.now) c.args.words.now)) r) is (c.try_get_matches_from.ensures.kinds (subst (λ (a : App). is_simple_and_free a ≡ true) (sym is) is_free))

pub returns-clause-command : goal.returns-clause-command
returns-clause-command c =
    let is : app_of c.in_ok-program.program ≡ pgserial = c.in_ok-program.ensures in
    let words = map (λ w. w.now) c.args.words.now in
    IfOk-weaker c.try_get_matches_from.result _ _ (λ m has. (has (ap is_simple is ∙ simple)).1 ∙ ap (λ (a : App). subcommand_of a words) is) c.try_get_matches_from.ensures.matches
