use Rattle.std.proofs.Common.{◌≡◌, ◌∙◌, List, Result, IfOk, ap, sym, subst, refl, true, map}
use Rattle.std.proofs.lemmas.Result.{IfOk-weaker}
use Rattle.clap.specs.Words.{App, FailsBy, Row, Text, app_of, fault_of, found_of, is_simple, is_simple_and_free, matches_of, rows_of}
use Rattle.clap.proofs.OnLiterals.{clap_on_literals}
use Rattle.commands.specs.CheckWords.{check, faults_in, rows_in}
use Rattle.commands.proofs.check.task.read.Goals as goal

is_free : is_simple_and_free check ≡ true
unfolding clap_on_literals
is_free = refl

simple : is_simple check ≡ true
unfolding clap_on_literals
simple = refl

pub returns-clause-fails : goal.returns-clause-fails
unfolding faults_in
returns-clause-fails c =
    let is : app_of c.in_ok-check.check ≡ check = c.in_ok-check.ensures in
    let r = c.try_get_matches_from.result in
    subst (λ (a : App). FailsBy (fault_of a (map (λ w. w.now) c.args.words.now)) r) is (c.try_get_matches_from.ensures.kinds (subst (λ (a : App). is_simple_and_free a ≡ true) (sym is) is_free))

-- the rows of a command that is this one
by_command : {T E : Type 0} (rows : T → List Row) (a : App) (words : List Text) (r : Result T E) → a ≡ check → IfOk r (λ m. rows m ≡ matches_of a words) → IfOk r (λ m. rows m ≡ rows_in words)
unfolding rows_in
by_command rows a words r is told = subst (λ (x : App). IfOk r (λ m. rows m ≡ matches_of x words)) is told

pub returns-clause-rows : goal.returns-clause-rows
returns-clause-rows c =
    let is : app_of c.in_ok-check.check ≡ check = c.in_ok-check.ensures in
    let words = map (λ w. w.now) c.args.words.now in
    by_command (λ m. rows_of (found_of m)) (app_of c.in_ok-check.check) words c.try_get_matches_from.result is (IfOk-weaker c.try_get_matches_from.result _ _ (λ m has. (has (ap is_simple is ∙ simple)).0) c.try_get_matches_from.ensures.matches)
