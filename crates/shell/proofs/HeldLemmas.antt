-- What a shell does with a line.
use Rattle.std.proofs.Common.{◌≡◌, ◌∙◌, ◌++◌, ℕ, List, Option, None, Result, Ok, inl, inr, ap, subst, sym}
use Rattle.value.specs.declared.refusal.Refusal.{Refusal}
use Rattle.value.specs.Refusals.{AnswersOrNoMemory}
use Rattle.history.specs.Opening.{Recorded}
use Rattle.script.specs.Scripts.{Said, said}
use Rattle.script.specs.declared.schedule.Schedule.TheVariants.{InOrder}
use Rattle.shell.specs.Shells.{Held, Opens, ended, opening}

-- what was answered is the answer
pub surely : {T : Type 0} (x : T) (answer : Result T Refusal) → AnswersOrNoMemory (Ok x) answer → answer ≡ Ok x
surely x answer (inl e) = sym e
surely x answer (inr e) = cc

-- without a core it holds its lines alone
pub not_running : {A : Type 0} (p : Held A) → p.core ≡ None → p ≡ opening p.created p.most
not_running {A} p none = ap (λ (k : Option (Recorded A)). record { created = p.created; core = k; most = p.most }) none

-- the lines so far and this one, as they were read
pub opens_said : {A : Type 0} (created line whole read : List ℕ) (most : ℕ) (s : Said A) (q : Held A) (text : List ℕ) → whole ≡ created ++ ended line → read ≡ whole → said InOrder read ≡ Ok s → Opens created whole most (Ok s) q text → Opens created (created ++ ended line) most (said InOrder (created ++ ended line)) q text
opens_said {A} created line whole read most s q text all same is told =
    let said_is : said {A = A} InOrder (created ++ ended line) ≡ Ok s = subst (λ (w : List ℕ). said {A = A} InOrder w ≡ Ok s) (same ∙ all) is in
    subst (λ (r : Result (Said A) ℕ). Opens created (created ++ ended line) most r q text) (sym said_is) (subst (λ (w : List ℕ). Opens created w most (Ok s) q text) all told)
