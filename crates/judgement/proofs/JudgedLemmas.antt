-- The members of a judgement's object that say why.
use Rattle.std.proofs.Common.{◌≡◌, ◌∙◌, ℕ, List, Option, Some, None, Result, Ok, Err, IfOk, Vec, ap, ap₂, codes, subst, sym}
use Rattle.orders.specs.Explains.{Trace}
use Rattle.orders.specs.declared.search.Answer.{Answer}
use Rattle.orders.specs.declared.search.Answer.TheVariants.{Yes}
use Rattle.orders.specs.declared.stop.Stop.{Stop}
use Rattle.transcript.specs.declared.traces.Name.{Name}
use Rattle.judgement.specs.JsonTelling.{TellsReasons, TellsWhy, order_member, stop_members}
use Rattle.judgement.specs.JsonTold.{told}
use Rattle.judgement.specs.Telling.{names_of}
use Rattle.judgement.specs.declared.json.told.Told.{Told}

-- the order is told
pub by_order : {A C E : Type 0} (r : Result (Vec ℕ A) E) (names shown : List (Name A)) (ts : List (Trace A)) (answer : Answer A) (order : Vec ℕ A) (places : List ℕ) (certificate : Option C) (stop : Option (Stop A))
    → answer ≡ Yes order → shown ≡ names → places ≡ order.items → IfOk r (λ t. t.items ≡ order_member (codes ",\"order\":") (names_of shown) places) → IfOk r (λ t. TellsReasons (names_of names) ts answer certificate stop t.items)
by_order (Ok t) names shown ts answer order places certificate stop is same at said = subst (λ a. TellsReasons (names_of names) ts a certificate stop t.items) (sym is) (said ∙ ap₂ (order_member (codes ",\"order\":")) (ap names_of same) at)
by_order (Err e) names shown ts answer order places certificate stop is same at said = tt

-- what a certificate tells
pub by_certificate : {A C E : Type 0} (r : Result (Vec ℕ A) E) (names : List (Name A)) (ts : List (Trace A)) (certificate : Option C) (lines : C) (stop : Option (Stop A))
    → certificate ≡ Some lines → IfOk r (λ t. (x : Told A) × (t.items ≡ told x)) → IfOk r (λ t. TellsWhy (names_of names) ts certificate stop t.items)
by_certificate (Ok t) names ts certificate lines stop is said = subst (λ c. TellsWhy (names_of names) ts c stop t.items) (sym is) said
by_certificate (Err e) names ts certificate lines stop is said = tt

-- it is told where the search stopped
pub by_stop : {A C E : Type 0} (r : Result (Vec ℕ A) E) (names : List (Name A)) (ts : List (Trace A)) (certificate : Option C) (stop : Option (Stop A)) (at : Stop A)
    → certificate ≡ None → stop ≡ Some at → IfOk r (λ t. t.items ≡ stop_members (names_of names) ts at) → IfOk r (λ t. TellsWhy (names_of names) ts certificate stop t.items)
by_stop {C = C} (Ok t) names ts certificate stop at none is said = subst (λ c. TellsWhy {C = C} (names_of names) ts c stop t.items) (sym none) (subst (λ s. TellsWhy {C = C} (names_of names) ts None s t.items) (sym is) said)
by_stop (Err e) names ts certificate stop at none is said = tt
