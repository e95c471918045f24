-- What a shell does with a line before its server runs.
use Rattle.std.proofs.Common.{◌≡◌, ℕ, ◌==◌, Bool, false, length, List, is_some, Result, Ok, Err, IfOk, subst}
use Rattle.schema.specs.Definition.{Catalog}
use Rattle.script.specs.Scripts.{Said}
use Rattle.script.specs.declared.script.Line.{Line}
use Rattle.shell.specs.Shells.{Begins, Held, Opens}

-- two facts of what a call gave
pub both : {T E : Type 0} (P Q : T → Type 0) (r : Result T E) → IfOk r P → IfOk r Q → IfOk r (λ x. P x × Q x)
both P Q (Ok x) p q = (p, q)
both P Q (Err e) p q = p

-- a script that opens no dump, by its parts
pub opens-by : {A : Type 0} (created whole : List ℕ) (most : ℕ) (s : Said A) (q : Held A) (text : List ℕ) (b : Bool) (c : Catalog) (steps : List (Line A)) → is_some s.opens ≡ false → c ≡ s.catalog → steps ≡ s.lines → b ≡ (length steps == 0) → Begins b whole most c steps q text → Opens created whole most (Ok s) q text
opens-by created whole most s q text b c steps none tables lines way told =
    let by_length = subst (λ (k : Bool). Begins k whole most c steps q text) way told in
    let of_catalog = subst (λ (d : Catalog). Begins (length steps == 0) whole most d steps q text) tables by_length in
    rw none (subst (λ (ls : List (Line _)). Begins (length ls == 0) whole most s.catalog ls q text) lines of_catalog)
