-- Why a task isn't done.
use Rattle.std.proofs.Common.{◌≡◌, ◌⊎◌, ℕ, List, Option, Err, inl, inr, refl, ap, subst}
use Rattle.script.specs.declared.schedule.Schedule.{Schedule}
use Rattle.schema.specs.Definition.{Catalog}
use Rattle.schema.specs.declared.tables.Tables.{Tables}
use Rattle.history.specs.Opening.{zero_base}
use Rattle.script.specs.declared.script.Line.{Line}
use Rattle.script.specs.Scripts.{Said, said}
use Rattle.program.specs.Beginnings.{BeginsWith, IsUnopened}
use Rattle.program.specs.Freely.{SessionsEnd}
use Rattle.program.specs.Ends.{script_fault}
use Rattle.program.specs.Files.{IsAllOf, IsFileFault}
use Rattle.program.specs.Printed.{Printed}
use Rattle.program.specs.Stops.{IsNoScript, IsUnprinted, IsUnrestored, ScriptEndsFreely}
use Rattle.program.specs.declared.fault.Fault.{Fault}
use Rattle.program.specs.declared.free.FreeWay.{FreeWay}
use Rattle.program.specs.declared.fault.Fault.TheVariants as fault

-- the file of a script wasn't read
pub unread : (A : Type 0) (way : Schedule) (known : Option (List ℕ)) (path : List ℕ) (f : Fault) → (f ≡ fault.ScriptOutOfMemory) ⊎ IsFileFault path f → IsNoScript A way known path f
unread A way known path f (inl e) = inr (inl e)
unread A way known path f (inr e) = inl e

-- what was read is no script
pub no_script : (A : Type 0) (way : Schedule) (known : Option (List ℕ)) (path bytes text : List ℕ) (line : ℕ) → IsAllOf known bytes → text ≡ bytes → (line ≡ 0) ⊎ (said {A = A} way text ≡ Err line) → IsNoScript A way known path (script_fault line)
no_script A way known path bytes text line all same (inl e) = inr (inl (ap script_fault e))
no_script A way known path bytes text line all same (inr e) = inr (inr (bytes, line, all, subst (λ b. said {A = A} way b ≡ Err line) same e, refl))

-- a restore read its dump, but did not write it again, or did not print what it read
pub unwritten : (A : Type 0) (known : Option (List ℕ)) (path out : List ℕ) (f : Fault) (q : Printed) → (f ≡ fault.DumpOutOfMemory) ⊎ IsFileFault out f ⊎ IsUnprinted f q → IsUnrestored A known path out f q
unwritten A known path out f q (inl e) = inl (inr (inr e))
unwritten A known path out f q (inr e) = inr e

-- the sessions of a script have been ended, of which these are the parts
pub script_ends_freely : {A : Type 0} (held : List ℕ → Option (List ℕ)) (way : FreeWay) (s : Said A) (catalog : Catalog) (opens : Option (List ℕ)) (lines : List (Line A)) (f : Fault) (q : Printed)
    → catalog ≡ s.catalog → opens ≡ s.opens → lines ≡ s.lines
    → ScriptEndsFreely held way (record { catalog = catalog; opens = opens; lines = lines }) f q → ScriptEndsFreely held way s f q
script_ends_freely {A} held way s catalog opens lines f q created opened lined (inl e) = inl (subst (λ o. IsUnopened A held o f) opened e)
script_ends_freely held way s catalog opens lines f q created opened lined (inr (inl e)) = inr (inl (
  e.0,
  e.1,
  subst (λ o. BeginsWith held o s.catalog e.0 e.1) opened (subst (λ c. BeginsWith held opens c e.0 e.1) created e.2),
  subst (λ ls. SessionsEnd (record { catalog = e.0; tables = e.1; base = zero_base }) way.most_events ls f) lined e.3,
))
script_ends_freely held way s catalog opens lines f q created opened lined (inr (inr e)) = inr (inr e)

-- the sessions of a script were ended, and their output wasn't printed
pub printing_ends : {A : Type 0} (held : List ℕ → Option (List ℕ)) (way : FreeWay) (s : Said A) (c : Catalog) (X : Tables A) (f : Fault) (q : Printed) → BeginsWith held s.opens s.catalog c X → (f ≡ fault.ScriptOutOfMemory) ⊎ IsUnprinted f q → ScriptEndsFreely held way s f q
printing_ends held way s c X f q begins (inl e) = inr (inl (c, X, begins, inl e))
printing_ends held way s c X f q begins (inr e) = inr (inr e)
