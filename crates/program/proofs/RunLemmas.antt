-- What lines do that are done one after the other.
use Rattle.std.proofs.Common.{◌≡◌, ◌⊎◌, ℕ, ◌+◌, ◌<◌, ◌≤◌, true, List, [], ◌∷◌, ◌++◌, length, get_or, take, codes, Option, Result, Ok, Err, IfErr, OnOk, OnErr, inl, inr, refl, sym, ap, subst, ◌∙◌}
use Rattle.std.proofs.lemmas.List.{take_more, take_all}
use Rattle.std.proofs.lemmas.Option.{slice_get_read}
use Rattle.program.specs.Printed.{Adds, Printed, Prints}
use Rattle.program.specs.Steps.{AreDone}
use Rattle.program.specs.Files.{IsFileFault, Writing}
use Rattle.history.specs.Opening.{Recorded}
use Rattle.script.specs.declared.command.Command.TheVariants as command
use Rattle.script.specs.declared.script.Line.{Line}
use Rattle.script.specs.declared.script.Step.{Step}
use Rattle.script.specs.declared.script.Step.TheVariants.{Session, Checkpoint}
use Rattle.program.specs.declared.fault.Fault.{Fault}
use Rattle.program.specs.declared.fault.Fault.TheVariants as fault
use Rattle.program.specs.declared.run.Way.{Way}
use Rattle.program.specs.Beginnings.{BeginsWith, IsUnbegun}
use Rattle.program.specs.Remarks.{Noted, unnoted}
use Rattle.program.specs.Runs.{EndsAt, HasBrokenOff, HasPrinted, HasRun, HasStopped, IsDone, LinesAreDone, ScriptHasRun, ScriptHasStopped, Stops, begun, first_text, lines_printed, order_text}
use Rattle.schema.specs.Definition.{Catalog}
use Rattle.script.specs.Scripts.{Said}
use Rattle.program.proofs.PrintLemmas.{added_is_printed, adds_no_more, adds_twice, prints_no_more}
use Rattle.program.proofs.StepsLemmas.{done_more}

-- of an error two facts give a third
pub if_err_of : {T E : Type 0} (r : Result T E) (P : Type 0) (Q R : E → Type 0) → ((e : E) → P → Q e → R e) → OnErr r P → IfErr r Q → IfErr r R
if_err_of (Ok x) P Q R f p q = tt
if_err_of (Err e) P Q R f p q = f e p q

module _ {A : Type 0} where
  -- each step may be out of memory
  pub memory_stops : (h : Recorded A) (step : Step A) → Stops h step fault.ScriptOutOfMemory
  memory_stops h (Session s (command.Dump request)) = inl refl
  memory_stops h (Session s (command.Ask request)) = refl
  memory_stops h (Session s command.Wait) = refl
  memory_stops h Checkpoint = refl

  -- the first n lines were done and printed
  abbrev pub SoFar : Writing → Way → List (List ℕ) → Noted A → List (Line A) → ℕ → Noted A → Printed → Printed → Type 0
  SoFar writes way ls h lines n k p q = (text : List ℕ) × LinesAreDone writes way ls h (take n lines) k text × Adds p q text

  pub one_more : (writes : Writing) (way : Way) (ls : List (List ℕ)) (h m k : Noted A) (lines : List (Line A)) (n : ℕ) (line : Line A) (p q r : Printed) (text shown : List ℕ)
      → n < length lines → line ≡ get_or lines n line → SoFar writes way ls h lines n m p q → IsDone writes way ls m line k text → shown ≡ text → Adds q r shown → SoFar writes way ls h lines (n + 1) k p r
  one_more writes way ls h m k lines n line p q r text shown lt at so done is prints =
      let does : Noted A → Line A → Noted A → List ℕ → Type 0 = IsDone writes way ls in
      let next : take (n + 1) lines ≡ take n lines ++ line ∷ [] = take_more lines n line lt ∙ ap (λ y. take n lines ++ y ∷ []) (sym at) in (
        so.0 ++ text,
        subst (λ l. AreDone does h l k (so.0 ++ text)) (sym next) (done_more does h m k (take n lines) line so.0 text so.1 done),
        adds_twice p q r so.0 text so.2 (subst (λ t. Adds q r t) is prints),
      )

  -- Lines end once n of them are done and printed.
  pub stopped : (writes : Writing) (way : Way) (ls : List (List ℕ)) (h k : Noted A) (lines : List (Line A)) (n : ℕ) (f : Fault) (p q r : Printed) → SoFar writes way ls h lines n k p q → Prints q r [] → EndsAt k.history lines n f r → HasStopped writes way ls h lines f p r
  stopped writes way ls h k lines n f p q r so none ends = (n, k, so.0, so.1, prints_no_more p q r so.0 (added_is_printed p q so.0 so.2) none, ends)

  -- they end by a step
  pub ends_by_step : (k : Recorded A) (lines : List (Line A)) (n : ℕ) (line : Line A) (f : Fault) (q : Printed) → n < length lines → line ≡ get_or lines n line → Stops k line.step f → EndsAt k lines n f q
  ends_by_step k lines n line f q lt at stops = inr (inr (line, slice_get_read lines (length lines) n line refl lt at, stops))

  -- they end since nothing more could be printed
  pub ends_by_print : (k : Recorded A) (lines : List (Line A)) (n : ℕ) (f : Fault) (q : Printed) → (f ≡ fault.ScriptOutOfMemory) ⊎ IsFileFault (codes "-") f × (q.failed ≡ true) → EndsAt k lines n f q
  ends_by_print k lines n f q (inl e) = inl e
  ends_by_print k lines n f q (inr e) = inr (inl e)

  pub run : (writes : Writing) (way : Way) (ls : List (List ℕ)) (h k : Noted A) (lines : List (Line A)) (n : ℕ) (p q r : Printed) (shown : List ℕ) → length lines ≤ n → SoFar writes way ls h lines n k p q → shown ≡ order_text way.manner k.history → Adds q r shown → HasRun writes way ls h lines p r
  run writes way ls h k lines n p q r shown le so is prints = (
    k,
    so.0,
    subst (λ l. AreDone (IsDone writes way ls) h l k so.0) (take_all n lines le) so.1,
    adds_twice p q r so.0 (order_text way.manner k.history) so.2 (subst (λ t. Adds q r t) is prints),
  )

  -- All lines were done and printed, and what is held back was written.
  pub flushed : (writes : Writing) (way : Way) (script : List ℕ) (h : Noted A) (lines : List (Line A)) (p q r : Printed) → HasPrinted writes way script h lines p q → Adds q r [] → HasPrinted writes way script h lines p r
  flushed writes way script h lines p q r done next =
      let run = done.2 in
      (done.0, done.1, (run.0, run.1, run.2, adds_no_more done.0 q r (run.1 ++ order_text way.manner run.0.history) run.3 next))

  -- The first lines were done, and what is held back was written.
  stopped_flushed : (writes : Writing) (way : Way) (ls : List (List ℕ)) (h : Noted A) (lines : List (Line A)) (f : Fault) (p q r : Printed) → HasStopped writes way ls h lines f p q → Adds q r [] → HasStopped writes way ls h lines f p r
  stopped_flushed writes way ls h lines f p q r stop next = (stop.0, stop.1, stop.2, stop.3, prints_no_more p q r stop.2 stop.4 (added_is_printed q r [] next), go stop.5)
    where
      go : EndsAt stop.1.history lines stop.0 f q → EndsAt stop.1.history lines stop.0 f r
      go (inl e) = inl e
      go (inr (inl e)) = inr (inl (e.0, next.1 ∙ e.1))
      go (inr (inr e)) = inr (inr e)

  pub broken_flushed : (writes : Writing) (way : Way) (script : List ℕ) (h : Noted A) (lines : List (Line A)) (f : Fault) (p q r : Printed) → HasBrokenOff writes way script h lines f p q → Adds q r [] → HasBrokenOff writes way script h lines f p r
  broken_flushed writes way script h lines f p q r (inl e) next = inl (prints_no_more p q r [] e.0 (added_is_printed q r [] next), go e.1)
    where
      go : (f ≡ fault.ScriptOutOfMemory) ⊎ (IsFileFault (codes "-") f × (q.failed ≡ true)) → (f ≡ fault.ScriptOutOfMemory) ⊎ (IsFileFault (codes "-") f × (r.failed ≡ true))
      go (inl m) = inl m
      go (inr d) = inr (d.0, next.1 ∙ d.1)
  broken_flushed writes way script h lines f p q r (inr e) next = inr (e.0, e.1, stopped_flushed writes way (lines_printed way.manner script) h lines f e.0 q r e.2 next)

  -- the stream of lines that have broken off
  stream_of : (writes : Writing) (way : Way) (script : List ℕ) (h : Noted A) (lines : List (Line A)) (f : Fault) (p q : Printed) → HasBrokenOff writes way script h lines f p q → q.stream ≡ p.stream
  stream_of writes way script h lines f p q (inl e) = e.0.0
  stream_of writes way script h lines f p q (inr e) = e.2.4.0 ∙ e.1.0

  -- The stream has failed: no more than nothing is known to be printed.
  pub lost : (d : Result (Unit {0}) Fault) (writes : Writing) (way : Way) (script : List ℕ) (h : Noted A) (lines : List (Line A)) (f : Fault) (p q r : Printed) → OnOk d (HasPrinted writes way script h lines p q) → IfErr d (λ g. HasBrokenOff writes way script h lines g p q) → Prints q r [] → IsFileFault (codes "-") f → r.failed ≡ true → HasBrokenOff writes way script h lines f p r
  lost (Ok x) writes way script h lines f p q r done stop next is failed = inl ((next.0 ∙ done.2.3.0 ∙ done.1.0, λ e. failed, inl failed), inr (is, failed))
  lost (Err e) writes way script h lines f p q r done stop next is failed = inl ((next.0 ∙ stream_of writes way script h lines e p q stop, λ e. failed, inl failed), inr (is, failed))

  -- what stands before the lines was printed, and then they were done
  pub printed : (writes : Writing) (way : Way) (script : List ℕ) (h : Noted A) (lines : List (Line A)) (p m q : Printed) (shown : List ℕ) (ls : List (List ℕ)) → shown ≡ first_text way.manner script → ls ≡ lines_printed way.manner script → Adds p m shown → HasRun writes way ls h lines m q → HasPrinted writes way script h lines p q
  printed writes way script h lines p m q shown ls first lined adds run = (m, subst (λ t. Adds p m t) first adds, subst (λ l. HasRun writes way l h lines m q) lined run)

  -- what stands before the lines was printed, and then they have stopped
  pub broken : (writes : Writing) (way : Way) (script : List ℕ) (h : Noted A) (lines : List (Line A)) (f : Fault) (p m q : Printed) (shown : List ℕ) (ls : List (List ℕ)) → shown ≡ first_text way.manner script → ls ≡ lines_printed way.manner script → Adds p m shown → HasStopped writes way ls h lines f m q → HasBrokenOff writes way script h lines f p q
  broken writes way script h lines f p m q shown ls first lined adds stop = inr (m, subst (λ t. Adds p m t) first adds, subst (λ l. HasStopped writes way l h lines f m q) lined stop)

  -- A script has run, of which these are the parts.
  pub script_has_run : (writes : Writing) (held : List ℕ → Option (List ℕ)) (way : Way) (script : List ℕ) (s : Said A) (catalog : Catalog) (opens : Option (List ℕ)) (lines : List (Line A)) (p q : Printed)
      → catalog ≡ s.catalog → opens ≡ s.opens → lines ≡ s.lines
      → ScriptHasRun writes held way script (record { catalog = catalog; opens = opens; lines = lines }) p q → ScriptHasRun writes held way script s p q
  script_has_run writes held way script s catalog opens lines p q created opened lined run = (
    run.0,
    run.1,
    subst (λ o. BeginsWith held o s.catalog run.0 run.1) opened (subst (λ c. BeginsWith held opens c run.0 run.1) created run.2),
    subst (λ ls. HasPrinted writes way script (unnoted (begun run.0 run.1 way.most_events)) ls p q) lined run.3,
    run.4,
  )

  -- A script has stopped, of which these are the parts.
  pub script_has_stopped : (writes : Writing) (held : List ℕ → Option (List ℕ)) (way : Way) (script : List ℕ) (s : Said A) (catalog : Catalog) (opens : Option (List ℕ)) (lines : List (Line A)) (f : Fault) (p q : Printed)
      → catalog ≡ s.catalog → opens ≡ s.opens → lines ≡ s.lines
      → ScriptHasStopped writes held way script (record { catalog = catalog; opens = opens; lines = lines }) f p q → ScriptHasStopped writes held way script s f p q
  script_has_stopped writes held way script s catalog opens lines f p q created opened lined (inl e) = inl (subst (λ o. IsUnbegun A held o s.catalog f) opened (subst (λ c. IsUnbegun A held opens c f) created e.0), e.1)
  script_has_stopped writes held way script s catalog opens lines f p q created opened lined (inr e) = inr (
    e.0,
    e.1,
    subst (λ o. BeginsWith held o s.catalog e.0 e.1) opened (subst (λ c. BeginsWith held opens c e.0 e.1) created e.2),
    subst (λ ls. HasBrokenOff writes way script (unnoted (begun e.0 e.1 way.most_events)) ls f p q) lined e.3,
    e.4,
  )
