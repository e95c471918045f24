-- What a judgement has of the transcript that was read.
use Rattle.std.proofs.Common.{◌≡◌, ℕ, Bool, true, List, Option, Result, Ok, Err, IfOk, sym, subst}
use Rattle.schema.specs.Definition.{Catalog}
use Rattle.schema.specs.Plain.{is_sound}
use Rattle.schema.specs.declared.tables.Tables.{Tables}
use Rattle.orders.specs.Explains.{Trace, all_fit}
use Rattle.orders.specs.Found.{Tells}
use Rattle.program.specs.Beginnings.{BeginsWith}
use Rattle.transcript.specs.Reading.{Named, traces}
use Rattle.transcript.specs.declared.traces.Traces.{Traces}
use Rattle.judgement.specs.Telling.{names_of}
use Rattle.judgement.specs.declared.judging.Judgement.{Judgement}
use Rattle.commands.specs.Checked.{IsJudged}

-- a judgement of these tables and transactions
abbrev pub IsOf : {A : Type 0} → Catalog → Tables A → Traces A → Judgement A → Type 0
IsOf c X t j = (j.catalog ≡ c) × (j.tables ≡ X) × (j.traces ≡ t)

module _ {A F : Type 0} where
  pub fit_of : (r : Result (Judgement A) F) (c : Catalog) (X : Tables A) (t : Traces A) → IfOk r (IsOf c X t) → all_fit c t.transactions.items ≡ true → IfOk r (λ j. all_fit c j.traces.transactions.items ≡ true)
  fit_of (Ok j) c X t kept fit = subst (λ (u : Traces A). all_fit c u.transactions.items ≡ true) (sym kept.2) fit
  fit_of (Err f) c X t kept fit = tt

  pub read_of : (r : Result (Judgement A) F) (c : Catalog) (X : Tables A) (t : Traces A) (read : Result (List (Trace A) × List Named) ℕ) → IfOk r (IsOf c X t) → read ≡ Ok (t.transactions.items, names_of t.names.items) → IfOk r (λ j. read ≡ Ok (j.traces.transactions.items, names_of j.traces.names.items))
  read_of (Ok j) c X t read kept is = subst (λ (u : Traces A). read ≡ Ok (u.transactions.items, names_of u.names.items)) (sym kept.2) is
  read_of (Err f) c X t read kept is = tt

  pub told_of : (r : Result (Judgement A) F) (c : Catalog) (X : Tables A) (t : Traces A) → IfOk r (IsOf c X t) → IfOk r (λ j. Tells c X t.transactions.items j.answer) → IfOk r (λ j. Tells c X j.traces.transactions.items j.answer)
  told_of (Ok j) c X t kept tells = subst (λ (u : Traces A). Tells c X u.transactions.items j.answer) (sym kept.2) tells
  told_of (Err f) c X t kept tells = tt

  pub judged : (r : Result (Judgement A) F) (held : List ℕ → Option (List ℕ)) (has_time : Bool) (text : List ℕ) (opens : Option (List ℕ)) (created c : Catalog) (X : Tables A)
      → BeginsWith held opens created c X → is_sound c X ≡ true → IfOk r (λ j. (j.catalog ≡ c) × (j.tables ≡ X)) → IfOk r (λ j. all_fit c j.traces.transactions.items ≡ true)
      → IfOk r (λ j. traces c has_time text ≡ Ok (j.traces.transactions.items, names_of j.traces.names.items)) → IfOk r (λ j. Tells c X j.traces.transactions.items j.answer)
      → IfOk r (IsJudged held has_time text opens created)
  judged (Ok j) held has_time text opens created c X begins sound kept fit reads tells = record {
    begins = subst (λ d. BeginsWith held opens created d j.tables) (sym kept.0) (subst (λ Y. BeginsWith held opens created c Y) (sym kept.1) begins);
    sound = subst (λ d. is_sound d j.tables ≡ true) (sym kept.0) (subst (λ Y. is_sound c Y ≡ true) (sym kept.1) sound);
    reads = subst (λ d. traces d has_time text ≡ Ok (j.traces.transactions.items, names_of j.traces.names.items)) (sym kept.0) reads;
    fit = subst (λ d. all_fit d j.traces.transactions.items ≡ true) (sym kept.0) fit;
    tells = subst (λ d. Tells d j.tables j.traces.transactions.items j.answer) (sym kept.0) (subst (λ Y. Tells c Y j.traces.transactions.items j.answer) (sym kept.1) tells);
  }
  judged (Err f) held has_time text opens created c X begins sound kept fit reads tells = tt
