-- The traces of a text whose lines were read.
use Rattle.std.proofs.Common.{◌≡◌, ◌⊎◌, ℕ, Bool, List, map, Option, Some, Result, Ok, Err, inl, inr, refl, sym, ap, ◌∙◌}
use Rattle.std.specs.Option.{option_map_or}
use Rattle.schema.specs.Definition.{Catalog}
use Rattle.orders.specs.Explains.{Trace}
use Rattle.script.specs.Commands.{◌>>=◌}
use Rattle.transcript.specs.Lines.{read_text}
use Rattle.transcript.specs.Outcomes.{Lacks, reason_of}
use Rattle.transcript.specs.Reading.{Named, Read, at_end, fitting, name_of, parts, start, trace_of, traces, traces_of, with_line}
use Rattle.transcript.specs.declared.fault.LineError.{LineError}
use Rattle.transcript.specs.declared.fault.LineError.TheVariants.{Memory, Faulty}
use Rattle.transcript.specs.declared.fault.Reason.{Reason}
use Rattle.transcript.specs.declared.fault.Reason.TheVariants as reason
use Rattle.transcript.specs.declared.reader.Ended.{Ended}

-- what is missing at the end is missing in the traces
pub no_parts : {A : Type 0} (c : Catalog) (has_time : Bool) (r : Read A) (e : LineError) → Lacks e (parts r) → Lacks e (traces_of c has_time r)
unfolding traces_of
no_parts c has_time r Memory lacks = tt
no_parts {A} c has_time r (Faulty why) lacks = ap (λ (o : Option (List (Ended A) × List ℕ)). o >>= λ p. fitting c (map (trace_of has_time) p.0) (map (name_of p.1) p.0)) lacks

module _ {A : Type 0} (c : Catalog) (has_time : Bool) (text : List ℕ) (r : Read A) (is : r ≡ start) where
  by_lines : (o : Result (Read A × ℕ) ℕ) → read_text (with_line c) r text ≡ o → traces {A = A} c has_time text ≡ at_end c has_time o
  by_lines o e = ap (at_end c has_time) (ap (λ (s : Read A). read_text (with_line c) s text) (sym is) ∙ e)

  -- a line that may not stand where it stands, or memory ran out
  pub unread : (why : Reason) (n : ℕ) → (why ≡ reason.Memory) ⊎ (read_text (with_line c) r text ≡ Err n) → (why ≡ reason.Memory) ⊎ (traces {A = A} c has_time text ≡ Err n)
  unread why n (inl m) = inl m
  unread why n (inr e) = inr (by_lines (Err n) e)

  -- nothing comes of the lines, or memory ran out
  pub not_given : (e : LineError) (s : Read A) (n : ℕ) → read_text (with_line c) r text ≡ Ok (s, n) → Lacks e (traces_of c has_time s) → (reason_of e ≡ reason.Memory) ⊎ (traces {A = A} c has_time text ≡ Err n)
  not_given Memory s n e lacks = inl refl
  not_given (Faulty why) s n e lacks = inr (by_lines (Ok (s, n)) e ∙ ap (λ (o : Option (List (Trace A) × List Named)). option_map_or Ok o (Err n)) lacks)

  -- what comes of them
  pub given : (s : Read A) (n : ℕ) (ts : List (Trace A) × List Named) → read_text (with_line c) r text ≡ Ok (s, n) → traces_of c has_time s ≡ Some ts → traces {A = A} c has_time text ≡ Ok ts
  given s n ts e so = by_lines (Ok (s, n)) e ∙ ap (λ (o : Option (List (Trace A) × List Named)). option_map_or Ok o (Err n)) so
