-- What is printed of a transcript's check, and how it ends.
use Rattle.std.specs.Prelude.{◌≡◌, ◌⊎◌, ℕ, Bool, true, false, List, [], is_some, Result, Ok, Err}
use Rattle.schema.specs.Definition.{Catalog}
use Rattle.schema.specs.Inserting.{empty_tables}
use Rattle.orders.specs.Explains.{Trace}
use Rattle.orders.specs.Found.{Tells}
use Rattle.orders.specs.declared.search.Answer.{Answer}
use Rattle.orders.specs.declared.search.Answer.TheVariants as answer
use Rattle.transcript.specs.Opening.{opening}
use Rattle.transcript.specs.Reading.{Named, traces}
use Rattle.transcript.specs.declared.fault.Reason.{Reason}
use Rattle.transcript.specs.declared.fault.Reason.TheVariants as reason
use Rattle.transcript.specs.declared.opening.Opening.{Opening}
use Rattle.judgement.specs.Telling.{TellsOf, names_of}
use Rattle.judgement.specs.declared.judging.Judgement.{Judgement}
use Rattle.library.specs.declared.ending.End.{End}
use Rattle.library.specs.declared.ending.End.TheVariants.{Done, Refused, Device, Memory, NoOrder, Unknown}
use Rattle.library.specs.Memory.{RanOut}

-- how a check ends of a transcript whose line of this number may not stand there, for this reason
abbrev pub end_of_fault : Reason → ℕ → End
end_of_fault reason.Memory line = Memory
end_of_fault r line = Refused line

-- the line of this number was refused, and nothing printed
abbrev pub IsRefused : ℕ → End → List ℕ → Type 0
IsRefused line e text = (e ≡ Refused line) × (text ≡ [])

module _ {A : Type 0} where
  -- how a check ends that comes to an answer
  abbrev pub end_of_answer : Answer A → End
  end_of_answer (answer.Yes order) = Done
  end_of_answer answer.No = NoOrder
  end_of_answer answer.Unknown = Unknown

  -- This is printed of a judgement, and the check ends by its answer.
  abbrev pub IsPrinted : Judgement A → End → List ℕ → Type 0
  IsPrinted j e text = (e ≡ end_of_answer j.answer) × TellsOf j text

  -- What was recorded of transactions, which are named so, on the tables of a catalog, without rows, was judged rightly, and that was printed.
  abbrev pub IsJudged : Catalog → (List (Trace A) × List Named) → End → List ℕ → Type 0
  IsJudged c recorded e text = (j : Judgement A) × ((j.traces.transactions.items, names_of j.traces.names.items) ≡ recorded) × Tells c (empty_tables c) recorded.0 j.answer × IsPrinted j e text

  -- How a check ends of what was read of transactions; or a line may not stand where it stands.
  abbrev pub EndsTraces : Catalog → Result (List (Trace A) × List Named) ℕ → End → List ℕ → Type 0
  EndsTraces c (Ok recorded) e text = IsJudged c recorded e text
  EndsTraces c (Err line) e text = IsRefused line e text

-- How a check ends of what a transcript records of the tables of a catalog, without rows.
abbrev pub EndsRecorded : (A : Type 0) → Catalog → Bool → List ℕ → End → List ℕ → Type 0
EndsRecorded A c has_time transcript e text = EndsTraces c (traces {A = A} c has_time transcript) e text

-- How a check ends of a transcript that opens a dump's file, which isn't there, or creates its tables.
abbrev pub EndsBegun : (A : Type 0) → Bool → Catalog → Bool → List ℕ → End → List ℕ → Type 0
EndsBegun A true c has_time transcript e text = (e ≡ Device 0) × (text ≡ [])
EndsBegun A false c has_time transcript e text = EndsRecorded A c has_time transcript e text

module _ {A : Type 0} where
  -- How a check ends of a transcript that begins so; or a line may not stand where it stands.
  abbrev pub EndsOpening : Bool → List ℕ → Result (Opening A) ℕ → End → List ℕ → Type 0
  EndsOpening has_time transcript (Ok o) e text = EndsBegun A (is_some o.opens) o.catalog has_time transcript e text
  EndsOpening has_time transcript (Err line) e text = IsRefused line e text

-- A check prints this of a transcript, with time or without it, and ends so: by the answer for its transactions; or a line may not stand where it stands, or a dump's file is opened; or memory was refused.
abbrev pub Checks : (A : Type 0) → Bool → List ℕ → End → List ℕ → Type 0
Checks A has_time transcript e text = RanOut e text ⊎ EndsOpening has_time transcript (opening {A = A} transcript) e text
