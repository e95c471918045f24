-- What the calls answer that judge a transcript, and explore a script.
use Rattle.std.specs.Prelude.{◌==◌, ℕ, List, not}
use Rattle.library.specs.declared.ending.End.{End}
use Rattle.library.specs.declared.exploring.Exploration.{Exploration}
use Rattle.library.specs.Checking.{Checks}
use Rattle.library.specs.Exploring.{Explores}
use Rattle.library_c.specs.Handing.{Hands}
use Rattle.library_c.specs.declared.Report.{Report}

-- What a check prints of a transcript was handed over; time counts where the number isn't 0.
abbrev pub AnswersCheck : (A : Type 0) → ℕ → List ℕ → List ℕ → List ℕ → Report → ℕ → Type 0
AnswersCheck A time transcript before after report status = (e : End) × (text : List ℕ) × Checks A (not (time == 0)) transcript e text × Hands e text before after report status

-- What an exploration prints of a script was handed over.
abbrev pub AnswersExploration : (A : Type 0) → Exploration → List ℕ → List ℕ → List ℕ → Report → ℕ → Type 0
AnswersExploration A m script before after report status = (e : End) × (text : List ℕ) × Explores A m script e text × Hands e text before after report status
