-- What calls on a handle do.
use Rattle.std.specs.Prelude.{◌≡◌, ◌⊎◌, ℕ, List, Option, Some, None, length}
use Rattle.shell.specs.Shells.{Answers}
use Rattle.shell.specs.Answering.{answer_text, made_text}
use Rattle.shell.specs.declared.answer.Answer.{Answer}
use Rattle.shell.specs.declared.answer.Answer.TheVariants.{Text, Reply}
use Rattle.library.specs.declared.ending.End.TheVariants.{Done}
use Rattle.library_c.specs.Handing.{Hands}
use Rattle.library_c.specs.declared.Report.{Report}
use Rattle.library_c.specs.declared.kept.Kept.{Kept}

-- The handle is open, and keeps this.
abbrev pub Keeps : (Kept → Type 0) → Option Kept → Type 0
Keeps is None = ⊥
Keeps is (Some q) = is q

-- A handle that is open stays open, and what it keeps becomes this; of one that is shut nothing is done.
abbrev pub OnOpen : (Kept → Kept → Report → Report → ℕ → Type 0) → Option Kept → Option Kept → Report → Report → ℕ → Type 0
OnOpen does None w before after status = (w ≡ None) × (after ≡ before) × (status ≡ 7)
OnOpen does (Some k) w before after status = Keeps (λ q. does k q before after status) w

-- Memory was refused, and all stays.
abbrev pub Stays : Kept → Kept → Report → Report → ℕ → Type 0
Stays k q before after status = (q ≡ k) × (after ≡ before) × (status ≡ 4)

module _ {A : Type 0} where
  -- how long the text of an answer is, where it was made
  abbrev pub made_length : Answer A → ℕ
  made_length (Text text) = length text.items
  made_length (Reply s r) = 0

  -- how a line ends that was done: its answer's text was made, or is still to be made
  abbrev pub line_status : Answer A → ℕ
  line_status (Text text) = 0
  line_status (Reply s r) = 8

  -- An answer's length was reported.
  abbrev pub IsReported : Answer A → Report → Type 0
  IsReported a after = (after.length ≡ made_length a) × (after.line ≡ 0)

-- A line was answered, as `shell` says, and the answer kept; or memory was refused, and all stays.
abbrev pub AnswersLine : Kept → List ℕ → Kept → Report → Report → ℕ → Type 0
AnswersLine k line q before after status = (Answers k.server line q.server (answer_text q.answer) × (q.prepared ≡ k.prepared) × IsReported q.answer after × (status ≡ line_status q.answer)) ⊎ Stays k q before after status

-- what a call on a handle does with a line
abbrev pub Calls : Option Kept → List ℕ → Option Kept → Report → Report → ℕ → Type 0
Calls v line w before after status = OnOpen (λ k q b a s. AnswersLine k line q b a s) v w before after status

-- A text was handed over; or memory was refused to it, and nothing was.
abbrev pub HandsPrinted : List ℕ → List ℕ → List ℕ → Report → Report → ℕ → Type 0
HandsPrinted text room left before after status = Hands Done text room left after status ⊎ ((left ≡ room) × (after ≡ before) × (status ≡ 4))

-- A text that was made was handed over. For one that has still to be made memory may be refused.
abbrev pub HandsMade : Option (List ℕ) → List ℕ → List ℕ → List ℕ → Report → Report → ℕ → Type 0
HandsMade None text room left before after status = HandsPrinted text room left before after status
HandsMade (Some made) text room left before after status = Hands Done text room left after status

-- The server, its last answer and the lines that were read once stay; the answer's text may have been made.
abbrev pub IsSame : Kept → Kept → Type 0
IsSame k q = (q.server ≡ k.server) × (answer_text q.answer ≡ answer_text k.answer) × (q.prepared ≡ k.prepared)

-- The last answer was handed over.
abbrev pub RepliesIn : Kept → Kept → List ℕ → List ℕ → Report → Report → ℕ → Type 0
RepliesIn k q room left before after status = IsSame k q × HandsMade (made_text k.answer) (answer_text k.answer) room left before after status

-- What a call for a handle's last answer does: it hands that over; of a handle that is shut nothing is done.
abbrev pub Replies : Option Kept → Option Kept → List ℕ → List ℕ → Report → Report → ℕ → Type 0
Replies None w room left before after status = (w ≡ None) × (left ≡ room) × (after ≡ before) × (status ≡ 7)
Replies (Some k) w room left before after status = Keeps (λ q. RepliesIn k q room left before after status) w

-- how a handle is shut
abbrev pub shut_status : Option Kept → ℕ
shut_status None = 7
shut_status (Some k) = 0
