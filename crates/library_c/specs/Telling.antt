-- What a handle's server tells of itself, which is kept as an answer is.
use Rattle.std.specs.Prelude.{◌≡◌, ◌⊎◌, ℕ, List, Option, length}
use Rattle.value.specs.declared.refusal.Refusal.{Refusal}
use Rattle.statement.specs.declared.reply.Reply.TheVariants.{Refused}
use Rattle.script.specs.Printing.{reply_text}
use Rattle.shell.specs.Asked.{catalog_of, tables_text}
use Rattle.shell.specs.Answering.{answer_text}
use Rattle.library.specs.Embedding.{IsDump, IsUndumped, order_in}
use Rattle.library_c.specs.Talking.{IsReported, OnOpen, Stays}
use Rattle.library_c.specs.declared.Report.{Report}
use Rattle.library_c.specs.declared.kept.Kept.{Kept}

-- The text is the last answer now, and its length is reported; the server and the lines that were read once are as they were.
abbrev pub KeepsText : Kept → List ℕ → Kept → Report → ℕ → Type 0
KeepsText k text q after status = (q.server ≡ k.server) × (q.prepared ≡ k.prepared) × (answer_text q.answer ≡ text) × (after.length ≡ length text) × (after.line ≡ 0) × (status ≡ 0)

-- The text is the last answer now; or memory was refused, and all stays.
abbrev pub Tells : Kept → List ℕ → Kept → Report → Report → ℕ → Type 0
Tells k text q before after status = KeepsText k text q after status ⊎ Stays k q before after status

-- The line of a session's refused dump is the last answer now; the server is as it was.
abbrev pub KeepsRefusal : Kept → ℕ → Refusal → Kept → Report → ℕ → Type 0
KeepsRefusal k s e q after status = (q.server ≡ k.server) × (q.prepared ≡ k.prepared) × (answer_text q.answer ≡ reply_text {A = Unit {0}} s (Refused e)) × IsReported q.answer after × (status ≡ 1)

-- The last answer is a whole dump of the session's safe snapshot; or why the session may view no tables; or memory was refused, and all stays.
abbrev pub DumpsIn : Kept → ℕ → Kept → Report → Report → ℕ → Type 0
DumpsIn k s q before after status =
    ((text : List ℕ) × IsDump k.server.core s text × KeepsText k text q after status)
    ⊎ (((e : Refusal) × IsUndumped k.server.core s e × KeepsRefusal k s e q after status) ⊎ Stays k q before after status)

-- a dump of a handle's server
abbrev pub Dumps : Option Kept → ℕ → Option Kept → Report → Report → ℕ → Type 0
Dumps v s w before after status = OnOpen (λ k q b a u. DumpsIn k s q b a u) v w before after status

-- the serial order of a handle's server
abbrev pub TellsOrder : Option Kept → Option Kept → Report → Report → ℕ → Type 0
TellsOrder v w before after status = OnOpen (λ k q b a u. Tells k (order_in k.server.core) q b a u) v w before after status

-- the tables of a handle's server
abbrev pub TellsTables : Option Kept → Option Kept → Report → Report → ℕ → Type 0
TellsTables v w before after status = OnOpen (λ k q b a u. Tells k (tables_text (catalog_of k.server)) q b a u) v w before after status
