-- What calls do with lines that a handle keeps, read once.
use Rattle.std.specs.Prelude.{◌≡◌, ◌⊎◌, ℕ, ◌-◌, ◌==◌, ◌&&◌, Bool, true, false, not, if◌then◌else◌, Option, Some, None, List, [], ◌∷◌, ◌++◌, length, nat_le, slice_get, slice_set}
use Rattle.std.specs.Str.{is_utf8}
use Rattle.value.specs.declared.value.Value.{Value}
use Rattle.value.specs.declared.value.Value.TheVariants as value
use Rattle.value.specs.declared.refusal.Refusal.{Refusal}
use Rattle.statement.specs.declared.reply.Reply.{Reply}
use Rattle.statement.specs.declared.reply.Reply.TheVariants.{Inserted, Updated, Deleted, Rows, Refused}
use Rattle.std_heap.specs.contracts.Global as heap
use Rattle.shell.specs.Shells.{Held}
use Rattle.library.specs.Filling.{Asked, is_memory}
use Rattle.library.specs.Preparing.{IsUnperformed, Performs, read_from}
use Rattle.shell.specs.declared.answer.Answer.{Answer}
use Rattle.shell.specs.declared.answer.Answer.TheVariants as answer
use Rattle.library_c.specs.Talking.{Keeps, OnOpen}
use Rattle.library_c.specs.declared.Report.{Report}
use Rattle.library_c.specs.declared.kept.Kept.{Kept}

-- a number or a place, counted from 1, is at most `most`
abbrev pub is_among : ℕ → ℕ → Bool
is_among n most = not (n == 0) && nat_le n most

-- the status of a refusal to do a line
abbrev pub refusal_status : Refusal → ℕ
refusal_status e = if is_memory e.code then 4 else 7

-- There is no value of a text: memory was refused, or it isn't UTF-8.
abbrev pub IsNoText : List ℕ → ℕ → Type 0
IsNoText text status = (status ≡ 4) ⊎ ((status ≡ 7) × (is_utf8 text ≡ false))

-- the memory of what a handle keeps
abbrev pub Memory : Type 0
Memory = heap.the_row.Denot

module _ {A : Type 0} where
  -- the line of a number, counted from 1
  abbrev pub numbered : List (Asked A) → ℕ → Option (Asked A)
  numbered ps n = if n == 0 then None else slice_get ps (n - 1)

  -- how many rows a reply shows, or has changed
  abbrev pub rows_of : Reply A → ℕ
  rows_of Inserted = 1
  rows_of (Updated n) = n
  rows_of (Deleted n) = n
  rows_of (Rows rows) = length rows
  rows_of _ = 0

  abbrev pub reply_status : Reply A → ℕ
  reply_status (Refused e) = 1
  reply_status _ = 0

  -- A reply was reported, whose text isn't made.
  abbrev pub IsOutcome : Reply A → Report → ℕ → Type 0
  IsOutcome r after status = (after.length ≡ 0) × (after.line ≡ rows_of r) × (status ≡ reply_status r)

  -- A line was done by a server, and its reply is the last answer; or memory was refused or it may not be asked for, and all stays.
  abbrev pub ExecutesLine : Held A → Answer A → Asked A → Held A → Answer A → Report → Report → ℕ → Type 0
  ExecutesLine v a p w b before after status =
      ((r : Reply A) × Performs v p w r × (b ≡ answer.Reply p.session r) × IsOutcome r after status)
      ⊎ ((e : Refusal) × IsUnperformed v p w e × (b ≡ a) × (after ≡ before) × (status ≡ refusal_status e))

  -- A place of a line was given a value; where it has no such place, it stays.
  abbrev pub GivesIn : Bool → Asked A → ℕ → Value A → Asked A → ℕ → Type 0
  GivesIn true p place v q status = (q ≡ record p { given = slice_set p.given (place - 1) v }) × (status ≡ 0)
  GivesIn false p place v q status = (q ≡ p) × (status ≡ 7)

  abbrev pub GivesAt : Asked A → ℕ → Value A → Asked A → ℕ → Type 0
  GivesAt p place v q status = GivesIn (is_among place (length p.given)) p place v q status

  -- A place of the line of a number was given a value; where there is no such line, all stay.
  abbrev pub GivesOf : Bool → List (Asked A) → ℕ → ℕ → Value A → List (Asked A) → ℕ → Type 0
  GivesOf true ps n place v qs status = (p : Asked A) × (q : Asked A) × (slice_get ps (n - 1) ≡ Some p) × (qs ≡ slice_set ps (n - 1) q) × GivesAt p place v q status
  GivesOf false ps n place v qs status = (qs ≡ ps) × (status ≡ 7)

  abbrev pub GivesAmong : List (Asked A) → ℕ → ℕ → Value A → List (Asked A) → ℕ → Type 0
  GivesAmong ps n place v qs status = GivesOf (is_among n (length ps)) ps n place v qs status

-- Of a handle that is shut nothing is done; else what it keeps becomes this.
abbrev pub OnKept : (Kept → Kept → ℕ → Type 0) → Option Kept → Option Kept → ℕ → Type 0
OnKept does None w status = (w ≡ None) × (status ≡ 7)
OnKept does (Some k) w status = Keeps (λ q. does k q status) w

-- The server and its last answer stay, and so do the lines.
abbrev pub HasSame : Kept → Kept → Type 0
HasSame k q = (q.server ≡ k.server) × (q.answer ≡ k.answer) × (q.prepared.items ≡ k.prepared.items)

-- A line was read once and is kept after the others, and its number and how many places it has were reported; or it is no line that can be kept; or memory was refused.
abbrev pub PreparesLine : Kept → List ℕ → Kept → Report → Report → ℕ → Type 0
PreparesLine k line q before after status =
    ((p : Asked Memory) × (read_from k.server.core line ≡ Some p) × (q.server ≡ k.server) × (q.answer ≡ k.answer) × (q.prepared.items ≡ k.prepared.items ++ p ∷ [])
    × (after.length ≡ length p.given) × (after.line ≡ length q.prepared.items) × (status ≡ 0))
    ⊎ ((HasSame k q × (after ≡ before) × (read_from k.server.core line ≡ None) × (status ≡ 1)) ⊎ (HasSame k q × (after ≡ before) × (status ≡ 4)))

abbrev pub Prepares : Option Kept → List ℕ → Option Kept → Report → Report → ℕ → Type 0
Prepares v line w before after status = OnOpen (λ k q b a s. PreparesLine k line q b a s) v w before after status

-- A place of a kept line was given a value.
abbrev pub GivesKept : ℕ → ℕ → Value Memory → Kept → Kept → ℕ → Type 0
GivesKept n place v k q status = (q.server ≡ k.server) × (q.answer ≡ k.answer) × GivesAmong k.prepared.items n place v q.prepared.items status

abbrev pub Binds : Option Kept → ℕ → ℕ → Value Memory → Option Kept → ℕ → Type 0
Binds v n place x w status = OnKept (λ k q s. GivesKept n place x k q s) v w status

-- A place of a kept line was given a text, or bytes, as its value; or there is no such value, and all stays.
abbrev pub BindsText : Option Kept → ℕ → ℕ → List ℕ → Option Kept → ℕ → Type 0
BindsText v n place text w status = ((is_utf8 text ≡ true) × Binds v n place (value.Text text) w status) ⊎ ((w ≡ v) × IsNoText text status)

abbrev pub BindsBytes : Option Kept → ℕ → ℕ → List ℕ → Option Kept → ℕ → Type 0
BindsBytes v n place bytes w status = Binds v n place (value.Bytes bytes) w status ⊎ ((w ≡ v) × (status ≡ 4))

-- The line of a number was done; where there is none, all stays.
abbrev pub ExecutesAt : Option (Asked Memory) → Kept → Kept → Report → Report → ℕ → Type 0
ExecutesAt None k q before after status = (q.server ≡ k.server) × (q.answer ≡ k.answer) × (after ≡ before) × (status ≡ 7)
ExecutesAt (Some p) k q before after status = ExecutesLine k.server k.answer p q.server q.answer before after status

abbrev pub ExecutesKept : ℕ → Kept → Kept → Report → Report → ℕ → Type 0
ExecutesKept n k q before after status = ExecutesAt (numbered k.prepared.items n) k q before after status × (q.prepared ≡ k.prepared)

abbrev pub Executes : Option Kept → ℕ → Option Kept → Report → Report → ℕ → Type 0
Executes v n w before after status = OnOpen (λ k q b a s. ExecutesKept n k q b a s) v w before after status

-- A handle's lines were forgotten.
abbrev pub Forgets : Option Kept → Option Kept → ℕ → Type 0
Forgets v w status = OnKept (λ k q s. (q.server ≡ k.server) × (q.answer ≡ k.answer) × (q.prepared.items ≡ []) × (s ≡ 0)) v w status
