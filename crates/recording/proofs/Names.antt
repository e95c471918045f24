-- Names for the types of what a transcript's reader keeps, which its crate doesn't give away.
use Rattle.std.proofs.Common.{◌≡◌, true, true≢false, sym, List, [], Option, Some, None}
use Rattle.std.specs.Prelude.{is_some}
use Rattle.request.specs.declared.request.Request.TheVariants as request
use Rattle.script.specs.declared.command.Command.TheVariants as command
use Rattle.transcript.specs.Asking.{asked_by}
use Rattle.transcript.specs.Reading.{start}
use Rattle.transcript.specs.Saying.{in_a_word}
use Rattle.transcript.specs.Sessions.{idle, nothing}

abbrev type_of : {X : Type 0} → X → Type 0
type_of {X} x = X

abbrev inside : {X : Type 0} → Option X → Type 0
inside {X} o = X

abbrev first_inside : {X Y : Type 0} → Option (X × Y) → Type 0
first_inside {X} {Y} o = X

abbrev element : {X : Type 0} → List X → Type 0
element {X} xs = X

-- a session: its open transaction, and what it awaits a reply to
abbrev pub Session : Type 0 → Type 0
Session A = type_of (idle {A = A})

-- what comes of a reply
abbrev pub Outcome : Type 0 → Type 0
Outcome A = first_inside (nothing (idle {A = A}))

-- a transaction that has ended
abbrev pub Ended : Type 0 → Type 0
Ended A = element (start {A = A}).ended

-- what a session asks for
abbrev pub Asked : Type 0 → Type 0
Asked A = type_of (asked_by {A = A} [] (command.Ask request.Commit))

-- what a reply says
abbrev pub Said : Type 0
Said = inside (in_a_word [])

-- what is there
abbrev pub pick : {X : Type 0} (o : Option X) → is_some o ≡ true → X
pick None h = absurd (true≢false (sym h))
pick (Some x) h = x
