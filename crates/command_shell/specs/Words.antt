-- What the words after `shell` ask for, `[DUMP] [--events N]`, and the result.
use Rattle.std.specs.Prelude.{◌≡◌, ◌⊎◌, ℕ, true, List, [], Option, Some, None, codes}
use Rattle.clap.specs.Words.{App, Kinds, Row, Rule, Text, fault_of, first_of, matches_of, new_app, new_rule, with_rule}
use Rattle.clap.specs.declared.builder.ArgAction.TheVariants.{Set}
use Rattle.schema.specs.Definition.{Catalog}
use Rattle.schema.specs.declared.tables.Tables.{Tables}
use Rattle.program.specs.Asked.{WritesEvents}
use Rattle.program.specs.Beginnings as beginnings
use Rattle.program.specs.Beginnings.{BeginsWith}
use Rattle.program.specs.CommandLine.{MayBeMistaken, events}
use Rattle.program.specs.Ends.{code, status}
use Rattle.program.specs.Files.{Writing}
use Rattle.program.specs.Outcomes.{AreHelp}
use Rattle.program.specs.Runs.{begun}
use Rattle.program.specs.declared.fault.Fault.{Fault}
use Rattle.program.specs.declared.fault.Fault.TheVariants.{ScriptOutOfMemory}
use Rattle.shell.specs.Turns.{Converses, Turn}
use Rattle.shell.specs.declared.conversation.conversing.End.{End}
use Rattle.shell.specs.declared.conversation.conversing.End.TheVariants.{Input, Quit, Reader, Writer, Memory}
use Rattle.shell.specs.Shells.{Held, opening, running}
use Rattle.command_shell.specs.Serves.{Over, ServesOver}

-- the file of a dump, which may be left out
abbrev pub dump : Rule
dump = record (new_rule (codes "DUMP")) { action = Some Set }

-- the command, before its arguments; its words come without its name
abbrev pub alone : App
alone = let a = new_app (codes "shell") in record a { top = record a.top { no_binary_name = true } }

abbrev pub shell : App
shell = with_rule (with_rule alone dump) events

-- a dump's path, where one is given, and for how many events there is to be room
abbrev pub Asks : List Row → Option Text → ℕ → Type 0
Asks rows path most = (path ≡ first_of (codes "DUMP") rows) × WritesEvents rows most

abbrev pub AsksFor : List Text → Option Text → ℕ → Type 0
AsksFor words = Asks (matches_of shell words)

-- the exit status where a conversation has ended so
abbrev pub end_status : End → ℕ
end_status Input = 0
end_status Quit = 0
end_status Reader = 3
end_status Writer = 3
end_status Memory = 1

-- why the dump isn't opened that a shell is to begin with
abbrev pub IsUnbegun : (A : Type 0) → (List ℕ → Option (List ℕ)) → Option (List ℕ) → Fault → Type 0
IsUnbegun A held path = beginnings.IsUnbegun A held path []

module _ {A : Type 0} where
  -- What a shell holds at first: nothing, with room for `most` events; or the tables that the dump of a path reads as.
  abbrev pub Begins : (List ℕ → Option (List ℕ)) → ℕ → Option (List ℕ) → Held A → Type 0
  Begins held most None p = p ≡ opening [] most
  Begins held most (Some path) p = (c : Catalog) × (X : Tables A) × BeginsWith held (Some path) [] c X × (p ≡ running (begun c X most) most)

module _ {F A : Type 0} where
  -- From p on, all that was printed is the answers to all lines that were read, each before the next, until the conversation has ended in the way that this exit status says.
  abbrev pub HasServedOn : Writing → (F → List ℕ → Option (List ℕ)) → Over F A → ℕ → List Turn → List Turn → Type 0
  HasServedOn writes held p n before after = (e : End) × Converses (ServesOver writes held) p before e after × (n ≡ end_status e)

  -- The words ask for a shell over these files, and p is that at first.
  abbrev pub HasBegun : (F → List ℕ → Option (List ℕ)) → F → List Text → Over F A → Type 0
  HasBegun held files words p = (path : Option Text) × (most : ℕ) × AsksFor words path most × (p.files ≡ files) × Begins (held files) most path p.shell

-- No shell is asked for: the words are mistaken, or a call for help, or out of memory for them.
abbrev pub IsWithoutTask : Kinds → ℕ → Type 0
IsWithoutTask ks n = (MayBeMistaken ks × (n ≡ 2)) ⊎ (n ≡ code (status ScriptOutOfMemory)) ⊎ (AreHelp ks × ((n ≡ 0) ⊎ (n ≡ 3)))

-- The shell hasn't begun that is asked for: out of memory for the path of its dump, or that wasn't opened.
abbrev pub EndsUnbegun : (A : Type 0) → (List ℕ → Option (List ℕ)) → Option (List ℕ) → ℕ → Type 0
EndsUnbegun A held path n = (n ≡ code (status ScriptOutOfMemory)) ⊎ ((f : Fault) × IsUnbegun A held path f × (n ≡ code (status f)))

-- No shell has begun: none is asked for, or that one hasn't.
abbrev pub IsUnbegunBy : (A : Type 0) → (List ℕ → Option (List ℕ)) → List Text → ℕ → Type 0
IsUnbegunBy A held words n = IsWithoutTask (fault_of shell words) n ⊎ ((path : Option Text) × (most : ℕ) × AsksFor words path most × EndsUnbegun A held path n)

-- No shell has begun, and nothing was heard; or what was heard was answered from its beginning on.
abbrev pub HasDone : (A : Type 0) → {F : Type 0} → Writing → (F → List ℕ → Option (List ℕ)) → F → List Text → ℕ → List Turn → List Turn → Type 0
HasDone A {F} writes held files words n before after = (IsUnbegunBy A (held files) words n × (after ≡ before)) ⊎ ((p : Over F A) × HasBegun held files words p × HasServedOn writes held p n before after)
