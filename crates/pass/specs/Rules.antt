-- The rule of the history word: what is true whenever the word may change, and what each step shows.
use Rattle.std.specs.Prelude.{ℕ, ◌+◌, ◌≡◌, ◌≤◌, true, false, List, [], ◌∷◌, ◌++◌, length}
use mathlib.Core.Option.{Option, none, some}
use mathlib.Core.List.{IsPrefix}
use lib.ListN.{get_elem?}
use Rattle.atomic_table.specs.Table.{State}
use Rattle.atomic_table.specs.Seated.{TableId}
use Rattle.schema.specs.Plain.{is_sound}
use Rattle.statement.specs.declared.reply.Reply.TheVariants.{Begun}
use Rattle.history.specs.declared.event.Action.TheVariants.{Poll}
use Rattle.history.specs.declared.event.Record.{Record}
use Rattle.history.specs.Opening.{Opening, zero_base}
use Rattle.history.specs.Answer.{Legal, of_session}
use Rattle.pass.specs.declared.knowledge.Knowledge.{Knowledge}
use Rattle.pass.specs.Knowing.{longer, pick}

-- the name of no table
abbrev pub no_table : TableId
no_table = record { words = 0; slots = 0; views_name = 0; atom = 0; block = 0; offset = 0; slot_names = [] }

module _ {A : Type 0} where
  -- what no history opens with
  abbrev pub no_opening : Opening A
  no_opening = record { catalog = []; tables = []; base = zero_base }

  -- an event that no session did
  abbrev pub no_record : Record A
  no_record = record { session = 0; action = Poll; reply = Begun }

  -- ---- what seats know

  -- the lock's seat at the start
  abbrev pub opener : Knowledge A
  opener = record { seen = []; told = []; keeps = true; made = 0; holds = false; session = 0; mine = []; next = no_record }

  -- a seat that was given up
  abbrev pub nobody : Knowledge A
  nobody = record { seen = []; told = []; keeps = false; made = 0; holds = false; session = 0; mine = []; next = no_record }

  -- a seat with no right to act
  abbrev pub bare : Knowledge A → Knowledge A
  bare v = record v { holds = false }

  -- the right to act, with what was seen
  abbrev pub part : Knowledge A → Knowledge A
  part v = record v { keeps = false }

  -- what was seen, with no right
  abbrev pub note : Knowledge A → Knowledge A
  note v = record v { keeps = false; holds = false }

  -- the lock's seat when it has made one session more
  abbrev pub one_more : Knowledge A → Knowledge A
  one_more v = record v { made = v.made + 1; holds = false }

  -- the seat of that session
  abbrev pub next_one : Knowledge A → Knowledge A
  next_one v = record { seen = v.seen; told = []; keeps = false; made = 0; holds = v.keeps; session = v.made + 1; mine = of_session (v.made + 1) v.seen; next = no_record }

  -- the right to act comes in: the lock's seat is given what came, another seat has then seen it
  abbrev pub united : Knowledge A → Knowledge A → Knowledge A
  united v w = record { seen = pick v.keeps v.seen w.seen; told = pick v.keeps w.seen v.seen; keeps = v.keeps; made = v.made; holds = w.holds; session = w.session; mine = w.mine; next = v.next }

  -- a seat that is given what another has seen
  abbrev pub heard : Knowledge A → Knowledge A → Knowledge A
  heard v w = record v { told = w.seen }

  -- ---- the rule

  -- what is true of what one seat knows, where the lock's seat is the keeper and has made `made` sessions
  pub record Fits (log : List (Record A)) (keeper made by : ℕ) (v : Knowledge A) : Type 0 where
    pub seen : IsPrefix v.seen log
    pub told : IsPrefix v.told log
    pub keeps : v.keeps ≡ true → (by ≡ keeper) × (v.seen ≡ log) × (v.made ≡ made)
    pub holds : v.holds ≡ true → (v.mine ≡ of_session v.session log) × (v.session ≤ made)

  abbrev pub AllFit : List (Record A) → ℕ → ℕ → List (Knowledge A) → Type 0
  AllFit log keeper made views = (by : ℕ) (v : Knowledge A) → get_elem? views by ≡ some v → Fits log keeper made by v

  -- no two seats have the right to one session
  abbrev pub AreApart : List (Knowledge A) → Type 0
  AreApart views = (i j : ℕ) (v w : Knowledge A) → get_elem? views i ≡ some v → get_elem? views j ≡ some w → v.holds ≡ true → w.holds ≡ true → v.session ≡ w.session → i ≡ j

  -- the word is the length of the history, which is legal, and all that is known of it is so
  pub record IsKeptBy (o : Opening A) (log : List (Record A)) (keeper made : ℕ) (cells : List ℕ) (views : List (Knowledge A)) : Type 0 where
    pub words : cells ≡ length log ∷ []
    pub legal : is_sound o.catalog o.tables ≡ true → Legal o log
    pub fits : AllFit log keeper made views
    pub apart : AreApart views

  -- There is one legal history, whose length the word is. Each seat has seen a beginning of it, the lock's seat all of it, and a session's seat has done just what it has of that session.
  abbrev pub IsKept : Opening A → State (Record A) (Knowledge A) → Type 0
  IsKept o s = (log : List (Record A)) × (keeper : ℕ) × (made : ℕ) × IsKeptBy o log keeper made s.words s.views

  -- ---- what steps show

  -- all of the history is seen; what this seat did stands in it, each once, in order
  pub record Looked (o : Opening A) (v : Knowledge A) (found : ℕ) (w : Knowledge A) : Type 0 where
    pub same : w ≡ record v { seen = w.seen }
    pub begins : IsPrefix v.seen w.seen
    pub length_is : found ≡ length w.seen
    pub legal : Legal o v.seen → Legal o w.seen
    pub mine : v.holds ≡ true → v.mine ≡ of_session v.session w.seen

  -- of what was seen and what was given, one begins the other, and the longer is seen
  pub record Compared (v w : Knowledge A) : Type 0 where
    pub same : w ≡ record v { seen = longer v.seen v.told }
    pub seen : IsPrefix v.seen w.seen
    pub told : IsPrefix v.told w.seen
    pub mine : v.holds ≡ true → (v.mine ≡ of_session v.session v.seen) → v.mine ≡ of_session v.session w.seen

  -- what the lock's seat was given begins what it has seen, and what the session did is what it has of it
  abbrev pub Checked : Knowledge A → Knowledge A → Type 0
  Checked v w = (w ≡ v) × IsPrefix v.told v.seen × (v.mine ≡ of_session v.session v.seen)

  -- the lock's seat is given the event that comes next
  abbrev pub Noted : Option (Record A) → Knowledge A → Knowledge A → Type 0
  Noted none v w = ⊥
  Noted (some e) v w = w ≡ record v { next = e }

  -- one event more, of the session whose right it has
  abbrev pub added : Knowledge A → Knowledge A
  added v = record v { seen = v.seen ++ v.next ∷ []; mine = v.mine ++ (v.next.action, v.next.reply) ∷ [] }

  abbrev pub Added : Knowledge A → Knowledge A → Type 0
  Added v w = (w ≡ added v) × IsPrefix v.told v.seen × (v.mine ≡ of_session v.session v.seen)
