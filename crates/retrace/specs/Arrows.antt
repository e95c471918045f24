-- The conflicts that a picture has. Transactions are numbered since the history's opening; those of a refusal's cause are counted with the ones before.
use Rattle.std.specs.Prelude.{ℕ, ◌-◌, nat_lt, nat_le, ◌==◌, Bool, true, false, ◌&&◌, ◌||◌, Option, Some, None, List, [], ◌∷◌, filter}
use Rattle.std.specs.List.{flat_map, list_any}
use Rattle.value.specs.declared.refusal.Cause.{Cause}
use Rattle.value.specs.declared.refusal.Place.{Place as Where}
use Rattle.value.specs.declared.refusal.Place.TheVariants.{Cause as OfCause}
use Rattle.statement.specs.declared.reply.Reply.{Reply}
use Rattle.statement.specs.declared.reply.Reply.TheVariants.{Refused}
use Rattle.history.specs.declared.event.Record.{Record}
use Rattle.retrace.specs.Edges.{edge_between}
use Rattle.retrace.specs.Trails.{Trail}
use Rattle.retrace.specs.declared.witness.edge.Edge.{Edge}
use Rattle.retrace.specs.Runs.{Going}
use Rattle.retrace.specs.Lives.{bar_of}
use Rattle.retrace.specs.declared.drawing.arrow.Arrow.{Arrow}
use Rattle.retrace.specs.declared.drawing.bar.Bar.{Bar}
use Rattle.retrace.specs.declared.drawing.bar.Ending.{Ending}
use Rattle.retrace.specs.declared.drawing.bar.Ending.TheVariants as ending

-- a transaction lasts to the place from which on events are drawn
abbrev pub is_shown : ℕ → Bar → Bool
is_shown first b = nat_le first b.end

-- a transaction wasn't rolled back: it committed, was refused, or goes on
abbrev pub is_kept : Ending → Bool
is_kept ending.Undone = false
is_kept _ = true

-- the transaction of this number has that number of its own, where `base` transactions came before
abbrev pub is_numbered : ℕ → ℕ → ℕ → Bool
is_numbered base n own = nat_lt base n && own == n - base

module _ {A : Type 0} where
  -- ---- which transactions

  abbrev pub is_drawn : List (Record A) → ℕ → Going A → Bool
  is_drawn es first g = is_shown first (bar_of es g) && is_kept (bar_of es g).ending

  abbrev pub drawn : List (Record A) → ℕ → List (Going A) → List (Going A)
  drawn es first gs = filter (is_drawn es first) gs

  -- ---- which conflicts among them

  abbrev pub arrow_of : Trail A → Trail A → Option (Edge A) → List (Arrow A)
  arrow_of t u None = []
  arrow_of t u (Some e) = record { from = t.number; to = u.number; edge = e } ∷ []

  -- the conflict of t to u, where t has covered what u wrote and doesn't see it
  abbrev pub arrow_between : Trail A → Trail A → List (Arrow A)
  arrow_between t u = arrow_of t u (edge_between t u)

  -- the conflicts of t to some transactions
  abbrev pub arrows_from : List (Going A) → Trail A → List (Arrow A)
  arrows_from gs t = flat_map (λ (g : Going A). arrow_between t g.trace) gs

  -- All conflicts among some transactions: one for each two of which the first has covered what the second wrote and doesn't see it.
  abbrev pub arrows : List (Going A) → List (Arrow A)
  arrows gs = flat_map (λ (g : Going A). arrows_from gs g.trace) gs

  -- ---- which of them are bold

  abbrev pub is_between : ℕ → ℕ → ℕ → Arrow A → Bool
  is_between base m n a = is_numbered base m a.from && is_numbered base n a.to

  -- a conflict is one of a structure's two
  abbrev pub is_in : ℕ → Cause → Arrow A → Bool
  is_in base k a = is_between base k.a.0 k.b.0 a || is_between base k.b.0 k.c.0 a

  abbrev pub is_at : ℕ → Arrow A → Where → Bool
  is_at base a (OfCause k) = is_in base k a
  is_at base a _ = false

  abbrev pub is_told : ℕ → Arrow A → Reply A → Bool
  is_told base a (Refused r) = is_at base a r.place
  is_told base a _ = false

  -- a conflict is one of the structure of a refusal
  abbrev pub is_in_danger : ℕ → List (Record A) → Arrow A → Bool
  is_in_danger base es a = list_any (λ (e : Record A). is_told base a e.reply) es
