-- What lines ask for, once their statements are parsed.
use Rattle.std.specs.Prelude.{◌≡◌, List, map}
use Rattle.std.specs.List.{All}
use Rattle.schema.specs.Definition.{Catalog}
use Rattle.history.specs.declared.event.Event.{Event}
use Rattle.history.specs.Answer.{Allowed}
use Rattle.request.specs.Requests.{asked}
use Rattle.explore.specs.declared.plan.Line.{Line}

module _ {A : Type 0} where
  -- the event that a line asks for, of this catalog's tables
  abbrev pub event_of : Catalog → Line A → Event A
  event_of c l = record { session = l.session; action = asked c l.request }

  -- These are the events that the lines ask for, one for each, and all may be asked of a core.
  abbrev pub ArePrepared : Catalog → List (Line A) → List (Event A) → Type 0
  ArePrepared c lines events = (events ≡ map (event_of c) lines) × All (λ e. Allowed c e.action) events
