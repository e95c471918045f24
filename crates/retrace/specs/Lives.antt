-- How long each transaction of a history lasts, and how it ends. Places are those of events, counted from 1.
use Rattle.std.specs.Prelude.{ℕ, ◌+◌, ◌-◌, ◌^◌, ◌==◌, Bool, true, false, ◌&&◌, ◌||◌, if◌then◌else◌, Option, Some, None, List, drop, length, map, min, position}
use Rattle.std.specs.List.{find}
use Rattle.std.specs.Option.{option_map_or}
use Rattle.value.specs.declared.refusal.Code.{Code}
use Rattle.value.specs.declared.refusal.Code.TheVariants.{SerializationFailure}
use Rattle.statement.specs.declared.reply.Reply.{Reply}
use Rattle.statement.specs.declared.reply.Reply.TheVariants.{Committed, Refused}
use Rattle.history.specs.declared.event.Action.{Action}
use Rattle.history.specs.declared.event.Action.TheVariants.{Commit, Rollback}
use Rattle.history.specs.declared.event.Record.{Record}
use Rattle.retrace.specs.Runs.{Going}
use Rattle.retrace.specs.declared.drawing.bar.Bar.{Bar}
use Rattle.retrace.specs.declared.drawing.bar.Ending.{Ending}
use Rattle.retrace.specs.declared.drawing.bar.Ending.TheVariants as ending

-- the code of a refusal because of other transactions
abbrev pub is_failure_code : Code → Bool
is_failure_code SerializationFailure = true
is_failure_code _ = false

-- a place, as far as 64 bits can say
abbrev pub capped : ℕ → ℕ
capped n = min n (2 ^ 64 - 1)

-- the place of the end of a transaction, which n events part from its BEGIN; or that of the last event
abbrev pub end_from : ℕ → ℕ → Option ℕ → ℕ
end_from begin last (Some n) = capped (capped (begin + n) + 1)
end_from begin last None = last

module _ {A : Type 0} where
  -- the refusal of a transaction that has to be run again because of others
  abbrev pub is_serialization_failure : Reply A → Bool
  is_serialization_failure (Refused r) = is_failure_code r.code
  is_serialization_failure _ = false

  abbrev pub is_last : Action A → Bool
  is_last Commit = true
  is_last Rollback = true
  is_last _ = false

  -- an event ends the transaction of session s
  abbrev pub ends : ℕ → Record A → Bool
  ends s e = e.session == s && is_last e.action

  -- an event says how the transaction ends: a refusal because of others does so before the end
  abbrev pub decides : ℕ → Record A → Bool
  decides s e = ends s e || e.session == s && is_serialization_failure e.reply

  abbrev pub ending_by : Reply A → Ending
  ending_by Committed = ending.Committed
  ending_by r = if is_serialization_failure r then ending.Failed else ending.Undone

  -- how a transaction has ended: by the first event after its BEGIN that says so; else it goes on
  abbrev pub ending_of : List (Record A) → Going A → Ending
  ending_of es g = option_map_or (λ (e : Record A). ending_by e.reply) (find (decides g.trace.session) (drop g.trace.begin es)) ending.Open

  -- the place of its last event; that of the history's last one where it goes on
  abbrev pub end_of : List (Record A) → Going A → ℕ
  end_of es g = end_from g.trace.begin (length es) (position (ends g.trace.session) (drop g.trace.begin es))

  abbrev pub bar_of : List (Record A) → Going A → Bar
  bar_of es g = record { number = g.trace.number; session = g.trace.session; begin = g.trace.begin; end = end_of es g; ending = ending_of es g; snapshot = g.trace.snapshot; commit = g.trace.commit }

  abbrev pub bars : List (Record A) → List (Going A) → List Bar
  bars es gs = map (bar_of es) gs
