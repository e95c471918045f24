-- The transactions that a commit dooms, of what the records tell: the pivots by value's Isolation.
use Rattle.std.specs.Prelude.{◌==◌, Bool, false, not, ◌&&◌, ◌||◌, List, [], if◌then◌else◌, map}
use Rattle.value.specs.declared.refusal.Cause.{Cause}
use Rattle.value.specs.Isolation.{Node, dooms, is_doomed, is_live, is_other}
use Rattle.statement.specs.declared.reply.Reply.{Reply}
use Rattle.statement.specs.declared.reply.Reply.TheVariants.{Committed}
use Rattle.history.specs.declared.event.Action.{Action}
use Rattle.history.specs.declared.event.Action.TheVariants.{Commit}
use Rattle.retrace.specs.Edges.{is_edge}
use Rattle.retrace.specs.Runs.{Going, over}

module _ {A : Type 0} where
  -- what isolation knows of a transaction; where it ended plays no part in what a commit dooms
  abbrev pub node : Going A → Node
  node g = record { number = g.trace.number; read_write = g.trace.read_write; snapshot = g.trace.snapshot; active = g.active; committed = not (g.trace.commit == 0); commit = g.trace.commit; place = 0 }

  -- t has read what u wrote, and doesn't see it
  abbrev pub reads : Going A → Going A → Bool
  reads t u = is_edge t.trace u.trace

  -- a may stand first before b, where it has read what b wrote: the committer c, or a live one that isn't doomed
  abbrev pub may_be_first : Going A → List Cause → Going A → Going A → Bool
  may_be_first c causes b a = is_other node reads a b && (not (is_other node reads a c) || is_live node reads c a && not (is_doomed node reads causes a))

  -- the causes by which the commit of one among these dooms others
  abbrev pub dooms_of : List (Going A) → Going A → List Cause
  dooms_of gs g = dooms node reads gs g

  -- it commits a transaction that may write
  abbrev pub installs : Action A → Reply A → Going A → Bool
  installs Commit Committed g = g.trace.read_write
  installs _ _ g = false

  -- the causes by which an event of one among these dooms others
  abbrev pub causes_of : Action A → Reply A → List (Going A) → Going A → List Cause
  causes_of a r gs g = if installs a r g then dooms_of gs g else []

  -- the middle of one of these is over
  abbrev pub doomed_by : List Cause → Going A → Going A
  doomed_by causes g = if is_doomed node reads causes g then over g else g

  abbrev pub all_doomed : List Cause → List (Going A) → List (Going A)
  all_doomed causes gs = map (doomed_by causes) gs
