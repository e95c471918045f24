-- Lines that a terminal doesn't ask, since nothing could be done after them (ours).
use Rattle.std.specs.Prelude.{ℕ, zero, suc, ◌+◌, ◌-◌, ◌==◌, ◌&&◌, ◌||◌, not, Bool, true, false, is_some, List, Option, Some, None, length, codes, nat_le, slice_index, if◌then◌else◌}
use Rattle.std.specs.Char.{is_ascii_digit}
use Rattle.std.specs.Str.{bytes_eq}
use Rattle.history.specs.Opening.{Recorded}
use Rattle.shell.specs.Shells.{Held}
use Rattle.terminal.specs.Marks.{mark_in}
use Rattle.terminal.specs.Statements.{starts}
use Rattle.terminal.specs.Typing.{begins, behind_word, first_word, session_in, session_of}
use Rattle.terminal.specs.declared.admitting.Admission.{Admission}
use Rattle.terminal.specs.declared.admitting.Admission.TheVariants as admission_of
use Rattle.terminal.specs.declared.marks.Mark.{Mark}
use Rattle.terminal.specs.declared.marks.Mark.TheVariants as mark

-- one for a session that has a transaction
abbrev pub one_of : Mark → ℕ
one_of mark.Idle = 0
one_of other = 1

-- a line of a session
abbrev pub is_sessions : List ℕ → Bool
is_sessions line = not (length line == 0) && is_ascii_digit (slice_index line 0)

-- a session's line that may end a transaction
abbrev pub is_end : List ℕ → Bool
is_end line = bytes_eq (behind_word line) (codes "COMMIT;") || bytes_eq (behind_word line) (codes "ROLLBACK;")

-- a session's line that begins a transaction
abbrev pub is_begin : List ℕ → Bool
is_begin line = bytes_eq (behind_word line) (codes "BEGIN;") || bytes_eq (behind_word line) (codes "BEGIN READ ONLY;") || bytes_eq (behind_word line) (codes "BEGIN READ ONLY DEFERRABLE;")

-- a line that creates or opens tables
abbrev pub is_opening : List ℕ → Bool
is_opening line = starts (codes "create ") line || starts (codes "open ") line

-- how many events a line needs, with the end of its transaction: a statement by itself begins one and ends it
abbrev pub events_of : Bool → ℕ
events_of alone = if alone then 3 else 2

module _ {A : Type 0} where
  -- how many more events a history has room for
  abbrev pub left_of : Recorded A → ℕ
  left_of h = h.most - length h.records

  abbrev pub one_in : Held A → Option ℕ → ℕ
  one_in p None = 0
  one_in p (Some s) = one_of (mark_in p s)

  abbrev pub one_at : Held A → ℕ → ℕ
  one_at p n = one_in p (session_of n)

  -- how many of the first n sessions have transactions
  abbrev pub open_in : Held A → ℕ → ℕ
  open_in p zero = 0
  open_in p (suc n) = open_in p n + one_at p (suc n)

  abbrev pub has_room_on : Option (Recorded A) → Held A → ℕ → Bool
  has_room_on None p n = true
  has_room_on (Some h) p n = nat_le (open_in p 64 + n) (left_of h)

  -- There is room for n events, and for the end of each transaction behind them.
  abbrev pub has_room : Held A → ℕ → Bool
  has_room p n = has_room_on p.core p n

  -- whether a session has no transaction
  abbrev pub is_idle : Held A → Option ℕ → Bool
  is_idle p None = false
  is_idle p (Some s) = one_of (mark_in p s) == 0

  -- Before the server runs: a line that creates or opens tables; where there are tables, one that begins a session's transaction, or is one by itself.
  abbrev pub may_begin : Held A → Bool → List ℕ → Bool
  may_begin p alone line = if is_sessions line then not (length p.created == 0) && (alone || is_begin line) else not (begins (codes "CHECKPOINT") line)

  -- a line that ends a transaction of its session, which has one
  abbrev pub ends_one : Held A → List ℕ → Bool
  ends_one p line = is_end line && one_in p (session_in (first_word line)) == 1

  -- whether n events are asked, by the room for them
  abbrev pub admits_events : Held A → ℕ → Admission
  admits_events p n = if not (nat_le n p.most) then admission_of.Few else if has_room p n then admission_of.Asked else admission_of.Late

  -- While it runs: no tables are created. A session's line leaves room for the end of each transaction, or ends one.
  abbrev pub admits_by : Held A → Bool → List ℕ → Admission
  admits_by p alone line = if is_opening line then admission_of.Closed else if not (is_sessions line) || ends_one p line then admission_of.Asked else admits_events p (events_of alone)

  -- before it runs
  abbrev pub admits_first : Held A → Bool → List ℕ → Admission
  admits_first p alone line = if not (may_begin p alone line) then admission_of.Early else if is_sessions line then admits_events p (events_of alone) else admission_of.Asked

  -- Whether a dump is asked, whose transaction has three events.
  abbrev pub admits_dump : Held A → Admission
  admits_dump p = if is_some p.core || not (length p.created == 0) then admits_events p 3 else admission_of.Early

  -- whether a line is asked, which may be a transaction by itself, and if not, why
  abbrev pub admits : Held A → Bool → List ℕ → Admission
  admits p alone line = if is_some p.core then admits_by p alone line else admits_first p alone line
