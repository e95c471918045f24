-- What a session is shown of a reply, whatever other sessions did before.
use Rattle.std.specs.Prelude.{ℕ, List, [], ◌∷◌}
use Rattle.value.specs.declared.refusal.Mode.{Mode}
use Rattle.value.specs.declared.refusal.Place.{Place}
use Rattle.value.specs.declared.refusal.Place.TheVariants.{Cause}
use Rattle.statement.specs.declared.reply.Reply.{Reply}
use Rattle.statement.specs.declared.reply.Reply.TheVariants.{Begun, Safe, Exported, Refused}
use Rattle.history.specs.declared.event.Action.TheVariants.{Begin}
use Rattle.history.specs.declared.event.Event.{Event}
use Rattle.history.specs.declared.event.Record.{Record}
use Rattle.history.specs.Transactions.{World}
use Rattle.history.specs.Events.{follows}
use Rattle.history.specs.Answer.{reply_in}

-- a structure without the numbers of its transactions
abbrev pub without_numbers : Place → Place
without_numbers (Cause x) = Cause (record { a = record { 0 = 0 }; b = record { 0 = 0 }; c = record { 0 = 0 } })
without_numbers p = p

module _ {A : Type 0} where
  -- A reply without the numbers that depend on the order alone: those of a structure's transactions, of a safe snapshot, and of an identifier.
  abbrev pub as_told : Reply A → Reply A
  as_told (Safe n) = Safe 0
  as_told (Exported i) = Exported 0
  as_told (Refused r) = Refused (record { code = r.code; place = without_numbers r.place })
  as_told r = r

  -- the event of an action, with its reply
  abbrev pub answered_in : World A → Event A → Record A
  answered_in w e = record { session = e.session; action = e.action; reply = reply_in w e.session e.action }

  -- a BEGIN that is done
  abbrev pub begins : ℕ → Mode → Record A
  begins s m = record { session = s; action = Begin m; reply = Begun }

  -- the replies to these actions, done one after the other, without those numbers
  abbrev pub told_after : World A → List (Event A) → List (Reply A)
  told_after w [] = []
  told_after w (e ∷ es) = as_told (reply_in w e.session e.action) ∷ told_after (follows w (answered_in w e)) es

  -- the world that they leave
  abbrev pub world_after : World A → List (Event A) → World A
  world_after w [] = w
  world_after w (e ∷ es) = world_after (follows w (answered_in w e)) es
