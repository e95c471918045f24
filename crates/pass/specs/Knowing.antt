-- What the holders of a history know of it.
use Rattle.std.specs.Prelude.{ℕ, ◌≡◌, Bool, true, false, nat_lt, List, length}
use mathlib.Core.List.{IsPrefix}
use Rattle.atomic_table.specs.Seated.{TableId}
use Rattle.statement.specs.declared.reply.Reply.{Reply}
use Rattle.history.specs.declared.event.Action.{Action}
use Rattle.history.specs.declared.event.Record.{Record}
use Rattle.history.specs.Opening.{Opening}
use Rattle.history.specs.Answer.{Legal, of_session}

-- a history word: which one it is, and what its history opens with
pub record Named (A : Type 0) : Type 0 where
  pub table : TableId
  pub opening : Opening A

-- what a pass knows: its session, the beginning of the history that it has seen, and the actions of its own calls with their recorded replies
pub record Known (A : Type 0) : Type 0 where
  pub session : ℕ
  pub seen : List (Record A)
  pub mine : List (Action A × Reply A)

-- what the lock's own seat knows: the whole history, and for how many sessions there is a pass
pub record Whole (A : Type 0) : Type 0 where
  pub records : List (Record A)
  pub made : ℕ

-- x where the test holds, else y
abbrev pub pick : {T : Type 0} → Bool → T → T → T
pick true x y = x
pick false x y = y

module _ {A : Type 0} where
  -- the longer of two beginnings of one history
  abbrev pub longer : List (Record A) → List (Record A) → List (Record A)
  longer xs ys = pick (nat_lt (length xs) (length ys)) ys xs

  -- A call has shown the history to a pass that knew p, which knows q now: what it has seen is legal, what it had seen begins that, and its session has done just what the history has of it.
  pub record HasSeen (o : Opening A) (p q : Known A) : Type 0 where
    pub legal : Legal o q.seen
    pub begins : IsPrefix p.seen q.seen
    pub mine : q.mine ≡ of_session q.session q.seen

  -- A look that is no event has shown the history to a pass that knew p, which knows q now: what it has seen is legal, what it had seen begins that, and its session, which has done no more, has done just what the history has of it.
  pub record HasLooked (o : Opening A) (p q : Known A) : Type 0 where
    pub legal : Legal o q.seen
    pub begins : IsPrefix p.seen q.seen
    pub session : q.session ≡ p.session
    pub mine : q.mine ≡ p.mine
    pub exact : q.mine ≡ of_session q.session q.seen
