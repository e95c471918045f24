-- What calls of a server leave in a pass.
use Rattle.std.specs.Prelude.{ℕ, suc, ◌≡◌, ◌≢◌, ◌⊎◌, ◌==◌, nat_lt, Bool, true, false, ◌||◌, List, [], ◌∷◌, ◌++◌, length, replicate, slice_get, Some, Err, All}
use mathlib.Core.List.{IsPrefix}
use Rattle.value.specs.declared.refusal.Code.TheVariants.{NoActiveSqlTransaction, ProgramLimitExceeded}
use Rattle.value.specs.Refusals.{of_code, out_of_memory}
use Rattle.value.specs.declared.refusal.Refusal.{Refusal}
use Rattle.statement.specs.declared.reply.Reply.{Reply}
use Rattle.statement.specs.declared.reply.Reply.TheVariants.{Committed, RolledBack, Wait, Refused}
use Rattle.history.specs.declared.event.Action.{Action}
use Rattle.history.specs.declared.event.Action.TheVariants.{Poll, Rollback}
use Rattle.history.specs.declared.event.Record.{Record}
use Rattle.history.specs.Opening.{Opening, Recorded}
use Rattle.history.specs.Answer.{IsLegal, of_session, view_answer}
use Rattle.transactions.specs.Courses.{takes_memory}
use Rattle.pass.specs.Knowing.{Known}

-- there can't be n sessions: there are 1 to 64
abbrev pub is_no_count : ℕ → Bool
is_no_count n = n == 0 || nat_lt 64 n

module _ {A : Type 0} where
  -- the passes of sessions 1, 2, .., which have seen and done nothing
  abbrev pub AreFresh : List (Known A) → Type 0
  AreFresh passes = (k : ℕ) (p : Known A) → slice_get passes k ≡ Some p → p ≡ record { session = suc k; seen = []; mine = [] }

  -- These are the passes of sessions 1 to n, which have seen and done nothing.
  pub record AreOpened (n : ℕ) (opened : List (Known A)) : Type 0 where
    pub passes : AreFresh opened
    pub count : length opened ≡ n

  -- The reply says committed, rolled back or refused: its event may have ended a transaction.
  abbrev pub may_end : Reply A → Bool
  may_end Committed = true
  may_end RolledBack = true
  may_end (Refused r) = true
  may_end _ = false

  -- The call was recorded: with its reply it is the last of what the pass has seen, and of what it has done.
  pub record WasRecorded (p : Known A) (a : Action A) (r : Reply A) (before : List (Record A)) (q : Known A) : Type 0 where
    pub seen : q.seen ≡ before ++ record { session = p.session; action = a; reply = r } ∷ []
    pub mine : q.mine ≡ p.mine ++ (a, r) ∷ []

  -- The call wasn't recorded, and the pass has done what it had: an action that takes memory got none, or the history that is seen has as many events as it may have.
  pub record WasLeft (most : ℕ) (p : Known A) (a : Action A) (r : Reply A) (q : Known A) : Type 0 where
    pub reason : (takes_memory a ≡ true) × (r ≡ Refused out_of_memory) ⊎ (length q.seen ≡ most) × (r ≡ Refused (of_code ProgramLimitExceeded))
    pub mine : q.mine ≡ p.mine

  -- A call for action a was answered with r, and the pass that knew p knows q.
  abbrev pub IsCall : ℕ → Known A → Action A → Reply A → Known A → Type 0
  IsCall most p a r q = (q.session ≡ p.session) × (((before : List (Record A)) × WasRecorded p a r before q) ⊎ WasLeft most p a r q)

  -- The session has no transaction after these events.
  abbrev pub HasNone : Opening A → List (Record A) → ℕ → Type 0
  HasNone o es s = (e : Refusal) × (view_answer o es s ≡ Err e) × (e.code ≡ NoActiveSqlTransaction)

  -- The pass that knew p knows q: its session has no transaction after what it then has seen, and has done no more; or its ROLLBACK was called.
  abbrev pub HasLeft : Opening A → ℕ → Known A → Known A → Type 0
  HasLeft o most p q = (HasNone o q.seen q.session × (q.session ≡ p.session) × (q.mine ≡ p.mine)) ⊎ ((r : Reply A) × IsCall most p Rollback r q)

  -- The session has done n polls more, and each was answered to wait.
  pub record HasWaited (p q : Known A) (n : ℕ) : Type 0 where
    pub session : q.session ≡ p.session
    pub seen : IsPrefix p.seen q.seen
    pub mine : q.mine ≡ p.mine ++ replicate n (Poll, Wait)

  -- Some polls were answered to wait, and one with r, which isn't to wait.
  abbrev pub HasPolled : ℕ → Known A → Reply A → Known A → Type 0
  HasPolled most p r q = (r ≢ Wait) × ((n : ℕ) × (middle : Known A) × HasWaited p middle n × IsCall most middle Poll r q)

  -- What the pass had seen begins the history, which has of its session just what it did.
  abbrev pub HasClosed : Known A → List (Record A) → Type 0
  HasClosed p records = IsPrefix p.seen records × (p.mine ≡ of_session p.session records)

  -- The history that a server of these passes leaves: it is legal, has this opening and room for `room` events, begins with what each pass has seen, and of each pass's session it has exactly what that did.
  pub record IsClosed (o : Opening A) (room : ℕ) (closed : List (Known A)) (h : Recorded A) : Type 0 where
    pub opening : h.opening ≡ o
    pub most : h.most ≡ room
    pub legal : IsLegal h
    pub passes : All (λ pass. HasClosed pass h.records) closed
