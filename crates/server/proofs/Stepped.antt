-- What a step of the core makes of a call.
use Rattle.std.proofs.Common.{◌≡◌, ◌⊎◌, ℕ, ◌+◌, ◌≤◌, ◌<◌, true, List, [], ◌∷◌, ◌++◌, length, sym, ap, ◌∙◌, inl, inr, arith, length-append}
use Rattle.value.specs.declared.refusal.Code.TheVariants.{ProgramLimitExceeded}
use Rattle.value.specs.Refusals.{of_code, out_of_memory}
use Rattle.statement.specs.declared.reply.Reply.{Reply}
use Rattle.statement.specs.declared.reply.Reply.TheVariants.{Refused}
use Rattle.history.specs.declared.event.Action.{Action}
use Rattle.history.specs.declared.event.Record.{Record}
use Rattle.history.specs.Opening.{Recorded}
use Rattle.transactions.specs.Courses.{takes_memory}
use Rattle.session.specs.Core.{IsStep, recorded}
use Rattle.pass.specs.Knowing.{Known}
use Rattle.pass.proofs.Prefixes.{snoc_last}
use Rattle.server.specs.Calls.{IsCall}

module _ {A : Type 0} where
  longer_by_one : (h k : Recorded A) (s : ℕ) (a : Action A) (r : Reply A) → k ≡ recorded h s a r → length k.records ≡ length h.records + 1
  longer_by_one h k s a r e = ap (λ (x : Recorded A). length x.records) e ∙ length-append h.records (record { session = s; action = a; reply = r } ∷ [])

  same_length : (h k : Recorded A) → k ≡ h → length k.records ≡ length h.records
  same_length h k e = ap (λ (x : Recorded A). length x.records) e

  -- why nothing was recorded
  abbrev pub Reason : Recorded A → Action A → Reply A → Type 0
  Reason h a r = (takes_memory a ≡ true) × (r ≡ Refused out_of_memory) ⊎ (length h.records ≡ h.most) × (r ≡ Refused (of_code ProgramLimitExceeded))

  -- the history has grown: by this event
  pub step_grew : (h k : Recorded A) (s : ℕ) (a : Action A) (r : Reply A) → IsStep h k s a r → length h.records < length k.records → k ≡ recorded h s a r
  step_grew h k s a r (inl t) lt = t.2
  step_grew h k s a r (inr (inl t)) lt = let same = same_length h k t.2 in absurd (omega arith)
  step_grew h k s a r (inr (inr t)) lt = let same = same_length h k t.3 in absurd (omega arith)

  -- it has not: it is as it was, for a reason
  pub step_left : (h k : Recorded A) (s : ℕ) (a : Action A) (r : Reply A) → IsStep h k s a r → length k.records ≤ length h.records → (k ≡ h) × Reason h a r
  step_left h k s a r (inl t) le = let more = longer_by_one h k s a r t.2 in absurd (omega arith)
  step_left h k s a r (inr (inl t)) le = (t.2, inr (t.0, t.1))
  step_left h k s a r (inr (inr t)) le = (t.3, inl (t.1, t.2))

  -- its last event is then this one
  pub last_is : (h k : Recorded A) (s : ℕ) (a : Action A) (r : Reply A) (before : List (Record A)) (last : Record A) → k ≡ recorded h s a r → k.records ≡ before ++ last ∷ [] → last ≡ record { session = s; action = a; reply = r }
  last_is h k s a r before last e at = sym (snoc_last h.records before (record { session = s; action = a; reply = r }) last (sym (ap (λ (x : Recorded A). x.records) e) ∙ at))

  pub recorded_call : (most : ℕ) (p q : Known A) (log : List (Record A)) (last : Record A) (s : ℕ) (a : Action A) (r : Reply A)
      → q ≡ record { session = p.session; seen = log ++ last ∷ []; mine = p.mine ++ (last.action, last.reply) ∷ [] } → last ≡ record { session = s; action = a; reply = r } → s ≡ p.session → IsCall most p a r q
  recorded_call most p q log last s a r e is by = (
    ap (λ (x : Known A). x.session) e,
    inl (
      log,
      record {
        seen = ap (λ (x : Known A). x.seen) e ∙ ap (λ (x : Record A). log ++ x ∷ []) (is ∙ ap (λ (n : ℕ). record { session = n; action = a; reply = r }) by);
        mine = ap (λ (x : Known A). x.mine) e ∙ ap (λ (x : Record A). p.mine ++ (x.action, x.reply) ∷ []) is;
      },
    ),
  )

  pub left_call : (most : ℕ) (p q : Known A) (log : List (Record A)) (h : Recorded A) (a : Action A) (r : Reply A)
      → q ≡ record { session = p.session; seen = log; mine = p.mine } → log ≡ h.records → h.most ≡ most → Reason h a r → IsCall most p a r q
  left_call most p q log h a r e same limit (inl t) = (ap (λ (x : Known A). x.session) e, inr (record { reason = inl t; mine = ap (λ (x : Known A). x.mine) e }))
  left_call most p q log h a r e same limit (inr t) = (
    ap (λ (x : Known A). x.session) e,
    inr (record { reason = inr (ap (λ (x : Known A). length x.seen) e ∙ (ap (λ (l : List (Record A)). length l) same ∙ (t.0 ∙ limit)), t.1); mine = ap (λ (x : Known A). x.mine) e }),
  )
