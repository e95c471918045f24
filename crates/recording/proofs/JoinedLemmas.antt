-- A history that goes on after checkpoints, as one history from its first opening.
use Rattle.std.proofs.Common.{◌≡◌, ℕ, ◌==◌, nat_le, Bool, true, false, cond, not, ◌||◌, List, [], ◌∷◌, ◌++◌, Ok, Err, refl, sym, ap, subst, ◌∙◌, append_assoc}
use Rattle.std.specs.Prelude.{◌^◌, ◌+◌}
use Rattle.value.specs.declared.refusal.Code.TheVariants.{ObjectNotInPrerequisiteState, ProgramLimitExceeded}
use Rattle.value.specs.Refusals.{of_code}
use Rattle.statement.specs.declared.reply.Reply.{Reply}
use Rattle.history.specs.declared.event.Action.{Action}
use Rattle.history.specs.declared.event.Record.{Record}
use Rattle.history.specs.Answer.{Allowed, Legal, answer, checkpoint_answer, checkpoint_from}
use Rattle.history.specs.Checkpoint.{opening_after}
use Rattle.history.specs.Events.{start, world_of}
use Rattle.history.specs.Opening.{Opening, Recorded}
use Rattle.history.specs.Transactions.{World, is_quiet}
use Rattle.serial.proofs.base.Order.{continues_on, opens}
use Rattle.serial.proofs.legal.Histories.{Legal-push, run-catalog}
use Rattle.session.specs.Core.{from_opening, recorded}
use Rattle.recording.specs.Printed.{AreSmall}
use Rattle.recording.specs.Runs.{IsSmall}

module _ {A : Type 0} where
  -- ---- small replies

  pub small_front : (es more : List (Record A)) → AreSmall (es ++ more) → AreSmall es
  small_front [] more h = tt
  small_front (e ∷ es) more h = (h.0, small_front es more h.1)

  pub small_last : (es : List (Record A)) (e : Record A) → AreSmall (es ++ e ∷ []) → IsSmall e.reply
  small_last [] e h = h.0
  small_last (x ∷ es) e h = small_last es e h.1

  -- ---- one history

  -- A history goes on after the events before it, which began from the opening o.
  pub record Joined (o : Opening A) (before : List (Record A)) (h : Recorded A) : Type 0 where
    pub catalog : h.opening.catalog ≡ o.catalog
    pub legal : Legal h.opening h.records
    pub joins : (more : List (Record A)) → Legal h.opening more → Legal o (before ++ more)

  pub joined_first : (h : Recorded A) → Legal h.opening h.records → Joined h.opening [] h
  joined_first h legal = record { catalog = refl; legal = legal; joins = λ more l. l }

  pub joined_next : (o : Opening A) (before : List (Record A)) (h : Recorded A) (s : ℕ) (a : Action A) (r : Reply A) → Joined o before h → Allowed h.opening.catalog a → r ≡ answer h.opening h.records s a → Joined o before (recorded h s a r)
  joined_next o before h s a r j may due = record { catalog = j.catalog; legal = Legal-push h.opening h.records s a r j.legal may due; joins = j.joins }

  -- ---- checkpoints

  abbrev passed : Opening A → ℕ → Recorded A
  passed o most = record { opening = o; records = []; most = most }

  passes : (w : World A) (most : ℕ) (k : Recorded A) → from_opening most (checkpoint_from w most) ≡ Ok k → (is_quiet w ≡ true) × (k ≡ passed (opening_after w) most)
  passes w most k = go (is_quiet w) (most == 0 || nat_le (2 ^ 64) (w.place + most))
    where
      go : (b c : Bool) → from_opening most (cond (not b) (Err (of_code ObjectNotInPrerequisiteState)) (cond c (Err (of_code ProgramLimitExceeded)) (Ok (opening_after w)))) ≡ Ok k → (b ≡ true) × (k ≡ passed (opening_after w) most)
      go false c h = absurd cc
      go true true h = absurd cc
      go true false h = let same : passed (opening_after w) most ≡ k = cc in (refl, sym same)

  pub joined_passed : (o : Opening A) (before : List (Record A)) (h k : Recorded A) (most : ℕ) → Joined o before h → from_opening most (checkpoint_answer h.opening h.records most) ≡ Ok k → Joined o (before ++ h.records) k × (k.records ≡ [])
  joined_passed o before h k most j e =
      let w = world_of h.opening h.records in
      let p = passes w most k e in
      let n = passed (opening_after w) most in
      let next : Joined o (before ++ h.records) n = record {
        catalog = run-catalog (start h.opening) h.records ∙ j.catalog;
        legal = opens h.opening h.records j.legal;
        joins = λ more l. subst (Legal o) (sym (append_assoc before h.records more)) (j.joins (h.records ++ more) (continues_on h.opening h.records more j.legal p.0 l).0);
      } in
      (subst (Joined o (before ++ h.records)) (sym p.1) next, ap (λ (x : Recorded A). x.records) p.1)
