-- A run's beginning, and the text of its outcome.
use Rattle.std.proofs.Common.{◌≡◌, sym, ap, ◌∙◌, subst, ℕ, ◌+◌, ◌≤◌, List, [], length, sum, Result, Ok, Err, arith}
use Rattle.value.specs.declared.refusal.Refusal.{Refusal}
use Rattle.value.specs.Refusals.{AnswersOrNoMemory}
use Rattle.history.specs.Opening.{Opening, Recorded}
use Rattle.history.specs.Answer.{checkpoint_answer}
use Rattle.session.specs.Core.{from_opening}
use Rattle.session.proofs.CoreLemmas.{answered_ok}
use Rattle.explore.specs.declared.plan.Line.{Line}
use Rattle.explore.specs.Explored.{Explored, beginning, line_counts, outcome, outcome_from, sessions, turns_of, after_turns}
use Rattle.explore.specs.Texts.{outcome_text}

module _ {A : Type 0} where
  -- the core that goes on from the setup is at the beginning
  pub begins : (e : Explored A) (s : Recorded A) (ls : List (Line A)) (counts : List ℕ) (n : ℕ) (k : Recorded A) → record { setup = s; lines = ls } ≡ e → counts ≡ line_counts ls sessions → n ≡ sum counts
      → AnswersOrNoMemory (Ok k) (from_opening n (checkpoint_answer s.opening s.records n)) → beginning e ≡ Ok k
  begins e s ls counts n k v e2 e3 a =
      let t : n ≡ turns_of e = e3 ∙ ap sum e2 ∙ ap (λ (x : Explored A). sum (line_counts x.lines sessions)) v in
      answered_ok k (beginning e)
      (subst (λ (x : Explored A). AnswersOrNoMemory (Ok k) (from_opening (turns_of e) (checkpoint_answer x.setup.opening x.setup.records (turns_of e)))) v
      (subst (λ (m : ℕ). AnswersOrNoMemory (Ok k) (from_opening m (checkpoint_answer s.opening s.records m))) t a))

  from_nothing : (n : ℕ) (r : Result (Opening A) Refusal) (h : Recorded A) → from_opening n r ≡ Ok h → (h.records ≡ []) × (h.most ≡ n)
  from_nothing n (Ok o) h e =
      let made : Recorded A = record { opening = o; records = []; most = n } in
      let i : made ≡ h = cc in
      (sym (ap (λ (x : Recorded A). x.records) i), sym (ap (λ (x : Recorded A). x.most) i))
  from_nothing n (Err x) h e = cc

  -- there are no events yet
  pub is_unbegun : (e : Explored A) (h : Recorded A) → beginning e ≡ Ok h → h.records ≡ []
  is_unbegun e h b = (from_nothing (turns_of e) (checkpoint_answer e.setup.opening e.setup.records (turns_of e)) h b).0

  -- and as many as an interleaving has turns may come
  pub is_most : (e : Explored A) (h : Recorded A) → beginning e ≡ Ok h → h.most ≡ turns_of e
  is_most e h b = (from_nothing (turns_of e) (checkpoint_answer e.setup.opening e.setup.records (turns_of e)) h b).1

  -- there is room for as many turns as an interleaving has
  pub has_room : (e : Explored A) (h : Recorded A) (order : List ℕ) → beginning e ≡ Ok h → length order ≤ turns_of e → length h.records + length order ≤ h.most
  has_room e h order b few =
      let s = from_nothing (turns_of e) (checkpoint_answer e.setup.opening e.setup.records (turns_of e)) h b in
      let none : length h.records ≡ 0 = ap length s.0 in
      omega (arith, none, s.1, few)

  -- the outcome of a schedule is the text of the history that it leads to
  pub outcome_is : (e : Explored A) (h : Recorded A) (order : List ℕ) → beginning e ≡ Ok h → outcome e order ≡ outcome_text (after_turns e.lines h order)
  unfolding outcome
  outcome_is e h order b = ap (outcome_from e.lines order) b
