-- The session at a place, and what comes of it.
use Rattle.std.proofs.Common.{◌≡◌, ℕ, ◌-◌, List, set, Option, Some, refl, sym, ap, ◌∙◌}
use Rattle.std.specs.Prelude.{slice_get}
use Rattle.statement.specs.declared.reply.Reply.{Reply}
use Rattle.statement.specs.declared.statement.Statement.{Statement}
use Rattle.script.specs.Commands.{◌>>=◌}
use Rattle.transcript.specs.Sessions.{answered, answered_of, asked_of, asks, idle, recorded, recorded_in}
use Rattle.transcript.specs.declared.ask.Asked.{Asked}
use Rattle.transcript.specs.declared.said.Said.{Said}
use Rattle.transcript.specs.declared.session.Outcome.{Outcome}
use Rattle.transcript.specs.declared.session.Session.{Session}
use Rattle.transcript.proofs.SpreadLemmas.{set_once}

-- It is taken out, and another is put in its place.
module _ {A : Type 0} (ss : List (Session A)) (n place : ℕ) (at : place ≡ n - 1) (one : Session A) (there : slice_get ss place ≡ Some one) (left : List (Session A)) (rest : left ≡ set ss place idle) where
  here : {Y : Type 0} (step : Session A → Option Y) → (slice_get ss (n - 1) >>= step) ≡ step one
  here step = ap (λ (o : Option (Session A)). o >>= step) (ap (slice_get ss) (sym at) ∙ there)

  put : (t : Session A) (us : List (Session A)) → us ≡ set left place t → us ≡ set ss (n - 1) t
  put t us is = is ∙ ap (λ (xs : List (Session A)). set xs place t) rest ∙ set_once ss place idle t ∙ ap (λ (i : ℕ). set ss i t) at

  -- it asks for something
  pub asked_there : (line : ℕ) (a : Asked A) (t : Session A) (us : List (Session A)) → asks one a line ≡ Some t → us ≡ set left place t → asked_of ss n line a ≡ Some us
  unfolding asked_of
  asked_there line a t us so is =
      here (λ x. asks x a line >>= λ y. Some (set ss (n - 1) y)) ∙ ap (λ (o : Option (Session A)). o >>= λ y. Some (set ss (n - 1) y)) so ∙ ap (λ (xs : List (Session A)). Some xs) (sym (put t us is))

  -- it is answered
  pub answered_there : (says : Said) (t : Session A) (us : List (Session A)) (o : Outcome A) → answered n one says ≡ Some (o, t) → us ≡ set left place t → answered_of ss n says ≡ Some (o, us)
  unfolding answered_of
  answered_there says t us o so is =
      here (λ x. answered n x says >>= λ y. Some (y.0, set ss (n - 1) y.1)) ∙ ap (λ (p : Option (Outcome A × Session A)). p >>= λ y. Some (y.0, set ss (n - 1) y.1)) so
      ∙ ap (λ (xs : List (Session A)). Some (o, xs)) (sym (put t us is))

  -- a statement of it is recorded
  pub recorded_there : (q : Statement A) (r : Reply A) (line : ℕ) (t : Session A) (us : List (Session A)) → recorded one q r line ≡ Some t → us ≡ set left place t → recorded_in ss n q r line ≡ Some us
  unfolding recorded_in
  recorded_there q r line t us so is =
      here (λ x. recorded x q r line >>= λ y. Some (set ss (n - 1) y)) ∙ ap (λ (o : Option (Session A)). o >>= λ y. Some (set ss (n - 1) y)) so ∙ ap (λ (xs : List (Session A)). Some xs) (sym (put t us is))
