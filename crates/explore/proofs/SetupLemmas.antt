-- What the lines of a setup do, and what is explored of the lines after it.
use Rattle.std.proofs.Common.{◌≡◌, ◌⊎◌, ℕ, ◌+◌, ◌<◌, ◌≤◌, true, false, List, [], ◌∷◌, ◌++◌, Option, Some, Ok, drop, length, get_or, map, take, inl, inr, refl, slice_get, sym, ap, subst, ◌∙◌}
use Rattle.std.proofs.lemmas.Option.{slice_get_read}
use Rattle.std.proofs.lemmas.List.{append-nil, map-append, take_all, take_more}
use Rattle.statement.specs.declared.reply.Reply.{Reply}
use Rattle.history.specs.declared.event.Action.{Action}
use Rattle.history.specs.Answer.{answer, is_refused}
use Rattle.history.specs.Opening.{Recorded}
use Rattle.session.specs.Core.{IsCheckpoint, IsStep}
use Rattle.script.specs.declared.script.Line.{Line}
use Rattle.explore.specs.declared.plan.Line.{Line as Explored_line}
use Rattle.explore.specs.declared.setup.Turn.{Turn}
use Rattle.explore.specs.Explored.{Explored, answered}
use Rattle.explore.specs.declared.setup.Unplanned.{Unplanned}
use Rattle.explore.specs.declared.setup.Unplanned.TheVariants.{Memory}
use Rattle.explore.specs.Setups.{AreExplored, ArePlanned, AreTaken, IsTaken, IsUnplanned, LacksItsTurn, LacksPlan, LacksTurn, RefusesCheckpoint, SetsUp, SetsUpAt, SetsUpFrom, Stops, UnplannedAt, UnplannedFrom, explored_of, last_from, last_of, number_of, place_of_checkpoint, turn_of}

-- one more turn
pub one_turn : (ts us : List Turn) (t : Turn) (o : Option Turn) → us ≡ ts ++ t ∷ [] → o ≡ Some t → map Some us ≡ map Some ts ++ o ∷ []
one_turn ts us t o more is = ap (λ (xs : List Turn). map Some xs) more ∙ map-append Some ts (t ∷ []) ∙ ap (λ (x : Option Turn). map Some ts ++ x ∷ []) (sym is)

module _ {A : Type 0} where
  -- a step whose reply refuses nothing is answered and recorded
  pub taken_unless_refused : (h k : Recorded A) (s : ℕ) (a : Action A) (r : Reply A) → IsStep h k s a r → is_refused r ≡ false → (is_refused (answer h.opening h.records s a) ≡ false) × (k ≡ answered h s a)
  taken_unless_refused h k s a r (inl w) fine =
      (subst (λ (x : Reply A). is_refused x ≡ false) w.1 fine, subst (λ (x : Reply A). k ≡ record h { records = h.records ++ record { session = s; action = a; reply = x } ∷ [] }) w.1 w.2)
  taken_unless_refused h k s a r (inr (inl w)) fine = let e = ap (λ (x : Reply A). is_refused x) w.1 ∙ refl in absurd (clash (sym e ∙ fine))
    where
      clash : true ≡ false → ⊥
      clash e = cc
  taken_unless_refused h k s a r (inr (inr w)) fine = let e = ap (λ (x : Reply A). is_refused x) w.2 ∙ refl in absurd (clash (sym e ∙ fine))
    where
      clash : true ≡ false → ⊥
      clash e = cc

  -- one more line was done after the others
  taken_more : (h m k : Recorded A) (lines : List (Line A)) (line : Line A) → AreTaken h lines m → IsTaken m line.step k → AreTaken h (lines ++ line ∷ []) k
  taken_more h m k [] line is taken = (k, subst (λ (w : Recorded A). IsTaken w line.step k) is taken, refl)
  taken_more h m k (x ∷ lines) line done taken = (done.0, done.1, taken_more done.0 m k lines line done.2 taken)

  pub one_taken : (h m k : Recorded A) (lines : List (Line A)) (n : ℕ) (line : Line A) → n < length lines → line ≡ get_or lines n line → AreTaken h (take n lines) m → IsTaken m line.step k → AreTaken h (take (n + 1) lines) k
  one_taken h m k lines n line lt at done taken =
      let next : take (n + 1) lines ≡ take n lines ++ line ∷ [] = take_more lines n line lt ∙ ap (λ (y : Line A). take n lines ++ y ∷ []) (sym at) in
      subst (λ (ls : List (Line A)). AreTaken h ls k) (sym next) (taken_more h m k (take n lines) line done taken)

  -- all were done
  pub all_taken : (h k : Recorded A) (lines : List (Line A)) (n : ℕ) → length lines ≤ n → AreTaken h (take n lines) k → AreTaken h lines k
  all_taken h k lines n le done = subst (λ (ls : List (Line A)). AreTaken h ls k) (take_all n lines le) done

  -- one more line is explored
  pub one_explored : (done : List (Line A)) (line : Line A) (ls ms : List (Explored_line A)) (ts us : List Turn) → map Some ms ≡ map Some ls ++ explored_of line.step ∷ [] → map Some us ≡ map Some ts ++ turn_of line ∷ [] → AreExplored done ls ts → AreExplored (done ++ line ∷ []) ms us
  one_explored done line ls ms ts us more next are = (
    map-append (λ (l : Line A). explored_of l.step) done (line ∷ []) ∙ ap (λ (os : List (Option (Explored_line A))). os ++ explored_of line.step ∷ []) are.0 ∙ sym more,
    map-append turn_of done (line ∷ []) ∙ ap (λ (os : List (Option Turn)). os ++ turn_of line ∷ []) are.1 ∙ sym next,
  )

  -- all are
  pub all_explored : (lines done rest : List (Line A)) (ls : List (Explored_line A)) (ts : List Turn) → rest ≡ [] → done ++ rest ≡ lines → AreExplored done ls ts → AreExplored lines ls ts
  all_explored lines done rest ls ts none all are =
      subst (λ (xs : List (Line A)). AreExplored xs ls ts) (sym (append-nil done) ∙ ap (λ (xs : List (Line A)). done ++ xs) (sym none) ∙ all) are

  -- the lines before a place were done, and those after it are explored
  pub sets_up_at : (place most : ℕ) (h k m : Recorded A) (lines before after : List (Line A)) (e : Explored A) (turns : List Turn) → before ≡ take place lines → after ≡ drop (place + 1) lines
      → AreTaken h before k → IsCheckpoint k most (Ok m) → ArePlanned m after e turns → SetsUpAt place most h lines e turns
  sets_up_at place most h k m lines before after e turns first rest taken next planned = (
    k,
    m,
    subst (λ (ls : List (Line A)). AreTaken h ls k) first taken,
    next,
    (planned.0, subst (λ (ls : List (Line A)). AreExplored ls e.lines turns) rest planned.1),
  )

  -- the checkpoint's number
  pub last_at : (place : ℕ) (lines : List (Line A)) (line : Line A) → place < length lines → line ≡ get_or lines place line → last_from (Some place) lines ≡ line.number
  last_at place lines line lt at = ap number_of (slice_get_read lines (length lines) place line refl lt at)

  -- the first checkpoint's place, or none, was found
  pub sets_up_from : (lines whole : List (Line A)) (place : Option ℕ) (most : ℕ) (h : Recorded A) (e : Explored A) (turns : List Turn) → whole ≡ lines → place ≡ place_of_checkpoint whole → SetsUpFrom place most h lines e turns → SetsUp most h lines e turns
  sets_up_from lines whole place most h e turns same at up = subst (λ (p : Option ℕ). SetsUpFrom p most h lines e turns) (at ∙ ap place_of_checkpoint same) up

  pub last_from_place : (lines whole : List (Line A)) (place : Option ℕ) (n : ℕ) → whole ≡ lines → place ≡ place_of_checkpoint whole → n ≡ last_from place lines → n ≡ last_of lines
  last_from_place lines whole place n same at is = is ∙ ap (λ (p : Option ℕ). last_from p lines) (at ∙ ap place_of_checkpoint same)

  -- ---- why there is no plan

  -- a line that isn't explored, after those that are
  pub lacks_here : (lines done rest after : List (Line A)) (line : Line A) (ls : List (Explored_line A)) (ts : List Turn) (why : Unplanned) → rest ≡ line ∷ after → done ++ rest ≡ lines → AreExplored done ls ts
      → (why ≡ Memory) ⊎ LacksItsTurn line why → (why ≡ Memory) ⊎ LacksTurn lines why
  lacks_here lines done rest after line ls ts why first all are (inl out) = inl out
  lacks_here lines done rest after line ls ts why first all are (inr lacks) = inr (done, line, after, sym all ∙ ap (λ (xs : List (Line A)). done ++ xs) first, (ls, ts, are), lacks)

  pub lacks_plan : (lines : List (Line A)) (why : Unplanned) → (why ≡ Memory) ⊎ LacksTurn lines why → (why ≡ Memory) ⊎ LacksPlan lines why
  lacks_plan lines why (inl out) = inl out
  lacks_plan lines why (inr lacks) = inr (inr lacks)

  -- a line of the setup stands in the way
  pub unplanned_by_line : (place most : ℕ) (h : Recorded A) (lines before : List (Line A)) (why : Unplanned) → before ≡ take place lines → (why ≡ Memory) ⊎ Stops h before why → (why ≡ Memory) ⊎ UnplannedAt place most h lines why
  unplanned_by_line place most h lines before why first (inl out) = inl out
  unplanned_by_line place most h lines before why first (inr stops) = inr (inl (subst (λ (ls : List (Line A)). Stops h ls why) first stops))

  -- the checkpoint does
  pub unplanned_by_checkpoint : (place most number : ℕ) (h k : Recorded A) (lines before : List (Line A)) (why : Unplanned) → before ≡ take place lines → number ≡ number_of (slice_get lines place) → AreTaken h before k
      → (why ≡ Memory) ⊎ RefusesCheckpoint most k number why → (why ≡ Memory) ⊎ UnplannedAt place most h lines why
  unplanned_by_checkpoint place most number h k lines before why first at taken (inl out) = inl out
  unplanned_by_checkpoint place most number h k lines before why first at taken (inr refuses) =
      inr (inr (k, subst (λ (ls : List (Line A)). AreTaken h ls k) first taken, inl (subst (λ (n : ℕ). RefusesCheckpoint most k n why) at refuses)))

  -- the lines after it do
  pub unplanned_by_rest : (place most : ℕ) (h k : Recorded A) (lines before after : List (Line A)) (why : Unplanned) → before ≡ take place lines → after ≡ drop (place + 1) lines → AreTaken h before k
      → (why ≡ Memory) ⊎ LacksPlan after why → (why ≡ Memory) ⊎ UnplannedAt place most h lines why
  unplanned_by_rest place most h k lines before after why first rest taken (inl out) = inl out
  unplanned_by_rest place most h k lines before after why first rest taken (inr lacks) =
      inr (inr (k, subst (λ (ls : List (Line A)). AreTaken h ls k) first taken, inr (subst (λ (ls : List (Line A)). LacksPlan ls why) rest lacks)))

  -- the first checkpoint's place, or none, was found
  pub is_unplanned : (lines whole : List (Line A)) (place : Option ℕ) (most : ℕ) (h : Recorded A) (why : Unplanned) → whole ≡ lines → place ≡ place_of_checkpoint whole → (why ≡ Memory) ⊎ UnplannedFrom place most h lines why → IsUnplanned most h lines why
  is_unplanned lines whole place most h why same at (inl out) = inl out
  is_unplanned lines whole place most h why same at (inr none) = inr (subst (λ (p : Option ℕ). UnplannedFrom p most h lines why) (at ∙ ap place_of_checkpoint same) none)
