-- What a certificate is taken for: its lines are read one after the other, each by what is known so far.
use Rattle.std.specs.Prelude.{ℕ, ◌+◌, nat_lt, Bool, false, ◌&&◌, if◌then◌else◌, Option, Some, None, List, [], ◌∷◌, length, slice_get}
use Rattle.std.specs.Option.{option_map_or}
use Rattle.value.specs.declared.value.Value.{Value}
use Rattle.certificate.specs.declared.certificate.Assumption.{Assumption}
use Rattle.certificate.specs.declared.certificate.Line.{Line}
use Rattle.certificate.specs.declared.certificate.Line.TheVariants.{Joined, Source, Later, Earlier, Common, Needless, Found, Suppose, Cycle, Sourceless, Wayless, TooMany, TooFew, Overfull, Lacking}
use Rattle.certificate.specs.declared.known.Spot.{Spot}
use Rattle.certificate.specs.declared.standing.Step.{Step}
use Rattle.certificate.specs.declared.standing.Step.TheVariants as step
use Rattle.certificate.specs.declared.checking.Verdict.{Verdict}
use Rattle.certificate.specs.declared.checking.Verdict.TheVariants as verdict
use Rattle.certificate.specs.Frames.{Frame, is_fair, supposed, contrary}
use Rattle.certificate.specs.Knowledge.{Cell, Known, with_pair, with_excluded, with_found, with_present}
use Rattle.certificate.specs.Numbers.{is_overfull, is_lacking, is_too_many, is_too_few}
use Rattle.certificate.specs.Recorded.{Recording, board}
use Rattle.certificate.specs.Rules.{is_joined, is_source, is_later, is_earlier, is_common, is_needless, is_found, is_cycle, is_sourceless, is_wayless}

-- Where a reader of a certificate stands: what is known, under what supposition, and what was known and supposed around it, the innermost first.
pub record Standing (S P : Type 0) : Type 0 where
  pub outer : List (Frame S P)
  pub known : Known S P
  pub assumed : Option Assumption

-- What comes of a line: it doesn't hold; or it does, and the reader stands here now; or it is the contradiction at the end.
pub data Outcome (S P : Type 0) : Type 0 where
  Wrong : Outcome S P
  On : Standing S P → Outcome S P
  Closed : Outcome S P

-- Suppositions stand within one another, so many at most.
abbrev pub most_suppositions : ℕ
most_suppositions = 64

-- what a contradiction is around which nothing is known or supposed
abbrev pub ended : Option Assumption → Step
ended None = step.Closed
ended (Some a) = step.Wrong

module _ {S P : Type 0} where
  -- nothing is known yet
  abbrev pub beginning : Standing S P
  beginning = record { outer = []; known = record { pairs = []; excluded = []; findings = []; present = []; absent = [] }; assumed = None }

  -- what a line tells by a rule is known, if the rule tells it
  abbrev pub told : Standing S P → Bool → Known S P → Outcome S P
  told s holds k = if holds then On (record s { known = k }) else Wrong

  -- one supposition more
  abbrev pub opened : Standing S P → Assumption → Standing S P
  opened s a = record { outer = record { known = s.known; assumed = s.assumed } ∷ s.outer; known = supposed s.known a; assumed = Some a }

  abbrev pub opening : Standing S P → Assumption → Outcome S P
  opening s a = if is_fair a && nat_lt (length s.outer) most_suppositions then On (opened s a) else Wrong

  -- A contradiction tells the contrary of what was supposed last; where nothing is supposed, it is the end.
  abbrev pub closed : List (Frame S P) → Option Assumption → Outcome S P
  closed [] None = Closed
  closed [] (Some a) = Wrong
  closed (f ∷ fs) None = Wrong
  closed (f ∷ fs) (Some a) = On (record { outer = fs; known = contrary f.known a; assumed = f.assumed })

  abbrev pub closing : Standing S P → Bool → Outcome S P
  closing s holds = if holds then closed s.outer s.assumed else Wrong

  -- what the step of a reader says that now stands here
  abbrev pub outcome_of : Step → Standing S P → Outcome S P
  outcome_of step.Wrong s = Wrong
  outcome_of step.On s = On s
  outcome_of step.Closed s = Closed

module _ {A : Type 0} (r : Recording A) where
  -- nobody leaves what the way with a number needs
  abbrev pub is_number_needless : Known (Option (Value A)) (Spot A) → ℕ → Cell (Spot A) → ℕ → Bool
  is_number_needless k y c n = option_map_or (λ w. is_needless (board r) k w c y) (slice_get ((board r).ways y c.spot) n) false

  -- what comes of a line
  abbrev pub next : Standing (Option (Value A)) (Spot A) → Line A → Outcome (Option (Value A)) (Spot A)
  next s (Joined x y z) = told s (is_joined (board r) s.known x y z) (with_pair s.known x z)
  next s (Source x y c) = told s (is_source (board r) s.known x y c) (with_present (with_pair s.known x y) x)
  next s (Later y x c) = told s (is_later (board r) s.known y x c) (with_pair s.known y x)
  next s (Earlier x z y c) = told s (is_earlier (board r) s.known x z y c) (with_pair s.known x z)
  next s (Common x y c) = told s (is_common (board r) s.known x y c) (with_pair s.known x y)
  next s (Needless y c n) = told s (is_number_needless s.known y c n) (with_excluded s.known y c.spot n)
  next s (Found y c v) = told s (is_found (board r) s.known v c y) (with_found s.known y c v)
  next s (Suppose a) = opening s a
  next s (Cycle x y) = closing s (is_cycle (board r) s.known x y)
  next s (Sourceless y c) = closing s (is_sourceless (board r) s.known c y)
  next s (Wayless y spot) = closing s (is_wayless (board r) s.known y spot)
  next s (TooMany y j spot n) = told s (is_too_many r s.known y j spot n) (with_excluded s.known y spot n)
  next s (TooFew y j spot n) = told s (is_too_few r s.known y j spot n) (with_excluded s.known y spot n)
  next s (Overfull y j) = closing s (is_overfull r s.known y j)
  next s (Lacking y j) = closing s (is_lacking r s.known y j)

  -- what comes of the line at place n, and of those after it
  abbrev pub judged_on : Outcome (Option (Value A)) (Spot A) → ℕ → (Standing (Option (Value A)) (Spot A) → Verdict) → List (Line A) → Verdict
  judged_on Wrong n more lines = verdict.Refused n
  judged_on (On s) n more lines = more s
  judged_on Closed n more [] = verdict.Taken
  judged_on Closed n more (line ∷ lines) = verdict.Refused (n + 1)

  -- The verdict on the lines from place n on: a certificate is taken where each line holds, and the last is the contradiction at the end.
  abbrev pub judged : ℕ → Standing (Option (Value A)) (Spot A) → List (Line A) → Verdict
  judged n s [] = verdict.Refused n
  judged n s (line ∷ lines) = judged_on (next s line) n (λ t. judged (n + 1) t lines) lines
