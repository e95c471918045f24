-- What is known stays sound, line by line; so a certificate that is taken leaves no order.
use Rattle.std.proofs.Common.{◌≡◌, refl, sym, ap, subst, ◌∙◌, ◌+◌, ◌<◌, ◌++◌, ℕ, zero, suc, Bool, true, false, true≢false, ◌&&◌, if◌then◌else◌, nat_lt, List, [], ◌∷◌, length, length-drop, drop, get_or, slice_get, Option, Some, None, ◌-◌, ◌==◌, eq-eqb, arith}
use Rattle.std.proofs.lemmas.Bool.{and_parts, ne_eqb}
use Rattle.std.proofs.lemmas.List.{drop_more}
use Rattle.std.proofs.lemmas.Option.{same_Some}
use Rattle.std.specs.Option.{option_map_or}
use Rattle.value.specs.declared.value.Value.{Value}
use Rattle.schema.specs.Plain.{is_sound}
use Rattle.orders.specs.Explains.{Unexplained, all_fit}
use Rattle.orders.specs.declared.ways.way.Way.{Way}
use Rattle.certificate.specs.declared.certificate.Assumption.{Assumption}
use Rattle.certificate.specs.declared.certificate.Line.{Line}
use Rattle.certificate.specs.declared.certificate.Line.TheVariants.{Joined, Source, Later, Earlier, Common, Needless, Found, Suppose, Cycle, Sourceless, Wayless, TooMany, TooFew, Overfull, Lacking}
use Rattle.certificate.specs.declared.checking.Verdict.{Verdict}
use Rattle.certificate.specs.declared.checking.Verdict.TheVariants as verdict
use Rattle.certificate.specs.declared.known.Spot.{Spot}
use Rattle.certificate.specs.Board.{Board}
use Rattle.certificate.specs.Certificates.{Standing, Outcome, Wrong, On, Closed, most_suppositions, beginning, told, opened, opening, closed, closing, is_number_needless, next, judged_on, judged}
use Rattle.certificate.specs.Frames.{Frame, is_fair, Sound}
use Rattle.certificate.specs.Knowledge.{Cell, Known, with_pair, with_excluded, with_found, with_present}
use Rattle.certificate.specs.Numbers.{is_overfull, is_lacking, is_too_many, is_too_few}
use Rattle.certificate.specs.Order.{Turn, Play, Exact, Valid, IsBefore, IsThere, IsExcluded, IsFound}
use Rattle.certificate.specs.Recorded.{Recording, board}
use Rattle.certificate.specs.Rules.{is_joined, is_source, is_later, is_earlier, is_common, is_needless, is_found, is_cycle, is_sourceless, is_wayless}
use Rattle.certificate.proofs.FrameLemmas.{among-more, sound-told, sound-more, sound-closed, sound-first}
use Rattle.certificate.proofs.NumberLemmas as numbers
use Rattle.certificate.proofs.PlayLemmas.{play-of, turns_of}
use Rattle.certificate.proofs.RecordingLemmas.{board-exact}
use Rattle.certificate.proofs.RuleLemmas as rules

module _ {W S P : Type 0} (b : Board W S P) (order : List ℕ) (turns : P → ℕ → Turn S) (play : Play b order turns) where
  -- ---- one fact more

  pub pair-valid : (k : Known S P) (x y : ℕ) → Valid b order turns k → IsBefore b order turns x y → Valid b order turns (with_pair k x y)
  pair-valid k x y v h = record {
    pairs = among-more (λ p. IsBefore b order turns p.0 p.1) (x, y) k.pairs h v.pairs;
    excluded = v.excluded;
    findings = v.findings;
    present = v.present;
    absent = v.absent;
  }

  pub present-valid : (k : Known S P) (x : ℕ) → Valid b order turns k → IsThere b order turns x → Valid b order turns (with_present k x)
  present-valid k x v h = record {
    present = among-more (IsThere b order turns) x k.present h v.present;
    pairs = v.pairs;
    excluded = v.excluded;
    findings = v.findings;
    absent = v.absent;
  }

  pub excluded-valid : (k : Known S P) (x : ℕ) (s : P) (n : ℕ) → Valid b order turns k → IsExcluded b order turns (record { place = x; spot = s; way = n }) → Valid b order turns (with_excluded k x s n)
  excluded-valid k x s n v h = record {
    excluded = among-more (IsExcluded b order turns) (record { place = x; spot = s; way = n }) k.excluded h v.excluded;
    pairs = v.pairs;
    findings = v.findings;
    present = v.present;
    absent = v.absent;
  }

  pub found-valid : (k : Known S P) (x : ℕ) (c : Cell P) (s : S) → Valid b order turns k → IsFound b order turns (record { place = x; cell = c; state = s }) → Valid b order turns (with_found k x c s)
  found-valid k x c s v h = record {
    findings = among-more (IsFound b order turns) (record { place = x; cell = c; state = s }) k.findings h v.findings;
    pairs = v.pairs;
    excluded = v.excluded;
    present = v.present;
    absent = v.absent;
  }

  -- ---- where a reader stands

  -- the frames around the innermost one, the outermost first
  abbrev around : List (Frame S P) → List (Frame S P)
  around [] = []
  around (f ∷ fs) = around fs ++ f ∷ []

  abbrev inner : Standing S P → Frame S P
  inner s = record { known = s.known; assumed = s.assumed }

  -- what is supposed is fair
  abbrev IsFairOne : Option Assumption → Type 0
  IsFairOne None = Unit {0}
  IsFairOne (Some a) = is_fair a ≡ true

  abbrev AreFair : List (Frame S P) → Type 0
  AreFair [] = Unit {0}
  AreFair (f ∷ fs) = IsFairOne f.assumed × AreFair fs

  -- what is known there is sound
  pub record IsSound (s : Standing S P) : Type 0 where
    pub sound : Sound b order turns (around s.outer ++ inner s ∷ [])
    pub fair : IsFairOne s.assumed
    pub outer : AreFair s.outer

  -- what comes of a line is: nothing is said where it doesn't hold, and the end can't be reached
  abbrev pub IsGood : Outcome S P → Type 0
  IsGood Wrong = Unit {0}
  IsGood (On s) = IsSound s
  IsGood Closed = ⊥

  told-good : (s : Standing S P) (holds : Bool) (k : Known S P) → IsSound s → (holds ≡ true → Valid b order turns s.known → Valid b order turns k) → IsGood (told s holds k)
  told-good s false k good h = tt
  told-good s true k good h = record {
    sound = sound-told b order turns play (around s.outer) (inner s) k (h refl) good.sound;
    fair = good.fair;
    outer = good.outer;
  }

  opening-good : (s : Standing S P) (a : Assumption) → IsSound s → IsGood (opening s a)
  opening-good s a good = go (is_fair a && nat_lt (length s.outer) most_suppositions) refl
    where
      go : (t : Bool) → (is_fair a && nat_lt (length s.outer) most_suppositions) ≡ t → IsGood (if t then On (opened s a) else Wrong)
      go false e = tt
      go true e = record {
        sound = sound-more b order turns play (around s.outer) (inner s) a good.sound;
        fair = (and_parts (is_fair a) (nat_lt (length s.outer) most_suppositions) e).0;
        outer = (good.fair, good.outer);
      }

  closed-good : (fs : List (Frame S P)) (k : Known S P) (o : Option Assumption) → Sound b order turns (around fs ++ record { known = k; assumed = o } ∷ []) → IsFairOne o → AreFair fs
      → (Valid b order turns k → ⊥) → IsGood (closed fs o)
  closed-good [] k None sound fair outer refute = sound-first b order turns play (record { known = k; assumed = None }) refl refute sound
  closed-good [] k (Some a) sound fair outer refute = tt
  closed-good (f ∷ fs) k None sound fair outer refute = tt
  closed-good (f ∷ fs) k (Some a) sound fair outer refute = record {
    sound = sound-closed b order turns play (around fs) f (record { known = k; assumed = Some a }) a refl fair refute sound;
    fair = outer.0;
    outer = outer.1;
  }

  closing-good : (s : Standing S P) (holds : Bool) → IsSound s → (holds ≡ true → Valid b order turns s.known → ⊥) → IsGood (closing s holds)
  closing-good s false good refute = tt
  closing-good s true good refute = closed-good s.outer s.known s.assumed good.sound good.fair good.outer (refute refl)

  pub beginning-sound : IsSound beginning
  beginning-sound = record { sound = λ i f e all. go i f e; fair = tt; outer = tt }
    where
      nothing : Valid b order turns (record { pairs = []; excluded = []; findings = []; present = []; absent = [] })
      nothing = record {
        pairs = λ p a. absurd a;
        excluded = λ e a. absurd a;
        findings = λ f a. absurd a;
        present = λ x a. absurd a;
        absent = λ x a. absurd a;
      }

      go : (i : ℕ) (f : Frame S P) → slice_get (inner beginning ∷ []) i ≡ Some f → Valid b order turns f.known
      go zero f e = subst (λ (g : Frame S P). Valid b order turns g.known) (same_Some (inner beginning) f e) nothing
      go (suc i) f e = cc

module _ {A : Type 0} (r : Recording A) (order : List ℕ) (turns : Spot A → ℕ → Turn (Option (Value A))) (play : Play (board r) order turns) where
  exact : Exact (board r)
  exact = board-exact r.catalog r.opening r.transactions

  needless-found : (k : Known (Option (Value A)) (Spot A)) → Valid (board r) order turns k → (y n : ℕ) (c : Cell (Spot A)) (o : Option (Way A)) → slice_get ((board r).ways y c.spot) n ≡ o
      → option_map_or (λ w. is_needless (board r) k w c y) o false ≡ true → IsExcluded (board r) order turns (record { place = y; spot = c.spot; way = n })
  needless-found k v y n c None at h = absurd (true≢false (sym h))
  needless-found k v y n c (Some w) at h = rules.needless-excluded (board r) exact order turns play k v w n c.spot c.column y at h

  next-good : (s : Standing (Option (Value A)) (Spot A)) (line : Line A) → IsSound (board r) order turns play s → IsGood (board r) order turns play (next r s line)
  next-good s (Joined x y z) g = told-good (board r) order turns play s (is_joined (board r) s.known x y z) (with_pair s.known x z) g
      (λ h v. pair-valid (board r) order turns play s.known x z v (rules.joined-holds (board r) exact order turns play s.known v x y z h))
  next-good s (Source x y c) g = told-good (board r) order turns play s (is_source (board r) s.known x y c) (with_present (with_pair s.known x y) x) g
      (λ h v. present-valid (board r) order turns play (with_pair s.known x y) x
      (pair-valid (board r) order turns play s.known x y v (rules.source-before (board r) exact order turns play s.known v x y c h))
      (rules.source-there (board r) exact order turns play s.known v x y c h))
  next-good s (Later y x c) g = told-good (board r) order turns play s (is_later (board r) s.known y x c) (with_pair s.known y x) g
      (λ h v. pair-valid (board r) order turns play s.known y x v (rules.later-holds (board r) exact order turns play s.known v y x c h))
  next-good s (Earlier x z y c) g = told-good (board r) order turns play s (is_earlier (board r) s.known x z y c) (with_pair s.known x z) g
      (λ h v. pair-valid (board r) order turns play s.known x z v (rules.earlier-holds (board r) exact order turns play s.known v x z y c h))
  next-good s (Common x y c) g = told-good (board r) order turns play s (is_common (board r) s.known x y c) (with_pair s.known x y) g
      (λ h v. pair-valid (board r) order turns play s.known x y v (rules.common-holds (board r) exact order turns play s.known v x y c h))
  next-good s (Needless y c n) g = told-good (board r) order turns play s (is_number_needless r s.known y c n) (with_excluded s.known y c.spot n) g
      (λ h v. excluded-valid (board r) order turns play s.known y c.spot n v (needless-found s.known v y n c (slice_get ((board r).ways y c.spot) n) refl h))
  next-good s (Found y c u) g = told-good (board r) order turns play s (is_found (board r) s.known u c y) (with_found s.known y c u) g
      (λ h v. found-valid (board r) order turns play s.known y c u v (rules.found-holds (board r) exact order turns play s.known v u c y h))
  next-good s (Suppose a) g = opening-good (board r) order turns play s a g
  next-good s (Cycle x y) g = closing-good (board r) order turns play s (is_cycle (board r) s.known x y) g (λ h v. rules.no-cycle (board r) exact order turns play s.known v x y h)
  next-good s (Sourceless y c) g = closing-good (board r) order turns play s (is_sourceless (board r) s.known c y) g (λ h v. rules.not-sourceless (board r) exact order turns play s.known v c y h)
  next-good s (TooMany y j p n) g = told-good (board r) order turns play s (is_too_many r s.known y j p n) (with_excluded s.known y p n) g
      (λ h v. excluded-valid (board r) order turns play s.known y p n v (numbers.too-many-excluded r order turns play s.known v y j p n h))
  next-good s (TooFew y j p n) g = told-good (board r) order turns play s (is_too_few r s.known y j p n) (with_excluded s.known y p n) g
      (λ h v. excluded-valid (board r) order turns play s.known y p n v (numbers.too-few-excluded r order turns play s.known v y j p n h))
  next-good s (Overfull y j) g = closing-good (board r) order turns play s (is_overfull r s.known y j) g (λ h v. numbers.overfull-refutes r order turns play s.known v y j h)
  next-good s (Lacking y j) g = closing-good (board r) order turns play s (is_lacking r s.known y j) g (λ h v. numbers.lacking-refutes r order turns play s.known v y j h)
  next-good s (Wayless y p) g = closing-good (board r) order turns play s (is_wayless (board r) s.known y p) g (λ h v. rules.not-wayless (board r) exact order turns play s.known v y p h)

  judged-good : (lines : List (Line A)) (n : ℕ) (s : Standing (Option (Value A)) (Spot A)) → IsSound (board r) order turns play s → judged r n s lines ≡ verdict.Taken → ⊥
  judged-good [] n s g e = cc
  judged-good (line ∷ lines) n s g e = go (next r s line) (next-good s line g) (λ t h f. judged-good lines (n + 1) t h f) e
    where
      go : (o : Outcome (Option (Value A)) (Spot A)) → IsGood (board r) order turns play o → ((t : Standing (Option (Value A)) (Spot A)) → IsSound (board r) order turns play t → judged r (n + 1) t lines ≡ verdict.Taken → ⊥)
          → judged_on r o n (λ t. judged r (n + 1) t lines) lines ≡ verdict.Taken → ⊥
      go Wrong h more f = cc
      go (On t) h more f = more t h f
      go Closed h more f = absurd h

module _ {A : Type 0} (r : Recording A) where
  -- what is taken leaves no order
  pub taken-refutes : (lines : List (Line A)) → judged r 0 beginning lines ≡ verdict.Taken → all_fit r.catalog r.transactions ≡ true → is_sound r.catalog r.opening ≡ true → Unexplained r.catalog r.opening r.transactions
  taken-refutes lines e fit sound = λ order h.
      let play = play-of r.catalog r.transactions r.opening order fit sound h in
      judged-good r order (turns_of r.catalog r.transactions order r.opening h.in_turn) play lines 0 beginning (beginning-sound (board r) order (turns_of r.catalog r.transactions order r.opening h.in_turn) play) e

  -- ---- line by line

  pub judged-next : (lines : List (Line A)) (i : ℕ) (line : Line A) (s : Standing (Option (Value A)) (Spot A)) (o : Outcome (Option (Value A)) (Spot A)) → i < length lines → line ≡ get_or lines i line → o ≡ next r s line
      → judged r i s (drop i lines) ≡ judged_on r o i (λ t. judged r (i + 1) t (drop (i + 1) lines)) (drop (i + 1) lines)
  judged-next lines i line s o l e is =
      ap (judged r i s) (drop_more lines i line l)
      ∙ ap (λ x. judged_on r (next r s x) i (λ t. judged r (i + 1) t (drop (i + 1) lines)) (drop (i + 1) lines)) (sym e)
      ∙ ap (λ x. judged_on r x i (λ t. judged r (i + 1) t (drop (i + 1) lines)) (drop (i + 1) lines)) (sym is)

  pub judged-none : (lines : List (Line A)) (i : ℕ) (s : Standing (Option (Value A)) (Spot A)) → i ≡ length lines → judged r i s (drop i lines) ≡ verdict.Refused (length lines)
  judged-none lines i s e = go (drop i lines) (length-drop i lines)
    where
      go : (ls : List (Line A)) → length ls ≡ length lines - i → judged r i s ls ≡ verdict.Refused (length lines)
      go [] h = ap verdict.Refused e
      go (x ∷ xs) h = absurd (omega (arith, h, e))

  pub closed-at : (lines : List (Line A)) (i : ℕ) (more : Standing (Option (Value A)) (Spot A) → Verdict) → i < length lines
      → judged_on r Closed i more (drop (i + 1) lines) ≡ (if i + 1 == length lines then verdict.Taken else verdict.Refused (i + 1))
  closed-at lines i more l = go (drop (i + 1) lines) (length-drop (i + 1) lines)
    where
      go : (ls : List (Line A)) → length ls ≡ length lines - (i + 1) → judged_on r Closed i more ls ≡ (if i + 1 == length lines then verdict.Taken else verdict.Refused (i + 1))
      go [] h = sym (ap (λ t. if t then verdict.Taken else verdict.Refused (i + 1)) (eq-eqb (i + 1) (length lines) (omega (arith, h, l))))
      go (x ∷ xs) h = sym (ap (λ t. if t then verdict.Taken else verdict.Refused (i + 1)) (ne_eqb (i + 1) (length lines) (λ e. absurd (omega (arith, h, e)))))
