-- Lines and events of each session, counted; and the texts of sessions, one after the other.
use Rattle.std.proofs.Common.{◌≡◌, ◌==◌, refl, sym, ap, ◌∙◌, ℕ, suc, ◌+◌, ◌≤◌, ◌<◌, cond, get_or, List, [], ◌∷◌, ◌++◌, length, take, Option, Some, None, IfSome, IfNone, arith}
use Rattle.std.proofs.lemmas.List.{length_push}
use Rattle.std.proofs.lemmas.List.Filters.{length-filter_more}
use Rattle.history.specs.declared.event.Action.{Action}
use Rattle.history.specs.declared.event.Record.{Record}
use Rattle.history.specs.Answer.{answer}
use Rattle.history.specs.Opening.{Recorded}
use Rattle.explore.specs.declared.plan.Line.{Line}
use Rattle.explore.specs.Explored.{answered, events_of, line_counts, lines_of, place_of}
use Rattle.explore.specs.Texts.{replies_at, replies_of}

pub if_some : {X : Type 0} (P Q : X → Type 0) (r : Option X) → ((x : X) → P x → Q x) → IfSome r P → IfSome r Q
if_some P Q (Some x) f p = f x p
if_some P Q None f p = p

pub if_none : {X : Type 0} (P Q : Type 0) (r : Option X) → (P → Q) → IfNone r P → IfNone r Q
if_none P Q (Some x) f p = p
if_none P Q None f p = f p

module _ {A : Type 0} where
  pub none_counted : (lines : List (Line A)) → line_counts lines 0 ≡ []
  unfolding line_counts
  none_counted lines = refl

  pub one_more_counted : (lines : List (Line A)) (p : ℕ) → line_counts lines (p + 1) ≡ line_counts lines p ++ lines_of p lines ∷ []
  unfolding line_counts
  one_more_counted lines p = let e : p + 1 ≡ suc p = omega arith in ap (λ n. line_counts lines n) e

  pub none_told : (es : List (Record A)) → replies_of 0 es ≡ []
  unfolding replies_of
  none_told es = refl

  pub one_more_told : (es : List (Record A)) (p : ℕ) → replies_of (p + 1) es ≡ replies_of p es ++ replies_at p es
  unfolding replies_of
  one_more_told es p = let e : p + 1 ≡ suc p = omega arith in ap (λ n. replies_of n es) e

  -- one more event is looked at
  pub one_more_event : (es : List (Record A)) (p i n : ℕ) (e : Record A) → i < length es → e ≡ get_or es i e → n ≡ cond (place_of e.session == p) 1 0 → events_of p (take i es) + n ≡ events_of p (take (i + 1) es)
  one_more_event es p i n e lt at one =
      ap (λ m. events_of p (take i es) + m) (one ∙ ap (λ x. cond (place_of x.session == p) 1 0) at)
      ∙ sym (length-filter_more (λ x. place_of x.session == p) es i e lt)

  -- one more event is recorded
  pub one_more_recorded : (h k : Recorded A) (s : ℕ) (a : Action A) → k ≡ answered h s a → (length k.records ≤ length h.records + 1) × (k.most ≡ h.most)
  one_more_recorded h k s a e =
      let long : length k.records ≡ length h.records + 1 = ap (λ x. length x.records) e ∙ length_push h.records (record { session = s; action = a; reply = answer h.opening h.records s a }) in
      (omega (arith, long), ap (λ x. x.most) e)
