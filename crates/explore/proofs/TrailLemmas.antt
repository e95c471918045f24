-- Cores that are kept for orders with the same beginning.
use Rattle.std.proofs.Common.{◌≡◌, refl, sym, ap, subst, ◌∙◌, ℕ, zero, suc, ◌+◌, ◌<◌, ◌≤◌, Bool, true, false, cond, List, [], ◌∷◌, ◌++◌, drop, get_or, length, map, replicate, sum, take, Option, Some, None, Result, Ok, Err, arith}
use Rattle.std.specs.Prelude.{IfSome, OnOk, nat_le, filter}
use Rattle.std.specs.List.{AllByRecursion}
use Rattle.std.specs.Option.{option_to_list}
use Rattle.std.proofs.lemmas.Bool.{leb-true}
use Rattle.std.proofs.lemmas.List.{get_or_past}
use Rattle.value.proofs.Basics.{all-parts}
use Rattle.value.specs.declared.refusal.Refusal.{Refusal}
use Rattle.history.specs.declared.event.Record.{Record}
use Rattle.history.specs.Opening.{Recorded}
use Rattle.explore.specs.declared.plan.Line.{Line}
use Rattle.explore.specs.declared.trail.Saved.{Saved}
use Rattle.explore.specs.Cursors.{AreCursors}
use Rattle.explore.specs.Explored.{Explored, RunsTo, after_turn, after_turns, beginning, done, events_of, own_line, sessions, turns_of}
use Rattle.explore.specs.Replies.{AreReplies}
use Rattle.explore.specs.Trails.{IsSaved}
use Rattle.explore.proofs.Beginnings.{is_unbegun, is_most}
use Rattle.explore.proofs.CursorLemmas.{begin}
use Rattle.explore.proofs.EachOnce.{catalog_kept, same_catalog}

take_within : {X : Type 0} (m n : ℕ) (xs : List X) → m ≤ n → take m (take n xs) ≡ take m xs
take_within zero n xs le = refl
take_within (suc m) zero xs le = absurd (omega arith)
take_within (suc m) (suc n) [] le = refl
take_within (suc m) (suc n) (x ∷ xs) le = ap (λ ys. x ∷ ys) (take_within m n xs (omega arith))

-- what is left where the last, if any, has been taken off
pub all_left : {X : Type 0} (P : X → Type 0) (old new : List X) (o : Option X) → old ≡ new ++ option_to_list o → AllByRecursion P old → AllByRecursion P new
all_left P old new o items all = (all-parts P new (option_to_list o) (subst (AllByRecursion P) items all)).0

-- the last, which has been taken off
pub last_of : {X : Type 0} (P : X → Type 0) (old new : List X) (o : Option X) (x : X) → old ≡ new ++ option_to_list o → o ≡ Some x → AllByRecursion P old → P x
last_of P old new o x items some all = (all-parts P new (x ∷ []) (subst (AllByRecursion P) (items ∙ ap (λ q. new ++ option_to_list q) some) all)).1.0

pub if_some : {X : Type 0} (P : X → Type 0) (o : Option X) (x : X) → o ≡ Some x → IfSome o P → P x
if_some P o x some is = subst (λ q. IfSome q P) some is

pub on_ok : {X E : Type 0} (P : Type 0) (r : Result X E) → P → OnOk r P
on_ok P (Ok x) p = p
on_ok P (Err e) p = tt

take_whole : {X : Type 0} (n : ℕ) (xs : List X) → length xs ≤ n → take n xs ≡ xs
take_whole zero [] le = refl
take_whole (suc n) [] le = refl
take_whole zero (x ∷ xs) le = absurd (omega arith)
take_whole (suc n) (x ∷ xs) le = ap (λ ys. x ∷ ys) (take_whole n xs (omega arith))

take_first : {X : Type 0} (xs ys : List X) → take (length xs) (xs ++ ys) ≡ xs
take_first [] ys = refl
take_first (x ∷ xs) ys = ap (λ zs. x ∷ zs) (take_first xs ys)

module _ {A : Type 0} where
  turns_more : (lines : List (Line A)) (h : Recorded A) (order : List ℕ) (i p : ℕ) → i < length order → p ≡ get_or order i p → after_turns lines h (take (suc i) order) ≡ after_turn lines (after_turns lines h (take i order)) p
  turns_more lines h [] i p lt at = absurd (omega arith)
  turns_more lines h (q ∷ order) zero p lt at = ap (after_turn lines h) (sym at)
  turns_more lines h (q ∷ order) (suc i) p lt at = turns_more lines (after_turn lines h q) order i p (omega arith) at

  -- a core is kept for an order that begins alike
  follows : (e : Explored A) (old new : List ℕ) (n : ℕ) (s : Saved A) → take n old ≡ take n new → n ≤ length new → IsSaved e old s → s.turns ≤ n → IsSaved e new s
  follows e old new n s same within is few =
      let firsts : take s.turns old ≡ take s.turns new = sym (take_within s.turns n old few) ∙ ap (take s.turns) same ∙ take_within s.turns n new few in
      record { within = omega (arith, few, within); ran = subst (λ turns. RunsTo e turns s.core) firsts is.ran; told = is.told; cursors = is.cursors; few = is.few; most = is.most; catalog = is.catalog }

  pub all_follow : (e : Explored A) (old new : List ℕ) (n : ℕ) (saved : List (Saved A)) → take n old ≡ take n new → n ≤ length new → AllByRecursion (IsSaved e old) saved → AllByRecursion (IsSaved e new) (filter (λ s. nat_le s.turns n) saved)
  all_follow e old new n [] same within all = tt
  all_follow e old new n (s ∷ saved) same within all = go (nat_le s.turns n) refl (all_follow e old new n saved same within all.1)
    where
      left : List (Saved A)
      left = filter (λ s. nat_le s.turns n) saved

      go : (b : Bool) → nat_le s.turns n ≡ b → AllByRecursion (IsSaved e new) left → AllByRecursion (IsSaved e new) (cond b (s ∷ left) left)
      go true few rest = (follows e old new n s same within all.0 (leb-true s.turns n few), rest)
      go false few rest = rest

  -- nobody is told anything before the first event
  no_replies : (es : List (Record A)) → es ≡ [] → AreReplies es []
  no_replies es none = subst (λ (xs : List (Record A)). AreReplies xs []) (sym none) (omega arith, λ p. get_or_past [] p [] (omega arith))

  before_done : (h : Recorded A) (o : Option (Line A)) → take (length h.records) (done h o).records ≡ h.records
  before_done h None = take_whole (length h.records) h.records (omega arith)
  before_done h (Some l) = take_first h.records _

  -- what was told before a turn
  pub told_before : (lines : List (Line A)) (h k : Recorded A) (p n : ℕ) (es : List (Record A)) (ts : List (List ℕ)) → k ≡ after_turn lines h p → n ≡ length h.records → es ≡ k.records → AreReplies h.records ts → AreReplies (take n es) ts
  told_before lines h k p n es ts came count same are =
      let firsts : take n es ≡ h.records =
      ap (take n) (same ∙ ap (λ (x : Recorded A). x.records) came)
      ∙ ap (λ (m : ℕ). take m (after_turn lines h p).records) count
      ∙ before_done h (own_line p (events_of p h.records) lines) in
      subst (λ xs. AreReplies xs ts) (sym firsts) are

  -- the next turn is done
  pub turn_done : (e : Explored A) (order : List ℕ) (s t : Saved A) (p : ℕ) → IsSaved e order s → s.turns < length order → p ≡ get_or order s.turns p → t.core ≡ after_turn e.lines s.core p → AreCursors e.lines t.core.records t.cursors
      → length t.core.records ≤ length s.core.records + 1 → t.core.most ≡ s.core.most → t.turns ≡ s.turns + 1 → AreReplies t.core.records t.told → IsSaved e order t
  turn_done e order s t p is lt at done cursors few most turns told =
      let next : t.turns ≡ suc s.turns = omega (arith, turns) in
      let came : t.core ≡ after_turns e.lines is.ran.0 (take (suc s.turns) order) = done ∙ ap (λ (h : Recorded A). after_turn e.lines h p) is.ran.2 ∙ sym (turns_more e.lines is.ran.0 order s.turns p lt at) in
      record {
        within = omega (arith, turns, lt);
        ran = subst (λ n. RunsTo e (take n order) t.core) (sym next) (is.ran.0, is.ran.1, came);
        told = told;
        cursors = cursors;
        few = omega (arith, few, is.few, turns);
        most = most ∙ is.most;
        catalog = ap (λ (h : Recorded A). h.opening.catalog) done ∙ catalog_kept e.setup.opening.catalog e.lines s.core p is.catalog;
      }

  -- no turn is done
  pub none_done : (e : Explored A) (order : List ℕ) (s : Saved A) → beginning e ≡ Ok s.core → s.told ≡ [] → s.cursors ≡ replicate sessions 0 → s.turns ≡ 0 → IsSaved e order s
  none_done e order s begun told cursors none =
      let unbegun = is_unbegun e s.core begun in
      let no_events : length s.core.records ≡ 0 = ap length unbegun in
      record {
        within = omega (arith, none);
        ran = subst (λ n. RunsTo e (take n order) s.core) (sym none) (s.core, begun, refl);
        told = subst (λ ts. AreReplies s.core.records ts) (sym told) (no_replies s.core.records unbegun);
        cursors = subst (λ cs. AreCursors e.lines s.core.records cs) (sym cursors) (subst (λ es. AreCursors e.lines es (replicate sessions 0)) (sym unbegun) (begin e.lines sessions));
        few = omega (arith, no_events);
        most = is_most e s.core begun;
        catalog = same_catalog e s.core begun;
      }

  -- all turns are done
  pub all_done : (e : Explored A) (order : List ℕ) (s : Saved A) → IsSaved e order s → length order ≤ s.turns → RunsTo e order s.core
  all_done e order s is all = subst (λ os. RunsTo e os s.core) (take_whole s.turns order all) is.ran
