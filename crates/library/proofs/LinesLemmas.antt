-- What lines do that are done one after the other.
use Rattle.std.proofs.Common.{◌≡◌, ℕ, ◌+◌, ◌<◌, ◌≤◌, List, [], ◌∷◌, ◌++◌, length, get_or, take, inl, inr, refl, sym, ap, subst, ◌∙◌, append_assoc}
use Rattle.std.proofs.lemmas.List.{append-nil, take_more, take_all}
use Rattle.std.proofs.lemmas.Option.{slice_get_read}
use Rattle.history.specs.Opening.{Recorded}
use Rattle.script.specs.declared.script.Line.{Line}
use Rattle.library.specs.declared.ending.End.{End}
use Rattle.library.specs.declared.ending.End.TheVariants as end
use Rattle.library.specs.declared.manner.Manner.{Manner}
use Rattle.library.specs.Doing.{AreDone, HasRun, HasStopped, IsDone, LinesAreDone, Stops, order_text}

module _ {H S : Type 0} where
  -- one more step was done after the others
  done_more : (does : H → S → H → List ℕ → Type 0) (h m k : H) (xs : List S) (x : S) (t u : List ℕ) → AreDone does h xs m t → does m x k u → AreDone does h (xs ++ x ∷ []) k (t ++ u)
  done_more does h m k [] x t u done step =
      let from : does h x k u = subst (λ (w : H). does w x k u) done.0 step in
      (k, u, [], from, (refl, refl), ap (λ l. l ++ u) done.1 ∙ sym (append-nil u))
  done_more does h m k (y ∷ xs) x t u done step =
      (done.0, done.1, done.2 ++ u, done.3, done_more does done.0 m k xs x done.2 u done.4 step, ap (λ l. l ++ u) done.5 ∙ append_assoc done.1 done.2 u)

module _ {A : Type 0} where
  -- one line more was done
  pub one_more : (m : Manner) (h j k : Recorded A) (lines : List (Line A)) (n : ℕ) (line : Line A) (text output shown after : List ℕ)
      → n < length lines → line ≡ get_or lines n line → LinesAreDone m h (take n lines) j text → IsDone m j line.step k output → shown ≡ output → after ≡ text ++ shown → LinesAreDone m h (take (n + 1) lines) k after
  one_more m h j k lines n line text output shown after lt at so done is all =
      let does : Recorded A → Line A → Recorded A → List ℕ → Type 0 = λ h line k text. IsDone m h line.step k text in
      let next : take (n + 1) lines ≡ take n lines ++ line ∷ [] = take_more lines n line lt ∙ ap (λ y. take n lines ++ y ∷ []) (sym at) in
      subst (λ t. AreDone does h (take (n + 1) lines) k t) (sym (all ∙ ap (λ s. text ++ s) is))
      (subst (λ ls. AreDone does h ls k (text ++ output)) (sym next) (done_more does h j k (take n lines) line text output so done))

  -- Lines end once n of them are done, out of memory.
  pub stopped_by_memory : (m : Manner) (h k : Recorded A) (lines : List (Line A)) (n : ℕ) (e : End) (text after : List ℕ) → LinesAreDone m h (take n lines) k text → after ≡ text → e ≡ end.Memory → HasStopped m h lines e after
  stopped_by_memory m h k lines n e text after so is memory = (n, k, subst (λ t. LinesAreDone m h (take n lines) k t) (sym is) so, inl memory)

  -- They end by a line.
  pub stopped_by_line : (m : Manner) (h k : Recorded A) (lines : List (Line A)) (n : ℕ) (line : Line A) (e : End) (text : List ℕ) → n < length lines → line ≡ get_or lines n line → LinesAreDone m h (take n lines) k text → Stops line e → HasStopped m h lines e text
  stopped_by_line m h k lines n line e text lt at so stops = (n, k, so, inr (line, slice_get_read lines (length lines) n line refl lt at, stops))

  -- All lines were done.
  pub has_run : (m : Manner) (h k : Recorded A) (lines : List (Line A)) (n : ℕ) (text shown after : List ℕ) → length lines ≤ n → LinesAreDone m h (take n lines) k text → shown ≡ order_text m.shown k → after ≡ text ++ shown → HasRun m h lines after
  has_run m h k lines n text shown after le so is all =
      (k, text, subst (λ ls. LinesAreDone m h ls k text) (take_all n lines le) so, all ∙ ap (λ s. text ++ s) is)
