-- One more step.
use Rattle.std.proofs.Common.{ℕ, List, [], ◌∷◌, ◌++◌, refl, sym, ap, ◌∙◌, append_assoc, subst}
use Rattle.std.proofs.lemmas.List.{append-nil}
use Rattle.program.specs.Steps.{AreDone}

module _ {H S : Type 0} where
  pub done_none : (does : H → S → H → List ℕ → Type 0) (h : H) → AreDone does h [] h []
  done_none does h = (refl, refl)

  -- one more step was done after the others
  pub done_more : (does : H → S → H → List ℕ → Type 0) (h m k : H) (xs : List S) (x : S) (t u : List ℕ) → AreDone does h xs m t → does m x k u → AreDone does h (xs ++ x ∷ []) k (t ++ u)
  done_more does h m k [] x t u done step =
      let from : does h x k u = subst (λ (w : H). does w x k u) done.0 step in
      (k, u, [], from, (refl, refl), ap (λ l. l ++ u) done.1 ∙ sym (append-nil u))
  done_more does h m k (y ∷ xs) x t u done step =
      (done.0, done.1, done.2 ++ u, done.3, done_more does done.0 m k xs x done.2 u done.4 step, ap (λ l. l ++ u) done.5 ∙ append_assoc done.1 done.2 u)
