-- Lines that were done, one after the other.
use Rattle.std.proofs.Common.{◌≡◌, ◌∙◌, ◌+◌, ◌<◌, ℕ, List, [], ◌∷◌, ◌++◌, get_or, length, map, take, ap, append_assoc, refl, subst, sym}
use Rattle.std.proofs.lemmas.List.{append-nil, map-append, take_more}
use Rattle.terminal.specs.Terminals.{At, InTurn, UnlessEnded}

module _ {H : Type 0} (Done : List ℕ → At H → At H → List ℕ → Type 0) where
  -- one line more
  done-last : (p : At H) (xs : List (List ℕ)) (x : List ℕ) (q r : At H) (told more : List ℕ) → InTurn Done xs p q told → UnlessEnded q.has_quit Done x q r more → InTurn Done (xs ++ x ∷ []) p r (told ++ more)
  done-last p [] x q r told more so line = (
    r,
    more,
    [],
    subst (λ (z : At H). UnlessEnded z.has_quit Done x z r more) so.0 line,
    (refl, refl),
    ap (λ (t : List ℕ). t ++ more) so.1 ∙ sym (append-nil more),
  )
  done-last p (y ∷ ys) x q r told more so line = (
    so.0,
    so.1,
    so.2 ++ more,
    so.3,
    done-last so.0 ys x q r so.2 more so.4 line,
    ap (λ (t : List ℕ). t ++ more) so.5 ∙ append_assoc so.1 so.2 more,
  )

  -- The first n lines were done, and then the next.
  pub done_more : {L : Type 0} (f : L → List ℕ) (lines : List L) (n : ℕ) (line other : L) (p q r : At H) (told more : List ℕ)
      → n < length lines → line ≡ get_or lines n other → InTurn Done (map f (take n lines)) p q told → UnlessEnded q.has_quit Done (f line) q r more
      → InTurn Done (map f (take (n + 1) lines)) p r (told ++ more)
  done_more f lines n line other p q r told more lt at so next-line =
      let next = ap (λ ls. map f ls) (take_more lines n other lt ∙ ap (λ y. take n lines ++ y ∷ []) (sym at)) ∙ map-append f (take n lines) (line ∷ []) in
      subst (λ ls. InTurn Done ls p r (told ++ more)) (sym next) (done-last p (map f (take n lines)) (f line) q r told more so next-line)
