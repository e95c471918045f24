-- Conversations that go on, one exchange after the other.
use Rattle.std.proofs.Common.{◌≡◌, ◌∙◌, ℕ, List, [], ◌∷◌, ◌++◌, Result, Ok, Err, IfOk, refl, sym, ap, subst, append_assoc}
use Rattle.std.proofs.lemmas.List.{append-nil}
use Rattle.shell.specs.declared.conversation.heard.Heard.{Heard}
use Rattle.shell.specs.declared.conversation.conversing.End.{End}
use Rattle.shell.specs.Turns.{Turn, Exchange, Answered, Converses, EndsIn, Exchanges, GoesOn, HasExchanged, IsEnded, Tells, turns_of}
use Rattle.shell.specs.Turns.Turn.{Hears, Told}

module _ {H : Type 0} (answers : H → List ℕ → H → List ℕ → Type 0) where
  -- something was read, and then its answer was written
  pub exchanged : (p : H) (h : Heard) (line : List ℕ) (q : H) (before mid after : List Turn) → mid ≡ before ++ Hears h line ∷ [] → Tells answers p h line q mid after → HasExchanged answers p before q after
  exchanged p h line q before mid after e t =
      let x : Exchange = record { heard = h; line = line; text = t.0 } in
      (x, t.1, t.2 ∙ ap (λ (l : List Turn). l ++ Told t.0 ∷ []) e ∙ append_assoc before (Hears h line ∷ []) (Told t.0 ∷ []))

  pub exchanged-ok : {E : Type 0} (p : H) (h : Heard) (line : List ℕ) (before mid after : List Turn) (r : Result H E) → mid ≡ before ++ Hears h line ∷ [] → IfOk r (λ q. Tells answers p h line q mid after) → IfOk r (λ q. HasExchanged answers p before q after)
  exchanged-ok p h line before mid after (Ok q) e t = exchanged p h line q before mid after e t
  exchanged-ok p h line before mid after (Err x) e t = t

  -- the turns of one exchange more
  turns-last : (xs : List Exchange) (x : Exchange) → turns_of (xs ++ x ∷ []) ≡ turns_of xs ++ turns_of (x ∷ [])
  turns-last [] x = refl
  turns-last (y ∷ ys) x = ap (λ (l : List Turn). Hears y.heard y.line ∷ Told y.text ∷ l) (turns-last ys x)

  exchanges-last : (p : H) (xs : List Exchange) (q : H) (x : Exchange) (r : H) → Exchanges answers p xs q → Answered answers q x.heard x.line r x.text → Exchanges answers p (xs ++ x ∷ []) r
  exchanges-last p [] q x r e a = (r, subst (λ (z : H). Answered answers z x.heard x.line r x.text) e a, refl)
  exchanges-last p (y ∷ ys) q x r e a = (e.0, e.1, exchanges-last e.0 ys q x r e.2 a)

  -- nothing was exchanged yet
  pub not-yet : (p : H) (before : List Turn) → GoesOn answers p before p before
  not-yet p before = ([], refl, sym (append-nil before))

  -- one exchange more
  pub once-more : (p : H) (before : List Turn) (q : H) (mid : List Turn) (r : H) (after : List Turn) → GoesOn answers p before q mid → HasExchanged answers q mid r after → GoesOn answers p before r after
  once-more p before q mid r after g x = (
    g.0 ++ x.0 ∷ [],
    exchanges-last p g.0 q x.0 r g.1 x.1,
    x.2 ∙ ap (λ (l : List Turn). l ++ turns_of (x.0 ∷ [])) g.2 ∙ append_assoc before (turns_of g.0) (turns_of (x.0 ∷ [])) ∙ ap (λ (l : List Turn). before ++ l) (sym (turns-last g.0 x.0)),
  )

  -- it ends
  pub ended : (p : H) (before : List Turn) (q : H) (mid : List Turn) (e : End) (after : List Turn) → GoesOn answers p before q mid → EndsIn e mid after → Converses answers p before e after
  ended p before q mid e after g n =
      (g.0, q, n.0, g.1, n.2 ∙ ap (λ (l : List Turn). l ++ n.0) g.2, n.1)
