-- Where a reader of a certificate stands, after what it knows or supposes is changed.
use Rattle.std.proofs.Common.{◌≡◌, refl, ap, ◌∙◌, Option, Some, None, List, [], ◌∷◌, length, reverse, arith}
use Rattle.certificate.specs.declared.certificate.Assumption.{Assumption}
use Rattle.certificate.specs.Certificates.{Standing, On, closed, ended, outcome_of}
use Rattle.certificate.specs.Frames.{Frame, contrary}
use Rattle.certificate.specs.Knowledge.{Known}

pub emptied : {T : Type 0} (xs : List T) → length xs ≡ 0 → reverse xs ≡ []
emptied [] e = refl
emptied (x ∷ xs) e = absurd (omega (arith, e))

module _ {S P : Type 0} where
  pub stood-at : {s : Standing S P} {f : Frame S P} (t : Standing S P) (h : Frame S P) (k : Known S P) (a : Assumption) → s ≡ t → f ≡ h → k ≡ contrary f.known a
      → On (record { outer = s.outer; known = k; assumed = f.assumed }) ≡ closed (h ∷ t.outer) (Some a)
  stood-at {s} {f} t h k a e d is =
      ap (λ (l : Known S P). On (record { outer = s.outer; known = l; assumed = f.assumed })) is
      ∙ ap (λ (u : Standing S P). On (record { outer = u.outer; known = contrary f.known a; assumed = f.assumed })) e
      ∙ ap (λ (u : Frame S P). On (record { outer = t.outer; known = contrary u.known a; assumed = u.assumed })) d

  pub ended-closed : (s : Standing S P) (o : Option Assumption) → outcome_of (ended o) s ≡ closed [] o
  ended-closed s None = refl
  ended-closed s (Some a) = refl
