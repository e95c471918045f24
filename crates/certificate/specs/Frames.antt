-- What is supposed, and what is known under it.
use Rattle.std.specs.Prelude.{◌≡◌, ◌≤◌, ℕ, ◌==◌, Bool, true, not, Option, Some, None, List, slice_get}
use Rattle.certificate.specs.declared.certificate.Assumption.{Assumption}
use Rattle.certificate.specs.declared.certificate.Assumption.TheVariants.{Before, Present, Absent}
use Rattle.certificate.specs.Board.{Board}
use Rattle.certificate.specs.Knowledge.{Known, with_pair, with_present, with_absent}
use Rattle.certificate.specs.Order.{Turn, Valid, IsBefore, IsThere}

-- What is known under what is supposed, and under all that the frames before it suppose. The first supposes nothing.
pub record Frame (S P : Type 0) : Type 0 where
  pub known : Known S P
  pub assumed : Option Assumption

-- its contrary can be told: nobody comes before himself
abbrev pub is_fair : Assumption → Bool
is_fair (Before x y) = not (x == y)
is_fair (Present x) = true
is_fair (Absent x) = true

module _ {S P : Type 0} where
  abbrev pub supposed : Known S P → Assumption → Known S P
  supposed k (Before x y) = with_pair k x y
  supposed k (Present x) = with_present k x
  supposed k (Absent x) = with_absent k x

  abbrev pub contrary : Known S P → Assumption → Known S P
  contrary k (Before x y) = with_pair k y x
  contrary k (Present x) = with_absent k x
  contrary k (Absent x) = with_present k x

module _ {W S P : Type 0} (b : Board W S P) (order : List ℕ) (turns : P → ℕ → Turn S) where
  -- what is supposed holds of the order
  abbrev pub IsSo : Assumption → Type 0
  IsSo (Before x y) = IsBefore b order turns x y
  IsSo (Present x) = IsThere b order turns x
  IsSo (Absent x) = IsThere b order turns x → ⊥

  abbrev pub IsAssumed : Option Assumption → Type 0
  IsAssumed None = Unit {0}
  IsAssumed (Some a) = IsSo a

  -- all is so that the frames up to one suppose
  abbrev pub AllAssumed : List (Frame S P) → ℕ → Type 0
  AllAssumed frames i = (j : ℕ) (f : Frame S P) → j ≤ i → slice_get frames j ≡ Some f → IsAssumed f.assumed

  -- What each frame knows holds where all is so that is supposed up to it.
  abbrev pub Sound : List (Frame S P) → Type 0
  Sound frames = (i : ℕ) (f : Frame S P) → slice_get frames i ≡ Some f → AllAssumed frames i → Valid b order turns f.known
