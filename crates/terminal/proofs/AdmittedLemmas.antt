-- How many sessions have transactions.
use Rattle.std.proofs.Common.{◌≡◌, ap, sym, ◌∙◌, ℕ, zero, suc, ◌+◌, ◌≤◌, true, Option, Some, None, arith}
use Rattle.std.proofs.lemmas.Bool.{le-leb}
use Rattle.history.specs.Opening.{Recorded}
use Rattle.shell.specs.Shells.{Held}
use Rattle.terminal.specs.Admitted.{has_room, has_room_on, left_of, one_at, one_in, one_of, open_in}
use Rattle.terminal.specs.Marks.{mark_in}
use Rattle.terminal.specs.Typing.{session_of}
use Rattle.terminal.specs.declared.marks.Mark.{Mark}
use Rattle.terminal.specs.declared.marks.Mark.TheVariants as mark

at_most_one : (m : Mark) → one_of m ≤ 1
at_most_one mark.Idle = omega arith
at_most_one mark.Open = omega arith
at_most_one mark.Failed = omega arith

module _ {A : Type 0} where
  one_more : (p : Held A) (o : Option ℕ) → one_in p o ≤ 1
  one_more p None = omega arith
  one_more p (Some s) = at_most_one (mark_in p s)

  -- at most as many as there are
  pub few_open : (p : Held A) (n : ℕ) → open_in p n ≤ n
  few_open p zero = omega arith
  few_open p (suc n) = omega (arith, few_open p n, one_more p (session_of (suc n)))

  -- with one session more
  pub open_more : (p : Held A) (n m k : ℕ) → m ≡ open_in p n → k ≡ one_at p (n + 1) → m + k ≡ open_in p (n + 1)
  open_more p n m k so one =
      let next : n + 1 ≡ suc n = omega arith in
      ap (λ (x : ℕ). x + k) so ∙ ap (λ (x : ℕ). open_in p n + x) (one ∙ ap (one_at p) next) ∙ ap (open_in p) (sym next)

  -- where much is left there is room, whatever the sessions do
  pub ample : (p : Held A) (h : Recorded A) (n left : ℕ) → p.core ≡ Some h → n ≤ 64 → 128 ≤ left → left ≡ left_of h → true ≡ has_room p n
  ample p h n left some few much is =
      let within : open_in p 64 + n ≤ left_of h = omega (arith, few_open p 64, few, much, is) in
      sym (ap (λ (o : Option (Recorded A)). has_room_on o p n) some ∙ le-leb (open_in p 64 + n) (left_of h) within)
