-- Locks of one transaction, and of others.
use Rattle.std.proofs.Common.{◌≡◌, refl, sym, ap, ℕ, Bool, true, false, cond, List, [], ◌++◌, eqb, ltb, Option, Some, Result, Ok, Err}
use Rattle.std.proofs.lemmas.Bool.{ne_eqb}
use Rattle.std.specs.Prelude.{◌≢◌, OnOk}
use Rattle.std.specs.Option.{option_map_or}
use Rattle.std.specs.declared.cmp.Ordering.TheVariants.{Less, Equal, Greater}
use Rattle.std.specs.Ordering.{is_eq, nat_cmp}
use Rattle.statement.specs.declared.reading.Reading.{Reading}
use Rattle.siread.specs.Reads.{Reads, CoverAlike, all_of, before_of, held_by, reads_of}
use Rattle.siread.proofs.AlikeLemmas.{alike_equal, alike_then}

-- two numbers don't tie
pub apart-tie : (n m : ℕ) → m ≢ n → is_eq (nat_cmp n m) ≡ false
apart-tie n m apart = go (ltb n m) (eqb n m) (ne_eqb n m (λ e. apart (sym e)))
  where
    go : (a b : Bool) → b ≡ false → is_eq (cond a Less (cond b Equal Greater)) ≡ false
    go true b e = refl
    go false b e = ap (λ c. is_eq (cond c Equal Greater)) e

pub on_ok_of : {T E : Type 0} (P : Type 0) (r : Result T E) → P → OnOk r P
on_ok_of P (Ok v) p = p
on_ok_of P (Err v) p = tt

module _ {A : Type 0} where
  all-held : (n : ℕ) (locks : List (ℕ × Reads A)) (h : Reads A) → Some h ≡ held_by n locks → all_of h ≡ reads_of n locks
  all-held n locks h e = ap (λ (o : Option (Reads A)). option_map_or all_of o []) e

  -- h was held, and w is now
  pub before-read : (n : ℕ) (old new : List (ℕ × Reads A)) (h w : Reads A) → Some h ≡ held_by n old → Some w ≡ held_by n new → CoverAlike w.before (all_of h) → CoverAlike (before_of n new) (reads_of n old)
  before-read n old new h w e f a =
      alike_then (before_of n new) w.before (reads_of n old)
      (alike_equal (before_of n new) w.before (sym (ap (λ (o : Option (Reads A)). option_map_or (λ r. r.before) o []) f)))
      (alike_then w.before (all_of h) (reads_of n old) a (alike_equal (all_of h) (reads_of n old) (all-held n old h e)))

  pub all-read : (n : ℕ) (old new : List (ℕ × Reads A)) (h w : Reads A) (footprint : List (Reading A)) → Some h ≡ held_by n old → Some w ≡ held_by n new → CoverAlike (all_of w) (all_of h ++ footprint)
      → CoverAlike (reads_of n new) (reads_of n old ++ footprint)
  all-read n old new h w footprint e f a =
      alike_then (reads_of n new) (all_of w) (reads_of n old ++ footprint)
      (alike_equal (reads_of n new) (all_of w) (sym (all-held n new w f)))
      (alike_then (all_of w) (all_of h ++ footprint) (reads_of n old ++ footprint) a (alike_equal (all_of h ++ footprint) (reads_of n old ++ footprint) (ap (λ xs. xs ++ footprint) (all-held n old h e))))
