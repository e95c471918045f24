-- A transaction's locks go on covering what all its readings cover.
use Rattle.std.proofs.Common.{◌≡◌, ap, ◌∙◌, List, [], ◌∷◌, ◌++◌, Result, Ok, Err, OnErr}
use Rattle.std.proofs.lemmas.List.{append-nil}
use Rattle.std.proofs.lemmas.List.Concat.{flat_map-append}
use Rattle.std.specs.Prelude.{flat_map}
use Rattle.statement.specs.declared.reading.Reading.{Reading}
use Rattle.siread.specs.Reads.{CoverAlike, Reads, all_of}
use Rattle.siread.proofs.AlikeLemmas.{alike_equal, alike_more, alike_then}

pub on_err_so : {X E : Type 0} (P : Type 0) (r : Result X E) → P → OnErr r P
on_err_so P (Ok x) p = tt
on_err_so P (Err e) p = p

-- one more list behind the others
pub one_more : {X Y : Type 0} (f : X → List Y) (xs ys : List X) (x : X) → ys ≡ xs ++ x ∷ [] → flat_map f ys ≡ flat_map f xs ++ f x
one_more f xs ys x e = ap (flat_map f) e ∙ flat_map-append f xs (x ∷ []) ∙ ap (λ zs. flat_map f xs ++ zs) (append-nil (f x))

module _ {A : Type 0} where
  -- one more read
  pub locks-read : (old now : Reads A) (reads more : List (Reading A)) → CoverAlike (all_of old) reads → CoverAlike (all_of now) (all_of old ++ more) → CoverAlike (all_of now) (reads ++ more)
  locks-read old now reads more held read = alike_then (all_of now) (all_of old ++ more) (reads ++ more) read (alike_more (all_of old) reads more held)

  -- the last read is taken back
  pub locks-undone : (old now back : Reads A) (reads : List (Reading A)) → CoverAlike (all_of old) reads → CoverAlike now.before (all_of old) → back ≡ record { before = now.before; last = [] } → CoverAlike (all_of back) reads
  locks-undone old now back reads held before undone =
      alike_then (all_of back) now.before reads (alike_equal (all_of back) now.before (ap all_of undone ∙ append-nil now.before)) (alike_then now.before (all_of old) reads before held)
