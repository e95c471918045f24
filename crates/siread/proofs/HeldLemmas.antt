-- What is kept of one transaction's reads, as it grows.
use Rattle.std.proofs.Common.{◌≡◌, refl, sym, ap, subst, ◌∙◌, ℕ, ◌+◌, ◌<◌, ◌≤◌, false, List, [], ◌∷◌, ◌++◌, length, take, drop, get_or, append_assoc, arith, length-append}
use Rattle.std.proofs.Math.Seq.{drop-append-add, drop-append_seam, drop-length, take-append-add, take-append_seam, take-length}
use Rattle.std.proofs.lemmas.List.{drop-append-le, length-take-le, take-append-drop, take-append-le, take-take, take_more}
use Rattle.statement.specs.declared.reading.Reading.{Reading}
use Rattle.siread.specs.declared.extent.Form.TheVariants as form
use Rattle.siread.specs.Adding.{adds_nothing, Grows, IsSpare, Settles}
use Rattle.siread.specs.Bounds.{AreHeld, count_in, HasFewKeys, HasFewOthers}
use Rattle.siread.specs.Extents.{IsEachOnce}
use Rattle.siread.specs.Reads.{Reads, CoverAlike, all_of}
use Rattle.siread.proofs.AlikeLemmas.{alike_equal, alike_more, alike_then, not_there, once-drop, once-push, once-take}
use Rattle.siread.proofs.BoundLemmas.{few_none, few_with, few_without, others_none, others_push, others_take, others_without}
use Rattle.siread.proofs.InnerLemmas.{alike_before, once-without, parted, settled-alike}

pub held_none : (A : Type 0) → AreHeld {A = A} 0 []
held_none A = record { within = omega arith; once = tt; before = few_none A; last = few_none A; others = others_none A }

module _ {A : Type 0} where
  -- ---- one read more

  pub grows_itself : (n : ℕ) (rs : List (Reading A)) → n ≤ length rs → IsEachOnce rs → HasFewKeys (drop n rs) → Grows n rs rs
  grows_itself n rs h o few = record { within = h; before = refl; once = o; last = few; others = λ q. q }

  pub grows_then : (n : ℕ) (rs qs ps : List (Reading A)) → Grows n rs qs → Grows n qs ps → Grows n rs ps
  grows_then n rs qs ps a b = record { within = b.within; before = b.before ∙ a.before; once = b.once; last = b.last; others = λ q. b.others (a.others q) }

  pub once_behind : (n : ℕ) (rs kept : List (Reading A)) (r : Reading A) → kept ≡ rs ++ r ∷ [] → IsEachOnce rs → adds_nothing rs r ≡ false → IsEachOnce (drop n kept)
  once_behind n rs kept r e o new = once-drop n kept (subst (λ (ks : List (Reading A)). IsEachOnce ks) (sym e) (once-push rs r o (not_there rs r new)))

  -- one more, of whose table there are few keys then
  pub grows_push : (n : ℕ) (rs qs : List (Reading A)) (r : Reading A) → qs ≡ rs ++ r ∷ [] → n ≤ length rs → IsEachOnce rs → HasFewKeys (drop n rs) → adds_nothing rs r ≡ false
      → count_in r.table form.Key (drop n qs) ≤ 9 → Grows n rs qs
  grows_push n rs qs r e h o few new k =
      let l = length-append rs (r ∷ []) in
      let m = ap length e in
      record {
        within = omega arith;
        before = ap (take n) e ∙ take-append-le n rs (r ∷ []) h;
        once = rw e (once-push rs r o (not_there rs r new));
        last = few_with (drop n qs) (drop n rs) r (ap (drop n) e ∙ drop-append-le n rs (r ∷ []) h) few k;
        others = λ q. rw e (others_push rs r o new q);
      }

  -- one more, and a spare key of its table less
  module _ (n place : ℕ) (rs kept new : List (Reading A)) (r : Reading A) (e : kept ≡ rs ++ r ∷ []) (h : n ≤ length rs) (o : IsEachOnce rs) (few : HasFewKeys (drop n rs)) (told : adds_nothing rs r ≡ false)
      (spare : IsSpare (drop n kept) r.table place) (g : new ≡ take (n + place) kept ++ drop (n + place + 1) kept) where
    abbrev front : List (Reading A)
    front = take n rs

    abbrev back : List (Reading A)
    back = drop n kept

    abbrev that : Reading A
    that = get_or back place r

    abbrev left : List (Reading A)
    left = front ++ take place back

    abbrev right : List (Reading A)
    right = drop (place + 1) back

    front_is : take n kept ≡ front
    front_is = ap (take n) e ∙ take-append-le n rs (r ∷ []) h

    long : length front ≡ n
    long = length-take-le n rs h

    whole : kept ≡ front ++ back
    whole = sym (take-append-drop n kept) ∙ ap (λ xs. xs ++ back) front_is

    back_is : back ≡ drop n rs ++ r ∷ []
    back_is = ap (drop n) e ∙ drop-append-le n rs (r ∷ []) h

    parts : back ≡ take place back ++ that ∷ right
    parts = parted r back place spare.within

    kept_is : kept ≡ left ++ that ∷ right
    kept_is = whole ∙ ap (λ xs. front ++ xs) parts ∙ sym (append_assoc front (take place back) (that ∷ right))

    new_is : new ≡ left ++ right
    new_is =
        g
        ∙ ap (λ xs. take (n + place) xs ++ drop (n + place + 1) xs) whole
        ∙ ap (λ m. take (m + place) (front ++ back) ++ drop (m + place + 1) (front ++ back)) (sym long)
        ∙ ap (λ xs. xs ++ drop (length front + place + 1) (front ++ back)) (take-append-add front back place)
        ∙ ap (λ m. left ++ drop m (front ++ back)) (next (length front))
        ∙ ap (λ xs. left ++ xs) (drop-append-add front back (place + 1))
      where
        next : (m : ℕ) → m + place + 1 ≡ m + (place + 1)
        next m = omega arith

    behind : new ≡ front ++ (take place back ++ right)
    behind = new_is ∙ append_assoc front (take place back) right

    once_kept : IsEachOnce kept
    once_kept = subst (λ (ks : List (Reading A)). IsEachOnce ks) (sym e) (once-push rs r o (not_there rs r told))

    pub grows_spare : Grows n rs new
    grows_spare = record {
      within = let l = ap length behind in let m = length-append front (take place back ++ right) in let k = long in omega arith;
      before = ap (take n) behind ∙ ap (λ m. take m (front ++ (take place back ++ right))) (sym long) ∙ take-append_seam front (take place back ++ right);
      once = subst (λ (ks : List (Reading A)). IsEachOnce ks) (sym new_is) (once-without left right that (subst (λ (ks : List (Reading A)). IsEachOnce ks) kept_is once_kept));
      last =
          subst (λ (ks : List (Reading A)). HasFewKeys ks)
          (sym (ap (drop n) behind ∙ ap (λ m. drop m (front ++ (take place back ++ right))) (sym long) ∙ drop-append_seam front (take place back ++ right)))
          (few_without back (drop n rs) (take place back) right r that back_is parts few spare.fewer);
      others = λ q.
          subst (λ (ks : List (Reading A)). HasFewOthers ks) (sym new_is)
          (others_without left right that (subst (λ (ks : List (Reading A)). HasFewOthers ks) (sym e ∙ kept_is) (others_push rs r o told q)));
    }

    pub alike_spare : CoverAlike new (rs ++ r ∷ [])
    alike_spare =
        alike_then new (front ++ (take place back ++ right)) (rs ++ r ∷ []) (alike_equal new (front ++ (take place back ++ right)) behind)
        (alike_then (front ++ (take place back ++ right)) (front ++ back) (rs ++ r ∷ []) (alike_before front (take place back ++ right) back spare.alike)
        (alike_equal (front ++ back) (rs ++ r ∷ []) (sym whole ∙ e)))

  -- one more is read
  pub alike_next : (kept now next readings : List (Reading A)) (i : ℕ) (r : Reading A) → i < length readings → r ≡ get_or readings i r
      → CoverAlike now (kept ++ take i readings) → CoverAlike next (now ++ r ∷ []) → CoverAlike next (kept ++ take (i + 1) readings)
  alike_next kept now next readings i r lt at a b =
      alike_then next ((kept ++ take i readings) ++ r ∷ []) (kept ++ take (i + 1) readings)
      (alike_then next (now ++ r ∷ []) ((kept ++ take i readings) ++ r ∷ []) b (alike_more now (kept ++ take i readings) (r ∷ []) a))
      (alike_equal ((kept ++ take i readings) ++ r ∷ []) (kept ++ take (i + 1) readings)
      (append_assoc kept (take i readings) (r ∷ []) ∙ ap (λ xs. kept ++ xs) (ap (λ y. take i readings ++ y ∷ []) at ∙ sym (take_more readings i r lt))))

  -- ---- the whole of it

  -- what is held, by its parts
  abbrev pub parted_at : ℕ → List (Reading A) → Reads A
  parted_at n kept = record { before = take n kept; last = drop n kept }

  all-inside : (h : Reads A) (kept : List (Reading A)) (settled : ℕ) → parted_at settled kept ≡ h → kept ≡ all_of h
  all-inside h kept settled e = sym (take-append-drop settled kept) ∙ ap (λ (r : Reads A). all_of r) e

  -- no keys come after all
  pub few_behind : (kept : List (Reading A)) (n : ℕ) → n ≡ length kept → HasFewKeys (drop n kept)
  few_behind kept n e = subst (λ (ks : List (Reading A)). HasFewKeys ks) (sym (ap (λ m. drop m kept) e ∙ drop-length kept)) (few_none A)

  -- what was kept, before one read more
  pub kept_before : (kept now : List (Reading A)) (n : ℕ) → n ≡ length kept → Grows n kept now → take n now ≡ kept
  kept_before kept now n e g = g.before ∙ ap (λ m. take m kept) e ∙ take-length kept

  pub settled_before : (kept now : List (Reading A)) (settled n : ℕ) → n ≡ length kept → AreHeld settled kept → Grows n kept now → HasFewKeys (take settled now)
  settled_before kept now settled n e h g =
      let w = h.within in
      subst (λ (ks : List (Reading A)). HasFewKeys ks) (sym (ap (take settled) (kept_before kept now n e g)) ∙ take-take settled n now (omega arith)) h.before

  -- one read more, and all before it settled
  pub held_after : (kept now new : List (Reading A)) (settled n m count : ℕ) → n ≡ length kept → m ≡ n → AreHeld settled kept → Grows n kept now → Settles now m new count → AreHeld count new
  held_after kept now new settled n m count e f h g s = record {
    within = s.within;
    once = s.once;
    before = s.before;
    last = subst (λ (ks : List (Reading A)). HasFewKeys ks) (sym (s.rest ∙ ap (λ k. drop k now) f)) g.last;
    others = s.others (g.others h.others);
  }

  pub before-settled : (h : Reads A) (kept now new : List (Reading A)) (settled n m count : ℕ) → parted_at settled kept ≡ h → n ≡ length kept → m ≡ n → Grows n kept now → Settles now m new count
      → CoverAlike (take count new) (all_of h)
  before-settled h kept now new settled n m count e l f g s =
      alike_then (take count new) (take m now) (all_of h) s.alike
      (alike_equal (take m now) (all_of h) (ap (λ k. take k now) f ∙ kept_before kept now n l g ∙ all-inside h kept settled e))

  pub all-settled : (h : Reads A) (kept now new footprint : List (Reading A)) (settled m count : ℕ) → parted_at settled kept ≡ h → Settles now m new count → CoverAlike now (kept ++ footprint)
      → CoverAlike (take count new ++ drop count new) (all_of h ++ footprint)
  all-settled h kept now new footprint settled m count e s a =
      alike_then (take count new ++ drop count new) new (all_of h ++ footprint) (alike_equal (take count new ++ drop count new) new (take-append-drop count new))
      (alike_then new now (all_of h ++ footprint) (settled-alike now new m count s)
      (alike_then now (kept ++ footprint) (all_of h ++ footprint) a (alike_equal (kept ++ footprint) (all_of h ++ footprint) (ap (λ xs. xs ++ footprint) (all-inside h kept settled e)))))

  -- the last read taken back
  pub held_undone : (kept : List (Reading A)) (settled : ℕ) → AreHeld settled kept → AreHeld settled (take settled kept)
  held_undone kept settled h =
      let l = length-take-le settled kept h.within in
      record {
        within = omega arith;
        once = once-take settled kept h.once;
        before = subst (λ (ks : List (Reading A)). HasFewKeys ks) (sym (take-take settled settled kept (omega arith))) h.before;
        last = few_behind (take settled kept) settled (sym l);
        others = others_take settled kept h.others;
      }
