-- The first fault of some lines, by their places.
use Rattle.std.proofs.Common.{◌≡◌, ℕ, zero, suc, ◌+◌, ◌<◌, List, [], ◌∷◌, ◌++◌, length, take, drop, Option, Some, None, refl, ap, sym, ◌∙◌, append_assoc, arith, length-append}
use Rattle.std.proofs.lemmas.List.{append-nil}
use Rattle.value.specs.declared.refusal.Code.{Code}
use Rattle.restore.specs.declared.error.RestoreFault.{RestoreFault}
use Rattle.restore.specs.Faults.{fault_of, first_of, first_fault, fault_from, IsFirstFault, AreFaultless}
use Rattle.restore.specs.Steps.{fault}

-- neither a line nor a later one
both_none : (n : ℕ) (o : Option Code) (later : Option RestoreFault) → first_of n o later ≡ None → (o ≡ None) × (later ≡ None)
both_none n (Some code) later e = absurd cc
both_none n None later e = (refl, e)

abbrev some_fault : RestoreFault → Option RestoreFault
some_fault f = Some f

same_fault : (f g : RestoreFault) → some_fault f ≡ Some g → f ≡ g
same_fault f g e = cc

module _ (A : Type 0) where
  -- the fault at a place among the lines after some
  abbrev from : List (List ℕ) → List (List ℕ) → ℕ → Option Code
  from before lines i = fault_from A (before ++ take i lines) (drop i lines)

  at_first : (before : List (List ℕ)) (line : List ℕ) (lines : List (List ℕ)) → from before (line ∷ lines) 0 ≡ fault_of A before line lines
  at_first before line lines = ap (λ (b : List (List ℕ)). fault_from A b (line ∷ lines)) (append-nil before)

  at_next : (before : List (List ℕ)) (line : List ℕ) (lines : List (List ℕ)) (i : ℕ) → from before (line ∷ lines) (suc i) ≡ from (before ++ line ∷ []) lines i
  at_next before line lines i = ap (λ (b : List (List ℕ)). fault_from A b (drop i lines)) (sym (append_assoc before (line ∷ []) (take i lines)))

  none_at : (before lines : List (List ℕ)) → first_fault A before lines ≡ None → (i : ℕ) → from before lines i ≡ None
  none_at before [] e zero = refl
  none_at before [] e (suc i) = refl
  none_at before (line ∷ lines) e zero = at_first before line lines ∙ (both_none (length before + 1) (fault_of A before line lines) (first_fault A (before ++ line ∷ []) lines) e).0
  none_at before (line ∷ lines) e (suc i) =
      at_next before line lines i ∙ none_at (before ++ line ∷ []) lines (both_none (length before + 1) (fault_of A before line lines) (first_fault A (before ++ line ∷ []) lines) e).1 i

  none_first : (before lines : List (List ℕ)) → ((i : ℕ) → from before lines i ≡ None) → first_fault A before lines ≡ None
  none_first before [] all = refl
  none_first before (line ∷ lines) all =
      let one : fault_of A before line lines ≡ None = sym (at_first before line lines) ∙ all 0 in
      rw one (none_first (before ++ line ∷ []) lines (λ i. sym (at_next before line lines i) ∙ all (suc i)))

  record IsFound (before lines : List (List ℕ)) (f : RestoreFault) : Type 0 where
    pub place : ℕ
    pub number : f.line ≡ length before + place + 1
    pub there : from before lines place ≡ Some f.code
    pub first : (i : ℕ) → i < place → from before lines i ≡ None

  one_more : (before : List (List ℕ)) (line : List ℕ) → length (before ++ line ∷ []) ≡ length before + 1
  one_more before line = length-append before (line ∷ [])

  found_at : (before lines : List (List ℕ)) (f : RestoreFault) → first_fault A before lines ≡ Some f → IsFound before lines f
  found_at before [] f e = absurd cc
  found_at before (line ∷ lines) f e = go (fault_of A before line lines) refl (found_at (before ++ line ∷ []) lines f) e
    where
      go : (o : Option Code) → fault_of A before line lines ≡ o → (first_fault A (before ++ line ∷ []) lines ≡ Some f → IsFound (before ++ line ∷ []) lines f)
          → first_of (length before + 1) o (first_fault A (before ++ line ∷ []) lines) ≡ Some f → IsFound before (line ∷ lines) f
      go (Some code) is rest h =
          let same : fault (length before + 1) code ≡ f = same_fault (fault (length before + 1) code) f h in
          let number : f.line ≡ length before + 1 = sym (ap (λ (g : RestoreFault). g.line) same) in
          record {
            place = 0;
            number = omega (arith, number);
            there = at_first before line lines ∙ is ∙ ap (λ (g : RestoreFault). Some g.code) same;
            first = λ i less. absurd (omega (arith, less));
          }
      go None is rest h =
          let r = rest h in
          let number : f.line ≡ length before + suc r.place + 1 = omega (arith, r.number, one_more before line) in
          record {
            place = suc r.place;
            number = number;
            there = at_next before line lines r.place ∙ r.there;
            first = λ i less. earlier r i less;
          }
        where
          earlier : (r : IsFound (before ++ line ∷ []) lines f) (i : ℕ) → i < suc r.place → from before (line ∷ lines) i ≡ None
          earlier r zero less = at_first before line lines ∙ is
          earlier r (suc i) less = at_next before line lines i ∙ r.first i (omega (arith, less))

  first_found : (before lines : List (List ℕ)) (f : RestoreFault) (place : ℕ) → f.line ≡ length before + place + 1 → from before lines place ≡ Some f.code → ((i : ℕ) → i < place → from before lines i ≡ None)
      → first_fault A before lines ≡ Some f
  first_found before [] f place number there first = absurd (let none = none_at before [] refl place in cc)
  first_found before (line ∷ lines) f zero number there first =
      let one : fault_of A before line lines ≡ Some f.code = sym (at_first before line lines) ∙ there in
      let same : length before + 1 ≡ f.line = omega (arith, number) in
      rw one (ap (λ (n : ℕ). some_fault (fault n f.code)) same)
  first_found before (line ∷ lines) f (suc place) number there first =
      let one : fault_of A before line lines ≡ None = sym (at_first before line lines) ∙ first 0 (omega arith) in
      rw one (first_found (before ++ line ∷ []) lines f place (omega (arith, number, one_more before line)) (sym (at_next before line lines place) ∙ there) (λ i less. sym (at_next before line lines i) ∙ first (suc i) (omega (arith, less))))

  pub is_first : (lines : List (List ℕ)) (f : RestoreFault) → IsFirstFault A lines f → first_fault A [] lines ≡ Some f
  is_first lines f h = first_found [] lines f h.place (omega (arith, h.number)) h.fault h.first

  pub first_is : (lines : List (List ℕ)) (f : RestoreFault) → first_fault A [] lines ≡ Some f → IsFirstFault A lines f
  first_is lines f e = let r = found_at [] lines f e in record { place = r.place; number = omega (arith, r.number); fault = r.there; first = r.first }

  pub none_is : (lines : List (List ℕ)) → AreFaultless A lines → first_fault A [] lines ≡ None
  none_is lines h = none_first [] lines h

  pub is_none : (lines : List (List ℕ)) → first_fault A [] lines ≡ None → AreFaultless A lines
  is_none lines e = none_at [] lines e
