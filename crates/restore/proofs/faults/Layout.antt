-- A line more after others: which CREATE TABLE lines, parts and row lines there are then.
use Rattle.std.proofs.Common.{◌≡◌, ◌≢◌, ℕ, zero, suc, ◌<◌, ◌≤◌, ◌==◌, ◌⊎◌, inl, inr, Bool, true, false, cond, List, [], ◌∷◌, ◌++◌, length, drop, Option, Some, None, refl, ap, sym, subst, ◌∙◌, arith, length-append}
use Rattle.std.specs.Prelude.{codes, slice_index_or}
use Rattle.std.specs.List.{slice_split, onto_first, fold}
use Rattle.std.specs.Option.{option_map_or}
use Rattle.std.specs.Str.{bytes_eq}
use Rattle.std.proofs.lemmas.Bool.Decides.{eqb_tells}
use Rattle.std.proofs.lemmas.List.{drop_all, drop-append-le}
use Rattle.std.proofs.lemmas.List.Sums.{fold-append}
use Rattle.dumpplan.specs.Lines.{end_of_rows}
use Rattle.restore.specs.CreateLine.{behind}
use Rattle.restore.specs.Layout.{create_texts, behind_creates, taken_up, catalog_of, parts, lead}
use Rattle.restore.specs.Faults.{create_text}

-- two numbers are one, or not
abbrev pub Told : ℕ → ℕ → Type 0
Told a b = (((a == b) ≡ true) × (a ≡ b)) ⊎ (((a == b) ≡ false) × (a ≢ b))

-- ---- an element more after a list that is cut

module _ {X : Type 0} where
  -- an element after the last part
  abbrev pub behind_last : List (List X) → X → List (List X)
  behind_last [] x = (x ∷ []) ∷ []
  behind_last (p ∷ []) x = (p ++ x ∷ []) ∷ []
  behind_last (p ∷ q ∷ ps) x = p ∷ behind_last (q ∷ ps) x

  -- there is a first part
  pub first_part : (f : X → Bool) (xs : List X) → (q : List X) × (qs : List (List X)) × (slice_split f xs ≡ q ∷ qs)
  first_part f [] = ([], [], refl)
  first_part f (x ∷ xs) = go (f x) (first_part f xs)
    where
      go : (b : Bool) → ((q : List X) × (qs : List (List X)) × (slice_split f xs ≡ q ∷ qs)) → (q : List X) × (qs : List (List X)) × (cond b ([] ∷ slice_split f xs) (onto_first x (slice_split f xs)) ≡ q ∷ qs)
      go true s = ([], slice_split f xs, refl)
      go false s = (x ∷ s.0, s.1, ap (onto_first x) s.2)

  behind_part : (p q : List X) (qs ps : List (List X)) (x : X) → ps ≡ q ∷ qs → behind_last (p ∷ ps) x ≡ p ∷ behind_last ps x
  behind_part p q qs ps x e = subst (λ (rs : List (List X)). behind_last (p ∷ rs) x ≡ p ∷ behind_last rs x) (sym e) refl

  onto_behind : (y : X) (ps : List (List X)) (x : X) → onto_first y (behind_last ps x) ≡ behind_last (onto_first y ps) x
  onto_behind y [] x = refl
  onto_behind y (p ∷ []) x = refl
  onto_behind y (p ∷ q ∷ ps) x = refl

  onto_end : (y : X) (q : List X) (qs ps : List (List X)) → ps ≡ q ∷ qs → onto_first y (ps ++ [] ∷ []) ≡ onto_first y ps ++ [] ∷ []
  onto_end y q qs ps e = subst (λ (rs : List (List X)). onto_first y (rs ++ [] ∷ []) ≡ onto_first y rs ++ [] ∷ []) (sym e) refl

  -- an element that doesn't cut
  pub split_more : (f : X → Bool) (xs : List X) (x : X) → f x ≡ false → slice_split f (xs ++ x ∷ []) ≡ behind_last (slice_split f xs) x
  split_more f [] x h = rw h refl
  split_more f (y ∷ xs) x h = go (f y) (split_more f xs x h) (first_part f xs)
    where
      go : (b : Bool) → slice_split f (xs ++ x ∷ []) ≡ behind_last (slice_split f xs) x → ((q : List X) × (qs : List (List X)) × (slice_split f xs ≡ q ∷ qs))
          → cond b ([] ∷ slice_split f (xs ++ x ∷ [])) (onto_first y (slice_split f (xs ++ x ∷ []))) ≡ behind_last (cond b ([] ∷ slice_split f xs) (onto_first y (slice_split f xs))) x
      go true more s = ap (λ (ps : List (List X)). [] ∷ ps) more ∙ sym (behind_part [] s.0 s.1 (slice_split f xs) x s.2)
      go false more s = ap (onto_first y) more ∙ onto_behind y (slice_split f xs) x

  -- one that cuts
  pub split_end : (f : X → Bool) (xs : List X) (x : X) → f x ≡ true → slice_split f (xs ++ x ∷ []) ≡ slice_split f xs ++ [] ∷ []
  split_end f [] x h = rw h refl
  split_end f (y ∷ xs) x h = go (f y) (split_end f xs x h) (first_part f xs)
    where
      go : (b : Bool) → slice_split f (xs ++ x ∷ []) ≡ slice_split f xs ++ [] ∷ [] → ((q : List X) × (qs : List (List X)) × (slice_split f xs ≡ q ∷ qs))
          → cond b ([] ∷ slice_split f (xs ++ x ∷ [])) (onto_first y (slice_split f (xs ++ x ∷ []))) ≡ cond b ([] ∷ slice_split f xs) (onto_first y (slice_split f xs)) ++ [] ∷ []
      go true more s = ap (λ (ps : List (List X)). [] ∷ ps) more
      go false more s = ap (onto_first y) more ∙ onto_end y s.0 s.1 (slice_split f xs) s.2

  pub last_part : (done : List (List X)) (part : List X) (x : X) → behind_last (done ++ part ∷ []) x ≡ done ++ (part ++ x ∷ []) ∷ []
  last_part [] part x = refl
  last_part (d ∷ []) part x = refl
  last_part (d ∷ e ∷ done) part x = ap (λ (ps : List (List X)). d ∷ ps) (last_part (e ∷ done) part x)

  -- ---- the parts by their numbers

  pub at_last : (done : List (List X)) (part : List X) → slice_index_or (done ++ part ∷ []) (length done) [] ≡ part
  at_last [] part = refl
  at_last (d ∷ done) part = at_last done part

  at_other : (done : List (List X)) (part other : List X) (u : ℕ) → u ≢ length done → slice_index_or (done ++ other ∷ []) u [] ≡ slice_index_or (done ++ part ∷ []) u []
  at_other [] part other zero differ = absurd (differ refl)
  at_other [] part other (suc u) differ = refl
  at_other (d ∷ done) part other zero differ = refl
  at_other (d ∷ done) part other (suc u) differ = at_other done part other u (λ e. differ (ap suc e))

  pub at_end : (ps : List (List X)) (u : ℕ) → slice_index_or (ps ++ [] ∷ []) u [] ≡ slice_index_or ps u []
  at_end [] zero = refl
  at_end [] (suc u) = refl
  at_end (p ∷ ps) zero = refl
  at_end (p ∷ ps) (suc u) = at_end ps u

  -- what a part has after its leading elements
  abbrev pub rest_of : (ℕ → ℕ) → List (List X) → ℕ → List X
  rest_of lead ps u = drop (lead u) (slice_index_or ps u [])

  module _ (lead : ℕ → ℕ) (old new : List (List X)) (done : List (List X)) (part : List X) (was : old ≡ done ++ part ∷ []) where
    -- an element before those changes none of them
    pub rest_same : (x : X) → new ≡ done ++ (part ++ x ∷ []) ∷ [] → length part < lead (length done) → (u : ℕ) → rest_of lead new u ≡ rest_of lead old u
    rest_same x is short u = go (eqb_tells u (length done))
      where
        go : Told u (length done) → rest_of lead new u ≡ rest_of lead old u
        go (inl p) =
            let here : (ps : List (List X)) (q : List X) → ps ≡ done ++ q ∷ [] → length q ≤ lead (length done) → rest_of lead ps u ≡ [] =
            λ ps q e few. ap (λ (v : ℕ). rest_of lead ps v) p.1 ∙ ap (λ (rs : List (List X)). rest_of lead rs (length done)) e ∙ ap (drop (lead (length done))) (at_last done q) ∙ drop_all (lead (length done)) q few in
            here new (part ++ x ∷ []) is (simp length-append (omega (arith, short))) ∙ sym (here old part was (omega (arith, short)))
        go (inr p) = ap (λ (rs : List (List X)). rest_of lead rs u) is ∙ ap (drop (lead u)) (at_other done part (part ++ x ∷ []) u p.1) ∙ sym (ap (λ (rs : List (List X)). rest_of lead rs u) was)

    -- another is the last of them
    pub rest_more : (x : X) → new ≡ done ++ (part ++ x ∷ []) ∷ [] → lead (length done) ≤ length part → rest_of lead new (length done) ≡ rest_of lead old (length done) ++ x ∷ []
    rest_more x is long =
        ap (λ (rs : List (List X)). rest_of lead rs (length done)) is ∙ ap (drop (lead (length done))) (at_last done (part ++ x ∷ [])) ∙ drop-append-le (lead (length done)) part (x ∷ []) long
        ∙ ap (λ (q : List X). drop (lead (length done)) q ++ x ∷ []) (sym (at_last done part)) ∙ ap (λ (rs : List (List X)). rest_of lead rs (length done) ++ x ∷ []) (sym was)

    pub rest_other : (x : X) → new ≡ done ++ (part ++ x ∷ []) ∷ [] → (u : ℕ) → u ≢ length done → rest_of lead new u ≡ rest_of lead old u
    rest_other x is u differ = ap (λ (rs : List (List X)). rest_of lead rs u) is ∙ ap (drop (lead u)) (at_other done part (part ++ x ∷ []) u differ) ∙ sym (ap (λ (rs : List (List X)). rest_of lead rs u) was)

  -- a part more, with nothing in it
  pub rest_ended : (lead : ℕ → ℕ) (old new : List (List X)) → new ≡ old ++ [] ∷ [] → (u : ℕ) → rest_of lead new u ≡ rest_of lead old u
  rest_ended lead old new is u = ap (λ (rs : List (List X)). rest_of lead rs u) is ∙ ap (drop (lead u)) (at_end old u)

-- ---- CREATE TABLE lines

-- a CREATE TABLE line more
pub more_text : (lines : List (List ℕ)) (line text : List ℕ) → behind_creates lines ≡ [] → behind (codes "CREATE TABLE ") line ≡ Some text
    → (create_texts (lines ++ line ∷ []) ≡ create_texts lines ++ text ∷ []) × (behind_creates (lines ++ line ∷ []) ≡ [])
more_text [] line text none is = (rw is refl, rw is refl)
more_text (l ∷ lines) line text none is = go (behind (codes "CREATE TABLE ") l) none (λ n. more_text lines line text n is)
  where
    go : (o : Option (List ℕ)) → option_map_or (λ t. behind_creates lines) o (l ∷ lines) ≡ []
        → (behind_creates lines ≡ [] → (create_texts (lines ++ line ∷ []) ≡ create_texts lines ++ text ∷ []) × (behind_creates (lines ++ line ∷ []) ≡ []))
        → (option_map_or (λ t. t ∷ create_texts (lines ++ line ∷ [])) o [] ≡ option_map_or (λ t. t ∷ create_texts lines) o [] ++ text ∷ []) × (option_map_or (λ t. behind_creates (lines ++ line ∷ [])) o (l ∷ lines ++ line ∷ []) ≡ [])
    go (Some t) n more = (ap (λ (ts : List (List ℕ)). t ∷ ts) (more n).0, (more n).1)
    go None n more = absurd cc

-- any other line more
pub other_line : (lines : List (List ℕ)) (line : List ℕ) → create_text (behind_creates lines) line ≡ None
    → (create_texts (lines ++ line ∷ []) ≡ create_texts lines) × (behind_creates (lines ++ line ∷ []) ≡ behind_creates lines ++ line ∷ [])
other_line [] line is = (rw is refl, rw is refl)
other_line (l ∷ lines) line is = go (behind (codes "CREATE TABLE ") l) is (λ h. other_line lines line h)
  where
    go : (o : Option (List ℕ)) → create_text (option_map_or (λ t. behind_creates lines) o (l ∷ lines)) line ≡ None
        → (create_text (behind_creates lines) line ≡ None → (create_texts (lines ++ line ∷ []) ≡ create_texts lines) × (behind_creates (lines ++ line ∷ []) ≡ behind_creates lines ++ line ∷ []))
        → (option_map_or (λ t. t ∷ create_texts (lines ++ line ∷ [])) o [] ≡ option_map_or (λ t. t ∷ create_texts lines) o []) × (option_map_or (λ t. behind_creates (lines ++ line ∷ [])) o (l ∷ lines ++ line ∷ []) ≡ option_map_or (λ t. behind_creates lines) o (l ∷ lines) ++ line ∷ [])
    go (Some t) h more = (ap (λ (ts : List (List ℕ)). t ∷ ts) (more h).0, (more h).1)
    go None h more = (refl, refl)

-- after any line but those no CREATE TABLE line may stand
pub no_more_texts : (xs : List (List ℕ)) (line other : List ℕ) → create_text (xs ++ line ∷ []) other ≡ None
no_more_texts [] line other = refl
no_more_texts (x ∷ xs) line other = refl

module _ (lines : List (List ℕ)) (line : List ℕ) (none : create_text (behind_creates lines) line ≡ None) where
  pub same_catalog : catalog_of (lines ++ line ∷ []) ≡ catalog_of lines
  same_catalog = ap (fold taken_up []) (other_line lines line none).0

  pub begun_with : (other : List ℕ) → create_text (behind_creates (lines ++ line ∷ [])) other ≡ None
  begun_with other = ap (λ (xs : List (List ℕ)). create_text xs other) (other_line lines line none).1 ∙ no_more_texts (behind_creates lines) line other

  -- a line within the last part
  pub pushed : (done : List (List (List ℕ))) (part : List (List ℕ)) → parts lines ≡ done ++ part ∷ [] → bytes_eq line end_of_rows ≡ false → parts (lines ++ line ∷ []) ≡ done ++ (part ++ line ∷ []) ∷ []
  pushed done part was other =
      ap (slice_split (λ (l : List ℕ). bytes_eq l end_of_rows)) (other_line lines line none).1
      ∙ split_more (λ (l : List ℕ). bytes_eq l end_of_rows) (behind_creates lines) line other
      ∙ ap (λ (ps : List (List (List ℕ))). behind_last ps line) was ∙ last_part done part line

  -- a line that ends it
  pub cut_off : bytes_eq line end_of_rows ≡ true → parts (lines ++ line ∷ []) ≡ parts lines ++ [] ∷ []
  cut_off is = ap (slice_split (λ (l : List ℕ). bytes_eq l end_of_rows)) (other_line lines line none).1 ∙ split_end (λ (l : List ℕ). bytes_eq l end_of_rows) (behind_creates lines) line is

-- a table more
pub catalog_more : (lines : List (List ℕ)) (line text : List ℕ) → behind_creates lines ≡ [] → behind (codes "CREATE TABLE ") line ≡ Some text → catalog_of (lines ++ line ∷ []) ≡ taken_up (catalog_of lines) text
catalog_more lines line text none is = ap (fold taken_up []) (more_text lines line text none is).0 ∙ fold-append taken_up [] (create_texts lines) (text ∷ [])
