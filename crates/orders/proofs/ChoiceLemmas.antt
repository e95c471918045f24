-- The ways in which a row satisfies conditions, and in which it doesn't.
use Rattle.std.proofs.Common.{arith, ◌≡◌, refl, sym, ap, subst, ◌∙◌, ℕ, zero, suc, ◌≤◌, Bool, true, false, true≢false, cond, not, ◌&&◌, ◌||◌, inl, inr, List, [], ◌∷◌, ◌++◌, length, map, Option, Some, None}
use Rattle.std.specs.Prelude.{nat_le}
use Rattle.std.proofs.lemmas.Bool.{and_parts, and_from}
use Rattle.std.specs.List.{filter, list_all, list_any}
use Rattle.value.specs.declared.value.Value.{Value}
use Rattle.schema.specs.declared.row.Row.{Row}
use Rattle.schema.specs.Plain.{field}
use Rattle.statement.specs.declared.condition.Condition.{Condition}
use Rattle.statement.specs.Conditions.{holds, satisfies}
use Rattle.orders.specs.declared.ways.way.Atom.{Atom}
use Rattle.orders.specs.declared.ways.way.Field.{Field}
use Rattle.orders.specs.declared.ways.way.Field.TheVariants as becomes
use Rattle.orders.specs.declared.ways.way.After.{After}
use Rattle.orders.specs.declared.ways.way.After.TheVariants as comes
use Rattle.orders.specs.declared.ways.way.Way.{Way}
use Rattle.orders.specs.Ways.{column_of, value_meets, is_met, starts, row_before, FieldIs, Ends, Holds, IsOneOf}
pub use Rattle.orders.specs.Counts.{is_chosen}
use Rattle.orders.specs.Symbolic.{known, field_of, field_now, field_passes, field_fails, is_kept, passes, fails, is_asked, holds_before, fails_before, asking, is_gone, is_row, chosen_way, most_parts, is_denied, failing, are_apart, denied, left_ways}
use Rattle.orders.proofs.WayLemmas.{holds_by}
use Rattle.orders.proofs.FieldLemmas.{now_is, field_now-suc}

pub all-append : {B : Type 0} (p : B → Bool) (xs ys : List B) → list_all p xs ≡ true → list_all p ys ≡ true → list_all p (xs ++ ys) ≡ true
all-append p [] ys g h = h
all-append p (x ∷ xs) ys g h = let q = and_parts (p x) (list_all p xs) g in and_from _ _ q.0 (all-append p xs ys q.1 h)

pub not_is : (b : Bool) → not b ≡ true → b ≡ false
not_is true h = absurd (true≢false (sym h))
not_is false h = refl

pub neither : (a b : Bool) → a ≡ false → b ≡ false → (a || b) ≡ false
neither true b g h = absurd (true≢false g)
neither false b g h = h

module _ {A : Type 0} where
  -- Some way, of which this holds.
  abbrev pub There : Option (Way A) → (Way A → Type 0) → Type 0
  There o P = (w : Way A) × (o ≡ Some w) × P w

  -- One of some ways, of which this holds.
  abbrev pub Stands : List (Way A) → (Way A → Type 0) → Type 0
  Stands ws P = (w : Way A) × IsOneOf w ws × P w

  -- as counted, surely and maybe
  abbrev pub Same : Way A → Way A → Type 0
  Same w u = (u.counted ≡ w.counted) × (u.may_count ≡ w.may_count)

  -- a way that holds, counted as another
  abbrev pub Still : Value A → Way A → Option (List (Value A)) → Option (List (Value A)) → Way A → Type 0
  Still k w before now u = Holds k u before now × Same w u

  -- ---- one condition

  passes_is : (k : Value A) (w : Way A) (before : Option (List (Value A))) (gs : List (Value A)) (c : Condition A) → Holds k w before (Some gs) → passes k w c ≡ true → holds (k, gs) c ≡ true
  passes_is k w before gs c h e = go (field_now k w (column_of c)) (now_is k w before gs (column_of c) h) e
    where
      go : (f : Field A) → FieldIs (row_before k before) (column_of c) f (field (k, gs) (column_of c)) → field_passes c f ≡ true → holds (k, gs) c ≡ true
      go becomes.Kept g q = absurd (true≢false (sym q))
      go (becomes.Given v) g q = holds_by (k, gs) c ∙ ap (λ x. value_meets x c) g ∙ q
      go (becomes.Sum m d) g q = absurd (true≢false (sym q))
      go becomes.Anything g q = absurd (true≢false (sym q))

  fails_is : (k : Value A) (w : Way A) (before : Option (List (Value A))) (gs : List (Value A)) (c : Condition A) → Holds k w before (Some gs) → fails k w c ≡ true → holds (k, gs) c ≡ false
  fails_is k w before gs c h e = go (field_now k w (column_of c)) (now_is k w before gs (column_of c) h) e
    where
      go : (f : Field A) → FieldIs (row_before k before) (column_of c) f (field (k, gs) (column_of c)) → field_fails c f ≡ true → holds (k, gs) c ≡ false
      go becomes.Kept g q = absurd (true≢false (sym q))
      go (becomes.Given v) g q = holds_by (k, gs) c ∙ ap (λ x. value_meets x c) g ∙ not_is (value_meets v c) q
      go (becomes.Sum m d) g q = absurd (true≢false (sym q))
      go becomes.Anything g q = absurd (true≢false (sym q))

  asked_is : (k : Value A) (w : Way A) (before : Option (List (Value A))) (gs : List (Value A)) (c : Condition A) → Holds k w before (Some gs) → is_asked k w c ≡ true → holds (k, gs) c ≡ holds (row_before k before) c
  asked_is k w before gs c h e = go (field_now k w (column_of c)) (now_is k w before gs (column_of c) h) e
    where
      go : (f : Field A) → FieldIs (row_before k before) (column_of c) f (field (k, gs) (column_of c)) → is_kept f ≡ true → holds (k, gs) c ≡ holds (row_before k before) c
      go becomes.Kept g q = holds_by (k, gs) c ∙ ap (λ x. value_meets x c) g ∙ sym (holds_by (row_before k before) c)
      go (becomes.Given v) g q = absurd (true≢false (sym q))
      go (becomes.Sum m d) g q = absurd (true≢false (sym q))
      go becomes.Anything g q = absurd (true≢false (sym q))

  -- ---- more asked

  pub asking_holds : (k : Value A) (w : Way A) (before now : Option (List (Value A))) (more : List (Atom A)) → Holds k w before now → list_all (is_met (row_before k before)) more ≡ true → Holds k (asking w more) before now
  asking_holds k w before now more h m = record { start = go before h.start m; end = h.end }
    where
      go : (b : Option (List (Value A))) → starts k w b ≡ true → list_all (is_met (row_before k b)) more ≡ true → starts k (asking w more) b ≡ true
      go None s m = s
      go (Some fields) s m =
          let p = and_parts (not w.is_absent) (list_all (is_met (k, fields)) w.atoms) s in
          and_from _ _ p.0 (all-append (is_met (k, fields)) w.atoms more p.1 m)

  -- ---- the row is chosen

  all_asked : (k : Value A) (w : Way A) (before : Option (List (Value A))) (gs : List (Value A)) (cs : List (Condition A)) → Holds k w before (Some gs) → satisfies cs (k, gs) ≡ true
      → list_all (is_met (row_before k before)) (map holds_before (filter (is_asked k w) cs)) ≡ true
  all_asked k w before gs [] h s = refl
  all_asked k w before gs (c ∷ cs) h s =
      let p = and_parts (holds (k, gs) c) (list_all (holds (k, gs)) cs) s in
      go (is_asked k w c) refl p.0 (all_asked k w before gs cs h p.1)
    where
      go : (b : Bool) → is_asked k w c ≡ b → holds (k, gs) c ≡ true → list_all (is_met (row_before k before)) (map holds_before (filter (is_asked k w) cs)) ≡ true
          → list_all (is_met (row_before k before)) (map holds_before (cond b (c ∷ filter (is_asked k w) cs) (filter (is_asked k w) cs))) ≡ true
      go true e t rest = and_from _ _ (sym (asked_is k w before gs c h e) ∙ t) rest
      go false e t rest = rest

  none_fails : (k : Value A) (w : Way A) (before : Option (List (Value A))) (gs : List (Value A)) (cs : List (Condition A)) → Holds k w before (Some gs) → satisfies cs (k, gs) ≡ true → list_any (fails k w) cs ≡ false
  none_fails k w before gs [] h s = refl
  none_fails k w before gs (c ∷ cs) h s =
      let p = and_parts (holds (k, gs) c) (list_all (holds (k, gs)) cs) s in
      neither (fails k w c) (list_any (fails k w) cs) (go (fails k w c) refl p.0) (none_fails k w before gs cs h p.1)
    where
      go : (b : Bool) → fails k w c ≡ b → holds (k, gs) c ≡ true → b ≡ false
      go true e t = absurd (true≢false (sym t ∙ fails_is k w before gs c h e))
      go false e t = refl

  not_gone : (row : Row A) (r : After A) (gs : List (Value A)) → Ends row r (Some gs) → is_gone r ≡ false
  not_gone row comes.Gone gs h = absurd h
  not_gone row (comes.Row fs) gs h = refl
  not_gone row comes.Anything gs h = refl

  pub chosen_is : (k : Value A) (w : Way A) (before : Option (List (Value A))) (gs : List (Value A)) (cs : List (Condition A)) → Holds k w before (Some gs) → satisfies cs (k, gs) ≡ true
      → There (chosen_way k cs w) (Still k w before (Some gs))
  chosen_is k w before gs cs h s =
      let more : List (Atom A) = map holds_before (filter (is_asked k w) cs) in (
        asking w more,
        ap (λ b. cond b None (Some (asking w more))) (neither (is_gone w.after) (list_any (fails k w) cs) (not_gone (row_before k before) w.after gs h.end) (none_fails k w before gs cs h s)),
        (asking_holds k w before (Some gs) more h (all_asked k w before gs cs h s), (refl, refl)),
      )

  -- ---- the row isn't chosen

  all_pass : (k : Value A) (w : Way A) (before : Option (List (Value A))) (gs : List (Value A)) (cs : List (Condition A)) → Holds k w before (Some gs) → list_all (passes k w) cs ≡ true → satisfies cs (k, gs) ≡ true
  all_pass k w before gs [] h e = refl
  all_pass k w before gs (c ∷ cs) h e =
      let p = and_parts (passes k w c) (list_all (passes k w) cs) e in
      and_from _ _ (passes_is k w before gs c h p.0) (all_pass k w before gs cs h p.1)

  open_left : (k : Value A) (w : Way A) (before now : Option (List (Value A))) (cs : List (Condition A)) → Holds k w before now → is_chosen k cs now ≡ false → (is_row w.after && list_all (passes k w) cs) ≡ false
  open_left k w before now cs h s = go w.after now h h.end s (list_all (passes k w) cs) refl
    where
      go : (r : After A) (o : Option (List (Value A))) → Holds k w before o → Ends (row_before k before) r o → is_chosen k cs o ≡ false → (b : Bool) → list_all (passes k w) cs ≡ b → (is_row r && b) ≡ false
      go comes.Gone o g end n b e = refl
      go comes.Anything o g end n b e = refl
      go (comes.Row fs) None g end n b e = absurd end
      go (comes.Row fs) (Some gs) g end n true e = absurd (true≢false (sym (all_pass k w before gs cs g e) ∙ n))
      go (comes.Row fs) (Some gs) g end n false e = refl

  -- one of the conditions that may fail does
  doubted_fails : (k : Value A) (w : Way A) (before : Option (List (Value A))) (gs : List (Value A)) (cs : List (Condition A)) → Holds k w before (Some gs) → satisfies cs (k, gs) ≡ false → satisfies (filter (λ c. not (passes k w c)) cs) (k, gs) ≡ false
  doubted_fails k w before gs [] h s = s
  doubted_fails k w before gs (c ∷ cs) h s = go (passes k w c) refl (doubted_fails k w before gs cs h)
    where
      doubted : List (Condition A)
      doubted = filter (λ d. not (passes k w d)) cs

      second_only : (a b : Bool) → a ≡ true → (a && b) ≡ false → b ≡ false
      second_only true b p q = q
      second_only false b p q = absurd (true≢false (sym p))

      both : (a : Bool) → holds (k, gs) c ≡ a → (a && list_all (holds (k, gs)) cs) ≡ false → (list_all (holds (k, gs)) cs ≡ false → list_all (holds (k, gs)) doubted ≡ false) → (a && list_all (holds (k, gs)) doubted) ≡ false
      both true e q rest = rest q
      both false e q rest = refl

      go : (b : Bool) → passes k w c ≡ b → (satisfies cs (k, gs) ≡ false → satisfies doubted (k, gs) ≡ false) → satisfies (cond (not b) (c ∷ doubted) doubted) (k, gs) ≡ false
      go true q rest = rest (second_only (holds (k, gs) c) (list_all (holds (k, gs)) cs) (passes_is k w before gs c h q) s)
      go false q rest = both (holds (k, gs) c) refl s rest

  -- where there is no row, nothing of it is as it was
  nothing_asked : (k : Value A) (w : Way A) (before : Option (List (Value A))) (c : Condition A) → Holds k w before None → is_asked k w c ≡ true → ⊥
  nothing_asked k w before c h e = go (column_of c) e
    where
      nothing_kept : (n : ℕ) (r : After A) → Ends (row_before k before) r None → is_kept (known w (suc n) (field_of r n)) ≡ true → ⊥
      nothing_kept n comes.Gone end q = true≢false (sym q)
      nothing_kept n (comes.Row fs) end q = end
      nothing_kept n comes.Anything end q = true≢false (sym q)

      go : (n : ℕ) → is_kept (field_now k w n) ≡ true → ⊥
      go zero q = true≢false (sym q)
      go (suc n) q = nothing_kept n w.after h.end (sym (ap is_kept (field_now-suc k w n)) ∙ q)

  -- a way in which a condition fails that does
  failing_holds : (k : Value A) (w : Way A) (before now : Option (List (Value A))) (x : Condition A) → Holds k w before now → ((gs : List (Value A)) → now ≡ Some gs → holds (k, gs) x ≡ false) → Still k w before now (failing k w x)
  failing_holds k w before now x h n = one (is_asked k w x) refl
    where
      fails_so : is_asked k w x ≡ true → (o : Option (List (Value A))) → now ≡ o → Holds k w before o → not (holds (row_before k before) x) ≡ true
      fails_so a None e g = absurd (nothing_asked k w before x g a)
      fails_so a (Some gs) e g = ap not (sym (asked_is k w before gs x g a) ∙ n gs e)

      one : (b : Bool) → is_asked k w x ≡ b → Still k w before now (cond b (asking w (fails_before x ∷ [])) w)
      one true a = (asking_holds k w before now (fails_before x ∷ []) h (and_from _ _ (fails_so a now refl h) refl), (refl, refl))
      one false a = (h, (refl, refl))

  -- where one of several conditions fails, one of the ways holds in which each fails
  parted_holds : (k : Value A) (w : Way A) (before : Option (List (Value A))) (gs : List (Value A)) (ds : List (Condition A)) → Holds k w before (Some gs) → satisfies ds (k, gs) ≡ false → Stands (map (failing k w) ds) (Still k w before (Some gs))
  parted_holds k w before gs [] h s = absurd (true≢false s)
  parted_holds k w before gs (x ∷ ds) h s = go (holds (k, gs) x) refl s (parted_holds k w before gs ds h)
    where
      same_row : (a b : List (Value A)) → Some a ≡ Some b → a ≡ b
      same_row a b e = cc

      go : (b : Bool) → holds (k, gs) x ≡ b → (b && list_all (holds (k, gs)) ds) ≡ false → (satisfies ds (k, gs) ≡ false → Stands (map (failing k w) ds) (Still k w before (Some gs))) → Stands (map (failing k w) (x ∷ ds)) (Still k w before (Some gs))
      go true e q rest = let r = rest q in (r.0, inr r.1, r.2)
      go false e q rest = (failing k w x, inl refl, failing_holds k w before (Some gs) x h (λ fs d. ap (λ (r : List (Value A)). holds (k, r) x) (sym (same_row gs fs d)) ∙ e))

  pub denied_several : (few : Bool) (k : Value A) (w : Way A) (ds : List (Condition A)) → 2 ≤ length ds → denied few k w ds ≡ cond (are_apart few k w ds) (map (failing k w) ds) (w ∷ [])
  denied_several few k w [] l = absurd (omega arith)
  denied_several few k w (x ∷ []) l = absurd (omega arith)
  denied_several few k w (x ∷ y ∷ ds) l = refl

  denied_is : (few : Bool) (k : Value A) (w : Way A) (before now : Option (List (Value A))) (ds : List (Condition A)) → Holds k w before now → ((gs : List (Value A)) → now ≡ Some gs → satisfies ds (k, gs) ≡ false) → Stands (denied few k w ds) (Still k w before now)
  denied_is few k w before now [] h n = (w, inl refl, (h, (refl, refl)))
  denied_is few k w before now (x ∷ []) h n = (failing k w x, inl refl, failing_holds k w before now x h (λ gs e. first_only (holds (k, gs) x) (n gs e)))
    where
      first_only : (b : Bool) → (b && true) ≡ false → b ≡ false
      first_only true q = q
      first_only false q = refl
  denied_is few k w before now (x ∷ y ∷ ds) h n = go (are_apart few k w all) refl
    where
      all : List (Condition A)
      all = x ∷ y ∷ ds

      asked : are_apart few k w all ≡ true → is_asked k w x ≡ true
      asked e =
          let several : Bool = list_all (is_asked k w) all in
          let p = (and_parts few (nat_le (length all) most_parts && (several && not (list_any (is_denied w) all))) e).1 in
          let q = (and_parts (nat_le (length all) most_parts) (several && not (list_any (is_denied w) all)) p).1 in
          (and_parts (is_asked k w x) (list_all (is_asked k w) (y ∷ ds)) (and_parts several (not (list_any (is_denied w) all)) q).0).0

      by_row : is_asked k w x ≡ true → (o : Option (List (Value A))) → now ≡ o → Holds k w before o → Stands (map (failing k w) all) (Still k w before o)
      by_row a None e g = absurd (nothing_asked k w before x g a)
      by_row a (Some gs) e g = parted_holds k w before gs all g (n gs e)

      go : (b : Bool) → are_apart few k w all ≡ b → Stands (cond b (map (failing k w) all) (w ∷ [])) (Still k w before now)
      go true e = by_row (asked e) now refl h
      go false e = (w, inl refl, (h, (refl, refl)))

  pub left_is : (few : Bool) (k : Value A) (w : Way A) (before now : Option (List (Value A))) (cs : List (Condition A)) → Holds k w before now → is_chosen k cs now ≡ false → Stands (left_ways few k cs w) (Still k w before now)
  left_is few k w before now cs h s =
      let ds : List (Condition A) = filter (λ c. not (passes k w c)) cs in
      let r = denied_is few k w before now ds h (λ gs e. doubted_fails k w before gs cs (subst (Holds k w before) e h) (subst (λ o. is_chosen k cs o ≡ false) e s)) in
      (r.0, subst (λ b. IsOneOf r.0 (cond b [] (denied few k w ds))) (sym (open_left k w before now cs h s)) r.1, r.2)
