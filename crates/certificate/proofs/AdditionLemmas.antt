-- What additions leave: a reader to whom all others between a base and itself only add finds a number within the bounds.
use Rattle.std.proofs.Common.{◌≡◌, ◌⊎◌, refl, sym, ap, subst, ◌∙◌, ◌<◌, ◌≤◌, ◌+◌, ◌-◌, ℕ, zero, suc, ℤ, pos, ◌+ℤ◌, ◌≤ℤ◌, int_lt, int_le, Bool, true, false, true≢false, ◌&&◌, ◌||◌, ◌==◌, if◌then◌else◌, inl, inr, List, [], ◌∷◌, slice_get, Option, Some, None, arith}
use Rattle.std.proofs.lemmas.Bool.{cases_Bool, cases_eq, or_cases, and_parts, eqb-true, eq-eqb, eqb-false, ne_eqb, false_from_ne_true}
use Rattle.std.proofs.lemmas.Int.{ints}
use Rattle.std.proofs.lemmas.Option.{same_Some, cond_some}
use Rattle.std.specs.List.{list_all, list_any}
use Rattle.std.specs.Option.{option_and_then, option_map_or}
use Rattle.schema.specs.Plain.{in_range}
use Rattle.certificate.specs.Board.{Board, Effect, Keeps, Leaves, Adds, Unknown}
use Rattle.certificate.specs.Knowledge as known
use Rattle.certificate.specs.Knowledge.{Cell, Known, places_below}
use Rattle.certificate.specs.Order.{Among, Turn, Does, HasWay, Play, Exact, Valid}
use Rattle.certificate.specs.Additions as addition
use Rattle.certificate.specs.Additions.{agrees, common, misses, part, plus_in_range, same_int, share_of, sum_of}
use Rattle.certificate.proofs.AmongLemmas.{any-one, all-each}
use Rattle.certificate.proofs.WriterLemmas.{place-before}
use Rattle.certificate.proofs.SourceLemmas.{before-is, there-is, way-left}

-- ---- numbers

pub same-is : (m n : ℤ) → same_int m n ≡ true → m ≡ n
same-is m n h = let p = and_parts (int_le m n) (int_le n m) h in let l = p.0 in let g = p.1 in omega (arith, ints, l, g)

pub agrees-is : (o : Option ℤ) (n : ℤ) → agrees o (Some n) ≡ true → o ≡ Some n
agrees-is None n h = absurd (true≢false (sym h))
agrees-is (Some m) n h = ap Some (same-is m n h)

module _ {T : Type 0} (f : T → Option ℤ) where
  pub common-each : (xs : List T) (n : ℤ) → common f xs ≡ Some n → (x : T) → Among x xs → f x ≡ Some n
  common-each [] n e x a = absurd a
  common-each (y ∷ ys) n e x a = go (cases_Bool (list_all (λ z. agrees (f z) (f y)) ys))
    where
      none-some : None ≡ Some n → ⊥
      none-some p = cc

      first : list_all (λ z. agrees (f z) (f y)) ys ≡ true → f y ≡ Some n
      first t = sym (ap (λ b. if b then f y else None) t) ∙ e

      by : list_all (λ z. agrees (f z) (f y)) ys ≡ true → (x ≡ y) ⊎ Among x ys → f x ≡ Some n
      by t (inl s) = ap f s ∙ first t
      by t (inr g) = agrees-is (f x) n (subst (λ o. agrees (f x) o ≡ true) (first t) (all-each (λ z. agrees (f z) (f y)) x ys t g))

      go : (list_all (λ z. agrees (f z) (f y)) ys ≡ true) ⊎ (list_all (λ z. agrees (f z) (f y)) ys ≡ false) → f x ≡ Some n
      go (inl t) = by t a
      go (inr t) = absurd (none-some (sym (ap (λ b. if b then f y else None) t) ∙ e))

-- ---- bounds

-- at most, or at least
abbrev Within : Bool → ℤ → ℤ → Type 0
Within true a t = a ≤ℤ t
Within false a t = t ≤ℤ a

within-same : (u : Bool) (a : ℤ) → Within u a a
within-same true a = omega (arith, ints)
within-same false a = omega (arith, ints)

within-plus : (u : Bool) (a t d e : ℤ) → Within u a t → Within u d e → Within u (a +ℤ d) (t +ℤ e)
within-plus true a t d e h g = omega (arith, ints, h, g)
within-plus false a t d e h g = omega (arith, ints, h, g)

within-chain : (u : Bool) (a t v : ℤ) → Within u a t → Within u t v → Within u a v
within-chain true a t v h g = omega (arith, ints, h, g)
within-chain false a t v h g = omega (arith, ints, h, g)

within-part : (u : Bool) (d : ℤ) → Within u d (part u d)
within-part true d = by (int_lt d (pos 0)) refl
  where
    by : (b : Bool) → int_lt d (pos 0) ≡ b → d ≤ℤ (if b then pos 0 else d)
    by true e = omega (arith, ints, e)
    by false e = omega (arith, ints)
within-part false d = by (int_lt d (pos 0)) refl
  where
    by : (b : Bool) → int_lt d (pos 0) ≡ b → (if b then d else pos 0) ≤ℤ d
    by true e = omega (arith, ints)
    by false e = omega (arith, ints, e)

zero-part : (u : Bool) (d : ℤ) → Within u (pos 0) (part u d)
zero-part true d = by (int_lt d (pos 0)) refl
  where
    by : (b : Bool) → int_lt d (pos 0) ≡ b → pos 0 ≤ℤ (if b then pos 0 else d)
    by true e = omega (arith, ints)
    by false e = omega (arith, ints, e)
zero-part false d = by (int_lt d (pos 0)) refl
  where
    by : (b : Bool) → int_lt d (pos 0) ≡ b → (if b then d else pos 0) ≤ℤ pos 0
    by true e = omega (arith, ints, e)
    by false e = omega (arith, ints)

missed : (u : Bool) (a t : ℤ) → Within u a t → misses u (Some t) a ≡ true → ⊥
missed true a t h e = omega (arith, ints, h, e)
missed false a t h e = omega (arith, ints, h, e)

-- ---- sums over places

-- what the places below one come to, without those that were seen
abbrev masked : (ℕ → Bool) → (ℕ → ℤ) → ℕ → ℤ
masked seen f zero = pos 0
masked seen f (suc n) = (if seen n then pos 0 else f n) +ℤ masked seen f n

abbrev also : (ℕ → Bool) → ℕ → ℕ → Bool
also seen z q = seen q || q == z

or-false : (a c : Bool) → c ≡ false → (a || c) ≡ a
or-false true c e = refl
or-false false c e = e

or-true : (a c : Bool) → c ≡ true → (a || c) ≡ true
or-true true c e = refl
or-true false c e = e

not-or : (a c : Bool) → (a || c) ≡ false → (a ≡ false) × (c ≡ false)
not-or true c e = absurd (true≢false e)
not-or false c e = (refl, e)

module _ (seen : ℕ → Bool) (f : ℕ → ℤ) where
  masked-same : (z n : ℕ) → n ≤ z → masked seen f n ≡ masked (also seen z) f n
  masked-same z zero l = refl
  masked-same z (suc n) l =
      let apart : (n == z) ≡ false = ne_eqb n z (λ e. absurd (omega (arith, l, e))) in
      ap (λ b. (if b then pos 0 else f n) +ℤ masked seen f n) (sym (or-false (seen n) (n == z) apart))
      ∙ ap (λ s. (if also seen z n then pos 0 else f n) +ℤ s) (masked-same z n (omega (arith, l)))

  masked-take : (z n : ℕ) → z < n → seen z ≡ false → masked seen f n ≡ f z +ℤ masked (also seen z) f n
  masked-take z zero l e = absurd (omega (arith, l))
  masked-take z (suc n) l e = go (masked-take z n) (cases_eq n z)
    where
      go : (z < n → seen z ≡ false → masked seen f n ≡ f z +ℤ masked (also seen z) f n) → (n ≡ z) ⊎ (n ≡ z → ⊥) → masked seen f (suc n) ≡ f z +ℤ masked (also seen z) f (suc n)
      go more (inl s) =
          let here : (if seen n then pos 0 else f n) ≡ f z = ap (λ b. if b then pos 0 else f n) (ap seen s ∙ e) ∙ ap f s in
          let gone : (if also seen z n then pos 0 else f n) ≡ pos 0 = ap (λ b. if b then pos 0 else f n) (or-true (seen n) (n == z) (eq-eqb n z s)) in
          let rest : masked seen f n ≡ masked (also seen z) f n = masked-same z n (omega (arith, s)) in
          ap (λ v. v +ℤ masked seen f n) here ∙ ap (λ v. f z +ℤ v) (rest ∙ nothing (masked (also seen z) f n)) ∙ ap (λ v. f z +ℤ (v +ℤ masked (also seen z) f n)) (sym gone)
        where
          nothing : (v : ℤ) → v ≡ pos 0 +ℤ v
          nothing v = omega (arith, ints)
      go more (inr d) =
          let apart : (n == z) ≡ false = ne_eqb n z d in
          let same : (if also seen z n then pos 0 else f n) ≡ (if seen n then pos 0 else f n) = ap (λ b. if b then pos 0 else f n) (or-false (seen n) (n == z) apart) in
          ap (λ v. (if seen n then pos 0 else f n) +ℤ v) (more (omega (arith, l, d)) e)
          ∙ swapped (if seen n then pos 0 else f n) (f z) (masked (also seen z) f n)
          ∙ ap (λ v. f z +ℤ (v +ℤ masked (also seen z) f n)) (sym same)
        where
          swapped : (p q r : ℤ) → p +ℤ (q +ℤ r) ≡ q +ℤ (p +ℤ r)
          swapped p q r = omega (arith, ints)

  masked-within : (u : Bool) (n : ℕ) → ((z : ℕ) → z < n → seen z ≡ false → Within u (pos 0) (f z)) → Within u (pos 0) (masked seen f n)
  masked-within u zero h = within-same u (pos 0)
  masked-within u (suc n) h =
      within-plus u (pos 0) (if seen n then pos 0 else f n) (pos 0) (masked seen f n)
      (by (seen n) refl)
      (masked-within u n (λ z l e. h z (omega (arith, l)) e))
    where
      by : (b : Bool) → seen n ≡ b → Within u (pos 0) (if b then pos 0 else f n)
      by true e = within-same u (pos 0)
      by false e = h n (omega arith) e

-- ---- additions of a play

module _ {W S P : Type 0} (b : Board W S P) (exact : Exact b) (reads : addition.Numbers W S) (counted : addition.AreCounted b reads) (order : List ℕ) (turns : P → ℕ → Turn S) (play : Play b order turns) (k : Known S P) (valid : Valid b order turns k) where
  abbrev number_at : Cell P → ℕ → Option ℤ
  number_at c i = reads.number ((turns c.spot i).before c.column)

  none-some : {T : Type 0} (x : T) → None ≡ Some x → ⊥
  none-some x e = cc

  -- an effect adds what it is said to add
  added-so : (before : ℕ → S) (n : ℕ) (after : S) (e : Effect S) (d a : ℤ) → addition.addition n e ≡ Some d → Does b before n after e → reads.number (before n) ≡ Some a → reads.number after ≡ Some (a +ℤ d)
  added-so before n after Keeps d a h does at =
      let zero-is : pos 0 ≡ d = same_Some (pos 0) d h in
      let same : a ≡ a +ℤ d = omega (arith, ints, zero-is) in
      ap reads.number does ∙ at ∙ ap Some same
  added-so before n after (Leaves s) d a h does at = absurd (none-some d h)
  added-so before n after (Adds m z) d a h does at =
      let p = cond_some (m == n) z d h in
      ap reads.number does ∙ counted.added (before m) z a (ap (λ q. reads.number (before q)) (eqb-true m n p.0) ∙ at) ∙ ap (λ v. Some (a +ℤ v)) p.1
  added-so before n after Unknown d a h does at = absurd (none-some d h)

  sum-so : (o : Option ℤ) (d v : ℤ) → sum_of o d ≡ Some v → (a : ℤ) × (o ≡ Some a) × (v ≡ a +ℤ d)
  sum-so None d v h = absurd (none-some v h)
  sum-so (Some a) d v h = (a, refl, sym (cond_some (in_range (a +ℤ d)) (a +ℤ d) v h).1)

  -- a way leaves the number that it is said to leave
  leaves-so : (before : ℕ → S) (n : ℕ) (after : S) (e : Effect S) (wanted : Option ℤ) (v : ℤ) → ((a : ℤ) → wanted ≡ Some a → reads.number (before n) ≡ Some a) → addition.outcome reads.number wanted n e ≡ Some v → Does b before n after e → reads.number after ≡ Some v
  leaves-so before n after Keeps wanted v is h does = ap reads.number does ∙ is v h
  leaves-so before n after (Leaves s) wanted v is h does = ap reads.number does ∙ h
  leaves-so before n after (Adds m z) wanted v is h does =
      let p = cond_both_some (m == n) (sum_of wanted z) v h in
      let q = sum-so wanted z v p.1 in
      ap reads.number does ∙ counted.added (before m) z q.0 (ap (λ o. reads.number (before o)) (eqb-true m n p.0) ∙ is q.0 q.1) ∙ ap Some (sym q.2)
    where
      cond_both_some : (t : Bool) (o : Option ℤ) (x : ℤ) → (if t then o else None) ≡ Some x → (t ≡ true) × (o ≡ Some x)
      cond_both_some true o x e = (refl, e)
      cond_both_some false o x e = absurd (none-some x e)
  leaves-so before n after Unknown wanted v is h does = absurd (none-some v h)

  wanted-so : (c : Cell P) (i x n : ℕ) (w : W) (a : ℤ) → HasWay b x c.spot (turns c.spot i) n w → reads.wants w c.column ≡ Some a → number_at c i ≡ Some a
  wanted-so c i x n w a way h = counted.wanted w c.column ((turns c.spot i).before c.column) a (way.allowed c.column) h

  -- what a transaction adds by all of its ways, it adds
  pub adds-so : (c : Cell P) (i z : ℕ) (d a : ℤ) → slice_get order i ≡ Some z → addition.adds b reads k c z ≡ Some d → number_at c i ≡ Some a → number_at c (suc i) ≡ Some (a +ℤ d)
  adds-so c i z d a at h from =
      let way = play.ways c.spot i z at in
      let by = common-each (addition.way_adds b reads k c) (known.left b k z c.spot) d h way.1 (way-left b exact order turns play k valid z i way.0 c.spot way.1 at way.2) in
      ap reads.number (play.joined c.spot i c.column) ∙ added-so (turns c.spot i).before c.column ((turns c.spot i).after c.column) (b.effect c.spot way.1 c.column) d a by (way.2.does c.column) from

  pub left-so : (c : Cell P) (i x : ℕ) (v : ℤ) → slice_get order i ≡ Some x → addition.leaves_number b reads k c x ≡ Some v → number_at c (suc i) ≡ Some v
  left-so c i x v at h =
      let way = play.ways c.spot i x at in
      let by = common-each (addition.way_leaves b reads k c) (known.left b k x c.spot) v h way.1 (way-left b exact order turns play k valid x i way.0 c.spot way.1 at way.2) in
      ap reads.number (play.joined c.spot i c.column)
      ∙ leaves-so (turns c.spot i).before c.column ((turns c.spot i).after c.column) (b.effect c.spot way.1 c.column) (reads.wants way.1 c.column) v (λ a e. wanted-so c i x way.0 way.1 a way.2 e) by (way.2.does c.column)

  pub wants-so : (c : Cell P) (j y : ℕ) (n : ℤ) → slice_get order j ≡ Some y → addition.wants_number b reads k c y ≡ Some n → number_at c j ≡ Some n
  wants-so c j y n at h =
      let way = play.ways c.spot j y at in
      let by = common-each (λ w. reads.wants w c.column) (known.left b k y c.spot) n h way.1 (way-left b exact order turns play k valid y j way.0 c.spot way.1 at way.2) in
      wanted-so c j y way.0 way.1 n way.2 by

  abbrev value : Option ℤ → ℤ
  value None = pos 0
  value (Some d) = d

  module _ (u : Bool) (base : Option ℕ) (c : Cell P) (y : ℕ) where
    abbrev worth : ℕ → ℤ
    worth z = value (addition.share b reads k u base c y z)

    -- a total is a number and the shares of all
    total-is : (n : ℕ) (t r : ℤ) → addition.total b reads k u base c y n t ≡ Some r → (r ≡ t +ℤ masked (λ z. false) worth n) × ((z : ℕ) → z < n → (d : ℤ) × (addition.share b reads k u base c y z ≡ Some d))
    total-is zero t r h = (let same = same_Some t r h in omega (arith, ints, same), λ z l. absurd (omega (arith, l)))
    total-is (suc n) t r h = go (total-is n) (addition.share b reads k u base c y n) refl h
      where
        go : ((v r : ℤ) → addition.total b reads k u base c y n v ≡ Some r → (r ≡ v +ℤ masked (λ z. false) worth n) × ((z : ℕ) → z < n → (d : ℤ) × (addition.share b reads k u base c y z ≡ Some d))) → (o : Option ℤ) → addition.share b reads k u base c y n ≡ o → option_and_then (λ d. option_and_then (λ v. addition.total b reads k u base c y n v) (plus_in_range t d)) o ≡ Some r
            → (r ≡ t +ℤ masked (λ z. false) worth (suc n)) × ((z : ℕ) → z < suc n → (d : ℤ) × (addition.share b reads k u base c y z ≡ Some d))
        go below None e g = absurd (none-some r g)
        go below (Some d) e g = more below (plus_in_range t d) refl g
          where
            more : ((v r : ℤ) → addition.total b reads k u base c y n v ≡ Some r → (r ≡ v +ℤ masked (λ z. false) worth n) × ((z : ℕ) → z < n → (d : ℤ) × (addition.share b reads k u base c y z ≡ Some d))) → (o : Option ℤ) → plus_in_range t d ≡ o → option_and_then (λ v. addition.total b reads k u base c y n v) o ≡ Some r
                → (r ≡ t +ℤ masked (λ z. false) worth (suc n)) × ((z : ℕ) → z < suc n → (q : ℤ) × (addition.share b reads k u base c y z ≡ Some q))
            more below None s f = absurd (none-some r f)
            more below (Some v) s f =
                let sum : t +ℤ d ≡ v = (cond_some (in_range (t +ℤ d)) (t +ℤ d) v s).1 in
                let rest = below v r f in
                let is = rest.0 in
                let here : worth n ≡ d = ap value e in
                (added t d v r (masked (λ z. false) worth n) sum is ∙ ap (λ q. t +ℤ (q +ℤ masked (λ z. false) worth n)) (sym here), λ z l. each rest.1 z l (cases_eq z n))
              where
                added : (t d v r m : ℤ) → t +ℤ d ≡ v → r ≡ v +ℤ m → r ≡ t +ℤ (d +ℤ m)
                added t d v r m p q = omega (arith, ints, p, q)

                each : ((z : ℕ) → z < n → (q : ℤ) × (addition.share b reads k u base c y z ≡ Some q)) → (z : ℕ) → z < suc n → (z ≡ n) ⊎ (z ≡ n → ⊥) → (q : ℤ) × (addition.share b reads k u base c y z ≡ Some q)
                each below z l (inl s) = (d, ap (addition.share b reads k u base c y) s ∙ e)
                each below z l (inr s) = below z (omega (arith, l, s))

    -- ---- from a base to the reader

    -- from place s on stands all that isn't at the base
    record Starts (s : ℕ) : Type 0 where
      outside : (m z : ℕ) → s ≤ m → slice_get order m ≡ Some z → addition.is_at_base b reads k base z ≡ false
      after : (m z : ℕ) → slice_get order m ≡ Some z → addition.is_after_base b reads k base z ≡ true → s ≤ m

    module _ (s j : ℕ) (starts : Starts s) (at : slice_get order j ≡ Some y) (each : (z : ℕ) → z < b.count → (d : ℤ) × (addition.share b reads k u base c y z ≡ Some d)) where
      not-absent : (i x : ℕ) → slice_get order i ≡ Some x → known.is_among x k.absent ≡ false
      not-absent i x at-x = false_from_ne_true (known.is_among x k.absent) (λ t.
          let z = any-one (λ j. j == x) k.absent t in
          valid.absent z.0 z.1 (i, at-x ∙ ap Some (sym (eqb-true z.0 x z.2))))

      -- who stands there isn't outside
      inside : (m z : ℕ) → s ≤ m → m < j → slice_get order m ≡ Some z → addition.is_outside b reads k base y z ≡ false
      inside m z l h at-z = false_from_ne_true (addition.is_outside b reads k base y z) (λ t. by (or_cases (z == y || known.is_among z k.absent || known.comes_before b k y z) (addition.is_at_base b reads k base z) t))
        where
          first : (z == y) ≡ true → ⊥
          first e = let same : m ≡ j = play.once m j y (at-z ∙ ap Some (eqb-true z y e)) at in omega (arith, h, same)

          second : known.comes_before b k y z ≡ true → ⊥
          second e = let g = before-is b exact order turns play k valid y z e j m at at-z in omega (arith, h, g)

          two : (z == y || known.is_among z k.absent) ≡ true → ⊥
          two e = go (or_cases (z == y) (known.is_among z k.absent) e)
            where
              go : ((z == y) ≡ true) ⊎ (known.is_among z k.absent ≡ true) → ⊥
              go (inl q) = first q
              go (inr q) = true≢false (sym q ∙ not-absent m z at-z)

          three : (z == y || known.is_among z k.absent || known.comes_before b k y z) ≡ true → ⊥
          three e = go (or_cases (z == y || known.is_among z k.absent) (known.comes_before b k y z) e)
            where
              go : ((z == y || known.is_among z k.absent) ≡ true) ⊎ (known.comes_before b k y z ≡ true) → ⊥
              go (inl q) = two q
              go (inr q) = second q

          by : ((z == y || known.is_among z k.absent || known.comes_before b k y z) ≡ true) ⊎ (addition.is_at_base b reads k base z ≡ true) → ⊥
          by (inl e) = three e
          by (inr e) = true≢false (sym e ∙ starts.outside m z l at-z)

      -- who surely stands between them stands there
      stands : (z : ℕ) → addition.is_between b reads k base y z ≡ true → (m : ℕ) × (s ≤ m) × (m < j) × (slice_get order m ≡ Some z)
      stands z e =
          let p = and_parts (known.is_present b k z && addition.is_after_base b reads k base z) (known.comes_before b k z y) e in
          let q = and_parts (known.is_present b k z) (addition.is_after_base b reads k base z) p.0 in
          let there = there-is b exact order turns play k valid z q.0 in
          (there.0, starts.after there.0 z there.1 q.1, before-is b exact order turns play k valid z y p.1 there.0 j there.1 at, there.1)

      within-share : (between : Bool) (d : ℤ) → Within u d (if between then d else part u d)
      within-share true d = within-same u d
      within-share false d = within-part u d

      -- who stands there adds no more, or no less, than its share
      step : (m z : ℕ) (a : ℤ) → s ≤ m → m < j → slice_get order m ≡ Some z → number_at c m ≡ Some a → (d : ℤ) × (number_at c (suc m) ≡ Some (a +ℤ d)) × Within u d (worth z)
      step m z a l h at-z from =
          let share = each z (play.within m z at-z) in
          let shown : share_of u (addition.is_between b reads k base y z) (addition.adds b reads k c z) ≡ Some share.0 =
          sym (ap (λ t. if t then Some (pos 0) else share_of u (addition.is_between b reads k base y z) (addition.adds b reads k c z)) (inside m z l h at-z)) ∙ share.1 in
          go share.0 share.1 (addition.adds b reads k c z) refl shown
        where
          go : (r : ℤ) → addition.share b reads k u base c y z ≡ Some r → (o : Option ℤ) → addition.adds b reads k c z ≡ o → share_of u (addition.is_between b reads k base y z) o ≡ Some r
              → (d : ℤ) × (number_at c (suc m) ≡ Some (a +ℤ d)) × Within u d (worth z)
          go r is None e g = absurd (none-some r g)
          go r is (Some d) e g = (d, adds-so c m z d a at-z e from, subst (λ v. Within u d v) (same_Some (if addition.is_between b reads k base y z then d else part u d) r g ∙ sym (ap value is)) (within-share (addition.is_between b reads k base y z) d))

      -- who doesn't may add nothing
      rest : (z : ℕ) → z < b.count → ((m : ℕ) → s ≤ m → m < j → slice_get order m ≡ Some z → ⊥) → Within u (pos 0) (worth z)
      rest z l none = by (each z l) (cases_Bool (addition.is_outside b reads k base y z))
        where
          apart : addition.is_between b reads k base y z ≡ false
          apart = false_from_ne_true (addition.is_between b reads k base y z) (λ t. let g = stands z t in none g.0 g.1 g.2 g.3)

          go : (o : Option ℤ) (r : ℤ) → addition.share b reads k u base c y z ≡ Some r → share_of u (addition.is_between b reads k base y z) o ≡ Some r → Within u (pos 0) (worth z)
          go None r is g = absurd (none-some r g)
          go (Some d) r is g =
              subst (λ v. Within u (pos 0) v) (ap (λ t. if t then d else part u d) (sym apart) ∙ same_Some (if addition.is_between b reads k base y z then d else part u d) r g ∙ sym (ap value is)) (zero-part u d)

          by : ((d : ℤ) × (addition.share b reads k u base c y z ≡ Some d)) → (addition.is_outside b reads k base y z ≡ true) ⊎ (addition.is_outside b reads k base y z ≡ false) → Within u (pos 0) (worth z)
          by share (inl t) = subst (λ v. Within u (pos 0) v) (sym (ap value (ap (λ t. if t then Some (pos 0) else share_of u (addition.is_between b reads k base y z) (addition.adds b reads k c z)) t))) (within-same u (pos 0))
          by share (inr t) = go (addition.adds b reads k c z) share.0 share.1 (sym (ap (λ t. if t then Some (pos 0) else share_of u (addition.is_between b reads k base y z) (addition.adds b reads k c z)) t) ∙ share.1)

      -- from a place on, with those that stood before it
      walk : (n m : ℕ) (a : ℤ) (seen : ℕ → Bool) → s ≤ m → m + n ≡ j → number_at c m ≡ Some a
          → ((i z : ℕ) → m ≤ i → i < j → slice_get order i ≡ Some z → seen z ≡ false)
          → ((z : ℕ) → z < b.count → seen z ≡ false → ((i : ℕ) → m ≤ i → i < j → slice_get order i ≡ Some z → ⊥) → Within u (pos 0) (worth z))
          → (r : ℤ) × (number_at c j ≡ Some r) × Within u r (a +ℤ masked seen worth b.count)
      walk zero m a seen l e from fresh more =
          let here : m ≡ j = omega (arith, e) in (
            a,
            ap (number_at c) (sym here) ∙ from,
            subst (λ v. Within u v (a +ℤ masked seen worth b.count)) (plain a)
                (within-plus u a a (pos 0) (masked seen worth b.count) (within-same u a) (masked-within seen worth u b.count (λ z g f. more z g f (λ i p q at-z. omega (arith, here, p, q))))),
          )
        where
          plain : (a : ℤ) → a +ℤ pos 0 ≡ a
          plain a = omega (arith, ints)
      walk (suc n) m a seen l e from fresh more =
          let h : m < j = omega (arith, e) in
          let next = place-before order m j y h at in
          let z = next.0 in
          let done = step m z a l h next.1 from in
          let d = done.0 in
          let new : seen z ≡ false = fresh m z (omega arith) h next.1 in
          let r = walk n (suc m) (a +ℤ d) (also seen z) (omega (arith, l)) (omega (arith, e)) done.1
          (λ i q p g at-q. let old = fresh i q (omega (arith, p)) g at-q in
          or-false (seen q) (q == z) (ne_eqb q z (λ s. let same : i ≡ m = play.once i m z (at-q ∙ ap Some s) next.1 in omega (arith, p, same))) ∙ old)
          (λ q g f none. let parts = not-or (seen q) (q == z) f in
          more q g parts.0 (λ i p t at-q. by z i q next.1 p t at-q none parts.1 (cases_eq i m))) in (
            r.0,
            r.1,
            subst (λ v. Within u r.0 v) (sums a d (worth z) (masked (also seen z) worth b.count) ∙ ap (λ v. a +ℤ v) (sym (masked-take seen worth z b.count (play.within m z next.1) new)))
                (chain r.0 (a +ℤ d +ℤ masked (also seen z) worth b.count) (a +ℤ worth z +ℤ masked (also seen z) worth b.count) r.2
                (within-plus u (a +ℤ d) (a +ℤ worth z) (masked (also seen z) worth b.count) (masked (also seen z) worth b.count) (within-plus u a a d (worth z) (within-same u a) done.2) (within-same u (masked (also seen z) worth b.count)))),
          )
        where
          sums : (a d v m : ℤ) → a +ℤ v +ℤ m ≡ a +ℤ (v +ℤ m)
          sums a d v m = omega (arith, ints)

          chain : (p q v : ℤ) → Within u p q → Within u q v → Within u p v
          chain p q v f g = within-chain u p q v f g

          by : (z i q : ℕ) → slice_get order m ≡ Some z → m ≤ i → i < j → slice_get order i ≡ Some q → ((i : ℕ) → suc m ≤ i → i < j → slice_get order i ≡ Some q → ⊥) → (q == z) ≡ false → (i ≡ m) ⊎ (i ≡ m → ⊥) → ⊥
          by z i q at-z p t at-q none f (inl s) = eqb-false q z f (same_Some q z (sym at-q ∙ ap (slice_get order) s ∙ at-z))
          by z i q at-z p t at-q none f (inr s) = none i (omega (arith, p, s)) t at-q

  -- ---- the bounds

  module _ (u : Bool) (c : Cell P) (y j : ℕ) (at : slice_get order j ≡ Some y) where
    bounded : (base : Option ℕ) (s : ℕ) (v r n : ℤ) → Starts u base c y s → s ≤ j → number_at c s ≡ Some v → addition.total b reads k u base c y b.count v ≡ Some r → number_at c j ≡ Some n → Within u n r
    bounded base s v r n starts l from total found =
        let is = total-is u base c y b.count v r total in
        let more : s + (j - s) ≡ j = omega (arith, l) in
        let end = walk u base c y s j starts at is.1 (j - s) s v (λ z. false) (omega arith) more from (λ i z p q e. refl) (λ z g e none. rest u base c y s j starts at is.1 z g none) in
        subst (λ a. Within u a r) (same_Some end.0 n (sym end.1 ∙ found)) (subst (λ t. Within u end.0 t) (sym is.0) end.2)

    opening-starts : Starts u None c y 0
    opening-starts = record { outside = λ m z l e. refl; after = λ m z e t. omega arith }

    base-starts : (x i : ℕ) → slice_get order i ≡ Some x → Starts u (Some x) c y (suc i)
    base-starts x i at-x = record {
      outside = λ m z l at-z. false_from_ne_true (z == x || known.comes_before b k z x) (λ t. by m z l at-z (or_cases (z == x) (known.comes_before b k z x) t));
      after = λ m z at-z t. before-is b exact order turns play k valid x z t i m at-x at-z;
    }
      where
        by : (m z : ℕ) → suc i ≤ m → slice_get order m ≡ Some z → ((z == x) ≡ true) ⊎ (known.comes_before b k z x ≡ true) → ⊥
        by m z l at-z (inl e) = let same : m ≡ i = play.once m i x (at-z ∙ ap Some (eqb-true z x e)) at-x in omega (arith, l, same)
        by m z l at-z (inr e) = let g = before-is b exact order turns play k valid z x e m i at-z at-x in omega (arith, l, g)

    within-bound : (base : Option ℕ) (n : ℤ) → addition.is_base b reads k base y ≡ true → number_at c j ≡ Some n → misses u (addition.bound b reads k u base c y) n ≡ true → ⊥
    within-bound base n is found h = go (addition.base_number b reads k base c) refl h
      where
        reach : (base : Option ℕ) (v r : ℤ) → addition.is_base b reads k base y ≡ true → addition.base_number b reads k base c ≡ Some v → addition.total b reads k u base c y b.count v ≡ Some r → Within u n r
        reach None v r is e t = bounded None 0 v r n opening-starts (omega arith) (ap reads.number (play.opened c.spot c.column) ∙ e) t found
        reach (Some x) v r is e t =
            let p = and_parts (known.is_present b k x) (known.comes_before b k x y) is in
            let there = there-is b exact order turns play k valid x p.0 in
            let l = before-is b exact order turns play k valid x y p.1 there.0 j there.1 at in
            bounded (Some x) (suc there.0) v r n (base-starts x there.0 there.1) (omega (arith, l)) (left-so c there.0 x v there.1 e) t found

        none-missed : (t : ℤ) → misses u None n ≡ true → ⊥
        none-missed t e = true≢false (sym e)

        go : (o : Option ℤ) → addition.base_number b reads k base c ≡ o → misses u (option_and_then (addition.total b reads k u base c y b.count) o) n ≡ true → ⊥
        go None e g = none-missed n g
        go (Some v) e g = by (addition.total b reads k u base c y b.count v) refl g
          where
            by : (o : Option ℤ) → addition.total b reads k u base c y b.count v ≡ o → misses u o n ≡ true → ⊥
            by None t q = none-missed n q
            by (Some r) t q = missed u n r (reach base v r is e t) q

  not-out : (c : Cell P) (y j : ℕ) (n : ℤ) (base : Option ℕ) → slice_get order j ≡ Some y → number_at c j ≡ Some n → addition.is_out b reads k c y n base ≡ true → ⊥
  not-out c y j n base at found h =
      let p = and_parts (addition.is_base b reads k base y) (misses false (addition.bound b reads k false base c y) n || misses true (addition.bound b reads k true base c y) n) h in
      go p.0 (or_cases (misses false (addition.bound b reads k false base c y) n) (misses true (addition.bound b reads k true base c y) n) p.1)
    where
      go : addition.is_base b reads k base y ≡ true → (misses false (addition.bound b reads k false base c y) n ≡ true) ⊎ (misses true (addition.bound b reads k true base c y) n ≡ true) → ⊥
      go is (inl e) = within-bound false c y j at base n is found e
      go is (inr e) = within-bound true c y j at base n is found e

  -- a reader finds no number that is beyond what additions come to
  pub not-beyond : (c : Cell P) (y : ℕ) → addition.is_beyond b reads k c y ≡ true → ⊥
  not-beyond c y h =
      let p = and_parts (known.is_present b k y) (option_map_or (addition.is_out_of_all b reads k c y) (addition.wants_number b reads k c y) false) h in
      let there = there-is b exact order turns play k valid y p.0 in
      go there.0 there.1 (addition.wants_number b reads k c y) refl p.1
    where
      all : (j : ℕ) (n : ℤ) → slice_get order j ≡ Some y → number_at c j ≡ Some n → (addition.is_out b reads k c y n None ≡ true) ⊎ (list_any (λ x. addition.is_out b reads k c y n (Some x)) (places_below b.count) ≡ true) → ⊥
      all j n at found (inl e) = not-out c y j n None at found e
      all j n at found (inr e) = let x = any-one (λ x. addition.is_out b reads k c y n (Some x)) (places_below b.count) e in not-out c y j n (Some x.0) at found x.2

      go : (j : ℕ) → slice_get order j ≡ Some y → (o : Option ℤ) → addition.wants_number b reads k c y ≡ o → option_map_or (addition.is_out_of_all b reads k c y) o false ≡ true → ⊥
      go j at None e g = true≢false (sym g)
      go j at (Some n) e g = all j n at (wants-so c j y n at e) (or_cases (addition.is_out b reads k c y n None) (list_any (λ x. addition.is_out b reads k c y n (Some x)) (places_below b.count)) g)
