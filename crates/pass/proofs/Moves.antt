-- Each step keeps the rule.
use Rattle.std.proofs.Common.{◌≡◌, ◌≢◌, ◌⊎◌, ℕ, zero, suc, ◌+◌, ◌%◌, ◌^◌, ◌<◌, Bool, true, false, true≢false, List, [], ◌∷◌, ◌++◌, length, set, refl, ap, sym, ◌∙◌, subst, inl, inr, ⊎_elim, arith, length-append}
use Rattle.std.specs.Prelude.{◌==◌, slice_index, slice_set}
use Rattle.std.proofs.lemmas.Bool.Decides.{nat_tests}
use Rattle.value.proofs.Basics.{one_word, word_next}
use mathlib.Core.Option.{some, some-ne-none, some-injective}
use mathlib.Core.List.{IsPrefix}
use lib.ListN.{get_elem?}
use prog.Atomic.{either}
use Rattle.atomic_table.specs.Table.{keeps, Allows, Splits, Joins}
use Rattle.atomic_table.proofs.Lists.{at_set, at_snoc}
use Rattle.history.specs.declared.event.Record.{Record}
use Rattle.history.specs.Opening.{Opening}
use Rattle.history.specs.Answer.{Allowed, of_session, answer}
use Rattle.pass.specs.declared.knowledge.Knowledge.{Knowledge}
use Rattle.pass.specs.Knowing.{pick, longer}
use Rattle.pass.specs.Rules.{opener, nobody, bare, part, note, one_more, next_one, united, heard, Fits, AllFit, AreApart, IsKeptBy, IsKept, Looked, Compared, Checked, Noted, added, Added}
use Rattle.pass.proofs.Legality.{legal_sound, legal_none, legal_next}
use Rattle.pass.proofs.Prefixes.{prefix_self, prefix_more, prefix_shorter, of_session_own, of_session_other, squeeze, pick_either, longer_cases, at_end}

off : false ≡ true → ⊥
off e = true≢false (sym e)

-- a word that stays
word_same : (ws : List ℕ) (n : ℕ) → ws ≡ n ∷ [] → slice_set ws 0 (slice_index ws 0) ≡ n ∷ []
word_same ws n e = subst (λ (l : List ℕ). slice_set l 0 (slice_index l 0) ≡ n ∷ []) (sym e) refl

stays : (n : ℕ) → either (n == 0) 0 n ≡ n
stays n = go (n == 0) refl
  where
    go : (b : Bool) → (n == 0) ≡ b → either b 0 n ≡ n
    go true e = let none : n ≡ 0 = grind (arith, nat_tests) in sym none
    go false e = refl

-- one view changes, and the others still fit
fits_set : {A : Type 0} (log : List (Record A)) (keeper made : ℕ) (views : List (Knowledge A)) (id : ℕ) (w : Knowledge A) → ((j : ℕ) (u : Knowledge A) → j ≢ id → get_elem? views j ≡ some u → Fits log keeper made j u) → Fits log keeper made id w → AllFit log keeper made (set views id w)
fits_set {A} log keeper made views id w others mine j u e =
    ⊎_elim
    (λ (x : (j ≡ id) × (w ≡ u)). subst (λ (y : ℕ × Knowledge A). Fits log keeper made y.0 y.1) (λ i. (sym x.0 i, x.1 i)) mine)
    (λ (x : (j ≢ id) × (get_elem? views j ≡ some u)). others j u x.0 x.1)
    (at_set views id j w u e)

fits_snoc : {A : Type 0} (log : List (Record A)) (keeper made : ℕ) (views : List (Knowledge A)) (w : Knowledge A) → AllFit log keeper made views → ((j : ℕ) → Fits log keeper made j w) → AllFit log keeper made (views ++ w ∷ [])
fits_snoc {A} log keeper made views w all mine j u e =
    ⊎_elim
    (λ (x : get_elem? views j ≡ some u). all j u x)
    (λ (x : w ≡ u). subst (λ (y : Knowledge A). Fits log keeper made j y) x (mine j))
    (at_snoc views w u j e)

-- a seat's right stays what it was, or goes
apart_set : {A : Type 0} (views : List (Knowledge A)) (id : ℕ) (v w : Knowledge A) → AreApart views → get_elem? views id ≡ some v → (w.holds ≡ true → (v.holds ≡ true) × (w.session ≡ v.session)) → AreApart (set views id w)
apart_set {A} views id v w apart at same i j x y ei ej hx hy s =
    ⊎_elim
    (λ (a : (i ≡ id) × (w ≡ x)).
    ⊎_elim
    (λ (b : (j ≡ id) × (w ≡ y)). a.0 ∙ sym b.0)
    (λ (b : (j ≢ id) × (get_elem? views j ≡ some y)).
    let h = same (subst (λ (u : Knowledge A). u.holds ≡ true) (sym a.1) hx) in
    a.0 ∙ apart id j v y at b.1 h.0 hy (sym h.1 ∙ ap (λ (u : Knowledge A). u.session) a.1 ∙ s))
    (at_set views id j w y ej))
    (λ (a : (i ≢ id) × (get_elem? views i ≡ some x)).
    ⊎_elim
    (λ (b : (j ≡ id) × (w ≡ y)).
    let h = same (subst (λ (u : Knowledge A). u.holds ≡ true) (sym b.1) hy) in
    apart i id x v a.1 at hx h.0 (s ∙ sym (ap (λ (u : Knowledge A). u.session) b.1) ∙ h.1) ∙ sym b.0)
    (λ (b : (j ≢ id) × (get_elem? views j ≡ some y)). apart i j x y a.1 b.1 hx hy s)
    (at_set views id j w y ej))
    (at_set views id i w x ei)

-- a new seat with a right that no other has
apart_snoc : {A : Type 0} (views : List (Knowledge A)) (w : Knowledge A) → AreApart views → ((j : ℕ) (u : Knowledge A) → get_elem? views j ≡ some u → u.holds ≡ true → w.holds ≡ true → u.session ≡ w.session → ⊥) → AreApart (views ++ w ∷ [])
apart_snoc {A} views w apart alone i j x y ei ej hx hy s =
    ⊎_elim
    (λ (a : get_elem? views i ≡ some x).
    ⊎_elim
    (λ (b : get_elem? views j ≡ some y). apart i j x y a b hx hy s)
    (λ (b : (j ≡ length views) × (w ≡ y)). absurd (alone i x a hx (subst (λ (u : Knowledge A). u.holds ≡ true) (sym b.1) hy) (s ∙ sym (ap (λ (u : Knowledge A). u.session) b.1))))
    (at_end views w y j ej))
    (λ (a : (i ≡ length views) × (w ≡ x)).
    ⊎_elim
    (λ (b : get_elem? views j ≡ some y). absurd (alone j y b hy (subst (λ (u : Knowledge A). u.holds ≡ true) (sym a.1) hx) (sym s ∙ sym (ap (λ (u : Knowledge A). u.session) a.1))))
    (λ (b : (j ≡ length views) × (w ≡ y)). a.0 ∙ sym b.0)
    (at_end views w y j ej))
    (at_end views w x i ei)

-- a seat other than one whose view was changed knows what it knew
beside : {A : Type 0} (views : List (Knowledge A)) (id other : ℕ) (b w : Knowledge A) → ¬ (other ≡ id) → get_elem? (set views id b) other ≡ some w → get_elem? views other ≡ some w
beside {A} views id other b w ne there =
    ⊎_elim (λ (t : (other ≡ id) × (b ≡ w)). absurd (ne t.0)) (λ (t : (other ≢ id) × (get_elem? views other ≡ some w)). t.1) (at_set views id other b w there)

-- a right goes over from one seat to another, whose own is given up
apart_over : {A : Type 0} (views : List (Knowledge A)) (id other : ℕ) (v b w : Knowledge A) → AreApart views → get_elem? views id ≡ some v → ¬ (other ≡ id) → get_elem? (set views id b) other ≡ some w → (b.holds ≡ true → (w.holds ≡ true) × (b.session ≡ w.session)) → AreApart (set (set views id b) other nobody)
apart_over {A} views id other v b w apart at ne there same i j x y ei ej hx hy s =
    let was = beside views id other b w ne there in
    let none : (k : ℕ) (u : Knowledge A) → (k ≡ other) × (nobody ≡ u) → u.holds ≡ true → ⊥ = λ k u t h. off (ap (λ (q : Knowledge A). q.holds) t.1 ∙ h) in
    let case : (k : ℕ) (u : Knowledge A) → get_elem? (set (set views id b) other nobody) k ≡ some u → u.holds ≡ true → ((k ≡ id) × (b ≡ u)) ⊎ ((k ≢ other) × (get_elem? views k ≡ some u)) =
    λ k u e h. ⊎_elim
    (λ (t : (k ≡ other) × (nobody ≡ u)). absurd (none k u t h))
    (λ (t : (k ≢ other) × (get_elem? (set views id b) k ≡ some u)).
    ⊎_elim (λ (q : (k ≡ id) × (b ≡ u)). inl q) (λ (q : (k ≢ id) × (get_elem? views k ≡ some u)). inr (t.0, q.1)) (at_set views id k b u t.1))
    (at_set (set views id b) other k nobody u e) in
    ⊎_elim
    (λ (p : (i ≡ id) × (b ≡ x)).
    ⊎_elim
    (λ (q : (j ≡ id) × (b ≡ y)). p.0 ∙ sym q.0)
    (λ (q : (j ≢ other) × (get_elem? views j ≡ some y)).
    let h = same (subst (λ (u : Knowledge A). u.holds ≡ true) (sym p.1) hx) in
    absurd (q.0 (sym (apart other j w y was q.1 h.0 hy (sym h.1 ∙ ap (λ (u : Knowledge A). u.session) p.1 ∙ s)))))
    (case j y ej hy))
    (λ (p : (i ≢ other) × (get_elem? views i ≡ some x)).
    ⊎_elim
    (λ (q : (j ≡ id) × (b ≡ y)).
    let h = same (subst (λ (u : Knowledge A). u.holds ≡ true) (sym q.1) hy) in
    absurd (p.0 (apart i other x w p.1 was hx h.0 (s ∙ sym (ap (λ (u : Knowledge A). u.session) q.1) ∙ h.1))))
    (λ (q : (j ≢ other) × (get_elem? views j ≡ some y)). apart i j x y p.1 q.1 hx hy s)
    (case j y ej hy))
    (case i x ei hx)

pub begins : {A : Type 0} (opening : Opening A) → IsKept opening record { words = 0 ∷ []; homes = []; views = opener ∷ [] }
begins {A} opening = ([], 0, 0, record { words = refl; legal = λ e. legal_none opening e; fits = fits; apart = apart })
  where
    fits : AllFit {A = A} [] 0 0 (opener ∷ [])
    fits zero v e = subst (Fits [] 0 0 0) (some-injective _ _ e) (record { seen = ([], refl); told = ([], refl); keeps = λ _. (refl, refl, refl); holds = λ h. absurd (off h) })
    fits (suc by) v e = absurd (some-ne-none v (sym e))

    apart : AreApart {A = A} (opener ∷ [])
    apart zero j v w ei ej hv hw s = absurd (off (ap (λ (u : Knowledge A). u.holds) (some-injective _ _ ei) ∙ hv))
    apart (suc i) j v w ei ej hv hw s = absurd (some-ne-none v (sym ei))

-- ---- the rule is kept

module _ {A : Type 0} {opening : Opening A} {log : List (Record A)} {keeper made : ℕ} {ws : List ℕ} {views : List (Knowledge A)} (id : ℕ) (v : Knowledge A) (k : IsKeptBy opening log keeper made ws views) (at : get_elem? views id ≡ some v) where
  -- one seat knows something else of the same history, and its right stays what it was, or goes
  still_kept : {after : List ℕ} (w : Knowledge A) → after ≡ length log ∷ [] → Fits log keeper made id w → (w.holds ≡ true → (v.holds ≡ true) × (w.session ≡ v.session)) → IsKeptBy opening log keeper made after (set views id w)
  still_kept w words mine same = record {
    words = words;
    legal = k.legal;
    fits = fits_set log keeper made views id w (λ j u _ e. k.fits j u e) mine;
    apart = apart_set views id v w k.apart at same;
  }

  -- and a new seat knows of it too
  split_kept : (b w : Knowledge A) → Fits log keeper made id b → ((j : ℕ) → Fits log keeper made j w) → AreApart (set views id b ++ w ∷ []) → IsKeptBy opening log keeper made ws (set views id b ++ w ∷ [])
  split_kept b w mine theirs apart = record {
    words = k.words;
    legal = k.legal;
    fits = fits_snoc log keeper made (set views id b) w (fits_set log keeper made views id b (λ j u _ e. k.fits j u e) mine) theirs;
    apart = apart;
  }

  -- and another seat is given up
  join_kept : (other : ℕ) (b : Knowledge A) → Fits log keeper made id b → AreApart (set (set views id b) other nobody) → IsKeptBy opening log keeper made ws (set (set views id b) other nobody)
  join_kept other b mine apart = record {
    words = k.words;
    legal = k.legal;
    fits = fits_set log keeper made (set views id b) other nobody (λ j u _ e. fits_set log keeper made views id b (λ i y _ e'. k.fits i y e') mine j u e) record { seen = (log, refl); told = (log, refl); keeps = λ t. absurd (off t); holds = λ t. absurd (off t) };
    apart = apart;
  }

module _ {A : Type 0} (opening : Opening A) (slots id : ℕ) (v : Knowledge A) (c : List (ℕ × Record A)) where
  -- a pass looks
  pub looks : v.keeps ≡ false → Allows (IsKept opening) slots id (v, c) 0 (λ n. n) (λ n w. Looked opening v n w.0 × (w.1 ≡ c))
  looks alone s h len at small =
      let log = h.0 in
      let k = h.3 in
      let mine = k.fits id v at in
      let w : Knowledge A = record v { seen = log } in
      let n = one_word s.words (length log) k.words in (
        w,
        keeps,
        tt,
        (
          log,
          h.1,
          h.2,
          still_kept id v k at w (word_same s.words (length log) k.words)
              record { seen = prefix_self log; told = mine.told; keeps = λ t. absurd (true≢false (sym t ∙ alone)); holds = mine.holds }
              (λ t. (t, refl)),
        ),
        (record { same = refl; begins = mine.seen; length_is = n; legal = λ l. k.legal (legal_sound opening v.seen l); mine = λ t. (mine.holds t).0 }, refl),
      )

  -- what was passed on is compared
  pub compares : v.keeps ≡ false → Allows (IsKept opening) slots id (v, c) 0 (λ n. n) (λ n w. Compared v w.0 × (w.1 ≡ c))
  compares alone s h len at small =
      let log = h.0 in
      let k = h.3 in
      let mine = k.fits id v at in
      let best = longer v.seen v.told in
      let w : Knowledge A = record v { seen = best } in
      let inside : IsPrefix best log = longer_cases v.seen v.told (λ l. IsPrefix l log) (λ _. mine.told) (λ _. mine.seen) in
      let up : IsPrefix v.seen best = longer_cases v.seen v.told (λ l. IsPrefix v.seen l) (λ le. prefix_shorter v.seen v.told log mine.seen mine.told le) (λ _. prefix_self v.seen) in
      let other : IsPrefix v.told best = longer_cases v.seen v.told (λ l. IsPrefix v.told l) (λ _. prefix_self v.told) (λ le. prefix_shorter v.told v.seen log mine.told mine.seen le) in (
        w,
        keeps,
        tt,
        (
          log,
          h.1,
          h.2,
          still_kept id v k at w (word_same s.words (length log) k.words)
              record { seen = inside; told = mine.told; keeps = λ t. absurd (true≢false (sym t ∙ alone)); holds = mine.holds }
              (λ t. (t, refl)),
        ),
        (record { same = refl; seen = up; told = other; mine = λ t e. e ∙ squeeze v.session v.seen best log up inside (sym e ∙ (mine.holds t).0) }, refl),
      )

  -- the lock's seat looks at a pass whose history it was given
  pub checks : v.keeps ≡ true → v.holds ≡ true → Allows (IsKept opening) slots id (v, c) 0 (λ n. n) (λ n w. Checked v w.0 × (w.1 ≡ c))
  checks whole has s h len at small =
      let log = h.0 in
      let k = h.3 in
      let mine = k.fits id v at in
      let all = (mine.keeps whole).1 in (
        v,
        keeps,
        tt,
        (log, h.1, h.2, still_kept id v k at v (word_same s.words (length log) k.words) mine (λ t. (t, refl))),
        ((refl, subst (λ l. IsPrefix v.told l) (sym all) mine.told, subst (λ l. v.mine ≡ of_session v.session l) (sym all) (mine.holds has).0), refl),
      )

  -- the lock's seat is given the event that comes next
  pub expects : (e : Record A) → v.keeps ≡ true → v.holds ≡ true → Allows (IsKept opening) slots id (v, c) 0 (λ n. either (n == 0) 0 n) (λ n w. Noted (some e) v w.0 × (w.1 ≡ c))
  expects e whole has s h len at small =
      let log = h.0 in
      let k = h.3 in
      let mine = k.fits id v at in
      let w : Knowledge A = record v { next = e } in (
        w,
        keeps,
        tt,
        (
          log,
          h.1,
          h.2,
          still_kept id v k at w
              (ap (λ (n : ℕ). slice_set s.words 0 n) (stays (slice_index s.words 0)) ∙ word_same s.words (length log) k.words)
              record { seen = mine.seen; told = mine.told; keeps = mine.keeps; holds = mine.holds }
              (λ t. (t, refl)),
        ),
        (refl, refl),
      )

  -- the lock's seat adds an event of the session that it holds
  pub adds : v.keeps ≡ true → v.holds ≡ true → v.next.session ≡ v.session → Allowed opening.catalog v.next.action → v.next.reply ≡ answer opening v.seen v.session v.next.action → length v.seen + 1 < 2 ^ 64 → Allows (IsKept opening) slots id (v, c) 0 (λ n. (n + 1) % 2 ^ 64) (λ n w. Added v w.0 × (w.1 ≡ c))
  adds whole has by may reply room s h len at small =
      let all : v.seen ≡ h.0 = ((h.3.fits id v at).keeps whole).1 in
      let k : IsKeptBy opening v.seen h.1 h.2 s.words s.views = subst (λ l. IsKeptBy opening l h.1 h.2 s.words s.views) (sym all) h.3 in
      let mine = k.fits id v at in
      let here = mine.keeps whole in
      let e : Record A = v.next in
      let log = v.seen ++ e ∷ [] in
      let w : Knowledge A = added v in
      let long : length log ≡ length v.seen + 1 = length-append v.seen (e ∷ []) in
      let others : (j : ℕ) (u : Knowledge A) → ¬ (j ≡ id) → get_elem? s.views j ≡ some u → Fits log h.1 h.2 j u =
      λ j u ne eu.
      let f = k.fits j u eu in
      record {
        seen = prefix_more u.seen v.seen (e ∷ []) f.seen;
        told = prefix_more u.told v.seen (e ∷ []) f.told;
        keeps = λ t. absurd (ne ((f.keeps t).0 ∙ sym here.0));
        holds = λ t. ((f.holds t).0 ∙ sym (of_session_other u.session v.seen e (λ q. ne (k.apart j id u v eu at t has (sym q ∙ by)))), (f.holds t).1);
      } in (
        w,
        keeps,
        tt,
        (
          log,
          h.1,
          h.2,
          record {
            words = word_next s.words (length v.seen) k.words room ∙ ap (λ (n : ℕ). n ∷ []) (sym long);
            legal = λ t. legal_next opening v.seen e (k.legal t) may (reply ∙ ap (λ (n : ℕ). answer opening v.seen n e.action) (sym by));
            fits = fits_set log h.1 h.2 s.views id w others record { seen = prefix_self log; told = prefix_more v.told v.seen (e ∷ []) mine.told; keeps = λ t. (here.0, refl, here.2); holds = λ t. (ap (λ l. l ++ (e.action, e.reply) ∷ []) (mine.holds t).0 ∙ sym (of_session_own v.session v.seen e by), (mine.holds t).1) };
            apart = apart_set s.views id v w k.apart at (λ t. (t, refl));
          },
        ),
        ((refl, mine.told, (mine.holds has).0), refl),
      )

module _ {A : Type 0} (opening : Opening A) (id : ℕ) (v : Knowledge A) where
  pub parts : Splits (IsKept opening) id v (bare v) (part v)
  parts s h at =
      let log = h.0 in
      let k = h.3 in
      let mine = k.fits id v at in (
        log,
        h.1,
        h.2,
        split_kept id v k at (bare v) (part v)
            record { seen = mine.seen; told = mine.told; keeps = mine.keeps; holds = λ t. absurd (off t) }
            (λ j. record { seen = mine.seen; told = mine.told; keeps = λ t. absurd (off t); holds = mine.holds })
            (apart_snoc (set s.views id (bare v)) (part v) (apart_set s.views id v (bare v) k.apart at (λ t. absurd (off t)))
            (λ j u e hu hv same.
            ⊎_elim
            (λ (x : (j ≡ id) × (bare v ≡ u)). off (ap (λ (q : Knowledge A). q.holds) x.1 ∙ hu))
            (λ (x : (j ≢ id) × (get_elem? s.views j ≡ some u)). x.0 (k.apart j id u v x.1 at hu hv same))
            (at_set s.views id j (bare v) u e))),
      )

  pub nexts : v.keeps ≡ true → Splits (IsKept opening) id v (one_more v) (next_one v)
  nexts whole s h at =
      let log = h.0 in
      let k = h.3 in
      let mine = k.fits id v at in
      let here = mine.keeps whole in
      let others : (j : ℕ) (u : Knowledge A) → ¬ (j ≡ id) → get_elem? s.views j ≡ some u → Fits log h.1 (h.2 + 1) j u =
      λ j u ne e. let f = k.fits j u e in record { seen = f.seen; told = f.told; keeps = λ t. absurd (ne ((f.keeps t).0 ∙ sym here.0)); holds = λ t. let b = (f.holds t).1 in ((f.holds t).0, omega arith) } in
      let made : v.made ≡ h.2 = here.2 in (
        log,
        h.1,
        h.2 + 1,
        record {
          words = k.words;
          legal = k.legal;
          fits = fits_snoc log h.1 (h.2 + 1) (set s.views id (one_more v)) (next_one v) (fits_set log h.1 (h.2 + 1) s.views id (one_more v) others record { seen = mine.seen; told = mine.told; keeps = λ t. (here.0, here.1, omega arith); holds = λ t. absurd (off t) })
              (λ j. record { seen = mine.seen; told = (log, refl); keeps = λ t. absurd (off t); holds = λ t. (ap (λ l. of_session (v.made + 1) l) here.1, omega arith) });
          apart = apart_snoc (set s.views id (one_more v)) (next_one v) (apart_set s.views id v (one_more v) k.apart at (λ t. absurd (off t)))
              (λ j u e hu hv same.
              ⊎_elim
              (λ (x : (j ≡ id) × (one_more v ≡ u)). off (ap (λ (q : Knowledge A). q.holds) x.1 ∙ hu))
              (λ (x : (j ≢ id) × (get_elem? s.views j ≡ some u)). let b = ((k.fits j u x.1).holds hu).1 in omega arith)
              (at_set s.views id j (one_more v) u e));
        },
      )

  pub notes : Splits (IsKept opening) id v v (note v)
  notes s h at =
      let log = h.0 in
      let k = h.3 in
      let mine = k.fits id v at in (
        log,
        h.1,
        h.2,
        split_kept id v k at v (note v) mine
            (λ j. record { seen = mine.seen; told = mine.told; keeps = λ t. absurd (off t); holds = λ t. absurd (off t) })
            (apart_snoc (set s.views id v) (note v) (apart_set s.views id v v k.apart at (λ t. (t, refl))) (λ j u e hu hv same. off hv)),
      )

module _ {A : Type 0} (opening : Opening A) (id : ℕ) (v : Knowledge A) (other : ℕ) (w : Knowledge A) where
  pub unites : Joins (IsKept opening) id v other w (united v w) nobody
  unites s h at ne there =
      let log = h.0 in
      let k = h.3 in
      let mine = k.fits id v at in
      let was = beside s.views id other (united v w) w ne there in
      let theirs = k.fits other w was in
      let both : Fits log h.1 h.2 id (united v w) = record {
        seen = pick_either (λ l. IsPrefix l log) v.keeps v.seen w.seen mine.seen theirs.seen;
        told = pick_either (λ l. IsPrefix l log) v.keeps w.seen v.seen theirs.seen mine.seen;
        keeps = λ t. ((mine.keeps t).0, ap (λ b. pick b v.seen w.seen) t ∙ (mine.keeps t).1, (mine.keeps t).2);
        holds = theirs.holds;
      } in
      (log, h.1, h.2, join_kept id v k at other (united v w) both (apart_over s.views id other v (united v w) w k.apart at ne there (λ t. (t, refl))))

  pub hears : Joins (IsKept opening) id v other w (heard v w) nobody
  hears s h at ne there =
      let log = h.0 in
      let k = h.3 in
      let mine = k.fits id v at in
      let was = beside s.views id other (heard v w) w ne there in
      let theirs = k.fits other w was in
      let both : Fits log h.1 h.2 id (heard v w) = record { seen = mine.seen; told = theirs.seen; keeps = mine.keeps; holds = mine.holds } in
      let kept = apart_set s.views id v (heard v w) k.apart at (λ t. (t, refl)) in
      (log, h.1, h.2, join_kept id v k at other (heard v w) both (apart_set (set s.views id (heard v w)) other w nobody kept there (λ t. absurd (off t))))
