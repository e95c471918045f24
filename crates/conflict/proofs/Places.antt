-- Transactions found and changed by their places.
use Rattle.std.proofs.Common.{◌≡◌, refl, sym, ap, subst, ◌∙◌, ℕ, suc, zero, ◌+◌, ◌<◌, ◌≤◌, Bool, true, false, true≢false, cond, not, ◌&&◌, ◌||◌, inl, inr, List, [], ◌∷◌, ◌++◌, map, length, take, drop, set, get_or, Some, None, Result, Ok, Err, IfOk, OnOk, eqb, nat_le, nat_lt, arith}
use Rattle.std.proofs.Math.Bool.{and-false}
use Rattle.std.proofs.lemmas.Bool.{eq-eqb, eqb-true}
use Rattle.std.proofs.lemmas.Bool.Decides.{nat_tests}
use Rattle.std.proofs.lemmas.List.{take_more}
use Rattle.std.proofs.lemmas.Result.{on_ok_weaker}
use Rattle.std.specs.Prelude.{slice_get}
use Rattle.std.specs.Option.{option_map_or}
use Rattle.std.specs.List.{filter, find, list_any, remove}
use Rattle.value.specs.declared.refusal.TxnNo.{TxnNo}
use Rattle.conflict.specs.Tracked.{AreEdges, Ascending, IsSorted, Party, Rising, Each, forgetful, is_active, is_among, put_in, without_active, with_commit, with_edge, with_edges, with_in, with_out, with_snapshot}
use Rattle.conflict.specs.Undo.{AreSorted, IsActiveAt, changed_at, is_tracked, taken_back, unread_by, unreading, without_in, without_note, without_out}
use Rattle.conflict.specs.Tracked.{without}
use Rattle.conflict.specs.Walks.{IsAt}
use Rattle.value.proofs.Lists.{In-filter}
use Rattle.conflict.proofs.EachOf.{Each-In, Each-all}
use Rattle.conflict.proofs.Ordered.{ascending_filter, ascending_put, none_there, rising_pairs, stands_at, stands_not, stands_within, without_none, without_twice}
use Rattle.conflict.proofs.Proper.{each_map, rising_map}
use Rattle.value.proofs.IsolationLemmas.{In}
use Rattle.value.proofs.Basics.{lt-eqb, eqb_comm}

-- ---- results

pub if_ok : {T E : Type 0} {P Q : T → Type 0} (r : Result T E) → ((x : T) → P x → Q x) → IfOk r P → IfOk r Q
if_ok (Ok v) f h = f v h
if_ok (Err v) f h = h

-- ---- places

nobody : Party
nobody = record { number = 0; read_write = false; snapshot = 0; active = false; commit = 0; outs = []; ins = [] }

-- ---- one changed

pub changed_at-set : (f : Party → Party) (ps : List Party) (i : ℕ) (x : Party) → i < length ps → x ≡ get_or ps i x → set ps i (f x) ≡ changed_at i f ps
changed_at-set f [] i x h e = absurd (omega arith)
changed_at-set f (p ∷ ps) zero x h e = ap (λ y. f y ∷ ps) e
changed_at-set f (p ∷ ps) (suc i) x h e = ap (λ qs. p ∷ qs) (changed_at-set f ps i x (omega arith) e)

-- ---- the one of a number

above : (n t : ℕ) → t < n → eqb n t ≡ false
above n t h = grind (arith, nat_tests)

pub get-In : (ps : List Party) (i : ℕ) (d : Party) → i < length ps → In (get_or ps i d) ps
get-In [] i d h = absurd (omega arith)
get-In (p ∷ ps) zero d h = inl refl
get-In (p ∷ ps) (suc i) d h = inr (get-In ps i d (omega arith))

pub at_found : (t : ℕ) (ps : List Party) (i : ℕ) (x : Party) → i < length ps → x ≡ get_or ps i x → eqb x.number t ≡ true → IsAt i t ps
at_found t [] i x lt at e = absurd (omega arith)
at_found t (p ∷ ps) zero x lt at e = ap (λ (y : Party). y.number) (sym at) ∙ eqb-true x.number t e
at_found t (p ∷ ps) (suc i) x lt at e = at_found t ps i x (omega arith) at e

pub at_stands : (t : ℕ) (ps : List Party) (i : ℕ) → option_map_or (λ (p : Party). eqb p.number t) (slice_get ps i) false ≡ true → IsAt i t ps
at_stands t ps i e = at_found t ps i (get_or ps i nobody) (stands_within (λ p. p.number) t ps i e) (at_itself ps i) (stands_at (λ p. p.number) t ps i nobody e)
  where
    at_itself : (qs : List Party) (j : ℕ) → get_or qs j nobody ≡ get_or qs j (get_or qs j nobody)
    at_itself [] j = refl
    at_itself (q ∷ qs) zero = refl
    at_itself (q ∷ qs) (suc j) = at_itself qs j

pub none_stands : (t : ℕ) (ps : List Party) (i : ℕ) → Rising ps → Each (λ (p : Party). nat_lt p.number t ≡ true) (take i ps) → Each (λ (p : Party). nat_lt p.number t ≡ false) (drop i ps)
    → option_map_or (λ (p : Party). eqb p.number t) (slice_get ps i) false ≡ false → is_tracked t ps ≡ false
none_stands t ps i r before after e = none_there (λ p. p.number) t ps i nobody (rising_pairs ps r) before after (stands_not (λ p. p.number) t ps i nobody e)

pub at_number : (t : ℕ) (ps : List Party) (i : ℕ) (x : Party) → IsAt i t ps → x ≡ get_or ps i x → x.number ≡ t
at_number t [] i x at e = absurd at
at_number t (p ∷ ps) zero x at e = ap (λ (y : Party). y.number) e ∙ at
at_number t (p ∷ ps) (suc i) x at e = at_number t ps i x at e

pub at_within : (t : ℕ) (ps : List Party) (i : ℕ) → IsAt i t ps → i < length ps
at_within t [] i at = absurd at
at_within t (p ∷ ps) zero at = omega arith
at_within t (p ∷ ps) (suc i) at = let l = at_within t ps i at in omega (arith, l)

-- those after one that is before t, and t
at_above : (t n : ℕ) (ps : List Party) (i : ℕ) → Each (λ (q : Party). n < q.number) ps → IsAt i t ps → n < t
at_above t n [] i all at = absurd at
at_above t n (p ∷ ps) zero all at = let a = all.0 in omega (arith, a, at)
at_above t n (p ∷ ps) (suc i) all at = at_above t n ps i all.1 at

pub at_find : (t : ℕ) (ps : List Party) (i : ℕ) (x : Party) → Rising ps → IsAt i t ps → x ≡ get_or ps i x → find (λ (q : Party). eqb q.number t) ps ≡ Some x
at_find t [] i x r at e = absurd at
at_find t (p ∷ ps) zero x r at e = ap (λ b. cond b (Some p) (find (λ (q : Party). eqb q.number t) ps)) (eq-eqb p.number t at) ∙ ap Some (sym e)
at_find t (p ∷ ps) (suc i) x r at e = ap (λ b. cond b (Some p) (find (λ (q : Party). eqb q.number t) ps)) (lt-eqb p.number t (at_above t p.number ps i r.0 at)) ∙ at_find t ps i x r.1 at e

pub none_find : (t : ℕ) (ps : List Party) → is_tracked t ps ≡ false → find (λ (q : Party). eqb q.number t) ps ≡ None
none_find t [] e = refl
none_find t (p ∷ ps) e = go (eqb p.number t) e (none_find t ps)
  where
    go : (b : Bool) → (b || is_tracked t ps) ≡ false → (is_tracked t ps ≡ false → find (λ (q : Party). eqb q.number t) ps ≡ None) → cond b (Some p) (find (λ (q : Party). eqb q.number t) ps) ≡ None
    go true h rest = absurd (true≢false h)
    go false h rest = rest h

-- ---- what changes the one of a number alone

module _ (f : Party → Party) (t : ℕ) (other : (p : Party) → eqb p.number t ≡ false → f p ≡ p) where
  others_stay : (n : ℕ) (ps : List Party) → t ≤ n → Each (λ (q : Party). n < q.number) ps → map f ps ≡ ps
  others_stay n [] le all = refl
  others_stay n (p ∷ ps) le all = ap (λ x. x ∷ map f ps) (other p (above p.number t (let a = all.0 in omega (arith, a, le)))) ∙ ap (λ qs. p ∷ qs) (others_stay n ps le all.1)

  pub at_map : (ps : List Party) (i : ℕ) → Rising ps → IsAt i t ps → changed_at i f ps ≡ map f ps
  at_map [] i r at = absurd at
  at_map (p ∷ ps) zero r at = ap (λ qs. f p ∷ qs) (sym (others_stay p.number ps (omega (arith, at)) r.0))
  at_map (p ∷ ps) (suc i) r at = ap (λ qs. p ∷ qs) (at_map ps i r.1 at) ∙ ap (λ x. x ∷ map f ps) (sym (other p (lt-eqb p.number t (at_above t p.number ps i r.0 at))))

  pub none_map : (ps : List Party) → is_tracked t ps ≡ false → ps ≡ map f ps
  none_map [] e = refl
  none_map (p ∷ ps) e = go (eqb p.number t) refl e (none_map ps)
    where
      go : (b : Bool) → eqb p.number t ≡ b → (b || is_tracked t ps) ≡ false → (is_tracked t ps ≡ false → ps ≡ map f ps) → p ∷ ps ≡ f p ∷ map f ps
      go true d h rest = absurd (true≢false h)
      go false d h rest = ap (λ x. x ∷ ps) (sym (other p d)) ∙ ap (λ qs. f p ∷ qs) (rest h)

  -- changed at its place
  pub set_map : (ps : List Party) (i : ℕ) (x y : Party) → Rising ps → IsAt i t ps → x ≡ get_or ps i x → y ≡ f x → set ps i y ≡ map f ps
  set_map ps i x y r at e is = ap (set ps i) is ∙ changed_at-set f ps i x (at_within t ps i at) e ∙ at_map ps i r at

-- and changed back
pub set_back : (f : Party → Party) (t : ℕ) → ((p : Party) → eqb p.number t ≡ false → f p ≡ p) → (ps : List Party) (i : ℕ) (x y : Party) → Rising ps → IsAt i t ps → x ≡ get_or ps i x → y.number ≡ x.number → f y ≡ x → map f (set ps i y) ≡ ps
set_back f t other [] i x y r at e n back = absurd at
set_back f t other (p ∷ ps) zero x y r at e n back = ap (λ z. z ∷ map f ps) (back ∙ e) ∙ ap (λ qs. p ∷ qs) (others_stay f t other p.number ps (omega (arith, at)) r.0)
set_back f t other (p ∷ ps) (suc i) x y r at e n back = ap (λ z. z ∷ map f (set ps i y)) (other p (lt-eqb p.number t (at_above t p.number ps i r.0 at))) ∙ ap (λ qs. p ∷ qs) (set_back f t other ps i x y r.1 at e n back)

pub set_same : (t : ℕ) (ps : List Party) (i : ℕ) (x y : Party) → IsAt i t ps → x ≡ get_or ps i x → y ≡ x → set ps i y ≡ ps
set_same t [] i x y at e g = absurd at
set_same t (p ∷ ps) zero x y at e g = ap (λ z. z ∷ ps) (g ∙ e)
set_same t (p ∷ ps) (suc i) x y at e g = ap (λ qs. p ∷ qs) (set_same t ps i x y at e g)

pub other_out : (b t u : ℕ) (p : Party) → eqb p.number t ≡ false → with_out b t u p ≡ p
other_out b t u p e = ap (λ x. record p { outs = cond (x && nat_le u b) (put_in u p.outs) p.outs }) e

pub other_in : (b t u : ℕ) (p : Party) → eqb p.number u ≡ false → with_in b t u p ≡ p
other_in b t u p e = ap (λ x. record p { ins = cond (x && nat_le t b) (put_in t p.ins) p.ins }) e

module _ {X E : Type 0} (r : Result X E) (p now : Party) (ns : List ℕ) (view : p ≡ now) where
  -- what a reader knows
  pub read_ok : (b w : ℕ) → w ≤ b → OnOk r (ns ≡ put_in w p.outs) → OnOk r (record p { outs = ns } ≡ with_out b now.number w now)
  read_ok b w le h = on_ok_weaker r (λ e. is e ∙ ap (λ (q : Party). with_out b q.number w q) view) h
    where
      known : nat_le w b ≡ true
      known = grind (arith, nat_tests)

      is : ns ≡ put_in w p.outs → record p { outs = ns } ≡ with_out b p.number w p
      is e =
          ap (λ ms. record p { outs = ms }) e
          ∙ sym (ap (λ x. record p { outs = cond (x && nat_le w b) (put_in w p.outs) p.outs }) (eq-eqb p.number p.number refl)
          ∙ ap (λ x. record p { outs = cond x (put_in w p.outs) p.outs }) known)

  -- what a writer knows
  pub be_read_ok : (b t : ℕ) → t ≤ b → OnOk r (ns ≡ put_in t p.ins) → OnOk r (record p { ins = ns } ≡ with_in b t now.number now)
  be_read_ok b t le h = on_ok_weaker r (λ e. is e ∙ ap (λ (q : Party). with_in b t q.number q) view) h
    where
      known : nat_le t b ≡ true
      known = grind (arith, nat_tests)

      is : ns ≡ put_in t p.ins → record p { ins = ns } ≡ with_in b t p.number p
      is e =
          ap (λ ms. record p { ins = ms }) e
          ∙ sym (ap (λ x. record p { ins = cond (x && nat_le t b) (put_in t p.ins) p.ins }) (eq-eqb p.number p.number refl)
          ∙ ap (λ x. record p { ins = cond x (put_in t p.ins) p.ins }) known)

module _ {E : Type 0} (r : Result Bool E) (p now : Party) (ns : List ℕ) (view : p ≡ now) where
  pub read_new : (w : ℕ) → IfOk r (λ new. new ≡ true → without w ns ≡ p.outs) → IfOk r (λ new. new ≡ true → without_out now.number w (record p { outs = ns }) ≡ now)
  read_new w h = if_ok r (λ x back e. ap (λ (q : Party). without_out q.number w (record p { outs = ns })) (sym view)
      ∙ ap (λ b. record p { outs = cond b (without w ns) ns }) (eq-eqb p.number p.number refl) ∙ ap (λ ms. record p { outs = ms }) (back e) ∙ view) h

  pub be_read_new : (t : ℕ) → IfOk r (λ new. new ≡ true → without t ns ≡ p.ins) → IfOk r (λ new. new ≡ true → without_in t now.number (record p { ins = ns }) ≡ now)
  be_read_new t h = if_ok r (λ x back e. ap (λ (q : Party). without_in t q.number (record p { ins = ns })) (sym view)
      ∙ ap (λ b. record p { ins = cond b (without t ns) ns }) (eq-eqb p.number p.number refl) ∙ ap (λ ms. record p { ins = ms }) (back e) ∙ view) h

pub read_past : (b w : ℕ) (p : Party) → b < w → p ≡ with_out b p.number w p
read_past b w p lt = sym (ap (λ x. record p { outs = cond x (put_in w p.outs) p.outs }) (ap (λ x. eqb p.number p.number && x) unknown ∙ and-false (eqb p.number p.number)))
  where
    unknown : nat_le w b ≡ false
    unknown = grind (arith, nat_tests)

pub be_read_past : (b t : ℕ) (p : Party) → b < t → p ≡ with_in b t p.number p
be_read_past b t p lt = sym (ap (λ x. record p { ins = cond x (put_in t p.ins) p.ins }) (ap (λ x. eqb p.number p.number && x) unknown ∙ and-false (eqb p.number p.number)))
  where
    unknown : nat_le t b ≡ false
    unknown = grind (arith, nat_tests)

pub unread_is : (p now : Party) (w : ℕ) (ns : List ℕ) → p ≡ now → ns ≡ without w p.outs → record p { outs = ns } ≡ without_out now.number w now
unread_is p now w ns view e =
    ap (λ ms. record p { outs = ms }) e ∙ sym (ap (λ x. record p { outs = cond x (without w p.outs) p.outs }) (eq-eqb p.number p.number refl)) ∙ ap (λ (q : Party). without_out q.number w q) view

pub be_unread_is : (p now : Party) (t : ℕ) (ns : List ℕ) → p ≡ now → ns ≡ without t p.ins → record p { ins = ns } ≡ without_in t now.number now
be_unread_is p now t ns view e =
    ap (λ ms. record p { ins = ms }) e ∙ sym (ap (λ x. record p { ins = cond x (without t p.ins) p.ins }) (eq-eqb p.number p.number refl)) ∙ ap (λ (q : Party). without_in t q.number q) view

pub other_no_out : (t u : ℕ) (p : Party) → eqb p.number t ≡ false → without_out t u p ≡ p
other_no_out t u p e = ap (λ x. record p { outs = cond x (without u p.outs) p.outs }) e

pub other_no_in : (t u : ℕ) (p : Party) → eqb p.number u ≡ false → without_in t u p ≡ p
other_no_in t u p e = ap (λ x. record p { ins = cond x (without t p.ins) p.ins }) e

pub other_snapshot : (t n : ℕ) (p : Party) → eqb p.number t ≡ false → with_snapshot t n p ≡ p
other_snapshot t n p e = ap (λ x. record p { snapshot = cond (x && p.active) n p.snapshot }) e

pub other_commit : (t n : ℕ) (p : Party) → eqb p.number t ≡ false → with_commit t n p ≡ p
other_commit t n p e = ap (λ x. record p { active = not x && p.active; commit = cond (x && p.active && p.read_write) n p.commit }) e

-- ---- what is asked of the one of a number alone

module _ (f : Party → Bool) (t : ℕ) (other : (p : Party) → eqb p.number t ≡ false → f p ≡ false) where
  none_after : (n : ℕ) (ps : List Party) → t ≤ n → Each (λ (q : Party). n < q.number) ps → list_any f ps ≡ false
  none_after n [] le all = refl
  none_after n (p ∷ ps) le all = ap (λ b. b || list_any f ps) (other p (above p.number t (let a = all.0 in omega (arith, a, le)))) ∙ none_after n ps le all.1

  pub any_found : (ps : List Party) (x : Party) → Rising ps → find (λ (q : Party). eqb q.number t) ps ≡ Some x → f x ≡ list_any f ps
  any_found [] x r e = cc
  any_found (p ∷ ps) x r e = go (eqb p.number t) refl e (any_found ps x r.1)
    where
      or_false : (b : Bool) → b ≡ (b || false)
      or_false true = refl
      or_false false = refl

      go : (b : Bool) → eqb p.number t ≡ b → cond b (Some p) (find (λ (q : Party). eqb q.number t) ps) ≡ Some x → (find (λ (q : Party). eqb q.number t) ps ≡ Some x → f x ≡ list_any f ps) → f x ≡ (f p || list_any f ps)
      go true d h rest =
          let q : p ≡ x = cc in
          or_false (f x) ∙ sym (ap (λ y. f y || list_any f ps) q ∙ ap (λ b. f x || b) (none_after p.number ps (let s = eqb-true p.number t d in omega (arith, s)) r.0))
      go false d h rest = rest h ∙ sym (ap (λ b. b || list_any f ps) (other p d))

  pub any_none : (ps : List Party) → find (λ (q : Party). eqb q.number t) ps ≡ None → false ≡ list_any f ps
  any_none [] e = refl
  any_none (p ∷ ps) e = go (eqb p.number t) refl e (any_none ps)
    where
      go : (b : Bool) → eqb p.number t ≡ b → cond b (Some p) (find (λ (q : Party). eqb q.number t) ps) ≡ None → (find (λ (q : Party). eqb q.number t) ps ≡ None → false ≡ list_any f ps) → false ≡ (f p || list_any f ps)
      go true d h rest = cc
      go false d h rest = rest h ∙ sym (ap (λ b. b || list_any f ps) (other p d))

-- ---- one removed

stay : (t n : ℕ) (ps : List Party) → t ≡ n → Each (λ (q : Party). n < q.number) ps → filter (λ p. not (is_active t p)) ps ≡ ps
stay t n [] e h = refl
stay t n (p ∷ ps) e h =
    ap (λ b. cond (not (b && p.active)) (p ∷ filter (λ q. not (is_active t q)) ps) (filter (λ q. not (is_active t q)) ps)) (above p.number t (omega (arith, h.0, e)))
    ∙ ap (λ qs. p ∷ qs) (stay t n ps e h.1)

-- the one of the number goes, or stays
pub at_removed : (t : ℕ) (ps : List Party) (i : ℕ) (x : Party) → Rising ps → IsAt i t ps → x ≡ get_or ps i x → x.active ≡ true → remove ps i ≡ filter (λ p. not (is_active t p)) ps
at_removed t [] i x r at e a = absurd at
at_removed t (p ∷ ps) zero x r at e a =
    sym (ap (λ b. cond (not b) (p ∷ filter (λ q. not (is_active t q)) ps) (filter (λ q. not (is_active t q)) ps)) (ap (λ b. b && p.active) (eq-eqb p.number t at) ∙ ap (λ (y : Party). y.active) (sym e) ∙ a)
    ∙ stay t p.number ps (sym at) r.0)
at_removed t (p ∷ ps) (suc i) x r at e a =
    ap (λ qs. p ∷ qs) (at_removed t ps i x r.1 at e a)
    ∙ sym (ap (λ b. cond (not (b && p.active)) (p ∷ filter (λ q. not (is_active t q)) ps) (filter (λ q. not (is_active t q)) ps)) (lt-eqb p.number t (at_above t p.number ps i r.0 at)))

pub at_idle : (t : ℕ) (ps : List Party) (i : ℕ) (x : Party) → Rising ps → IsAt i t ps → x ≡ get_or ps i x → x.active ≡ false → ps ≡ filter (λ p. not (is_active t p)) ps
at_idle t [] i x r at e a = absurd at
at_idle t (p ∷ ps) zero x r at e a =
    sym (ap (λ b. cond (not b) (p ∷ filter (λ q. not (is_active t q)) ps) (filter (λ q. not (is_active t q)) ps)) (ap (λ b. b && p.active) (eq-eqb p.number t at) ∙ ap (λ (y : Party). y.active) (sym e) ∙ a)
    ∙ ap (λ qs. p ∷ qs) (stay t p.number ps (sym at) r.0))
at_idle t (p ∷ ps) (suc i) x r at e a =
    sym (ap (λ b. cond (not (b && p.active)) (p ∷ filter (λ q. not (is_active t q)) ps) (filter (λ q. not (is_active t q)) ps)) (lt-eqb p.number t (at_above t p.number ps i r.0 at))
    ∙ ap (λ qs. p ∷ qs) (sym (at_idle t ps i x r.1 at e a)))

pub none_idle : (t : ℕ) (ps : List Party) → is_tracked t ps ≡ false → ps ≡ filter (λ p. not (is_active t p)) ps
none_idle t [] e = refl
none_idle t (p ∷ ps) e = go (eqb p.number t) e (none_idle t ps)
  where
    go : (b : Bool) → (b || is_tracked t ps) ≡ false → (is_tracked t ps ≡ false → ps ≡ filter (λ q. not (is_active t q)) ps) → p ∷ ps ≡ cond (not (b && p.active)) (p ∷ filter (λ q. not (is_active t q)) ps) (filter (λ q. not (is_active t q)) ps)
    go true h rest = absurd (true≢false h)
    go false h rest = ap (λ qs. p ∷ qs) (rest h)

-- ---- those that it knows don't know it any more

among_push : (n w : ℕ) (us : List ℕ) → is_among n (us ++ w ∷ []) ≡ (is_among n us || eqb w n)
among_push n w [] = or_false (eqb w n)
  where
    or_false : (b : Bool) → (b || false) ≡ b
    or_false true = refl
    or_false false = refl
among_push n w (u ∷ us) = ap (λ b. eqb u n || b) (among_push n w us) ∙ grouped (eqb u n) (is_among n us) (eqb w n)
  where
    grouped : (a b c : Bool) → (a || (b || c)) ≡ ((a || b) || c)
    grouped true b c = refl
    grouped false b c = refl

twice_cond : (t : ℕ) (ns : List ℕ) (a b : Bool) → cond b (without t (cond a (without t ns) ns)) (cond a (without t ns) ns) ≡ cond (a || b) (without t ns) ns
twice_cond t ns true true = without_twice t ns
twice_cond t ns true false = refl
twice_cond t ns false b = refl

map_map : (f g : Party → Party) (ps : List Party) → map f (map g ps) ≡ map (λ p. f (g p)) ps
map_map f g [] = refl
map_map f g (p ∷ ps) = ap (λ qs. f (g p) ∷ qs) (map_map f g ps)

map_alike : (f g : Party → Party) (ps : List Party) → ((p : Party) → In p ps → f p ≡ g p) → map f ps ≡ map g ps
map_alike f g [] h = refl
map_alike f g (p ∷ ps) h = ap (λ q. q ∷ map f ps) (h p (inl refl)) ∙ ap (λ qs. g p ∷ qs) (map_alike f g ps (λ q i. h q (inr i)))

unread_push : (t w : ℕ) (us : List ℕ) (p : Party) → without_in t w (unread_by t us p) ≡ unread_by t (us ++ w ∷ []) p
unread_push t w us p =
    ap (λ ns. record p { ins = ns }) (twice_cond t p.ins (is_among p.number us) (eqb p.number w)
    ∙ ap (λ b. cond b (without t p.ins) p.ins) (ap (λ b. is_among p.number us || b) (eqb_comm p.number w) ∙ sym (among_push p.number w us)))

unreading_push : (t w : ℕ) (us : List ℕ) (p : Party) → without_out w t (unreading t us p) ≡ unreading t (us ++ w ∷ []) p
unreading_push t w us p =
    ap (λ ns. record p { outs = ns }) (twice_cond t p.outs (is_among p.number us) (eqb p.number w)
    ∙ ap (λ b. cond b (without t p.outs) p.outs) (ap (λ b. is_among p.number us || b) (eqb_comm p.number w) ∙ sym (among_push p.number w us)))

pub unread_next : (t : ℕ) (ws : List ℕ) (i : ℕ) (ps now new : List Party) → i < length ws → now ≡ map (unread_by t (take i ws)) ps → new ≡ map (without_in t (get_or ws i 0)) now → new ≡ map (unread_by t (take (i + 1) ws)) ps
unread_next t ws i ps now new lt so_far e =
    e ∙ ap (map (without_in t (get_or ws i 0))) so_far ∙ map_map (without_in t (get_or ws i 0)) (unread_by t (take i ws)) ps
    ∙ map_alike (λ p. without_in t (get_or ws i 0) (unread_by t (take i ws) p)) (unread_by t (take i ws ++ get_or ws i 0 ∷ [])) ps (λ p j. unread_push t (get_or ws i 0) (take i ws) p)
    ∙ ap (λ us. map (unread_by t us) ps) (sym (take_more ws i 0 lt))

pub unreading_next : (t : ℕ) (ws : List ℕ) (i : ℕ) (ps now new : List Party) → i < length ws → now ≡ map (unreading t (take i ws)) ps → new ≡ map (without_out (get_or ws i 0) t) now → new ≡ map (unreading t (take (i + 1) ws)) ps
unreading_next t ws i ps now new lt so_far e =
    e ∙ ap (map (without_out (get_or ws i 0) t)) so_far ∙ map_map (without_out (get_or ws i 0) t) (unreading t (take i ws)) ps
    ∙ map_alike (λ p. without_out (get_or ws i 0) t (unreading t (take i ws) p)) (unreading t (take i ws ++ get_or ws i 0 ∷ [])) ps (λ p j. unreading_push t (get_or ws i 0) (take i ws) p)
    ∙ ap (λ us. map (unreading t us) ps) (sym (take_more ws i 0 lt))

pub none_unread : (t : ℕ) (ps : List Party) → ps ≡ map (unread_by t []) ps
none_unread t [] = refl
none_unread t (p ∷ ps) = ap (λ qs. p ∷ qs) (none_unread t ps)

pub none_unreading : (t : ℕ) (ps : List Party) → ps ≡ map (unreading t []) ps
none_unreading t [] = refl
none_unreading t (p ∷ ps) = ap (λ qs. p ∷ qs) (none_unreading t ps)

pub active_at : (ps : List Party) (i : ℕ) (x : Party) → i < length ps → x ≡ get_or ps i x → x.active ≡ true → IsActiveAt i ps
active_at [] i x lt e a = absurd (omega arith)
active_at (p ∷ ps) zero x lt e a = ap (λ (y : Party). y.active) (sym e) ∙ a
active_at (p ∷ ps) (suc i) x lt e a = active_at ps i x (omega arith) e a

at_active : (ps : List Party) (i : ℕ) (x : Party) → IsActiveAt i ps → x ≡ get_or ps i x → x.active ≡ true
at_active [] i x a e = absurd a
at_active (p ∷ ps) zero x a e = ap (λ (y : Party). y.active) e ∙ a
at_active (p ∷ ps) (suc i) x a e = at_active ps i x a e

at_In : (t : ℕ) (ps : List Party) (i : ℕ) (x : Party) → IsAt i t ps → x ≡ get_or ps i x → In x ps
at_In t ps i x at e = subst (λ (y : Party). In y ps) (sym e) (get-In ps i x (at_within t ps i at))

any_active : (t : ℕ) (ps : List Party) (i : ℕ) → IsAt i t ps → IsActiveAt i ps → list_any (is_active t) ps ≡ true
any_active t [] i at a = absurd at
any_active t (p ∷ ps) zero at a = ap (λ b. b || list_any (is_active t) ps) (ap (λ b. b && p.active) (eq-eqb p.number t at) ∙ a)
any_active t (p ∷ ps) (suc i) at a = ap (λ b. is_active t p || b) (any_active t ps i at a) ∙ or_true (is_active t p)
  where
    or_true : (b : Bool) → (b || true) ≡ true
    or_true true = refl
    or_true false = refl

-- the one at the place goes
pub erased_at : (t : ℕ) (ps : List Party) (i : ℕ) (x : Party) (mid one new : List Party) → Rising ps → AreEdges ps → IsAt i t ps → IsActiveAt i ps → x ≡ get_or ps i x → mid ≡ remove ps i
    → one ≡ map (unread_by t x.outs) mid → new ≡ map (unreading t x.ins) one → new ≡ without_active t ps
erased_at t ps i x mid one new r edges at a e gone first second =
    second ∙ ap (map (unreading t x.ins)) (first ∙ ap (map (unread_by t x.outs)) is_left)
    ∙ map_map (unreading t x.ins) (unread_by t x.outs) (filter (λ p. not (is_active t p)) ps)
    ∙ map_alike (λ p. unreading t x.ins (unread_by t x.outs p)) (forgetful true t) (filter (λ p. not (is_active t p)) ps) (λ p j. forgets p (In-filter (λ q. not (is_active t q)) p ps j).0)
    ∙ ap (λ b. map (forgetful b t) (filter (λ p. not (is_active t p)) ps)) (sym (any_active t ps i at a))
  where
    is_left : mid ≡ filter (λ p. not (is_active t p)) ps
    is_left = gone ∙ at_removed t ps i x r at e (at_active ps i x a e)

    here : In x ps
    here = at_In t ps i x at e

    number : x.number ≡ t
    number = at_number t ps i x at e

    both : (p q : Party) → In p ps → In q ps → is_among q.number p.outs ≡ is_among p.number q.ins
    both p q j k = Each-In (λ (y : Party). is_among y.number p.outs ≡ is_among p.number y.ins) ps q (Each-In (λ (z : Party). Each (λ (y : Party). is_among y.number z.outs ≡ is_among z.number y.ins) ps) ps p edges.both j) k

    -- where it isn't among these, it is no change
    all_same : (b : Bool) (ns : List ℕ) → (b ≡ false → is_among t ns ≡ false) → cond b (without t ns) ns ≡ without t ns
    all_same true ns h = refl
    all_same false ns h = sym (without_none t ns (h refl))

    forgets : (p : Party) → In p ps → unreading t x.ins (unread_by t x.outs p) ≡ forgetful true t p
    forgets p j =
        ap (λ ns. record p { outs = cond (is_among p.number x.ins) (without t p.outs) p.outs; ins = ns }) (all_same (is_among p.number x.outs) p.ins (λ h. ap (λ n. is_among n p.ins) (sym number) ∙ sym (both x p here j) ∙ h))
        ∙ ap (λ ns. record p { outs = ns; ins = without t p.ins }) (all_same (is_among p.number x.ins) p.outs (λ h. ap (λ n. is_among n p.outs) (sym number) ∙ both p x j here ∙ h))

-- no transaction goes
forgetful_none : (t : ℕ) (ps : List Party) → map (forgetful false t) ps ≡ ps
forgetful_none t [] = refl
forgetful_none t (p ∷ ps) = ap (λ qs. p ∷ qs) (forgetful_none t ps)

nobody_goes : (t : ℕ) (ps : List Party) → list_any (is_active t) ps ≡ false → ps ≡ filter (λ p. not (is_active t p)) ps → ps ≡ without_active t ps
nobody_goes t ps none e = e ∙ sym (ap (λ b. map (forgetful b t) (filter (λ p. not (is_active t p)) ps)) none ∙ forgetful_none t (filter (λ p. not (is_active t p)) ps))

none_active : (t : ℕ) (ps : List Party) → is_tracked t ps ≡ false → list_any (is_active t) ps ≡ false
none_active t [] e = refl
none_active t (p ∷ ps) e = go (eqb p.number t) e (none_active t ps)
  where
    go : (b : Bool) → (b || is_tracked t ps) ≡ false → (is_tracked t ps ≡ false → list_any (is_active t) ps ≡ false) → (b && p.active || list_any (is_active t) ps) ≡ false
    go true h rest = absurd (true≢false h)
    go false h rest = rest h

pub none_goes : (t : ℕ) (ps : List Party) → is_tracked t ps ≡ false → ps ≡ without_active t ps
none_goes t ps e = nobody_goes t ps (none_active t ps e) (none_idle t ps e)

pub idle_stays : (t : ℕ) (ps : List Party) (i : ℕ) (x : Party) → Rising ps → IsAt i t ps → x ≡ get_or ps i x → x.active ≡ false → ps ≡ without_active t ps
idle_stays t ps i x r at e a =
    nobody_goes t ps (sym (any_found (is_active t) t (λ p d. ap (λ b. b && p.active) d) ps x r (at_find t ps i x r at e)) ∙ idle) (at_idle t ps i x r at e a)
  where
    idle : is_active t x ≡ false
    idle = ap (λ b. eqb x.number t && b) a ∙ and-false (eqb x.number t)

-- ---- edges taken back

pub taken_back-push : (ns : List (Bool × ℕ × ℕ)) (n : Bool × ℕ × ℕ) (ps : List Party) → taken_back (ns ++ n ∷ []) ps ≡ taken_back ns (without_note n ps)
taken_back-push [] n ps = refl
taken_back-push (m ∷ ns) n ps = ap (without_note m) (taken_back-push ns n ps)

pub with_edges-push : (b : ℕ) (es : List (TxnNo × TxnNo)) (e : TxnNo × TxnNo) (ps : List Party) → with_edges b (es ++ e ∷ []) ps ≡ map (with_edge b e.0.0 e.1.0) (with_edges b es ps)
with_edges-push b [] e ps = refl
with_edges-push b (x ∷ es) e ps = with_edges-push b es e (map (with_edge b x.0.0 x.1.0) ps)

pub both_maps : (b t u : ℕ) (ps : List Party) → map (with_in b t u) (map (with_out b t u) ps) ≡ map (with_edge b t u) ps
both_maps b t u [] = refl
both_maps b t u (p ∷ ps) = ap (λ qs. with_edge b t u p ∷ qs) (both_maps b t u ps)

-- they stay sorted
sorted_map : (f : Party → Party) → ((p : Party) → (f p).number ≡ p.number) → ((p : Party) → IsSorted p → IsSorted (f p)) → (ps : List Party) → AreSorted ps → AreSorted (map f ps)
sorted_map f number keeps ps s = (rising_map f number ps s.0, each_map IsSorted f ps (Each-all _ ps (λ p i. keeps p (Each-In IsSorted ps p s.1 i))))

put_cond : (a : Bool) (n : ℕ) (ns : List ℕ) → Ascending ns → Ascending (cond a (put_in n ns) ns)
put_cond true n ns x = ascending_put n ns x
put_cond false n ns x = x

without_cond : (a : Bool) (n : ℕ) (ns : List ℕ) → Ascending ns → Ascending (cond a (without n ns) ns)
without_cond true n ns x = ascending_filter (λ m. not (eqb m n)) ns x
without_cond false n ns x = x

pub sorted_out : (b t u : ℕ) (ps : List Party) → AreSorted ps → AreSorted (map (with_out b t u) ps)
sorted_out b t u = sorted_map (with_out b t u) (λ p. refl) (λ p s. (put_cond (eqb p.number t && nat_le u b) u p.outs s.0, s.1))

pub sorted_in : (b t u : ℕ) (ps : List Party) → AreSorted ps → AreSorted (map (with_in b t u) ps)
sorted_in b t u = sorted_map (with_in b t u) (λ p. refl) (λ p s. (s.0, put_cond (eqb p.number u && nat_le t b) t p.ins s.1))

pub sorted_no_out : (t u : ℕ) (ps : List Party) → AreSorted ps → AreSorted (map (without_out t u) ps)
sorted_no_out t u = sorted_map (without_out t u) (λ p. refl) (λ p s. (without_cond (eqb p.number t) u p.outs s.0, s.1))

pub sorted_no_in : (t u : ℕ) (ps : List Party) → AreSorted ps → AreSorted (map (without_in t u) ps)
sorted_no_in t u = sorted_map (without_in t u) (λ p. refl) (λ p s. (s.0, without_cond (eqb p.number u) t p.ins s.1))

pub sorted_kept : (ps new : List Party) (t w : ℕ) → AreSorted ps → new ≡ map (without_in t w) ps → AreSorted new
sorted_kept ps new t w s e = subst AreSorted (sym e) (sorted_no_in t w ps s)

pub sorted_kept_too : (ps new : List Party) (t w : ℕ) → AreSorted ps → new ≡ map (without_out t w) ps → AreSorted new
sorted_kept_too ps new t w s e = subst AreSorted (sym e) (sorted_no_out t w ps s)

pub sorted_note : (n : Bool × ℕ × ℕ) (ps : List Party) → AreSorted ps → AreSorted (without_note n ps)
sorted_note n ps s = go n.0
  where
    go : (b : Bool) → AreSorted (cond b (map (without_out n.1 n.2) ps) (map (without_in n.1 n.2) ps))
    go true = sorted_no_out n.1 n.2 ps s
    go false = sorted_no_in n.1 n.2 ps s

-- the pair that stands for none
abbrev pub no_pair : TxnNo × TxnNo
no_pair = (record { 0 = 0 }, record { 0 = 0 })

-- one more edge
pub edges_next : (b : ℕ) (es : List (TxnNo × TxnNo)) (i : ℕ) (ps now new : List Party) → i < length es → now ≡ with_edges b (take i es) ps → new ≡ map (with_edge b (get_or es i no_pair).0.0 (get_or es i no_pair).1.0) now
    → new ≡ with_edges b (take (i + 1) es) ps
edges_next b es i ps now new lt so_far e =
    e ∙ ap (map (with_edge b (get_or es i no_pair).0.0 (get_or es i no_pair).1.0)) so_far
    ∙ sym (ap (λ xs. with_edges b xs ps) (take_more es i no_pair lt) ∙ with_edges-push b (take i es) (get_or es i no_pair) ps)

pub each_at : (P : Party → Type 0) (ps : List Party) (i : ℕ) (x : Party) → Each P ps → i < length ps → x ≡ get_or ps i x → P x
each_at P ps i x e lt at = subst P (sym at) (Each-In P ps (get_or ps i x) e (get-In ps i x lt))
