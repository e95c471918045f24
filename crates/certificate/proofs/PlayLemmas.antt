-- An order that explains a recording makes of each spot a play of ways.
use Rattle.std.proofs.Common.{◌++◌, ◌||◌, ◌&&◌, if◌then◌else◌, ◌==◌, not, eqb, map, option_to_list, ◌≡◌, ◌⊎◌, refl, sym, ap, subst, ◌∙◌, ◌<◌, ◌≤◌, ℕ, zero, suc, Bool, true, false, true≢false, cond, inl, inr, List, [], ◌∷◌, length, slice_get, Option, Some, None, is_some, arith}
use Rattle.std.proofs.lemmas.Bool.{cases_lt, and_parts, and_from, eqb-true}
use Rattle.std.proofs.lemmas.Option.{same_Some}
use Rattle.std.specs.List.{AllByRecursion, flat_map, list_all, list_any}
use Rattle.std.specs.Option.{option_map_or}
use Rattle.value.specs.declared.value.Value.{Value}
use Rattle.schema.specs.Definition.{Catalog}
use Rattle.schema.specs.declared.tables.Tables.{Tables}
use Rattle.value.proofs.IsolationLemmas.{In}
use Rattle.value.proofs.Basics.{any-In, any-back, any-front, In-any, In-mapped, eqb-self}
use Rattle.schema.specs.declared.row.Row.{Row}
use Rattle.schema.specs.Plain.{is_sound, row_at, rows_of, same}
use Rattle.schema.proofs.PlainLemmas.{same_value}
use Rattle.statement.specs.declared.condition.Condition.{Condition}
use Rattle.statement.specs.declared.statement.Statement.{Statement}
use Rattle.statement.specs.declared.statement.Statement.TheVariants.{Select, Insert, Update, Delete}
use Rattle.statement.specs.declared.reply.Reply.{Reply}
use Rattle.statement.specs.Evaluation.{outcome, after}
use Rattle.statement.specs.Fits.{fits}
use Rattle.statement.proofs.LawsLemmas.{sound_after}
use Rattle.statement.proofs.RowsLemmas.{found_in}
use Rattle.statement.proofs.Suffices.{same_itself}
use Rattle.orders.specs.Explains.{Trace, Explains, InTurn, InTime, MayFollow, AreApart, Stands, precedes, alone, agrees, are_fit, all_fit}
use Rattle.orders.specs.declared.ways.way.Way.{Way}
use Rattle.orders.specs.Counts.{are_apart as keys_apart, chooses, chosen_in, has, has_key, inserted_key, inserts, is_chosen, named_at, number_at}
use Rattle.orders.specs.Ways as way
use Rattle.orders.specs.Ways.{Holds, cell}
use Rattle.orders.specs.Symbolic as symbolic
use Rattle.orders.proofs.WayLemmas.{holds_allows, holds_effect}
use Rattle.orders.proofs.CoverLemmas.{counted}
use Rattle.orders.proofs.LeftLemmas.{absence_kept}
use Rattle.orders.proofs.NumberLemmas.{first_answered, told_at_least, told_at_most}
use Rattle.certificate.specs.declared.known.Spot.{Spot}
use Rattle.certificate.specs.Cells.{same_spot}
use Rattle.certificate.specs.Knowledge.{are_apart}
use Rattle.certificate.specs.Order.{Among, Turn, Does, Play}
use Rattle.certificate.specs.Recorded.{board_of, effect_of, inserted_keys, keys_of, may_count, precedes_so, tells}
use Rattle.certificate.proofs.AmongLemmas.{all-each, any-one}

-- ---- lists of places

stands-at : (x : ℕ) (xs : List ℕ) → Stands x xs → (i : ℕ) × (slice_get xs i ≡ Some x)
stands-at x [] s = absurd s
stands-at x (y ∷ ys) (inl e) = (zero, ap Some (sym e))
stands-at x (y ∷ ys) (inr s) = let r = stands-at x ys s in (suc r.0, r.1)

at-stands : (x : ℕ) (xs : List ℕ) (i : ℕ) → slice_get xs i ≡ Some x → Stands x xs
at-stands x [] i e = cc
at-stands x (y ∷ ys) zero e = inl (sym (same_Some y x e))
at-stands x (y ∷ ys) (suc i) e = inr (at-stands x ys i e)

all-at : (Q : ℕ → Type 0) (xs : List ℕ) (i x : ℕ) → AllByRecursion Q xs → slice_get xs i ≡ Some x → Q x
all-at Q [] i x a e = cc
all-at Q (y ∷ ys) zero x a e = subst Q (same_Some y x e) a.0
all-at Q (y ∷ ys) (suc i) x a e = all-at Q ys i x a.1 e

once : (xs : List ℕ) → AreApart xs → (i j x : ℕ) → slice_get xs i ≡ Some x → slice_get xs j ≡ Some x → i ≡ j
once [] a i j x e f = cc
once (y ∷ ys) a zero zero x e f = refl
once (y ∷ ys) a zero (suc j) x e f = absurd (all-at (λ z. z ≡ y → ⊥) ys j x a.0 f (sym (same_Some y x e)))
once (y ∷ ys) a (suc i) zero x e f = absurd (all-at (λ z. z ≡ y → ⊥) ys i x a.0 e (sym (same_Some y x f)))
once (y ∷ ys) a (suc i) (suc j) x e f = ap suc (once ys a.1 i j x e f)

get-below : {T : Type 0} (xs : List T) (i : ℕ) (x : T) → slice_get xs i ≡ Some x → i < length xs
get-below [] i x e = cc
get-below (y ∷ ys) zero x e = omega arith
get-below (y ∷ ys) (suc i) x e = let l : i < length ys = get-below ys i x e in omega (arith, l)

module _ {A : Type 0} (c : Catalog) (ts : List (Trace A)) where
  -- ---- time

  in-time-at : (xs : List ℕ) → InTime ts xs → (j i x y : ℕ) → j ≤ i → slice_get xs i ≡ Some x → slice_get xs j ≡ Some y → MayFollow ts y x
  in-time-at [] h j i x y l at-x at-y = cc
  in-time-at (z ∷ zs) h zero i x y l at-x at-y = subst (λ v. MayFollow ts v x) (same_Some z y at-y) (all-at (λ v. MayFollow ts z v) (z ∷ zs) i x h.0 at-x)
  in-time-at (z ∷ zs) h (suc j) zero x y l at-x at-y = absurd (omega (arith, l))
  in-time-at (z ∷ zs) h (suc j) (suc i) x y l at-x at-y = in-time-at zs h.1 j i x y (omega (arith, l)) at-x at-y

  -- what precedes may not follow
  precedes-false : (o p : Option (Trace A)) → ((a d : Trace A) → o ≡ Some a → p ≡ Some d → precedes a d ≡ false) → precedes_so o p ≡ true → ⊥
  precedes-false (Some a) (Some d) h t = true≢false (sym t ∙ h a d refl refl)
  precedes-false (Some a) None h t = absurd (true≢false (sym t))
  precedes-false None p h t = absurd (true≢false (sym t))

  -- ---- the tables before a transaction and after it

  steps : (order : List ℕ) (X : Tables A) → InTurn c ts order X → ℕ → Tables A × Tables A
  steps [] X h n = (X, X)
  steps (i ∷ later) X h zero = (X, h.1)
  steps (i ∷ later) X h (suc n) = steps later h.1 h.4 n

  steps-first : (order : List ℕ) (X : Tables A) (h : InTurn c ts order X) → (steps order X h 0).0 ≡ X
  unfolding steps
  steps-first [] X h = refl
  steps-first (i ∷ later) X h = refl

  steps-next : (order : List ℕ) (X : Tables A) (h : InTurn c ts order X) (n : ℕ) → (steps order X h (suc n)).0 ≡ (steps order X h n).1
  unfolding steps
  steps-next [] X h n = refl
  steps-next (i ∷ later) X h zero = steps-first later h.1 h.4
  steps-next (i ∷ later) X h (suc n) = steps-next later h.1 h.4 n

  -- ---- soundness

  alone-sound : (qs : List (Statement A × Reply A)) (X Y : Tables A) → are_fit c qs ≡ true → is_sound c X ≡ true → alone c qs X ≡ Some Y → is_sound c Y ≡ true
  alone-sound [] X Y f s e = subst (λ Z. is_sound c Z ≡ true) (same_Some X Y e) s
  alone-sound (q ∷ qs) X Y f s e =
      let p = and_parts (fits c q.0) (are_fit c qs) f in
      go (agrees (outcome c q.0 X).reply q.1) (λ h. alone-sound qs (after c q.0 X) Y p.1 (sound_after c q.0 X p.0 s) h) e
    where
      go : (b : Bool) → (alone c qs (after c q.0 X) ≡ Some Y → is_sound c Y ≡ true) → cond b (alone c qs (after c q.0 X)) None ≡ Some Y → is_sound c Y ≡ true
      go true h g = h g
      go false h g = cc

  fit-at : (us : List (Trace A)) (i : ℕ) (t : Trace A) → all_fit c us ≡ true → slice_get us i ≡ Some t → are_fit c t.statements ≡ true
  fit-at [] i t f e = cc
  fit-at (u ∷ us) zero t f e = subst (λ v. are_fit c v.statements ≡ true) (same_Some u t e) (and_parts (are_fit c u.statements) (all_fit c us) f).0
  fit-at (u ∷ us) (suc i) t f e = fit-at us i t (and_parts (are_fit c u.statements) (all_fit c us) f).1 e

  -- what a transaction did in its turn
  record Done (x : ℕ) (before now : Tables A) : Type 0 where
    trace : Trace A
    stands : slice_get ts x ≡ Some trace
    fit : are_fit c trace.statements ≡ true
    sound : is_sound c before ≡ true
    ran : alone c trace.statements before ≡ Some now

  done-at : (order : List ℕ) (X : Tables A) (h : InTurn c ts order X) → all_fit c ts ≡ true → is_sound c X ≡ true → (i x : ℕ) → slice_get order i ≡ Some x → Done x (steps order X h i).0 (steps order X h i).1
  unfolding steps
  done-at [] X h f s i x e = cc
  done-at (z ∷ later) X h f s zero x e = record {
    trace = h.0;
    stands = ap (slice_get ts) (sym (same_Some z x e)) ∙ h.2;
    fit = fit-at ts z h.0 f h.2;
    sound = s;
    ran = h.3;
  }
  done-at (z ∷ later) X h f s (suc i) x e = done-at later h.1 h.4 f (alone-sound h.0.statements X h.1 (fit-at ts z h.0 f h.2) s h.3) i x e

  -- ---- keys that may have a row

  any-flat : {T U : Type 0} (p : U → Bool) (f : T → List U) (xs : List T) (x : T) → In x xs → list_any p (f x) ≡ true → list_any p (flat_map f xs) ≡ true
  any-flat p f [] x i h = absurd i
  any-flat p f (y ∷ ys) x (inl e) h = any-front p (f y) (flat_map f ys) (subst (λ z. list_any p (f z) ≡ true) e h)
  any-flat p f (y ∷ ys) x (inr i) h = any-back p (f y) (flat_map f ys) (any-flat p f ys x i h)

  get-In : {T : Type 0} (xs : List T) (i : ℕ) (x : T) → slice_get xs i ≡ Some x → In x xs
  get-In [] i x e = cc
  get-In (y ∷ ys) zero x e = inl (sym (same_Some y x e))
  get-In (y ∷ ys) (suc i) x e = inr (get-In ys i x e)

  chosen-row : (k : Value A) (cs : List (Condition A)) (b : Bool) (o : Option (List (Value A))) → (b && is_chosen k cs o) ≡ true → (fs : List (Value A)) × (o ≡ Some fs)
  chosen-row k cs b None h = absurd (off b h)
    where
      off : (b : Bool) → (b && false) ≡ true → ⊥
      off true e = absurd (true≢false (sym e))
      off false e = absurd (true≢false (sym e))
  chosen-row k cs b (Some fs) h = (fs, refl)

  -- a row that a statement chooses is there
  chooses-row : (u : ℕ) (k : Value A) (q : Statement A) (X : Tables A) → chooses u k q X ≡ true → (fs : List (Value A)) × (row_at X u k ≡ Some fs)
  chooses-row u k (Select v p cs) X h = chosen-row k cs (eqb v u) (row_at X u k) h
  chooses-row u k (Insert v values) X h = absurd (true≢false (sym h))
  chooses-row u k (Update v more cs) X h = chosen-row k cs (eqb v u) (row_at X u k) h
  chooses-row u k (Delete v cs) X h = chosen-row k cs (eqb v u) (row_at X u k) h

  module _ (u : ℕ) (K : Value A → Type 0) where
    -- all keys of a table, and all that statements put in, are of a kind
    abbrev AllRows : Tables A → Type 0
    AllRows X = (k : Value A) (fs : List (Value A)) → row_at X u k ≡ Some fs → K k

    abbrev AllPut : List (Statement A × Reply A) → Type 0
    AllPut qs = (q : Statement A × Reply A) → In q qs → (k : Value A) → inserts u k q.0 ≡ true → K k

    rows-after : (q : Statement A) (X : Tables A) → is_sound c X ≡ true → ((k : Value A) → inserts u k q ≡ true → K k) → AllRows X → AllRows (after c q X)
    rows-after q X s put all k fs e = go (row_at X u k) refl (inserts u k q) refl
      where
        go : (o : Option (List (Value A))) → row_at X u k ≡ o → (b : Bool) → inserts u k q ≡ b → K k
        go (Some gs) at b f = all k gs at
        go None at true f = put k f
        go None at false f = absurd (nothing (sym (absence_kept c q X u k s at f) ∙ e))
          where
            nothing : (let o : Option (List (Value A)) = None in o ≡ Some fs) → ⊥
            nothing p = cc

    chosen-key : (qs : List (Statement A × Reply A)) (X : Tables A) → are_fit c qs ≡ true → is_sound c X ≡ true → AllPut qs → AllRows X → (k : Value A) (j : ℕ) → chosen_in c u k qs X j ≡ true → K k
    chosen-key [] X f s put all k j h = absurd (true≢false (sym h))
    chosen-key (q ∷ qs) X f s put all k zero h = let r = chooses-row u k q.0 X h in all k r.0 r.1
    chosen-key (q ∷ qs) X f s put all k (suc j) h =
        let p = and_parts (fits c q.0) (are_fit c qs) f in
        chosen-key qs (after c q.0 X) p.1 (sound_after c q.0 X p.0 s) (λ r i. put r (inr i)) (rows-after q.0 X s (put q (inl refl)) all) k j h

    rows-alone : (qs : List (Statement A × Reply A)) (X Y : Tables A) → are_fit c qs ≡ true → is_sound c X ≡ true → alone c qs X ≡ Some Y → AllPut qs → AllRows X → AllRows Y
    rows-alone [] X Y f s e put all = subst AllRows (same_Some X Y e) all
    rows-alone (q ∷ qs) X Y f s e put all =
        let p = and_parts (fits c q.0) (are_fit c qs) f in
        rows-alone qs (after c q.0 X) Y p.1 (sound_after c q.0 X p.0 s) (first_answered c q qs X Y e).1 (λ r i. put r (inr i)) (rows-after q.0 X s (put q (inl refl)) all)

    rows-at : (order : List ℕ) (X : Tables A) (h : InTurn c ts order X) → all_fit c ts ≡ true → is_sound c X ≡ true → ((x : ℕ) (t : Trace A) → slice_get ts x ≡ Some t → AllPut t.statements) → AllRows X
        → (i x : ℕ) → slice_get order i ≡ Some x → AllRows (steps order X h i).0
    unfolding steps
    rows-at [] X h f s put all i x e = cc
    rows-at (z ∷ later) X h f s put all zero x e = all
    rows-at (z ∷ later) X h f s put all (suc i) x e =
        let fit = fit-at ts z h.0 f h.2 in
        rows-at later h.1 h.4 f (alone-sound h.0.statements X h.1 fit s h.3) put (rows-alone h.0.statements X h.1 fit s h.3 (put z h.0 h.2) all) i x e

  -- the keys of the board are all that there may be
  IsKey : Tables A → ℕ → Value A → Type 0
  IsKey X u k = list_any (same k) (keys_of X ts u) ≡ true

  puts-key : (u : ℕ) (k : Value A) (q : Statement A) → inserts u k q ≡ true → list_any (same k) (option_to_list (inserted_key u q)) ≡ true
  puts-key u k (Insert v (w ∷ fields)) h = go (eqb v u) h
    where
      go : (b : Bool) → (b && same k w) ≡ true → list_any (same k) (option_to_list (if b then Some w else None)) ≡ true
      go true e = ap (λ b. b || false) e
      go false e = absurd (true≢false (sym e))
  puts-key u k _ h = absurd (true≢false (sym h))

  all-put : (X : Tables A) (u x : ℕ) (t : Trace A) → slice_get ts x ≡ Some t → AllPut u (IsKey X u) t.statements
  unfolding IsKey
  all-put X u x t e q i k h =
      any-back (same k) (map (λ (row : Row A). row.0) (rows_of X u)) (flat_map (inserted_keys u) ts)
      (any-flat (same k) (inserted_keys u) ts t (get-In ts x t e)
      (any-flat (same k) (λ (r : Statement A × Reply A). option_to_list (inserted_key u r.0)) t.statements q i (puts-key u k q.0 h)))

  all-opened : (X : Tables A) (u : ℕ) → AllRows u (IsKey X u) X
  unfolding IsKey
  all-opened X u k fs e =
      any-front (same k) (map (λ (row : Row A). row.0) (rows_of X u)) (flat_map (inserted_keys u) ts)
      (In-any (same k) (map (λ (row : Row A). row.0) (rows_of X u)) k (In-mapped (λ (row : Row A). row.0) (k, fs) (rows_of X u) (found_in (rows_of X u) k fs e)) (same_itself k))

  -- ---- turns

  states : Spot A → Tables A → ℕ → Option (Value A)
  states s X = cell s.key (row_at X s.table s.key)

  chosen_by : Spot A → Tables A → ℕ → Trace A → Bool
  chosen_by s X j t = chosen_in c s.table s.key t.statements X j

  -- statement j of the transaction whose turn it is chose the row
  chosen_at : Spot A → Tables A → Option ℕ → ℕ → Bool
  chosen_at s X o j = option_map_or (λ x. option_map_or (chosen_by s X j) (slice_get ts x) false) o false

  chosen-is : (s : Spot A) (X : Tables A) (o : Option ℕ) (x : ℕ) (t : Trace A) (j : ℕ) → o ≡ Some x → slice_get ts x ≡ Some t → chosen_at s X o j ≡ chosen_in c s.table s.key t.statements X j
  unfolding chosen_at chosen_by
  chosen-is s X o x t j e stands = ap (λ p. option_map_or (λ y. option_map_or (chosen_by s X j) (slice_get ts y) false) p false) e ∙ ap (λ p. option_map_or (chosen_by s X j) p false) stands

  pub turns_of : (order : List ℕ) (X : Tables A) → InTurn c ts order X → Spot A → ℕ → Turn (Option (Value A))
  turns_of order X h s i = record { before = states s (steps order X h i).0; after = states s (steps order X h i).1; chosen = chosen_at s (steps order X h i).0 (slice_get order i) }

  -- ---- spots and keys of one table

  tells-number : (u j n : ℕ) (t : Trace A) → tells u j n t ≡ true → number_at u t.statements j ≡ Some n
  tells-number u j n t h = go (number_at u t.statements j) h
    where
      go : (o : Option ℕ) → option_map_or (λ m. m == n) o false ≡ true → o ≡ Some n
      go None e = absurd (true≢false (sym e))
      go (Some m) e = ap Some (eqb-true m n e)

  length-spots : (ss : List (Spot A)) → length (map (λ (s : Spot A). s.key) ss) ≡ length ss
  length-spots [] = refl
  length-spots (s ∷ ss) = ap suc (length-spots ss)

  among-key : (k : Value A) (ss : List (Spot A)) → has_key k (map (λ (s : Spot A). s.key) ss) ≡ true → (u : Spot A) × Among u ss × (k ≡ u.key)
  among-key k [] h = absurd (true≢false (sym h))
  among-key k (s ∷ ss) h = go (among-key k ss) (same k s.key) refl h
    where
      go : (has_key k (map (λ (s : Spot A). s.key) ss) ≡ true → (u : Spot A) × Among u ss × (k ≡ u.key)) → (b : Bool) → same k s.key ≡ b → (b || has_key k (map (λ (s : Spot A). s.key) ss)) ≡ true
          → (u : Spot A) × ((u ≡ s) ⊎ Among u ss) × (k ≡ u.key)
      go more true e f = (s, inl refl, same_value k s.key e)
      go more false e f = let r = more f in (r.0, inr r.1, r.2)

  key-among : (u : Spot A) (ss : List (Spot A)) → list_any (same_spot u) ss ≡ true → has_key u.key (map (λ (s : Spot A). s.key) ss) ≡ true
  key-among u [] h = h
  key-among u (s ∷ ss) h = go (key-among u ss) (same u.key s.key) (u.table == s.table) h
    where
      go : (list_any (same_spot u) ss ≡ true → has_key u.key (map (λ (s : Spot A). s.key) ss) ≡ true) → (a b : Bool) → ((b && a) || list_any (same_spot u) ss) ≡ true
          → (a || has_key u.key (map (λ (s : Spot A). s.key) ss)) ≡ true
      go more true b e = refl
      go more false true e = more e
      go more false false e = more e

  -- spots of one table that are apart have keys that are apart
  apart-keys : (X : Tables A) (t : ℕ) (ss : List (Spot A)) → list_all (λ u. t == u.table) ss ≡ true → are_apart (board_of c X ts) ss ≡ true → keys_apart (map (λ (s : Spot A). s.key) ss) ≡ true
  apart-keys X t [] of h = refl
  apart-keys X t (s ∷ ss) of h =
      let o = and_parts (t == s.table) (list_all (λ u. t == u.table) ss) of in
      let p = and_parts (not (list_any (same_spot s) ss)) (are_apart (board_of c X ts) ss) h in
      and_from (not (has_key s.key (map (λ (u : Spot A). u.key) ss))) (keys_apart (map (λ (u : Spot A). u.key) ss))
      (go (has_key s.key (map (λ (u : Spot A). u.key) ss)) refl o p.0)
      (apart-keys X t ss o.1 p.1)
    where
      go : (b : Bool) → has_key s.key (map (λ (u : Spot A). u.key) ss) ≡ b → ((t == s.table) ≡ true) × (list_all (λ u. t == u.table) ss ≡ true) → not (list_any (same_spot s) ss) ≡ true → not b ≡ true
      go false e o n = refl
      go true e o n =
          let r = among-key s.key ss e in
          let at : s.table ≡ r.0.table = sym (eqb-true t s.table o.0) ∙ eqb-true t r.0.table (all-each (λ (u : Spot A). t == u.table) r.0 ss o.1 r.1) in
          absurd (apart (list_any (same_spot s) ss) n (there r.0 ss r.1 (and_from (s.table == r.0.table) (same s.key r.0.key) (ap (λ m. s.table == m) (sym at) ∙ eqb-self s.table) (ap (same s.key) (sym r.2) ∙ same_itself s.key))))
        where
          apart : (b : Bool) → not b ≡ true → b ≡ true → ⊥
          apart true f g = true≢false (sym f)
          apart false f g = true≢false (sym g)

          there : (u : Spot A) (xs : List (Spot A)) → Among u xs → same_spot s u ≡ true → list_any (same_spot s) xs ≡ true
          there u [] a f = absurd a
          there u (x ∷ xs) (inl q) f = ap (λ b. b || list_any (same_spot s) xs) (ap (same_spot s) (sym q) ∙ f)
          there u (x ∷ xs) (inr a) f = last (same_spot s x) (there u xs a f)
            where
              last : (b : Bool) → list_any (same_spot s) xs ≡ true → (b || list_any (same_spot s) xs) ≡ true
              last true g = refl
              last false g = g

  abbrev spot_of : ℕ → Value A → Spot A
  spot_of t k = record { table = t; key = k }

  -- a key of the board is among its spots
  among-spots : (t : ℕ) (k : Value A) (ks : List (Value A)) → list_any (same k) ks ≡ true → Among (spot_of t k) (map (λ x. spot_of t x) ks)
  among-spots t k [] h = absurd (true≢false (sym h))
  among-spots t k (x ∷ ks) h = go (among-spots t k ks) (same k x) refl h
    where
      go : (list_any (same k) ks ≡ true → Among (spot_of t k) (map (λ y. spot_of t y) ks)) → (b : Bool) → same k x ≡ b → (b || list_any (same k) ks) ≡ true
          → (spot_of t k ≡ spot_of t x) ⊎ Among (spot_of t k) (map (λ y. spot_of t y) ks)
      go more true e f = inl (ap (λ (y : Value A). spot_of t y) (same_value k x e))
      go more false e f = inr (more f)

  way-at : (w : Way A) (ws : List (Way A)) → way.IsOneOf w ws → (n : ℕ) × (slice_get ws n ≡ Some w)
  way-at w [] s = absurd s
  way-at w (v ∷ vs) (inl e) = (zero, ap Some (sym e))
  way-at w (v ∷ vs) (inr s) = let r = way-at w vs s in (suc r.0, r.1)

  does-so : (X : Tables A) (before : ℕ → Option (Value A)) (n : ℕ) (now : Option (Value A)) (e : way.Effect A) → way.Comes e before n now → Does (board_of c X ts) before n now (effect_of e)
  does-so X before n now way.Keeps h = h
  does-so X before n now (way.Leaves s) h = h
  does-so X before n now (way.Adds m d) h = h
  does-so X before n now way.Unknown h = h

  committed-at : (o : Option (Trace A)) → option_map_or (λ t. is_some t.end) o false ≡ true → (t : Trace A) × (o ≡ Some t) × (is_some t.end ≡ true)
  committed-at None e = absurd (true≢false (sym e))
  committed-at (Some t) e = (t, refl, e)

  pub play-of : (X : Tables A) (order : List ℕ) → all_fit c ts ≡ true → is_sound c X ≡ true → (h : Explains c X ts order) → Play (board_of c X ts) order (turns_of order X h.in_turn)
  unfolding turns_of states IsKey
  play-of X order fit sound h = record {
    once = once order h.apart;
    within = λ i x e. let d = done-at order X h.in_turn fit sound i x e in get-below ts x d.trace d.stands;
    complete = λ x e. let t = committed-at (slice_get ts x) e in stands-at x order (h.complete x t.0 t.1 t.2);
    timely = λ i j x y at-x at-y p. go i j x y at-x at-y p (cases_lt i j);
    opened = λ s n. ap (λ Z. cell s.key (row_at Z s.table s.key) n) (steps-first order X h.in_turn);
    joined = λ s i n. ap (λ Z. cell s.key (row_at Z s.table s.key) n) (steps-next order X h.in_turn i);
    ways = λ s i x e.
        let d = done-at order X h.in_turn fit sound i x e in
        let w = counted c s.table s.key d.trace.statements (steps order X h.in_turn i).0 (steps order X h.in_turn i).1 d.sound d.fit d.ran in
        let at = way-at w.0 (symbolic.ways_of c s.table s.key d.trace.statements) w.1 in (
          at.0,
          w.0,
          record {
            way = ap (λ o. slice_get (option_map_or (λ t. symbolic.ways_of c s.table s.key t.statements) o []) at.0) d.stands ∙ at.1;
            allowed = λ n. holds_allows s.key w.0 (row_at (steps order X h.in_turn i).0 s.table s.key) (row_at (steps order X h.in_turn i).1 s.table s.key) n w.2;
            counted = λ j g. chosen-is s (steps order X h.in_turn i).0 (slice_get order i) x d.trace j e d.stands ∙ w.3.sure j g;
            may_count = λ j g. ap (λ o. option_map_or (may_count s.key w.0 j) o false) d.stands ∙ w.3.all j (sym (chosen-is s (steps order X h.in_turn i).0 (slice_get order i) x d.trace j e d.stands) ∙ g);
            does = λ n. does-so X (cell s.key (row_at (steps order X h.in_turn i).0 s.table s.key)) n (cell s.key (row_at (steps order X h.in_turn i).1 s.table s.key) n) (way.effect s.key w.0 n)
                (holds_effect s.key w.0 (row_at (steps order X h.in_turn i).0 s.table s.key) (row_at (steps order X h.in_turn i).1 s.table s.key) n w.2);
          },
        );
    no_fewer = λ i x s j n ss e told of apart chosen.
        let d = done-at order X h.in_turn fit sound i x e in
        let number = tells-number s.table j n d.trace (sym (ap (λ o. option_map_or (tells s.table j n) o false) d.stands) ∙ told) in
        subst (λ m. m ≤ n) (length-spots ss)
        (told_at_least c s.table d.trace.statements (steps order X h.in_turn i).0 (steps order X h.in_turn i).1 j n (map (λ (u : Spot A). u.key) ss) d.ran number (apart-keys X s.table ss of apart) (λ k g.
        let r = among-key k ss g in
        let same-table : s.table ≡ r.0.table = eqb-true s.table r.0.table (all-each (λ (u : Spot A). s.table == u.table) r.0 ss of r.1) in
        subst (λ v. chosen_in c s.table v d.trace.statements (steps order X h.in_turn i).0 j ≡ true) (sym r.2)
        (subst (λ m. chosen_in c m r.0.key d.trace.statements (steps order X h.in_turn i).0 j ≡ true) (sym same-table)
        (sym (chosen-is r.0 (steps order X h.in_turn i).0 (slice_get order i) x d.trace j e d.stands) ∙ chosen r.0 r.1))));
    no_more = λ i x s j n ss e told covers.
        let d = done-at order X h.in_turn fit sound i x e in
        let number = tells-number s.table j n d.trace (sym (ap (λ o. option_map_or (tells s.table j n) o false) d.stands) ∙ told) in
        let rows = rows-at s.table (IsKey X s.table) order X h.in_turn fit sound (all-put X s.table) (all-opened X s.table) i x e in
        subst (λ m. n ≤ m) (length-spots ss)
        (told_at_most c s.table d.trace.statements (steps order X h.in_turn i).0 (steps order X h.in_turn i).1 j n (map (λ (u : Spot A). u.key) ss) d.sound d.fit d.ran number (λ k g.
        let u : Spot A = record { table = s.table; key = k } in
        let key = chosen-key s.table (IsKey X s.table) d.trace.statements (steps order X h.in_turn i).0 d.fit d.sound (all-put X s.table x d.trace d.stands) rows k j g in
        key-among u ss (covers u (among-spots s.table k (keys_of X ts s.table) key) (chosen-is u (steps order X h.in_turn i).0 (slice_get order i) x d.trace j e d.stands ∙ g))));
  }
    where
      go : (i j x y : ℕ) → slice_get order i ≡ Some x → slice_get order j ≡ Some y → precedes_so (slice_get ts x) (slice_get ts y) ≡ true → (i < j) ⊎ (j ≤ i) → i < j
      go i j x y at-x at-y p (inl l) = l
      go i j x y at-x at-y p (inr l) = absurd (precedes-false (slice_get ts x) (slice_get ts y) (in-time-at order h.in_time j i x y l at-x at-y) p)
