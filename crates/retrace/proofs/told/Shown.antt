-- A conflict between two transactions that are told is always shown: each has a moment after its last statement.
use Rattle.std.proofs.Common.{◌≡◌, refl, sym, ap, subst, ◌∙◌, ℕ, zero, suc, ◌+◌, ◌≤◌, Bool, true, false, true≢false, cond, not, ◌&&◌, ◌||◌, ◌⊎◌, inl, inr, List, [], ◌∷◌, ◌++◌, length, Option, Some, None, is_some, eqb, nat_lt, arith}
use Rattle.std.proofs.lemmas.Bool.{eq-eqb, or_cases, or_left, or_right, and_from}
use Rattle.std.proofs.lemmas.Cmp.{tied_itself}
use Rattle.std.proofs.lemmas.List.{take_all}
use Rattle.std.specs.Ordering.{is_eq}
use Rattle.std.specs.List.{find, fold, list_any, position}
use Rattle.std.specs.Option.{option_map}
use Rattle.value.specs.declared.refusal.Cause.{Cause}
use Rattle.value.specs.declared.value.Value.{Value}
use Rattle.value.specs.Isolation.{is_doomed}
use Rattle.value.specs.Order.{value_cmp-total}
use Rattle.value.proofs.IsolationLemmas.{In}
use Rattle.value.proofs.SerialLemmas.{In-right}
use Rattle.schema.specs.declared.changes.Change.{Change}
use Rattle.schema.specs.Definition.{Catalog}
use Rattle.schema.specs.Plain.{same}
use Rattle.statement.specs.declared.statement.Statement.{Statement}
use Rattle.statement.specs.declared.outcome.Mark.{Mark}
use Rattle.statement.specs.declared.reading.Reading.{Reading}
use Rattle.statement.specs.declared.reply.Reply.{Reply}
use Rattle.statement.specs.declared.reply.Reply.TheVariants.{Committed, Imported, Refused, Safe}
use Rattle.history.specs.declared.event.Action.{Action}
use Rattle.history.specs.declared.event.Action.TheVariants.{Begin, Run, Broken, Poll, Export, Import, Commit, Rollback, Prune}
use Rattle.history.specs.declared.event.Record.{Record}
use Rattle.history.specs.Events.{goes_on}
use Rattle.history.specs.Opening.{Opening}
use Rattle.retrace.specs.declared.run.When.{When}
use Rattle.retrace.specs.declared.witness.edge.Edge.{Edge}
use Rattle.retrace.specs.declared.witness.item.Item.{Item}
use Rattle.retrace.specs.declared.witness.trace.Moment.{Moment}
use Rattle.retrace.specs.Dooms as dooms
use Rattle.retrace.specs.Edges.{covers_by, edge_at, edge_between, edge_from, edge_told, first_read, first_written, had_written, is_edge, is_unseen}
use Rattle.retrace.specs.Holds.{hold_of}
use Rattle.retrace.specs.Items.{change_below, cover_change, cover_mark, cover_written, first_item, is_change, is_mark, key_item, least_change, least_item, least_mark, lesser_change, lesser_mark, mark_below, mark_item, wrote}
use Rattle.retrace.specs.Past.{Bygone, after_all, followed, followed_by, joined, at_place, retraced, turned_at, unbegun, when}
use Rattle.retrace.specs.Runs.{Going, answered, begun, changes_of, is_its, marks_of, over, reads_of, turned}
use Rattle.retrace.specs.Told.{PlaceByPlace}
use Rattle.retrace.specs.Trails.{Trail, marked_by, read_by}

-- ---- what is found

pub found : {X : Type 0} (p : X → Bool) (xs : List X) (x : X) → In x xs → p x ≡ true → (y : X) × (find p xs ≡ Some y) × (p y ≡ true)
found p [] x i e = absurd i
found {X} p (y ∷ xs) x i e = go (p y) refl (λ j. found p xs x j e) i
  where
    go : (b : Bool) → p y ≡ b → (In x xs → (z : X) × (find p xs ≡ Some z) × (p z ≡ true)) → (x ≡ y) ⊎ In x xs → (z : X) × (cond b (Some y) (find p xs) ≡ Some z) × (p z ≡ true)
    go true q rest j = (y, refl, q)
    go false q rest (inl k) = absurd (true≢false (sym e ∙ ap p k ∙ q))
    go false q rest (inr j) = rest j

pub any-In : {X : Type 0} (p : X → Bool) (xs : List X) (x : X) → In x xs → p x ≡ true → list_any p xs ≡ true
any-In p [] x i e = absurd i
any-In p (y ∷ xs) x (inl k) e = or_left (p y) (list_any p xs) (ap p (sym k) ∙ e)
any-In p (y ∷ xs) x (inr i) e = or_right (p y) (list_any p xs) (any-In p xs x i e)

-- the least so far is one of these
abbrev Among : {X : Type 0} → List X → Option X → Type 0
Among xs None = Unit {0}
Among xs (Some x) = In x xs

third_of : (a b c : Bool) → (a && b && c) ≡ true → c ≡ true
third_of true true c e = e
third_of true false c e = absurd (true≢false (sym e))
third_of false b c e = absurd (true≢false (sym e))

module _ {A : Type 0} where
  same_itself : (v : Value A) → same v v ≡ true
  same_itself v = ap is_eq (tied_itself value_cmp-total v)

  -- ---- the least of what is covered

  change-kept : (rs : List (Reading A)) (all xs : List (Change A)) (o : Option (Change A)) → Among all o → ((x : Change A) → In x xs → In x all) → Among all (fold (lesser_change rs) o xs)
  change-kept rs all [] o a f = a
  change-kept rs all (x ∷ xs) o a f = change-kept rs all xs (lesser_change rs o x) (go (cover_change rs x && change_below x o)) (λ y i. f y (inr i))
    where
      go : (b : Bool) → Among all (cond b (Some x) o)
      go true = f x (inl refl)
      go false = a

  change-stays : (rs : List (Reading A)) (xs : List (Change A)) (o : Option (Change A)) → is_some o ≡ true → is_some (fold (lesser_change rs) o xs) ≡ true
  change-stays rs [] o e = e
  change-stays rs (x ∷ xs) o e = change-stays rs xs (lesser_change rs o x) (go (cover_change rs x && change_below x o))
    where
      go : (b : Bool) → is_some (cond b (Some x) o) ≡ true
      go true = refl
      go false = e

  change-found : (rs : List (Reading A)) (xs : List (Change A)) (o : Option (Change A)) → list_any (cover_change rs) xs ≡ true → is_some (fold (lesser_change rs) o xs) ≡ true
  change-found rs [] o e = absurd (true≢false (sym e))
  change-found rs (x ∷ xs) o e = go (cover_change rs x) refl o (λ q. change-found rs xs o q) e
    where
      now : (o : Option (Change A)) → is_some (cond (change_below x o) (Some x) o) ≡ true
      now None = refl
      now (Some y) = either (change_below x (Some y))
        where
          either : (b : Bool) → is_some (cond b (Some x) (Some y)) ≡ true
          either true = refl
          either false = refl

      go : (b : Bool) → cover_change rs x ≡ b → (o : Option (Change A)) → (list_any (cover_change rs) xs ≡ true → is_some (fold (lesser_change rs) o xs) ≡ true) → (b || list_any (cover_change rs) xs) ≡ true → is_some (fold (lesser_change rs) (cond (cover_change rs x && change_below x o) (Some x) o) xs) ≡ true
      go true q p rest h = change-stays rs xs (cond (cover_change rs x && change_below x p) (Some x) p) (ap (λ b. is_some (cond (b && change_below x p) (Some x) p)) q ∙ now p)
      go false q p rest h = ap (λ b. is_some (fold (lesser_change rs) (cond (b && change_below x p) (Some x) p) xs)) q ∙ rest h

  mark-kept : (rs : List (Reading A)) (all xs : List (Mark A)) (o : Option (Mark A)) → Among all o → ((x : Mark A) → In x xs → In x all) → Among all (fold (lesser_mark rs) o xs)
  mark-kept rs all [] o a f = a
  mark-kept rs all (x ∷ xs) o a f = mark-kept rs all xs (lesser_mark rs o x) (go (cover_mark rs x && mark_below x o)) (λ y i. f y (inr i))
    where
      go : (b : Bool) → Among all (cond b (Some x) o)
      go true = f x (inl refl)
      go false = a

  mark-stays : (rs : List (Reading A)) (xs : List (Mark A)) (o : Option (Mark A)) → is_some o ≡ true → is_some (fold (lesser_mark rs) o xs) ≡ true
  mark-stays rs [] o e = e
  mark-stays rs (x ∷ xs) o e = mark-stays rs xs (lesser_mark rs o x) (go (cover_mark rs x && mark_below x o))
    where
      go : (b : Bool) → is_some (cond b (Some x) o) ≡ true
      go true = refl
      go false = e

  mark-found : (rs : List (Reading A)) (xs : List (Mark A)) (o : Option (Mark A)) → list_any (cover_mark rs) xs ≡ true → is_some (fold (lesser_mark rs) o xs) ≡ true
  mark-found rs [] o e = absurd (true≢false (sym e))
  mark-found rs (x ∷ xs) o e = go (cover_mark rs x) refl o (λ q. mark-found rs xs o q) e
    where
      now : (o : Option (Mark A)) → is_some (cond (mark_below x o) (Some x) o) ≡ true
      now None = refl
      now (Some y) = either (mark_below x (Some y))
        where
          either : (b : Bool) → is_some (cond b (Some x) (Some y)) ≡ true
          either true = refl
          either false = refl

      go : (b : Bool) → cover_mark rs x ≡ b → (o : Option (Mark A)) → (list_any (cover_mark rs) xs ≡ true → is_some (fold (lesser_mark rs) o xs) ≡ true) → (b || list_any (cover_mark rs) xs) ≡ true → is_some (fold (lesser_mark rs) (cond (cover_mark rs x && mark_below x o) (Some x) o) xs) ≡ true
      go true q p rest h = mark-stays rs xs (cond (cover_mark rs x && mark_below x p) (Some x) p) (ap (λ b. is_some (cond (b && mark_below x p) (Some x) p)) q ∙ now p)
      go false q p rest h = ap (λ b. is_some (fold (lesser_mark rs) (cond (b && mark_below x p) (Some x) p) xs)) q ∙ rest h

  -- an item that is named was written
  pub record Named (o : Option (Item A)) (xs : List (Change A)) (ms : List (Mark A)) : Type 0 where
    pub item : Item A
    pub is : o ≡ Some item
    pub written : wrote item xs ms ≡ true

  by_key : (xs : List (Change A)) (ms : List (Mark A)) (x : Change A) → In x xs → Named (Some (key_item x)) xs ms
  by_key xs ms x i = record { item = key_item x; is = refl; written = any-In (is_change (key_item x)) xs x i (and_from (eqb x.table x.table) (same x.key x.key) (eq-eqb x.table x.table refl) (same_itself x.key)) }

  by_mark : (xs : List (Change A)) (ms : List (Mark A)) (m : Mark A) → In m ms → Named (Some (mark_item m)) xs ms
  by_mark xs ms m i = record {
    item = mark_item m;
    is = refl;
    written = any-In (is_mark (mark_item m) m.column) ms m i
        (and_from (eqb m.table m.table && eqb m.column m.column) (same m.key m.key) (and_from (eqb m.table m.table) (eqb m.column m.column) (eq-eqb m.table m.table refl) (eq-eqb m.column m.column refl)) (same_itself m.key));
  }

  first-named : (xs : List (Change A)) (ms : List (Mark A)) (o : Option (Change A)) (q : Option (Mark A)) → Among xs o → Among ms q → (is_some o || is_some q) ≡ true → Named (first_item o q) xs ms
  first-named xs ms None None a b e = absurd (true≢false (sym e))
  first-named xs ms (Some x) None a b e = by_key xs ms x a
  first-named xs ms None (Some m) a b e = by_mark xs ms m b
  first-named xs ms (Some x) (Some m) a b e = go (nat_lt m.table x.table)
    where
      go : (c : Bool) → Named (cond c (Some (mark_item m)) (Some (key_item x))) xs ms
      go true = by_mark xs ms m b
      go false = by_key xs ms x a

  named : (rs : List (Reading A)) (xs : List (Change A)) (ms : List (Mark A)) → cover_written rs xs ms ≡ true → Named (least_item rs xs ms) xs ms
  named rs xs ms e = first-named xs ms (least_change rs xs) (least_mark rs ms) (change-kept rs xs xs None tt (λ x i. i)) (mark-kept rs ms ms None tt (λ m i. i)) (go (or_cases (list_any (cover_change rs) xs) (list_any (cover_mark rs) ms) e))
    where
      go : (list_any (cover_change rs) xs ≡ true) ⊎ (list_any (cover_mark rs) ms ≡ true) → (is_some (least_change rs xs) || is_some (least_mark rs ms)) ≡ true
      go (inl h) = or_left (is_some (least_change rs xs)) (is_some (least_mark rs ms)) (change-found rs xs None h)
      go (inr h) = or_right (is_some (least_change rs xs)) (is_some (least_mark rs ms)) (mark-found rs ms None h)

  -- ---- moments

  -- by this moment it had done all
  pub record Full (t : Trail A) (m : Moment) : Type 0 where
    pub is_in : In m t.moments
    pub reads : length t.reads ≤ m.reads
    pub changes : length t.changes ≤ m.changes
    pub marks : length t.marks ≤ m.marks

  -- it has done nothing, or had done all by one of its moments
  abbrev pub HasMoments : Trail A → Type 0
  HasMoments t = (t.reads ≡ []) × (t.changes ≡ []) × (t.marks ≡ []) ⊎ (m : Moment) × Full t m

  unread_keys : (xs : List (Change A)) → list_any (cover_change []) xs ≡ false
  unread_keys [] = refl
  unread_keys (x ∷ xs) = unread_keys xs

  unread_marks : (ms : List (Mark A)) → list_any (cover_mark []) ms ≡ false
  unread_marks [] = refl
  unread_marks (m ∷ ms) = unread_marks ms

  unread : (xs : List (Change A)) (ms : List (Mark A)) → cover_written [] xs ms ≡ false
  unread xs ms = ap (λ b. b || list_any (cover_mark []) ms) (unread_keys xs) ∙ unread_marks ms

  -- what was read by a full moment is all
  module _ (t u : Trail A) (e : cover_written t.reads u.changes u.marks ≡ true) where
    reading : HasMoments t → (m : Moment) × (first_read t u ≡ Some m) × (covers_by t u m ≡ true)
    reading (inl n) = absurd (true≢false (sym e ∙ ap (λ rs. cover_written rs u.changes u.marks) n.0 ∙ unread u.changes u.marks))
    reading (inr f) = found (covers_by t u) t.moments f.0 f.1.is_in (ap (λ rs. cover_written rs u.changes u.marks) (take_all f.0.reads t.reads f.1.reads) ∙ e)

    writing : HasMoments u → (i : Item A) → wrote i u.changes u.marks ≡ true → (m : Moment) × (first_written i u ≡ Some m)
    writing (inl n) i w = absurd (true≢false (sym e ∙ ap (λ xs. cover_written t.reads xs u.marks) n.1 ∙ ap (λ ms. cover_written t.reads [] ms) n.2))
    writing (inr f) i w =
        let r = found (had_written i u) u.moments f.0 f.1.is_in (ap (λ xs. wrote i xs (marked_by u f.0)) (take_all f.0.changes u.changes f.1.changes) ∙ ap (λ ms. wrote i u.changes ms) (take_all f.0.marks u.marks f.1.marks) ∙ w) in
        (r.0, r.1)

    told : (m : Moment) (i : Item A) → (n : Moment) × (first_written i u ≡ Some n) → is_some (edge_told t u m i) ≡ true
    told m i w = ap (λ (o : Option Moment). is_some {T = Edge A} (option_map (λ n. record { read = m; hold = hold_of (read_by t m) i; item = i; written = n }) o)) w.1

    at_moment : HasMoments u → (m : Moment) → covers_by t u m ≡ true → is_some (edge_at t u m (least_item (read_by t m) u.changes u.marks)) ≡ true
    at_moment hu m c =
        let n = named (read_by t m) u.changes u.marks c in
        ap (λ o. is_some (edge_at t u m o)) n.is ∙ told m n.item (writing hu n.item n.written)

    shown : HasMoments t → HasMoments u → is_some (edge_from t u (first_read t u)) ≡ true
    shown ht hu = let r = reading ht in ap (λ o. is_some (edge_from t u o)) r.1 ∙ at_moment hu r.0 r.2

  -- a conflict is shown
  pub edge-shown : (t u : Trail A) → HasMoments t → HasMoments u → is_some (edge_between t u) ≡ is_edge t u
  edge-shown t u ht hu = go (is_edge t u) refl
    where
      go : (b : Bool) → is_edge t u ≡ b → is_some (cond b (edge_from t u (first_read t u)) None) ≡ b
      go true e = shown t u (third_of (not (eqb t.number u.number)) (is_unseen t u) (cover_written t.reads u.changes u.marks) e) ht hu
      go false e = refl

  -- ---- each transaction has its moments

  abbrev pub AllHave : List (Going A) → Type 0
  AllHave [] = Unit {0}
  AllHave (g ∷ gs) = HasMoments g.trace × AllHave gs

  have-push : (gs : List (Going A)) (g : Going A) → AllHave gs → HasMoments g.trace → AllHave (gs ++ g ∷ [])
  have-push [] g a h = (h, tt)
  have-push (i ∷ gs) g a h = (a.0, have-push gs g a.1 h)

  have-turned : (f : Going A → Going A) → ((g : Going A) → HasMoments g.trace → HasMoments (f g).trace) → (n : ℕ) (gs : List (Going A)) → AllHave gs → AllHave (turned_at n f gs)
  have-turned f h zero [] a = tt
  have-turned f h (suc n) [] a = tt
  have-turned f h zero (g ∷ gs) a = (h g a.0, a.1)
  have-turned f h (suc n) (g ∷ gs) a = (a.0, have-turned f h n gs a.1)

  have-doomed : (cs : List Cause) (gs : List (Going A)) → AllHave gs → AllHave (dooms.all_doomed cs gs)
  have-doomed cs [] a = tt
  have-doomed cs (g ∷ gs) a = (go (is_doomed dooms.node dooms.reads cs g), have-doomed cs gs a.1)
    where
      go : (b : Bool) → HasMoments (cond b (over g) g).trace
      go true = a.0
      go false = a.0

  -- beside what is known of each
  pub places-have : {U : Type 0} (R : Going A → U → Type 0) (gs : List (Going A)) (ts : List U) → AllHave gs → PlaceByPlace R gs ts → PlaceByPlace (λ g t. R g t × HasMoments g.trace) gs ts
  places-have R [] [] a r = tt
  places-have R [] (t ∷ ts) a r = absurd r
  places-have R (g ∷ gs) [] a r = absurd r
  places-have R (g ∷ gs) (t ∷ ts) a r = ((r.0, a.0), places-have R gs ts a.1 r.1)

  -- the same of one with the same lists
  abbrev Alike : Trail A → Trail A → Type 0
  Alike t u = (u.reads ≡ t.reads) × (u.changes ≡ t.changes) × (u.marks ≡ t.marks) × (u.moments ≡ t.moments)

  alike : (t u : Trail A) → Alike t u → HasMoments t → HasMoments u
  alike t u e (inl n) = inl (e.0 ∙ n.0, e.1 ∙ n.1, e.2 ∙ n.2)
  alike t u e (inr f) = inr (
    f.0,
    record {
      is_in = subst (In f.0) (sym e.3) f.1.is_in;
      reads = subst (λ rs. length rs ≤ f.0.reads) (sym e.0) f.1.reads;
      changes = subst (λ xs. length xs ≤ f.0.changes) (sym e.1) f.1.changes;
      marks = subst (λ ms. length ms ≤ f.0.marks) (sym e.2) f.1.marks;
    },
  )

  answered-has : (c : Catalog) (place : ℕ) (q : Statement A) (g : Going A) → HasMoments (answered c place q g).trace
  answered-has c place q g = inr (m, record { is_in = In-right (λ (_ : Moment). (0, 0, 0)) m g.trace.moments (m ∷ []) (inl refl); reads = omega arith; changes = omega arith; marks = omega arith })
    where
      m : Moment
      m = record { place = place; reads = length (g.trace.reads ++ reads_of c q); changes = length (g.trace.changes ++ changes_of c q g.own); marks = length (g.trace.marks ++ marks_of c q g.own) }

  turned-has : (c : Catalog) (w : When) (a : Action A) (r : Reply A) (g : Going A) → HasMoments g.trace → HasMoments (turned c w a r g).trace
  turned-has c w (Run q) (Refused r) g h = go (goes_on r.code)
    where
      go : (b : Bool) → HasMoments (cond b (record g { refused = changes_of c q g.own }) (over (record g { refused = changes_of c q g.own }))).trace
      go true = h
      go false = h
  turned-has c w (Run q) _ g h = answered-has c w.place q g
  turned-has c w Poll (Safe s) g h = alike g.trace (turned c w Poll (Safe s) g).trace (refl, refl, refl, refl) h
  turned-has c w Poll _ g h = h
  turned-has c w (Import i) Imported g h = alike g.trace (turned c w (Import i) Imported g).trace (refl, refl, refl, refl) h
  turned-has c w (Import i) _ g h = h
  turned-has c w Commit Committed g h = alike g.trace (turned c w Commit Committed g).trace (refl, refl, refl, refl) h
  turned-has c w Commit r g h = alike g.trace (turned c w Commit r g).trace (refl, refl, refl, refl) h
  turned-has c w Rollback r g h = alike g.trace (turned c w Rollback r g).trace (refl, refl, refl, refl) h
  turned-has c w (Broken r) _ g h = h
  turned-has c w (Begin m) _ g h = h
  turned-has c w Export _ g h = h
  turned-has c w Prune _ g h = h

  joined-has : (s : ℕ) (a : Action A) (w : When) (p : Bygone A) → AllHave p.runs → AllHave (joined s a w p).runs
  joined-has s (Begin m) w p h = have-push p.runs (begun s m (length p.runs + 1) w p.tables) h (inl (refl, refl, refl))
  joined-has s _ w p h = h

  followed-has : (c : Catalog) (w : When) (e : Record A) (o : Option ℕ) (p : Bygone A) → AllHave p.runs → AllHave (followed_by c w e o p).runs
  followed-has c w e None p h = joined-has e.session e.action w p h
  followed-has c w e (Some i) p h = have-doomed (dooms.causes_of e.action e.reply p.runs (at_place i p.runs)) (turned_at i (turned c w e.action e.reply) p.runs) (have-turned (turned c w e.action e.reply) (λ g k. turned-has c w e.action e.reply g k) i p.runs h)

  all-have : (c : Catalog) (base : ℕ) (es : List (Record A)) (p : Bygone A) → AllHave p.runs → AllHave (after_all c base es p).runs
  all-have c base [] p h = h
  all-have c base (e ∷ es) p h = all-have c base es (followed c base e p) (followed-has c (when base (p.place + 1) e.action p.commits p.lent) e (position (is_its e.session) p.runs) (record p { place = p.place + 1 }) h)

  pub retraced-have : (o : Opening A) (es : List (Record A)) → AllHave (retraced o es)
  retraced-have o es = all-have o.catalog o.base.commits es (unbegun o) tt
