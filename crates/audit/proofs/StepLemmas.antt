-- Steps of walks over courses, changes and answers.
use Rattle.std.proofs.Common.{◌≡◌, refl, sym, ap, ◌∙◌, ℕ, suc, zero, ◌+◌, ◌<◌, Bool, true, false, cond, ◌||◌, ◌&&◌, ◌-◌, ◌≤◌, map, slice_get, subst, add-one, drop-cons, inl, inr, List, [], ◌∷◌, length, take, drop, get_or, set, Some, None, is_some, eqb, Ok, nat_lt, not, arith}
use Rattle.std.proofs.lemmas.Bool.{and_parts}
use Rattle.std.proofs.lemmas.Bool.Decides.{nat_tests}
use Rattle.std.specs.List.{find, list_any}
use Rattle.value.specs.Refusals.{AnswersOrNoMemory}
use Rattle.std.specs.List.{filter, list_all}
use Rattle.schema.specs.Definition.{Catalog}
use Rattle.schema.specs.declared.tables.Tables.{Tables}
use Rattle.schema.specs.Plain.{is_sound}
use Rattle.statement.specs.declared.statement.Statement.{Statement}
use Rattle.statement.specs.declared.reply.Reply.{Reply}
use Rattle.statement.specs.Evaluation.{outcome, after}
use Rattle.statement.specs.Fits.{fits}
use Rattle.statement.proofs.LawsLemmas.{sound_after}
use Rattle.history.specs.declared.event.Record.{Record}
use Rattle.audit.specs.Course.{Track, at_first, begins, courses_after, gone_on, is_its, with_record}
use Rattle.audit.specs.Replay.{answers_again, are_fit, end_of, goes_next, replays, without}
use Rattle.value.specs.declared.refusal.TxnNo.{TxnNo}
use Rattle.value.proofs.Basics.{first_and_rest}
use Rattle.audit.specs.Same.{same_answer}

pub answered-ok : {T : Type 0} (x a : T) → AnswersOrNoMemory (Ok x) (Ok a) → x ≡ a
answered-ok x a (inl e) = cc
answered-ok x a (inr e) = cc

pub any-find : {T : Type 0} (p : T → Bool) (xs : List T) → list_any p xs ≡ is_some (find p xs)
any-find p [] = refl
any-find {T} p (x ∷ xs) = go (p x) (any-find p xs)
  where
    go : (b : Bool) → list_any p xs ≡ is_some (find p xs) → (b || list_any p xs) ≡ is_some (cond b (Some x) (find p xs))
    go true e = refl
    go false e = e

pub any-at : {T : Type 0} (p : T → Bool) (xs : List T) (i : ℕ) (x : T) → i < length xs → x ≡ get_or xs i x → p x ≡ true → list_any p xs ≡ true
any-at p [] i x lt at e = absurd (omega arith)
any-at p (y ∷ ys) zero x lt at e = ap (λ z. p z || list_any p ys) (sym at) ∙ ap (λ b. b || list_any p ys) e
any-at {T} p (y ∷ ys) (suc i) x lt at e = go (p y) (any-at p ys i x (omega arith) at e)
  where
    go : (b : Bool) → list_any p ys ≡ true → (b || list_any p ys) ≡ true
    go true h = refl
    go false h = h

some_at : {T : Type 0} (xs : List T) (i : ℕ) → i < length xs → (x : T) × (slice_get xs i ≡ Some x) × (x ≡ get_or xs i x)
some_at [] i lt = absurd (omega arith)
some_at (x ∷ xs) zero lt = (x, refl, refl)
some_at (x ∷ xs) (suc i) lt = some_at xs i (omega arith)

pub found-passes : {T : Type 0} (q p : T → Bool) (xs ds : List T) (x : T) → ds ≡ xs → list_all q xs ≡ true → Some x ≡ find p ds → q x ≡ true
found-passes {T} q p xs ds x same all e = go xs all (e ∙ ap (find p) same)
  where
    go : (ys : List T) → list_all q ys ≡ true → Some x ≡ find p ys → q x ≡ true
    go [] h f = cc
    go (y ∷ ys) h f = at (p y) (and_parts (q y) (list_all q ys) h) (λ k. go ys (and_parts (q y) (list_all q ys) h).1 k) f
      where
        at : (b : Bool) → (q y ≡ true) × (list_all q ys ≡ true) → (Some x ≡ find p ys → q x ≡ true) → Some x ≡ cond b (Some y) (find p ys) → q x ≡ true
        at true r rest k = let same_one : x ≡ y = cc in ap q same_one ∙ r.0
        at false r rest k = rest k

pub all-filter : {T : Type 0} (q p : T → Bool) (xs : List T) → list_all q xs ≡ true → list_all q (filter p xs) ≡ true
all-filter q p [] h = refl
all-filter {T} q p (x ∷ xs) h = go (p x) (and_parts (q x) (list_all q xs) h) (all-filter q p xs (and_parts (q x) (list_all q xs) h).1)
  where
    go : (b : Bool) → (q x ≡ true) × (list_all q xs ≡ true) → list_all q (filter p xs) ≡ true → list_all q (cond b (x ∷ filter p xs) (filter p xs)) ≡ true
    go true r rest = ap (λ b. b && list_all q (filter p xs)) r.0 ∙ rest
    go false r rest = rest

module _ {A : Type 0} where
  pub at_first-set : (p : Track A → Bool) (f : Track A → Track A) (cs : List (Track A)) (i : ℕ) (x : Track A) → i < length cs → x ≡ get_or cs i x → find p (take i cs) ≡ None → p x ≡ true → at_first p f cs ≡ set cs i (f x)
  at_first-set p f [] i x lt at none e = absurd (omega arith)
  at_first-set p f (y ∷ ys) zero x lt at none e = ap (λ z. cond (p z) (f z ∷ ys) (z ∷ at_first p f ys)) (sym at) ∙ ap (λ b. cond b (f x ∷ ys) (x ∷ at_first p f ys)) e
  at_first-set p f (y ∷ ys) (suc i) x lt at none e = go (p y) none (λ n. at_first-set p f ys i x (omega arith) at n e)
    where
      go : (b : Bool) → cond b (Some y) (find p (take i ys)) ≡ None → (find p (take i ys) ≡ None → at_first p f ys ≡ set ys i (f x)) → cond b (f y ∷ ys) (y ∷ at_first p f ys) ≡ y ∷ set ys i (f x)
      go true n rest = cc
      go false n rest = ap (λ zs. y ∷ zs) (rest n)

  -- ---- one more record

  pub follow-some : (e : Record A) (place : ℕ) (cs ds new : List (Track A)) (i : ℕ) → ds ≡ cs → find (is_its e.session) (take i ds) ≡ None → ((x : Track A) → slice_get ds i ≡ Some x → is_its e.session x ≡ true) → i < length ds
      → ((x : Track A) → slice_get cs i ≡ Some x → new ≡ set cs i (gone_on place e.action e.reply x)) → new ≡ with_record place e cs
  follow-some e place cs ds new i same none it lt gone =
      let lt' : i < length cs = subst (λ (ys : List (Track A)). i < length ys) same lt in
      let h = some_at cs i lt' in
      let yes' : is_its e.session h.0 ≡ true = it h.0 (ap (λ (ys : List (Track A)). slice_get ys i) same ∙ h.1) in
      gone h.0 h.1
      ∙ sym (at_first-set (is_its e.session) (gone_on place e.action e.reply) cs i h.0 lt' h.2 (ap (λ (ys : List (Track A)). find (is_its e.session) (take i ys)) (sym same) ∙ none) yes')
      ∙ sym (ap (λ b. cond b (at_first (is_its e.session) (gone_on place e.action e.reply) cs) (begins place e.session e.action cs)) (any-at (is_its e.session) cs i h.0 lt' h.2 yes'))

  pub follow-none : (e : Record A) (place : ℕ) (cs ds new : List (Track A)) → ds ≡ cs → find (is_its e.session) ds ≡ None → new ≡ begins place e.session e.action cs → new ≡ with_record place e cs
  follow-none e place cs ds new same none gone =
      gone ∙ sym (ap (λ b. cond b (at_first (is_its e.session) (gone_on place e.action e.reply) cs) (begins place e.session e.action cs)) (any-find (is_its e.session) cs ∙ ap (λ (ys : List (Track A)). is_some (find (is_its e.session) ys)) (sym same) ∙ ap is_some none))

  pub courses-step : (k : ℕ) (rs : List (Record A)) (i : ℕ) (r : Record A) (cs new : List (Track A)) → i < length rs → r ≡ get_or rs i r → new ≡ with_record (k + 1) r cs → courses_after (k + 1) (drop (i + 1) rs) new ≡ courses_after k (drop i rs) cs
  courses-step k rs i r cs new lt at e =
      ap (λ j. courses_after (k + 1) (drop j rs) new) (add-one i) ∙ ap (courses_after (k + 1) (drop (suc i) rs)) e
      ∙ sym (ap (λ ys. courses_after k ys cs) (drop-cons rs i r lt ∙ ap (λ y. y ∷ drop (suc i) rs) (sym at)))

  -- ---- one more statement

  pub again-step : {T : Type 0} (show : T → Statement A × Reply A) (c : Catalog) (qs : List T) (q : T) (X Y : Tables A) → 1 ≤ length qs → q ≡ get_or qs 0 q → are_fit c (map show qs) ≡ true → is_sound c X ≡ true
      → same_answer (outcome c (show q).0 X).reply (show q).1 ≡ true → Y ≡ after c (show q).0 X
      → let rest : List T = take (length qs - 1) (drop 1 qs) in (answers_again c (map show rest) Y ≡ answers_again c (map show qs) X) × (end_of c (map show rest) Y ≡ end_of c (map show qs) X) × (are_fit c (map show rest) ≡ true) × (is_sound c Y ≡ true)
  again-step {T} show c qs q X Y long first fit sound same done =
      let rest : List T = take (length qs - 1) (drop 1 qs) in
      let all : qs ≡ q ∷ rest = first_and_rest qs q long first in
      let parts = and_parts (fits c (show q).0) (are_fit c (map show rest)) (sym (ap (λ (xs : List T). are_fit c (map show xs)) all) ∙ fit) in (
        ap (answers_again c (map show rest)) done ∙ sym (ap (λ b. b && answers_again c (map show rest) (after c (show q).0 X)) same) ∙ sym (ap (λ (xs : List T). answers_again c (map show xs) X) all),
        ap (end_of c (map show rest)) done ∙ sym (ap (λ (xs : List T). end_of c (map show xs) X) all),
        parts.1,
        ap (is_sound c) done ∙ sound_after c (show q).0 X parts.0 sound,
      )

  -- the statement is one that fits
  pub first-fits : {T : Type 0} (show : T → Statement A × Reply A) (c : Catalog) (qs : List T) (q : T) → 1 ≤ length qs → q ≡ get_or qs 0 q → are_fit c (map show qs) ≡ true → fits c (show q).0 ≡ true
  first-fits {T} show c qs q long first fit =
      let rest : List T = take (length qs - 1) (drop 1 qs) in
      (and_parts (fits c (show q).0) (are_fit c (map show rest)) (sym (ap (λ (xs : List T). are_fit c (map show xs)) (first_and_rest qs q long first)) ∙ fit)).0

  -- it gets another answer
  pub again-stops : {T : Type 0} (show : T → Statement A × Reply A) (c : Catalog) (qs : List T) (q : T) (X : Tables A) → 1 ≤ length qs → q ≡ get_or qs 0 q → same_answer (outcome c (show q).0 X).reply (show q).1 ≡ false
      → answers_again c (map show qs) X ≡ false
  again-stops {T} show c qs q X long first other =
      let rest : List T = take (length qs - 1) (drop 1 qs) in
      ap (λ (xs : List T). answers_again c (map show xs) X) (first_and_rest qs q long first) ∙ ap (λ b. b && answers_again c (map show rest) (after c (show q).0 X)) other

  pub sound-end : (c : Catalog) (qs : List (Statement A × Reply A)) (X : Tables A) → are_fit c qs ≡ true → is_sound c X ≡ true → is_sound c (end_of c qs X) ≡ true
  sound-end c [] X f h = h
  sound-end c (q ∷ qs) X f h = let p = and_parts (fits c q.0) (are_fit c qs) f in sound-end c qs (after c q.0 X) p.1 (sound_after c q.0 X p.0 h)

  -- one more number
  pub replays-next : (c : Catalog) (base late late' : ℕ) (left left' : List (Track A)) (X X' : Tables A) (qs : List TxnNo) (q : TxnNo) (k : ℕ) (b : Bool) → 1 ≤ length qs → q ≡ get_or qs 0 q → k ≡ q.0 - base
      → ((rest : ℕ → List (Track A) → Tables A → Bool) → goes_next c late X (find (λ y. eqb y.number k) left) (λ l Y. rest l (without k left) Y) ≡ (b && rest late' left' X'))
      → replays c base late left (map (λ (n : TxnNo). n.0) qs) X ≡ (b && replays c base late' left' (map (λ (n : TxnNo). n.0) (take (length qs - 1) (drop 1 qs))) X')
  replays-next c base late late' left left' X X' qs q k b long first e goes =
      let rest : List ℕ = map (λ (n : TxnNo). n.0) (take (length qs - 1) (drop 1 qs)) in
      ap (λ (xs : List TxnNo). replays c base late left (map (λ (n : TxnNo). n.0) xs) X) (first_and_rest qs q long first)
      ∙ sym (ap (λ (j : ℕ). goes_next c late X (find (λ y. eqb y.number j) left) (λ l Y. replays c base l (without j left) rest Y)) e)
      ∙ goes (λ l xs Y. replays c base l xs rest Y)

-- one that had ended goes no further, and one that hadn't goes by its answers
pub ended-before : (a b : ℕ) (r : Bool) → a < b → (not (nat_lt a b) && r) ≡ false
ended-before a b r lt = let e : nat_lt a b ≡ true = grind (arith, nat_tests) in ap (λ t. not t && r) e

pub not_ended : (a b : ℕ) (r : Bool) → b ≤ a → (not (nat_lt a b) && r) ≡ r
not_ended a b r le = let e : nat_lt a b ≡ false = grind (arith, nat_tests) in ap (λ t. not t && r) e

-- the number at the front
pub front_number : (qs : List TxnNo) (d : TxnNo) → 1 ≤ length qs → get_or qs 0 d ≡ get_or qs 0 (get_or qs 0 d)
front_number [] d l = absurd (omega arith)
front_number (q ∷ qs) d l = refl
