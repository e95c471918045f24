-- Lines that a session does one after the other.
use Rattle.std.proofs.Common.{◌≡◌, ◌∙◌, ◌++◌, ◌+◌, ◌<◌, ◌≤◌, ◌⊎◌, ℕ, suc, List, [], ◌∷◌, Option, Some, Result, Ok, Err, IfErr, IfOk, IsOkAnd, OnOk, All, inl, inr, length, map, slice_get, take, drop, get_or, refl, sym, ap, subst, arith, append_assoc, append-nil}
use lib.Seq.{take-append_seam}
use Rattle.std.proofs.lemmas.List.{map-append, take_more}
use Rattle.std.proofs.lemmas.List.Elements.{All-push}
use Rattle.std.proofs.lemmas.Option.{slice_get_read}
use Rattle.std.proofs.lemmas.Result.{IfErr-at_err}
use Rattle.backup.specs.Backed.{seen_by}
use Rattle.history.specs.Opening.{Opening, zero_base}
use Rattle.pass.specs.Knowing.{Known}
use Rattle.script.specs.declared.script.Line.{Line}
use Rattle.script.specs.declared.script.Step.{Step}
use Rattle.script.specs.declared.script.Step.TheVariants as step
use Rattle.program.specs.Beginnings.{BeginsWith}
use Rattle.program.specs.Freely.{AreJoined, ArePrinted, AreServed, AreTold, HasPlayed, IsAmong, IsAtLine, IsFaultOf, ScriptHasRunFreely, SessionsEnd, SessionsHaveRun, fresh}
use Rattle.program.specs.Files.{Writing}
use Rattle.program.specs.Printed.{Adds, IsFlushed, Printed}
use Rattle.program.specs.Runs.{Stops}
use Rattle.program.specs.declared.fault.Fault.{Fault}
use Rattle.program.specs.declared.fault.Fault.TheVariants as fault
use Rattle.program.specs.declared.free.FreeWay.{FreeWay}
use Rattle.schema.specs.Definition.{Catalog}
use Rattle.schema.specs.declared.tables.Tables.{Tables}
use Rattle.script.specs.Scripts.{Said}

-- one line more
told_more : {A : Type 0} (writes : Writing) (o : Opening A) (most : ℕ) (ls : List (Line A)) (l : Line A) (p middle q : Known A) (t u : List ℕ) → AreTold writes o most ls p t middle → IsAtLine writes o most l.step middle u q → AreTold writes o most (ls ++ l ∷ []) p (t ++ u) q
told_more writes o most [] l p middle q t u none at =
    (q, u, [], subst (λ k. IsAtLine writes o most l.step k u q) none.1 at, (refl, refl), ap (λ s. s ++ u) none.0 ∙ sym (append-nil u))
told_more writes o most (x ∷ ls) l p middle q t u told at =
    (told.0, told.1, told.2 ++ u, told.3, told_more writes o most ls l told.0 middle q told.2 u told.4 at, ap (λ s. s ++ u) told.5 ∙ append_assoc told.1 told.2 u)

-- the next line of some
pub told_next : {A : Type 0} (writes : Writing) (o : Opening A) (most : ℕ) (ls : List (Line A)) (i : ℕ) (l : Line A) (p middle q : Known A) (t u : List ℕ) → i < length ls → l ≡ get_or ls i l → AreTold writes o most (take i ls) p t middle → IsAtLine writes o most l.step middle u q → AreTold writes o most (take (i + 1) ls) p (t ++ u) q
told_next writes o most ls i l p middle q t u lt at told line =
    subst (λ xs. AreTold writes o most xs p (t ++ u) q) (sym (take_more ls i l lt ∙ ap (λ y. take i ls ++ y ∷ []) (sym at))) (told_more writes o most (take i ls) l p middle q t u told line)

-- one session more at the end
joined_more : {V F : Type 0} (items : V → List ℕ) (rs : List (Result V F)) (v : V) (t : List ℕ) → AreJoined items rs t → AreJoined items (rs ++ Ok v ∷ []) (t ++ items v)
joined_more items [] v t none = ([], refl, ap (λ s. s ++ items v) none ∙ sym (append-nil (items v)))
joined_more items (Ok x ∷ rs) v t told = (told.0 ++ items v, joined_more items rs v told.0 told.1, ap (λ s. s ++ items v) told.2 ∙ append_assoc (items x) told.0 (items v))
joined_more items (Err e ∷ rs) v t none = absurd none

-- a list with one element more, through a function
map_more : {X Y : Type 0} (xs : List X) (x : X) (f : X → Y) → map f (xs ++ x ∷ []) ≡ map f xs ++ f x ∷ []
map_more xs x f = map-append f xs (x ∷ [])

-- one session more has ended
pub ended_more : {A V F X : Type 0} (xs : List X) (x : X) (pass : X → Known A) (told : X → Result V F) (items : V → List ℕ) (ps qs : List (Known A)) (t u : List ℕ) → ps ≡ map pass xs → qs ≡ ps ++ pass x ∷ [] → AreJoined items (map told xs) t → IsOkAnd (told x) (λ v. u ≡ t ++ items v) → (qs ≡ map pass (xs ++ x ∷ [])) × AreJoined items (map told (xs ++ x ∷ [])) u
ended_more {A} {V} {F} {X} xs x pass told items ps qs t u had pushed joined ok =
    (pushed ∙ ap (λ ks. ks ++ pass x ∷ []) had ∙ sym (map_more xs x pass), subst (λ rs. AreJoined items rs u) (sym (map_more xs x told)) (go (told x) ok))
  where
    go : (r : Result V F) → IsOkAnd r (λ v. u ≡ t ++ items v) → AreJoined items (map told xs ++ r ∷ []) u
    go (Ok v) is = subst (AreJoined items (map told xs ++ Ok v ∷ [])) (sym is) (joined_more items (map told xs) v t joined)
    go (Err e) none = absurd none

-- one session more is seated
pub seated_more : {X Y Z : Type 0} (xs ys : List X) (x : X) (y : Y) (before : List Y) (f : X → Y) (g : X → Z) (z : Z) → ys ≡ xs ++ x ∷ [] → map f xs ≡ before → All (λ k. g k ≡ z) xs → f x ≡ y → g x ≡ z → (map f ys ≡ before ++ y ∷ []) × All (λ k. g k ≡ z) ys
seated_more xs ys x y before f g z pushed had all is same =
    (ap (map f) pushed ∙ map_more xs x f ∙ ap (λ l. l ++ f x ∷ []) had ∙ ap (λ k. before ++ k ∷ []) is, subst (All (λ k. g k ≡ z)) (sym pushed) (All-push (λ k. g k ≡ z) xs x all same))

-- of two facts of what was answered a third
pub of_both : {T E : Type 0} (r : Result T E) (P Q R : T → Type 0) → ((x : T) → P x → Q x → R x) → IfOk r P → IfOk r Q → IfOk r R
of_both (Ok x) P Q R f p q = f x p q
of_both (Err e) P Q R f p q = p

-- where each session has ended well, the joined text is what is printed of all sessions
pub all_printed : {A X V F : Type 0} (writes : Writing) (o : Opening A) (most : ℕ) (ls : List (Line A)) (xs ys : List X) (items : V → List ℕ) (pass : X → Known A) (lines : X → List (Line A)) (told : X → Result V F) (s : ℕ) (t : List ℕ) → length ys ≡ length xs → ((i : ℕ) (d : X) → i < length xs → IfOk (told (get_or ys i d)) (λ v. HasPlayed writes o most (lines (get_or xs i d)) (pass (get_or xs i d)) (items v) (pass (get_or ys i d)))) → ((k : ℕ) (p : Known A) → slice_get (map pass xs) k ≡ Some p → p ≡ fresh (s + k)) → All (λ x. lines x ≡ ls) xs → AreJoined items (map told ys) t → ArePrinted writes o most ls s (map pass ys) t
all_printed writes o most ls [] [] items pass lines told s t e each new same joined = joined
all_printed writes o most ls [] (y ∷ ys) items pass lines told s t e each new same joined = absurd (omega (arith, e))
all_printed writes o most ls (x ∷ xs) [] items pass lines told s t e each new same joined = absurd (omega (arith, e))
all_printed {A} {X} {V} {F} writes o most ls (x ∷ xs) (y ∷ ys) items pass lines told s t e each new same joined = go (told y) refl joined (λ rest j. all_printed writes o most ls xs ys items pass lines told (suc s) rest (omega (arith, e)) (λ i d lt. each (suc i) d (omega (arith, lt))) (λ k p at. new (suc k) p at ∙ ap fresh (omega arith)) (λ k d lt. same (suc k) d (omega (arith, lt))) j)
  where
    first : pass x ≡ fresh s
    first = new 0 (pass x) refl ∙ ap fresh (omega arith)

    go : (r : Result V F) → told y ≡ r → AreJoined items (r ∷ map told ys) t → ((rest : List ℕ) → AreJoined items (map told ys) rest → ArePrinted writes o most ls (suc s) (map pass ys) rest) → ArePrinted writes o most ls s (pass y ∷ map pass ys) t
    go (Ok v) is j more =
        let played : HasPlayed writes o most (lines x) (pass x) (items v) (pass y) = subst (λ (k : Result V F). IfOk k (λ u. HasPlayed writes o most (lines x) (pass x) (items u) (pass y))) is (each 0 x (omega arith)) in
        (items v, j.0, subst (λ p. HasPlayed writes o most ls p (items v) (pass y)) first (subst (λ l. HasPlayed writes o most l (pass x) (items v) (pass y)) (same 0 x (omega arith)) played), more j.0 j.1, j.2)
    go (Err f) is j more = absurd j

-- one of some sessions has stopped
fault_among : {X V F : Type 0} (before : List X) (x : X) (after : List X) (told : X → Result V F) (f : F) → told x ≡ Err f → IsFaultOf f (map told (before ++ x ∷ after))
fault_among [] x after told f is = inl is
fault_among (y ∷ before) x after told f is = inr (fault_among before x after told f is)

-- the next of some sessions has stopped, or memory was refused
pub stopped_among : {X V : Type 0} (xs before : List X) (x : X) (rest after : List X) (told : X → Result V Fault) (f : Fault) → before ++ rest ≡ xs → rest ≡ x ∷ after → (f ≡ fault.ScriptOutOfMemory) ⊎ (told x ≡ Err f) → (f ≡ fault.ScriptOutOfMemory) ⊎ IsFaultOf f (map told xs)
stopped_among xs before x rest after told f whole next (inl memory) = inl memory
stopped_among xs before x rest after told f whole next (inr is) = inr (subst (λ ys. IsFaultOf f (map told ys)) (ap (λ l. before ++ l) (sym next) ∙ whole) (fault_among before x after told f is))

-- what stops one of some sessions that do the same lines ends them all
one_ends : {A X V : Type 0} (o : Opening A) (most : ℕ) (ls : List (Line A)) (xs ys : List X) (lines : X → List (Line A)) (told : X → Result V Fault) (f : Fault) → length ys ≡ length xs → ((i : ℕ) (d : X) → i < length xs → IfErr (told (get_or ys i d)) (λ g. SessionsEnd o most (lines (get_or xs i d)) g)) → All (λ x. lines x ≡ ls) xs → IsFaultOf f (map told ys) → SessionsEnd o most ls f
one_ends o most ls [] [] lines told f e each same none = absurd none
one_ends o most ls [] (y ∷ ys) lines told f e each same stopped = absurd (omega (arith, e))
one_ends o most ls (x ∷ xs) [] lines told f e each same none = absurd none
one_ends o most ls (x ∷ xs) (y ∷ ys) lines told f e each same (inl is) = subst (λ l. SessionsEnd o most l f) (same 0 x (omega arith)) (IfErr-at_err (λ g. SessionsEnd o most (lines x) g) is (each 0 x (omega arith)))
one_ends o most ls (x ∷ xs) (y ∷ ys) lines told f e each same (inr more) = one_ends o most ls xs ys lines told f (omega (arith, e)) (λ i d lt. each (suc i) d (omega (arith, lt))) (λ k d lt. same (suc k) d (omega (arith, lt))) more

-- the fault by which one of the sessions has stopped, or out of memory, ends the sessions
pub these_end : {A X V : Type 0} (o : Opening A) (most : ℕ) (ls : List (Line A)) (xs ys : List X) (lines : X → List (Line A)) (told : X → Result V Fault) (f : Fault) → length ys ≡ length xs → ((i : ℕ) (d : X) → i < length xs → IfErr (told (get_or ys i d)) (λ g. SessionsEnd o most (lines (get_or xs i d)) g)) → All (λ x. lines x ≡ ls) xs → (f ≡ fault.ScriptOutOfMemory) ⊎ IsFaultOf f (map told ys) → SessionsEnd o most ls f
these_end o most ls xs ys lines told f e each same (inl memory) = inl memory
these_end o most ls xs ys lines told f e each same (inr stopped) = one_ends o most ls xs ys lines told f e each same stopped

-- a line ends its session
pub line_ends : {A : Type 0} (o : Opening A) (most : ℕ) (ls : List (Line A)) (i : ℕ) (l : Line A) (p : Known A) (f : Fault) → i < length ls → l ≡ get_or ls i l → Stops (seen_by o most p) l.step f → SessionsEnd o most ls f
line_ends o most ls i l p f lt at stops = inr (i, l, slice_get_read ls (length ls) i l refl lt at, p, stops)

-- a step that is of one of some sessions is of one of more
among_more : {A : Type 0} (m n : ℕ) (k : Step A) → m ≤ n → IsAmong m k → IsAmong n k
among_more m n (step.Session s c) le at = omega (arith, le, at)
among_more m n step.Checkpoint le at = tt

all_among_more : {A : Type 0} (m n : ℕ) (ls : List (Line A)) → m ≤ n → All (λ l. IsAmong m l.step) ls → All (λ l. IsAmong n l.step) ls
all_among_more m n ls le all k d lt = among_more m n (get_or ls k d).step le (all k d lt)

-- one line more is of one of them
pub among_next : {A : Type 0} (m n k : ℕ) (ls : List (Line A)) (i : ℕ) (l : Line A) → i < length ls → l ≡ get_or ls i l → m ≤ n → k ≤ n → All (λ x. IsAmong m x.step) (take i ls) → IsAmong k l.step → All (λ x. IsAmong n x.step) (take (i + 1) ls)
among_next {A} m n k ls i l lt at le least all is =
    subst (All (λ x. IsAmong n x.step)) (sym (take_more ls i l lt ∙ ap (λ y. take i ls ++ y ∷ []) (sym at))) (All-push (λ (x : Line A). IsAmong n x.step) (take i ls) l (all_among_more m n (take i ls) le all) (among_more k n l.step least is))

-- what is written back over all of a list is what it has then
pub written_back : {X : Type 0} (n : ℕ) (xs ys : List X) → length ys ≡ n → take n (ys ++ drop (length ys) xs) ≡ ys
written_back n xs ys e = ap (λ k. take k (ys ++ drop (length ys) xs)) (sym e) ∙ take-append_seam ys (drop (length ys) xs)

module _ {A : Type 0} where
  -- what sessions have printed of a script
  pub sessions_have_run : {T E : Type 0} (r : Result T E) (writes : Writing) (held : List ℕ → Option (List ℕ)) (way : FreeWay) (s : Said A) (c : Catalog) (X : Tables A) (text shown : List ℕ) (p q : Printed)
      → BeginsWith held s.opens s.catalog c X → AreServed writes (record { catalog = c; tables = X; base = zero_base }) way.most_events way.is_checked s.lines text → shown ≡ text
      → OnOk r (Adds p q shown) → OnOk r (IsFlushed q) → OnOk r (ScriptHasRunFreely writes held way s p q)
  sessions_have_run (Ok x) writes held way s c X text shown p q begins served same printed flushed = (c, X, begins, (text, served, subst (Adds p q) same printed, flushed))
  sessions_have_run (Err e) writes held way s c X text shown p q begins served same printed flushed = tt

  -- the sessions of a script have run, of which these are the parts
  pub script_has_run_freely : (writes : Writing) (held : List ℕ → Option (List ℕ)) (way : FreeWay) (s : Said A) (catalog : Catalog) (opens : Option (List ℕ)) (lines : List (Line A)) (p q : Printed)
      → catalog ≡ s.catalog → opens ≡ s.opens → lines ≡ s.lines
      → ScriptHasRunFreely writes held way (record { catalog = catalog; opens = opens; lines = lines }) p q → ScriptHasRunFreely writes held way s p q
  script_has_run_freely writes held way s catalog opens lines p q created opened lined run = (
    run.0,
    run.1,
    subst (λ o. BeginsWith held o s.catalog run.0 run.1) opened (subst (λ c. BeginsWith held opens c run.0 run.1) created run.2),
    subst (λ ls. SessionsHaveRun writes (record { catalog = run.0; tables = run.1; base = zero_base }) way ls p q) lined run.3,
  )
