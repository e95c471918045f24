-- The last of some events, and why it refuses a transaction.
use Rattle.std.proofs.Common.{◌≡◌, refl, ap, ◌∙◌, ℕ, suc, ◌+◌, List, [], ◌∷◌, ◌++◌, take, Option, Some, None, Result, IfOk, subst, sym, arith}
use Rattle.std.specs.List.{last_or}
use Rattle.value.specs.declared.refusal.Refusal.{Refusal}
use Rattle.history.specs.Opening.{Recorded}
use Rattle.retrace.specs.Explained.{why_told}
use Rattle.retrace.specs.Past.{Bygone, followed_to, retraced, unbegun}
use Rattle.retrace.specs.Runs.{Going}
use Rattle.command_shell.specs.Asides.{Why, account_at, numbers_to, why_in, why_text}

pub last_behind : {X : Type 0} (o : Option X) (before : List X) (x : X) → last_or o (before ++ x ∷ []) ≡ Some x
last_behind o [] x = refl
last_behind o (y ∷ ys) x = last_behind (Some y) ys x

-- one number more
pub numbers_more : (n m : ℕ) (ns ms : List ℕ) → ns ≡ numbers_to n → m ≡ n + 1 → ms ≡ ns ++ m ∷ [] → ms ≡ numbers_to (n + 1)
numbers_more n m ns ms so next more =
    let after : suc n ≡ n + 1 = omega arith in
    more ∙ ap (λ xs. xs ++ m ∷ []) so ∙ ap (λ k. numbers_to n ++ k ∷ []) (next ∙ sym after) ∙ ap numbers_to after

-- why the first n events refuse a transaction, by what is known of these
told_at : {A : Type 0} (h : Recorded A) (n : ℕ) (p q : Bygone A) (gs : List (Going A)) (lines : List ℕ) (s : ℕ) (e : Refusal)
    → p ≡ unbegun h.opening → q ≡ followed_to h.opening (take n h.records) p → gs ≡ q.runs → lines ≡ numbers_to n
    → why_told (record { catalog = h.opening.catalog; base = h.opening.base.transactions; runs = gs; lines = lines }) s e ≡ why_told (account_at h n) s e
told_at {A} h n p q gs lines s e begun followed runs numbered =
    let all : gs ≡ retraced h.opening (take n h.records) = runs ∙ ap (λ (b : Bygone A). b.runs) (followed ∙ ap (followed_to h.opening (take n h.records)) begun) in
    ap (λ (hs : List (Going A)). why_told (record { catalog = h.opening.catalog; base = h.opening.base.transactions; runs = hs; lines = lines }) s e) all
    ∙ ap (λ (ls : List ℕ). why_told (record { catalog = h.opening.catalog; base = h.opening.base.transactions; runs = retraced h.opening (take n h.records); lines = ls }) s e) numbered

pub explained_at : {A X E : Type 0} (items : X → List ℕ) (r : Result X E) (h : Recorded A) (n : ℕ) (p q : Bygone A) (gs : List (Going A)) (lines shown words : List ℕ) (s : ℕ) (e : Refusal)
    → p ≡ unbegun h.opening → q ≡ followed_to h.opening (take n h.records) p → gs ≡ q.runs → lines ≡ numbers_to n
    → words ≡ why_told (record { catalog = h.opening.catalog; base = h.opening.base.transactions; runs = gs; lines = lines }) s e → shown ≡ words
    → IfOk r (λ t. items t ≡ why_text shown) → IfOk r (λ t. items t ≡ why_text (why_told (account_at h n) s e))
explained_at items r h n p q gs lines shown words s e begun followed runs numbered worded same told =
    subst (λ (ws : List ℕ). IfOk r (λ t. items t ≡ why_text ws)) (same ∙ worded ∙ told_at h n p q gs lines s e begun followed runs numbered) told

-- why it was refused, by the history of a server that runs
pub why_of : {A X E : Type 0} (items : X → List ℕ) (r : Result X E) (h k : Recorded A) (core : Option (Recorded A)) (v w : Why) → h ≡ k → Some k ≡ core → w ≡ v
    → IfOk r (λ t. items t ≡ why_text (why_told (account_at h w.events) w.session w.refusal)) → IfOk r (λ t. items t ≡ why_in core v)
why_of {A} items r h k core v w is held same told =
    subst (λ (u : Why). IfOk r (λ t. items t ≡ why_in core u)) same
    (subst (λ (o : Option (Recorded A)). IfOk r (λ t. items t ≡ why_in o w)) held
    (subst (λ (g : Recorded A). IfOk r (λ t. items t ≡ why_in (Some g) w)) is told))

-- and where none does
pub why_of_none : {A X E : Type 0} (items : X → List ℕ) (r : Result X E) (core : Option (Recorded A)) (v : Why) → None ≡ core → IfOk r (λ t. items t ≡ why_text []) → IfOk r (λ t. items t ≡ why_in core v)
why_of_none {A} items r core v held told = subst (λ (o : Option (Recorded A)). IfOk r (λ t. items t ≡ why_in o v)) held told
