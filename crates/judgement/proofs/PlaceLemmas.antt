-- What stands at a place of a list, each of whose elements is seen as another; and texts that are joined.
use Rattle.std.proofs.Common.{◌≡◌, ◌∙◌, ◌<◌, ◌≤◌, ◌++◌, ◌+◌, ◌∷◌, [], ℕ, List, Option, Some, None, Result, Ok, Err, IfOk, Vec, ap, ap₂, append_assoc, get_or, length, map, option_map, refl, slice_get, subst, sym, take}
use Rattle.std.proofs.lemmas.List.{flat_map_more, take_more}
use Rattle.std.proofs.lemmas.Option.{slice_get-map, slice_get_past, slice_get_read}
use Rattle.std.specs.List.{flat_map}
use Rattle.orders.specs.Explains.{Trace}
use Rattle.orders.specs.declared.search.Answer.{Answer}
use Rattle.orders.specs.declared.search.Answer.TheVariants.{Yes}
use Rattle.orders.specs.declared.stop.Stop.{Stop}
use Rattle.orders.specs.declared.transaction.Answered.{Answered}
use Rattle.statement.specs.declared.reply.Reply.{Reply}
use Rattle.statement.specs.declared.statement.Statement.{Statement}
use Rattle.transcript.specs.declared.traces.Name.{Name}
use Rattle.judgement.specs.Telling.{TellsReasons, TellsWhy, names_of, order_text, stop_text}

pub seen_at : {X Y : Type 0} (f : X → Y) (xs : List X) (i : ℕ) (x : X) → i < length xs → x ≡ get_or xs i x → slice_get (map f xs) i ≡ Some (f x)
seen_at f xs i x within is = slice_get-map f xs i ∙ ap (option_map f) (slice_get_read xs (length xs) i x refl within is)

pub seen_past : {X Y : Type 0} (f : X → Y) (xs : List X) (i : ℕ) → length xs ≤ i → slice_get (map f xs) i ≡ None
seen_past f xs i past = slice_get-map f xs i ∙ ap (option_map f) (slice_get_past xs i past)

pub read_at : {X : Type 0} (xs ys : List X) (i : ℕ) (x : X) → xs ≡ ys → i < length xs → x ≡ get_or xs i x → slice_get ys i ≡ Some x
read_at xs ys i x same within is = ap (λ zs. slice_get zs i) (sym same) ∙ slice_get_read xs (length xs) i x refl within is

pub read_past : {X : Type 0} (xs ys : List X) (i : ℕ) → xs ≡ ys → length xs ≤ i → slice_get ys i ≡ None
read_past xs ys i same past = ap (λ zs. slice_get zs i) (sym same) ∙ slice_get_past xs i past

-- a text, then another
pub joined : (a b c l m : List ℕ) → b ≡ a ++ l → c ≡ b ++ m → c ≡ a ++ (l ++ m)
joined a b c l m e f = f ∙ ap (λ t. t ++ m) e ∙ append_assoc a l m

-- the texts of one more element
pub one_more : {X : Type 0} (f : X → List ℕ) (old : List ℕ) (xs : List X) (i : ℕ) (x : X) (text new : List ℕ) → i < length xs → x ≡ get_or xs i x → text ≡ old ++ flat_map f (take i xs) → new ≡ text ++ f x → new ≡ old ++ flat_map f (take (i + 1) xs)
one_more f old xs i x text new within at so_far more = more ∙ ap (λ t. t ++ f x) so_far ∙ flat_map_more f old (take i xs) x ∙ ap (λ l. old ++ flat_map f l) (ap (λ y. take i xs ++ y ∷ []) at ∙ sym (take_more xs i x within))

-- a statement, with its reply
abbrev pub pair_of : {A : Type 0} → Answered A → Statement A × Reply A
pair_of a = (a.statement, a.reply)

-- the order is told
pub by_order : {A C E : Type 0} (r : Result (Vec ℕ A) E) (names shown : List (Name A)) (ts : List (Trace A)) (answer : Answer A) (order : Vec ℕ A) (places : List ℕ) (certificate : Option C) (stop : Option (Stop A))
    → answer ≡ Yes order → shown ≡ names → places ≡ order.items → IfOk r (λ t. t.items ≡ order_text (names_of shown) places) → IfOk r (λ t. TellsReasons (names_of names) ts answer certificate stop t.items)
by_order (Ok t) names shown ts answer order places certificate stop is same at told = subst (λ a. TellsReasons (names_of names) ts a certificate stop t.items) (sym is) (told ∙ ap₂ order_text (ap names_of same) at)
by_order (Err e) names shown ts answer order places certificate stop is same at told = tt

-- a certificate is put into words
pub by_certificate : {A C E : Type 0} (r : Result (Vec ℕ A) E) (names : List (Name A)) (ts : List (Trace A)) (certificate : Option C) (lines : C) (stop : Option (Stop A))
    → certificate ≡ Some lines → IfOk r (λ t. TellsWhy (names_of names) ts certificate stop t.items)
by_certificate (Ok t) names ts certificate lines stop is = subst (λ c. TellsWhy (names_of names) ts c stop t.items) (sym is) tt
by_certificate (Err e) names ts certificate lines stop is = tt

-- it is told where the search stopped
pub by_stop : {A C E : Type 0} (r : Result (Vec ℕ A) E) (names : List (Name A)) (ts : List (Trace A)) (certificate : Option C) (stop : Option (Stop A)) (at : Stop A)
    → certificate ≡ None → stop ≡ Some at → IfOk r (λ t. t.items ≡ stop_text (names_of names) ts at) → IfOk r (λ t. TellsWhy (names_of names) ts certificate stop t.items)
by_stop {C = C} (Ok t) names ts certificate stop at none is told = subst (λ c. TellsWhy (names_of names) ts c stop t.items) (sym none) (subst (λ s. TellsWhy {C = C} (names_of names) ts None s t.items) (sym is) told)
by_stop (Err e) names ts certificate stop at none is told = tt
