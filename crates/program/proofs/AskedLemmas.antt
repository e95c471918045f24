-- What arguments give.
use Rattle.std.proofs.Common.{◌≡◌, ◌⊎◌, ◌^◌, ◌<◌, ◌≤◌, ℕ, Bool, true, false, List, [], ◌∷◌, Option, Some, None, Result, map, inl, inr, refl, sym, ap, subst, unwrap_or, ◌∙◌, arith, true≢false, if◌then◌else◌, Bor, is_some, option_map, length, ◌==◌}
use Rattle.std.specs.Str.Parse.{ParsesUnsigned}
use Rattle.clap.specs.Kinds.{or_else}
use Rattle.clap.specs.Words.{HasKind, Kinds, ReadsOne, Row, Text, fault_of, kind_of, subcommand_of}
use Rattle.clap.specs.declared.error.Error.{Error}
use Rattle.program.specs.CommandLine.{clash_in, faults, faults_between, kind_of_clash, kinds_of_clash, pgserial}
use Rattle.program.specs.Asked.{AsksFor, IsNumber, MayWork, Writes, command_of, number_of}
use Rattle.program.specs.declared.task.Clash.{Clash}
use Rattle.program.specs.declared.task.Task.{Task}

-- what a number of 32 bits is read as
abbrev pub IsRead : Option ℕ → Text → Type 0
IsRead (Some n) text = IsNumber (λ n. n < 2 ^ 32) text × (n ≡ number_of text)
IsRead None text = IsNumber (λ n. n < 2 ^ 32) text → ⊥

pub is_read : {E : Type 0} (X Y : Text → Result ℕ E → Type 0) (r : Option ℕ) (t : Text) → ReadsOne {T = ℕ} {E = E} (λ bs r. ParsesUnsigned 32 10 bs r × X bs r × Y bs r) t r → IsRead r t
is_read X Y (Some n) t h = ((h.0.0.0, h.0.0.1), h.0.1)
is_read X Y None t h = λ is. h.1.0 (is.0, is.1)

pub writes : (usual : ℕ) (o : Option Text) (r : Option ℕ) → (o ≡ None → r ≡ None) → ((t : Text) → o ≡ Some t → IsRead r t) → Writes (λ n. n < 2 ^ 32) usual o (unwrap_or r usual)
writes usual None r none some = ap (λ x. unwrap_or x usual) (none refl)
writes usual (Some t) (Some n) none some = inl (some t refl)
writes usual (Some t) None none some = inr (some t refl, refl)

pub chosen : (o : Option Text) (n k : ℕ) → (o ≡ None → Some n ≡ None) → ((t : Text) → o ≡ Some t → IsRead (Some n) t) → MayWork n × (k ≡ n) ⊎ ((MayWork n → ⊥) × (k ≡ 1)) → Writes MayWork 1 o k
chosen None n k none some which = absurd (true≢false (ap is_some (none refl)))
chosen (Some t) n k none some (inl within) = let is = some t refl in inl ((is.0.0, subst MayWork is.1 within.0), within.1 ∙ is.1)
chosen (Some t) n k none some (inr out) = let is = some t refl in inr (λ may. out.0 (subst MayWork (sym is.1) may.1), out.1)

pub not_chosen : (o : Option Text) (k : ℕ) → ((t : Text) → o ≡ Some t → IsRead None t) → k ≡ 1 → Writes MayWork 1 o k
not_chosen None k some is = is
not_chosen (Some t) k some is = inr (λ may. some t refl (may.0, let low : number_of t ≤ 64 = may.1.1 in omega (arith, low)), is)

pub text_or : (o : Option (Bor Text)) (d : Bor Text) → (unwrap_or o d).now ≡ unwrap_or (option_map (λ s. s.now) o) d.now
text_or None d = refl
text_or (Some s) d = refl

-- some words name a command
pub of_words : (words : List (Bor Text)) (o : Option (Text × List Row)) (r : Task) → (length words == 0) ≡ false → o ≡ subcommand_of pgserial (map (λ w. w.now) words) → AsksFor o r → AsksFor (command_of (map (λ w. w.now) words)) r
of_words [] o r some is asks = absurd (true≢false some)
of_words (w ∷ ws) o r some is asks = subst (λ x. AsksFor x r) is asks

-- an error of the first kinds is one of both
either : (ks more : Kinds) (e : Error) → HasKind ks e → HasKind (or_else ks more) e
either ks more e (inl memory) = inl memory
either [] more e (inr here) = absurd here
either (k ∷ ks) more e (inr here) = inr here

-- the parser's fault is one of the words
pub parse_fails : (words : List (Bor Text)) (e : Error) → (length words == 0) ≡ false → HasKind (fault_of pgserial (map (λ w. w.now) words)) e → HasKind (faults (map (λ w. w.now) words)) e
parse_fails [] e some has = absurd (true≢false some)
parse_fails (w ∷ ws) e some has = either (fault_of pgserial (map (λ w. w.now) (w ∷ ws))) (faults_between (subcommand_of pgserial (map (λ w. w.now) (w ∷ ws)))) e has

-- the faults of words that the parser takes
taken : (words : List (Bor Text)) (o : Option (Text × List Row)) → (length words == 0) ≡ false → fault_of pgserial (map (λ w. w.now) words) ≡ [] → o ≡ subcommand_of pgserial (map (λ w. w.now) words) → faults (map (λ w. w.now) words) ≡ faults_between o
taken [] o some none is = absurd (true≢false some)
taken (w ∷ ws) o some none is = ap (λ ks. or_else ks (faults_between (subcommand_of pgserial (map (λ w. w.now) (w ∷ ws))))) none ∙ ap faults_between (sym is)

-- nothing is wrong with the words
pub no_faults : (words : List (Bor Text)) (o : Option (Text × List Row)) → (length words == 0) ≡ false → fault_of pgserial (map (λ w. w.now) words) ≡ [] → o ≡ subcommand_of pgserial (map (λ w. w.now) words) → clash_in o ≡ None → faults (map (λ w. w.now) words) ≡ []
no_faults words o some none is clash = taken words o some none is ∙ ap kinds_of_clash clash

-- flags stand together that may not
pub clashing : (words : List (Bor Text)) (o : Option (Text × List Row)) (clash : Clash) (e : Error) → (length words == 0) ≡ false → fault_of pgserial (map (λ w. w.now) words) ≡ [] → o ≡ subcommand_of pgserial (map (λ w. w.now) words) → clash_in o ≡ Some clash → kind_of e ≡ kind_of_clash clash → HasKind (faults (map (λ w. w.now) words)) e
clashing words o clash e some none is found kind = subst (λ ks. HasKind ks e) (sym (taken words o some none is ∙ ap kinds_of_clash found)) (inr (inl kind))
