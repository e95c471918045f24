-- Refusals of the crates below as errors of a line.
use Rattle.std.proofs.Common.{◌≡◌, List, [], ◌∷◌, ◌++◌, Result, Ok, Err, refl, sym, ap, subst, ◌∙◌, ◌⊎◌, inl, inr, append_assoc}
use Rattle.std.proofs.lemmas.List.{append-nil}
use Rattle.value.specs.declared.refusal.Code.{Code}
use Rattle.value.specs.declared.refusal.Code.TheVariants.{OutOfMemory}
use Rattle.value.specs.declared.refusal.Refusal.{Refusal}
use Rattle.value.specs.Refusals.{of_code, out_of_memory, pointing_nowhere, AnswersOrNoMemory}
use Rattle.restore.specs.declared.error.LineError.{LineError}
use Rattle.restore.specs.declared.error.LineError.TheVariants as line
use Rattle.restore.specs.Steps.{◌>>=◌, Fails, code_error, line_error}

abbrev pub failed : {T : Type 0} → Refusal → Result T Refusal
failed r = Err r

pub same_refusal : {T : Type 0} (r s : Refusal) → failed {T = T} r ≡ failed s → r ≡ s
same_refusal r s e = cc

code_fails : (T : Type 0) (code : Code) → Fails {Y = T} (code_error code) (Err code)
code_fails T OutOfMemory = tt
code_fails T _ = refl

-- a refusal is the fault of the line, or says that memory ran out
pub refused : {T : Type 0} (answer : Result T Code) (r : Refusal) → AnswersOrNoMemory (failed r) (pointing_nowhere answer) → Fails (line_error r) answer
refused (Ok x) r (inl e) = absurd cc
refused {T} (Ok x) r (inr e) = subst (λ (s : Refusal). Fails {Y = T} (line_error s) (Ok x)) (sym (same_refusal r out_of_memory e)) tt
refused {T} (Err code) r (inl e) = subst (λ (s : Refusal). Fails {Y = T} (line_error s) (Err code)) (sym (same_refusal r (of_code code) e)) (code_fails T code)
refused {T} (Err code) r (inr e) = subst (λ (s : Refusal). Fails {Y = T} (line_error s) (Err code)) (sym (same_refusal r out_of_memory e)) tt

-- a refusal is the fault of the line, or is out of memory, where the two are distinguished
pub refused_or_memory : {T : Type 0} (answer : Result T Code) (r : Refusal) → (r ≡ out_of_memory) ⊎ (pointing_nowhere answer ≡ Err r) → Fails (line_error r) answer
refused_or_memory answer r (inl memory) = refused answer r (inr (ap failed memory))
refused_or_memory answer r (inr fault) = refused answer r (inl (sym fault))

abbrev given : {T : Type 0} → T → Result T Refusal
given x = Ok x

-- what was answered is the answer
pub taken : {T : Type 0} (answer : Result T Code) (x : T) → AnswersOrNoMemory (given x) (pointing_nowhere answer) → answer ≡ Ok x
taken (Ok y) x (inl e) = cc
taken (Ok y) x (inr e) = absurd cc
taken (Err code) x (inl e) = absurd cc
taken (Err code) x (inr e) = absurd cc

-- ---- steps, one after another

pub stops : {X Y : Type 0} (e : LineError) (now : Result X Code) (next : X → Result Y Code) → Fails e now → Fails e (now >>= next)
stops line.Memory now next h = tt
stops (line.Refused code) now next h = rw h refl

module _ {Y : Type 0} where
  -- what was made before, and what is still made
  abbrev pub front_with : List Y → Result (List Y) Code → Result (List Y) Code
  front_with front made = made >>= λ ys. Ok (front ++ ys)

  pub goes_on : (front : List Y) (y : Y) (now next total : Result (List Y) Code) → now ≡ (next >>= λ ys. Ok (y ∷ ys))
      → front_with front now ≡ total → front_with (front ++ y ∷ []) next ≡ total
  goes_on front y now next total h so_far = sym (rw h (regroup next)) ∙ so_far
    where
      regroup : (made : Result (List Y) Code) → front_with front (made >>= λ ys. Ok (y ∷ ys)) ≡ front_with (front ++ y ∷ []) made
      regroup (Ok ys) = ap (λ (all : List Y). Ok all) (simp append_assoc)
      regroup (Err e) = refl

  pub fails_with : (e : LineError) (front : List Y) (now total : Result (List Y) Code) → Fails e now → front_with front now ≡ total → Fails e total
  fails_with line.Memory front now total h so_far = tt
  fails_with (line.Refused code) front now total h so_far = let one : front_with front now ≡ Err code = rw h refl in sym so_far ∙ one

  pub is_done : (front : List Y) (total : Result (List Y) Code) → front_with front (Ok []) ≡ total → total ≡ Ok front
  is_done front total so_far = sym so_far ∙ ap (λ (ys : List Y). Ok ys) (append-nil front)
