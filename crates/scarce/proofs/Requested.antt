-- What a call of `is_next_refused` is handed, and what its caller has of the answer. Assumes `Logic`.
use Rattle.std.proofs.Common.{◌≡◌, ℕ, Bool, List, [], ◌∷◌, refl, ap}
use seplogic.Ra.Ura.{Ura}
use mir.Val.{Val, vbool, vptr}
use base.Logic.{SProp, ent, sep, ex, guard, id⊢}
use base.Fml.{Lft, Share, Fml, ftrue, fsep, flft}
use prog.Memory.{Memory}
use prog.Routine.{Routine}
use types.Logic.{Logic, sem}
use contract.Monad.{Fun}
use types.Kit.{‵, raw, ◌⊛◌, some, later, ◌$◌, ◌∵◌, !, qed, move, keep, use1, split, join, pick, fjoin, feq_i, feq_l, check, show, await, updating, now as at_once, done}
use denote.Memory.{hidden_shr}
use denote.Builtin.{bool}
use denote.Steps.{nothing, only}
use denote.Triple.Statement.{Contract}
use denote.Triple.Spec.{triple_of}
use Rattle.scarce.specs.declared.Requests.{Requests}
use Rattle.scarce.specs.contracts.Requests.{the_row as Counter}
use Rattle.scarce.specs.contracts.Requests.is_next_refused as N

-- A `&` to the counter `d`, which lies at `at`.
abbrev pub counter : Lft → Requests → ℕ × ℕ → Fml
counter κ d at = hidden_shr Counter κ d at.0 at.1

module _ {M : Type 1} {𝓤 : Ura M} (𝓛 : Logic 𝓤) (at_mem : Memory → SProp 𝓤) (run : Routine → Fun 𝓤) where
  abbrev pub Asks : Contract 𝓤
  Asks = triple_of 𝓛 N.signature (N.spec 𝓛 at_mem run)

  abbrev pub asked : Lft → Share → Requests → ℕ × ℕ → Asks.Ghost
  asked κ q d at = (((κ, tt), (q, tt), tt, (record { ref_ptr = at; now = d }, tt), (vptr at.0 at.1 ∷ [], tt)), tt)

module _ {M : Type 1} {𝓤 : Ura M} (𝓛 : Logic 𝓤) (at_mem : Memory → SProp 𝓤) (run : Routine → Fun 𝓤) (κ : Lft) (q : Share) (d : Requests) (at : ℕ × ℕ) where
  open 𝓛 use {H, A}

  pub Asks-takes : ent 𝓤 (sep 𝓤 (sem 𝓛 (counter κ d at)) (A.lft κ q)) ((Asks 𝓛 at_mem run).pre (asked 𝓛 at_mem run κ q d at))
  Asks-takes =
      qed 𝓛 (‵ (counter κ d at) ∷ ‵ (flft κ q) ∷ []) ∵
      feq_i ! (List Val) (vptr at.0 at.1 ∷ []) (vptr at.0 at.1 ∷ []) refl $ fjoin ! $
      nothing ! $ move ! (1 ∷ []) $ fjoin ! $
      nothing ! $ move ! (2 ∷ []) $ join ! $ join ! $
      nothing ! $ move ! (1 ∷ []) $ done !

  pub Asks-leaves : (v : Val) → ent 𝓤 ((Asks 𝓛 at_mem run).post (asked 𝓛 at_mem run κ q d at) v) (H.⇛ (ex 𝓤 (λ (y : Bool). guard 𝓤 (v ≡ vbool y) (A.lft κ q))))
  Asks-leaves v =
      qed 𝓛 (raw ((Asks 𝓛 at_mem run).post (asked 𝓛 at_mem run κ q d at) v) ∷ []) ∵ updating ! $
      use1 𝓛 (later (some (λ (y : Bool). ((‵ (flft κ q) ⊛ ‵ ftrue) ⊛ ‵ (bool.own_val y (v ∷ []))) ⊛ some (λ (ws : Unit {0} × Unit {0}). ‵ (fsep ftrue ftrue) ⊛ ‵ ftrue)))) (id⊢ 𝓤 _) $
      await ! tt $ pick ! (λ y. split ! $ split ! $ move ! (1 ∷ []) $ feq_l ! (λ is. split ! $
      at_once ! $ show ! (λ (z : Bool). guard 𝓤 (v ≡ vbool z) (A.lft κ q)) y $ check ! (ap only is) $ keep ! (0 ∷ []) $ done !))
