-- A checkpoint that a script's line asks for, and its reply as it is printed.
use Rattle.std.specs.Prelude.{ℕ, List, Option, Some, None, Ok, Err, ◌++◌, codes}
use Rattle.value.specs.declared.refusal.Refusal.{Refusal}
use Rattle.value.specs.Codes.{sqlstate}
use Rattle.history.specs.Opening.{Recorded}
use Rattle.session.specs.Core.{IsCheckpoint}

-- the reply to a checkpoint that is refused
abbrev pub refused_text : Refusal → List ℕ
refused_text e = codes "ERROR " ++ sqlstate e.code ++ codes "\n"

-- the reply to a checkpoint: that it is done, or its refusal
abbrev pub checkpoint_reply : Option Refusal → List ℕ
checkpoint_reply None = codes "CHECKPOINT\n"
checkpoint_reply (Some e) = refused_text e

module _ {A : Type 0} where
  -- The history h goes on, as k, from the tables that it leaves; or that is refused, and k is h.
  abbrev pub Checkpoints : ℕ → Recorded A → Recorded A → Option Refusal → Type 0
  Checkpoints most h k None = IsCheckpoint h most (Ok k)
  Checkpoints most h k (Some e) = IsCheckpoint h most (Err (k, e))
