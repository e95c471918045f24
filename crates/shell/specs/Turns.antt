-- What is read and written in a conversation, in its order: each answer comes before the next line.
use Rattle.std.specs.Prelude.{◌≡◌, ◌⊎◌, ℕ, Option, Some, None, List, [], ◌∷◌, ◌++◌, codes}
use Rattle.shell.specs.declared.conversation.heard.Heard.{Heard}
use Rattle.shell.specs.declared.conversation.heard.Heard.TheVariants.{Line, TooLong, LongComment, CutOff}
use Rattle.shell.specs.declared.conversation.conversing.End.{End}
use Rattle.shell.specs.declared.conversation.conversing.End.TheVariants.{Input, Quit, Reader, Writer, Memory}

-- one of two turns: something was read, with a line's bytes, or an answer was written
pub data Turn : Type 0 where
  Hears : Heard → List ℕ → Turn
  Told : List ℕ → Turn

-- the turn in which something was heard, or none at the input's end
abbrev pub heard_turns : Option Heard → List ℕ → List Turn
heard_turns None line = []
heard_turns (Some h) line = Hears h line ∷ []

-- what was read, or that an answer was written, with its bytes
abbrev pub turn_of : Option Heard → List ℕ → Turn
turn_of None text = Told text
turn_of (Some h) line = Hears h line

-- what is answered to a line of too many bytes
abbrev pub too_long_text : List ℕ
too_long_text = codes "ERROR 54000 a line has more than 1048576 bytes\n"

-- what is answered to a line that the input's end has cut off
abbrev pub cut_off_text : List ℕ
cut_off_text = codes "ERROR 42601 the input ends in the middle of a line: each line ends in a newline\n"

-- what was read, and its answer
pub record Exchange : Type 0 where
  pub heard : Heard
  pub line : List ℕ
  pub text : List ℕ

-- the turns of exchanges, in which each answer was written before the next line was read
abbrev pub turns_of : List Exchange → List Turn
turns_of [] = []
turns_of (x ∷ xs) = Hears x.heard x.line ∷ Told x.text ∷ turns_of xs

-- a line was read, and no answer written
abbrev pub IsUnanswered : List Turn → Type 0
IsUnanswered last = (h : Heard) × (line : List ℕ) × (last ≡ Hears h line ∷ [])

-- What follows the last answer where a conversation has ended so: nothing, or a line without an answer, since there was no memory for one, or since it couldn't be written.
abbrev pub IsEnded : End → List Turn → Type 0
IsEnded Input last = last ≡ []
IsEnded Quit last = last ≡ []
IsEnded Reader last = last ≡ []
IsEnded Writer last = IsUnanswered last
IsEnded Memory last = (last ≡ []) ⊎ IsUnanswered last

-- The conversation ends so, and this follows the last answer.
abbrev pub EndsIn : End → List Turn → List Turn → Type 0
EndsIn e before after = (last : List Turn) × IsEnded e last × (after ≡ before ++ last)

module _ {H : Type 0} where
  -- The handler p answers a text to what was read, and is q from then on. It answers a line itself. What is no line gets a refusal, or as a comment nothing, and the handler stays.
  abbrev pub Answered : (H → List ℕ → H → List ℕ → Type 0) → H → Heard → List ℕ → H → List ℕ → Type 0
  Answered answers p Line line q text = answers p line q text
  Answered answers p TooLong line q text = (q ≡ p) × (text ≡ too_long_text)
  Answered answers p LongComment line q text = (q ≡ p) × (text ≡ [])
  Answered answers p CutOff line q text = (q ≡ p) × (text ≡ cut_off_text)

  -- The answer of p to what was read was written, and p has become q.
  abbrev pub Tells : (H → List ℕ → H → List ℕ → Type 0) → H → Heard → List ℕ → H → List Turn → List Turn → Type 0
  Tells answers p h line q before after = (text : List ℕ) × Answered answers p h line q text × (after ≡ before ++ Told text ∷ [])

  -- Something was read, the answer of p to it was written, and p has become q.
  abbrev pub HasExchanged : (H → List ℕ → H → List ℕ → Type 0) → H → List Turn → H → List Turn → Type 0
  HasExchanged answers p before q after = (x : Exchange) × Answered answers p x.heard x.line q x.text × (after ≡ before ++ turns_of (x ∷ []))

  -- In these exchanges p has answered, and has become q.
  abbrev pub Exchanges : (H → List ℕ → H → List ℕ → Type 0) → H → List Exchange → H → Type 0
  Exchanges answers p [] q = q ≡ p
  Exchanges answers p (x ∷ xs) q = (m : H) × Answered answers p x.heard x.line m x.text × Exchanges answers m xs q

  -- A conversation has gone on by exchanges with p, which has become q.
  abbrev pub GoesOn : (H → List ℕ → H → List ℕ → Type 0) → H → List Turn → H → List Turn → Type 0
  GoesOn answers p before q after = (xs : List Exchange) × Exchanges answers p xs q × (after ≡ before ++ turns_of xs)

  -- A conversation has gone on by exchanges with p, and has ended so. All that was written is the answers to all that was read, each before the next, in their order.
  abbrev pub Converses : (H → List ℕ → H → List ℕ → Type 0) → H → List Turn → End → List Turn → Type 0
  Converses answers p before e after = (xs : List Exchange) × (q : H) × (last : List Turn) × Exchanges answers p xs q × (after ≡ before ++ turns_of xs ++ last) × IsEnded e last
