-- What a session's line of a script does to a core's history, and what is printed of it.
use Rattle.std.specs.Prelude.{◌≡◌, ◌⊎◌, ℕ, true, List}
use Rattle.value.specs.Refusals.{out_of_memory}
use Rattle.statement.specs.declared.reply.Reply.{Reply}
use Rattle.statement.specs.declared.reply.Reply.TheVariants.{Refused}
use Rattle.history.specs.Opening.{Recorded}
use Rattle.session.specs.Core.{IsStep}
use Rattle.request.specs.declared.request.Request.{Request}
use Rattle.request.specs.Requests.{asked, is_text}
use Rattle.script.specs.Printing.{reply_text}

module _ {A : Type 0} where
  -- there was no memory to parse a text, before there was an event: the history is as it was
  abbrev pub IsUnread : Recorded A → Recorded A → Request A → Reply A → Type 0
  IsUnread h k q r = (is_text q ≡ true) × (r ≡ Refused out_of_memory) × (k ≡ h)

  -- What session s asked for was answered with r, and the history h has become k: by the event that it asks for.
  abbrev pub Replies : Recorded A → Recorded A → ℕ → Request A → Reply A → Type 0
  Replies h k s q r = IsStep h k s (asked h.opening.catalog q) r ⊎ IsUnread h k q r

  -- What is printed of it: its reply, under its session's number.
  abbrev pub Tells : Recorded A → Recorded A → ℕ → Request A → List ℕ → Type 0
  Tells h k s q text = (r : Reply A) × Replies h k s q r × (text ≡ reply_text s r)
