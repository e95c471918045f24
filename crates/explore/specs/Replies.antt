-- The replies to each session, gathered in one walk over a history.
use Rattle.std.specs.Prelude.{◌≡◌, ℕ, ◌≤◌, List, [], get_or, length}
use Rattle.history.specs.declared.event.Record.{Record}
use Rattle.explore.specs.Explored.{sessions}
use Rattle.explore.specs.Texts.{replies_at}

module _ {A : Type 0} where
  -- These are the texts of the replies to the first sessions. The others have none.
  abbrev pub AreReplies : List (Record A) → List (List ℕ) → Type 0
  AreReplies es texts = (length texts ≤ sessions) × ((p : ℕ) → get_or texts p [] ≡ replies_at p es)
