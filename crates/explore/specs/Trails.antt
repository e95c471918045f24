-- Cores that are kept for orders with the same beginning.
use Rattle.std.specs.Prelude.{◌≡◌, ℕ, ◌≤◌, List, length, take}
use Rattle.std.specs.List.{AllByRecursion}
use Rattle.explore.specs.Cursors.{AreCursors}
use Rattle.explore.specs.Explored.{Explored, RunsTo, turns_of}
use Rattle.explore.specs.Replies.{AreReplies}
use Rattle.explore.specs.declared.trail.Saved.{Saved}
use Rattle.explore.specs.declared.trail.Trail.{Trail}

module _ {A : Type 0} where
  -- A core is what the first turns of an order lead to; what it has told each session, and where the next line of each stands, is known.
  pub record IsSaved (e : Explored A) (order : List ℕ) (s : Saved A) : Type 0 where
    pub within : s.turns ≤ length order
    pub ran : RunsTo e (take s.turns order) s.core
    pub told : AreReplies s.core.records s.told
    pub cursors : AreCursors e.lines s.core.records s.cursors
    pub few : length s.core.records ≤ s.turns
    pub most : s.core.most ≡ turns_of e
    pub catalog : s.core.opening.catalog ≡ e.setup.opening.catalog

  -- each of a trail's cores is that of its order
  abbrev pub AreSaved : Explored A → Trail A → Type 0
  AreSaved e trail = AllByRecursion (IsSaved e trail.order.items) trail.saved.items
