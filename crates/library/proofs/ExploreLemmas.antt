-- How an exploration ends, by its parts.
use Rattle.std.proofs.Common.{◌≡◌, ◌⊎◌, ◌≤◌, ℕ, Bool, false, List, [], Some, None, is_some, length, map, inl, inr, subst}
use Rattle.schema.specs.Definition.{Catalog}
use Rattle.history.specs.Opening.{Recorded}
use Rattle.script.specs.declared.script.Line.{Line}
use Rattle.script.specs.Scripts.{Said}
use Rattle.explore.specs.Listing.{IsListed}
use Rattle.explore.specs.Outcomes.{Counted, outcomes}
use Rattle.explore.specs.declared.tally.listing.heading.Heading.TheVariants.{Every}
use Rattle.explore.specs.Explored.{Explored, outcome, schedules}
use Rattle.explore.specs.Few.{IsUnexplored}
use Rattle.explore.specs.Setups.{SetsUp}
use Rattle.explore.specs.declared.plan.Unexplored.{Unexplored}
use Rattle.explore.specs.declared.plan.Unexplored.TheVariants as unexplored
use Rattle.explore.specs.declared.setup.Turn.{Turn}
use Rattle.library.specs.Exploring.{AreListed, ExploresFrom, ExploresOn, ExploresOpened, ExploresPlan, end_of_unexplored}
use Rattle.library.specs.Doing.{begun}
use Rattle.library.specs.Memory.{RanOut}
use Rattle.library.specs.declared.ending.End.{End}
use Rattle.library.specs.declared.ending.End.TheVariants.{Done}
use Rattle.library.specs.declared.exploring.Exploration.{Exploration}

module _ {A : Type 0} where
  -- the outcomes that were found are listed
  pub are_listed : (x : Explored A) (n : ℕ) (orders : List (List ℕ)) (found : List Counted) (text : List ℕ) → n ≡ length orders → orders ≡ schedules x → found ≡ outcomes (map (outcome x) (schedules x))
      → IsListed (Every n) false orders found text → AreListed x text
  are_listed x n orders found text counts all are listed =
      subst (λ (os : List (List ℕ)). IsListed (Every (length os)) false os (outcomes (map (outcome x) (schedules x))) text) all
      (subst (λ (os : List Counted). IsListed (Every (length orders)) false orders os text) are
      (subst (λ (m : ℕ). IsListed (Every m) false orders found text) counts listed))

  -- all schedules were run
  pub ends_listed : (most : ℕ) (x : Explored A) (e : End) (text : List ℕ) → length (schedules x) ≤ most → RanOut e text ⊎ (e ≡ Done) × AreListed x text → RanOut e text ⊎ ExploresPlan most x e text
  ends_listed most x e text few (inl out) = inl out
  ends_listed most x e text few (inr listed) = inr (inl (listed.0, few, listed.1))

  -- none was
  pub ends_unexplored : (most : ℕ) (x : Explored A) (why : Unexplored) (e : End) (text : List ℕ) → IsUnexplored most (length (schedules x)) why → e ≡ end_of_unexplored why → text ≡ [] → RanOut e text ⊎ ExploresPlan most x e text
  ends_unexplored most x unexplored.Memory e text more is none = inl (is, none)
  ends_unexplored most x (unexplored.TooMany (Some told)) e text more is none = inr (inr (is, more.1, none))
  ends_unexplored most x (unexplored.TooMany None) e text more is none = inr (inr (is, more.1, none))

  -- lines that were set up
  pub ends_planned : (m : Exploration) (h : Recorded A) (lines : List (Line A)) (x : Explored A) (turns : List Turn) (e : End) (text : List ℕ) → SetsUp m.most_events h lines x turns
      → RanOut e text ⊎ ExploresPlan m.most_schedules x e text → RanOut e text ⊎ ExploresFrom m h lines e text
  ends_planned m h lines x turns e text sets (inl out) = inl out
  ends_planned m h lines x turns e text sets (inr ends) = inr (inl (x, turns, sets, ends))

  -- lines that follow tables without rows
  pub ends_begun : (m : Exploration) (c : Catalog) (h : Recorded A) (lines : List (Line A)) (e : End) (text : List ℕ) → h ≡ begun c m.most_events → RanOut e text ⊎ ExploresFrom m h lines e text → RanOut e text ⊎ ExploresOn m c lines e text
  ends_begun m c h lines e text is (inl out) = inl out
  ends_begun m c h lines e text is (inr ends) = inr (inr (subst (λ (k : Recorded A). ExploresFrom m k lines e text) is ends))

  -- a script of which these are the parts
  pub explores_by_parts : (m : Exploration) (s : Said A) (opens : Bool) (c : Catalog) (lines : List (Line A)) (e : End) (text : List ℕ) → opens ≡ is_some s.opens → c ≡ s.catalog → lines ≡ s.lines
      → RanOut e text ⊎ ExploresOpened m opens c lines e text → RanOut e text ⊎ ExploresOpened m (is_some s.opens) s.catalog s.lines e text
  explores_by_parts m s opens c lines e text opened created lined ends =
      subst (λ (o : Bool). RanOut e text ⊎ ExploresOpened m o s.catalog s.lines e text) opened
      (subst (λ (d : Catalog). RanOut e text ⊎ ExploresOpened m opens d s.lines e text) created
      (subst (λ (ls : List (Line A)). RanOut e text ⊎ ExploresOpened m opens c ls e text) lined ends))
