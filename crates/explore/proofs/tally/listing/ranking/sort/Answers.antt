use Rattle.std.proofs.Common.{of_calls, rules}
use Rattle.std.proofs.lemmas.Fn.{always_returns_same}
use Rattle.explore.specs.Listing.{has_more}
use Rattle.explore.proofs.Ranks.{more_is_order}
use Rattle.explore.proofs.tally.listing.ranking.sort.Goals as goal

pub returns : goal.returns
returns g c = record {
  same = c.in_ok-sort_by.ensures.permutation;
  falling = c.in_ok-sort_by.ensures.sorted has_more more_is_order (always_returns_same _ _ _ (λ a r f k. search (rules, of_calls)));
  stable = c.in_ok-sort_by.ensures.stable has_more more_is_order (always_returns_same _ _ _ (λ a r f k. search (rules, of_calls)));
}
