use Rattle.std.proofs.Common.{◌<◌, sym, subst, ap, length, arith}
use Rattle.std.specs.List.{All}
use Rattle.std.proofs.lemmas.List.Sorted.{All-permutation}
use Rattle.explore.specs.Outcomes.{Counted, all_runs}
use Rattle.explore.proofs.Ranks.{runs-ranked}
use Rattle.explore.proofs.tally.listing.text.listing_text.Goals as goal

pub append_outcomes-requires : goal.append_outcomes-requires
append_outcomes-requires g c =
    let P : Counted → Type 0 = λ o. o.first < length (g.S.Schedules.orders c.args.schedules.now) in
    subst (All P) (sym c.as_slice.ensures.value) (All-permutation P c.args.found.items c.in_ok-all.all.items c.in_ok-all.ensures.same c.requires.first)

pub append_totals-requires : goal.append_totals-requires
append_totals-requires g c =
    omega (arith, ap all_runs c.as_slice-2.ensures.value, runs-ranked c.args.found.items c.in_ok-all.all.items c.in_ok-all.ensures.same, c.requires.counted)
