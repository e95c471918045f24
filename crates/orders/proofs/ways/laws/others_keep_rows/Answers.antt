use Rattle.orders.proofs.CoverLemmas.{unlooked_ways, unlooked_row}
use Rattle.orders.proofs.ways.laws.others_keep_rows.Goals as goal

pub returns-clause-ways : goal.returns-clause-ways
returns-clause-ways g c = unlooked_ways

pub returns-clause-row : goal.returns-clause-row
returns-clause-row g c = unlooked_row
