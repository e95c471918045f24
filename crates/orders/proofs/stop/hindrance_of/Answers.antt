use Rattle.std.proofs.Common.{◌∙◌, ap}
use Rattle.orders.specs.Explains.{are_fit}
use Rattle.orders.proofs.stop.hindrance_of.Goals as goal

pub first_difference-requires-clause-fits : goal.first_difference-requires-clause-fits
first_difference-requires-clause-fits g c = ap (are_fit c.args.catalog.now) c.answered.ensures ∙ c.requires.fits
