use Rattle.std.proofs.Common.{◌∙◌, sym}
use Rattle.std.proofs.lemmas.List.Folds.{list_all-map}
use Rattle.statement.specs.Fits.{fits}
use Rattle.transcript.proofs.traces.are_fit.Goals as goal

pub returns : goal.returns
returns g c = c.each_fits.ensures ∙ sym (list_all-map (λ q. fits c.args.catalog.now q.0) (λ a. (a.statement, a.reply)) c.args.statements.now)
