use Rattle.std.proofs.Common.{rules, of_calls}
use Rattle.std.proofs.lemmas.Fn.{filter_same}
use Rattle.mvrows.specs.TakenBack.{was_there}
use Rattle.mvrows.proofs.page.drop_new.Goals as goal

pub returns : goal.returns
returns g c = filter_same _ (was_there c.args.commit) _ (λ x b f k. search (rules, of_calls)) _ _ c.retain.ensures.filtered
