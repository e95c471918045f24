use Rattle.std.proofs.Common.{sym, ◌∙◌}
use Rattle.mvrows.proofs.ChainLemmas.{before-end}
use Rattle.mvrows.proofs.version_list.VersionList.drop_from.Goals as goal

pub returns : goal.returns
returns g c = sym (before-end c.args.commit c.newest.self (sym c.newest-test.ensures)) ∙ c.newest.invariant
