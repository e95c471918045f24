use Rattle.std.proofs.Common.{sym, ◌∙◌}
use Rattle.mvrows.proofs.ChainLemmas.{versioned-some, newest-removed, none-removed}
use Rattle.mvrows.proofs.version_list.VersionList.drop_newest.Goals as goal

pub drop_at-requires : goal.drop_at-requires
drop_at-requires g c = versioned-some c.args.self.now (sym c.has_version.ensures ∙ c.if-has_version.true)

pub returns-then-has_version : goal.returns-then-has_version
returns-then-has_version g c = c.drop_at.ensures ∙ newest-removed c.args.self.now (sym c.has_version.ensures ∙ c.if-has_version.true)

pub returns-else-has_version : goal.returns-else-has_version
returns-else-has_version g c = none-removed c.args.self.now (sym c.has_version.ensures ∙ c.if-has_version.false)
