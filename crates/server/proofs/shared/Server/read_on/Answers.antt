use Rattle.std.proofs.Common.{refl, sym, ap, ◌∙◌, inl, inr}
use Rattle.schema.specs.Definition.{Catalog}
use Rattle.schema.specs.declared.tables.Tables.{Tables}
use Rattle.statement.specs.declared.reply.Reply.TheVariants.{Refused}
use Rattle.statement.specs.Evaluation.{outcome}
use Rattle.pass.proofs.Prefixes.{prefix_self}
use Rattle.server.proofs.shared.Server.read_on.Goals as goal

-- the tables are those that were read
pub finish_read-requires-clause-found : goal.finish_read-requires-clause-found
finish_read-requires-clause-found g c = λ more X legal none e.
    c.in-Ok.ensures.ok
    ∙ ap (λ (d : Catalog). (outcome d c.args.reading.statement c.args.reading.reader).reply) c.args.self.now.catalog_is
    ∙ ap (λ (Y : Tables _). (outcome g.J.Naming.opening.catalog c.args.reading.statement Y).reply) (sym (c.readers_stay.ensures g.J.Naming.opening c.args.pass.now.seen more c.args.pass.now.session c.args.reading.reader X legal none c.requires.read e))

pub returns-in-Err-clause-call : goal.returns-in-Err-clause-call
returns-in-Err-clause-call g c = (refl, inr (record { reason = inl (refl, ap Refused c.in-Err.ensures.memory); mine = refl }))

pub returns-in-Err-clause-seen : goal.returns-in-Err-clause-seen
returns-in-Err-clause-seen g c = record { legal = c.session-session.ensures.legal; begins = prefix_self c.args.pass.now.seen; mine = c.session-session.ensures.exact }
