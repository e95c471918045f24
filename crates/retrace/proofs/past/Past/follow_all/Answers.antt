use Rattle.std.proofs.Common.{refl, sym, ap, ◌∙◌, arith}
use Rattle.std.proofs.lemmas.List.{drop_all}
use Rattle.retrace.specs.Past.{Bygone, after_all}
use Rattle.retrace.proofs.PastLemmas.{all-step, followed-place}
use Rattle.retrace.proofs.past.Past.follow_all.Goals as goal

pub loop-entry-init : goal.loop-entry-init
loop-entry-init g c = (refl, omega arith)

pub follow_one-requires : goal.follow_one-requires
follow_one-requires g c = omega (arith, c.loop-entry.invariant.1, c.requires)

pub loop-entry-preserved : goal.loop-entry-preserved
loop-entry-preserved g c = (
  all-step c.args.catalog.now c.args.base c.args.records.now c.loop-entry.entry-index c.entry-item.result c.loop-entry.self c.follow_one.new.self (omega arith) c.entry-item.is c.in_ok-follow_one.ensures.ok ∙ c.loop-entry.invariant.0,
  omega (arith, c.loop-entry.invariant.1, ap (λ (p : Bygone _). p.place) c.in_ok-follow_one.ensures.ok ∙ followed-place c.args.catalog.now c.args.base c.entry-item.result c.loop-entry.self),
)

pub returns-clause-ok : goal.returns-clause-ok
returns-clause-ok g c =
    sym (ap (λ rs. after_all c.args.catalog.now c.args.base rs c.loop-entry.self) (drop_all c.loop-entry.entry-index c.args.records.now (omega arith))) ∙ c.loop-entry.invariant.0
