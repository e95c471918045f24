use Rattle.std.proofs.Common.{◌∙◌, ap, subst, sym, map}
use Rattle.std.specs.List.Sorted.{IsNonDecreasing}
use Rattle.value.proofs.Basics.{IfOk_then}
use Rattle.transcript.specs.Reading.{name_of}
use Rattle.transcript.proofs.GatherLemmas.{names_same}
use Rattle.transcript.proofs.traces.numbered.Goals as goal

pub gathered-requires : goal.gathered-requires
gathered-requires g c = subst IsNonDecreasing (sym c.as_slice.ensures.value) c.in_ok-sort.ensures.ok

pub returns-clause-names : goal.returns-clause-names
returns-clause-names g c =
    IfOk_then c.gathered.result c.gathered.ensures.names (λ t e.
    e ∙ ap (λ bs. map (name_of bs) c.args.all.items) c.as_slice.ensures.value ∙ names_same c.args.begins.items c.sort.new.begins.items c.in_ok-sort.ensures.same c.args.all.items)
