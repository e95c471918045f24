use Rattle.std.proofs.Common.{ap, ◌∙◌}
use Rattle.std.specs.Option.{option_copied}
use Rattle.schema.proofs.InsertingLemmas.{put_changed}
use Rattle.schema.proofs.table.Table.apply.Goals as goal

pub returns-in_ok-copy_all-in-Some-clause-ok : goal.returns-in_ok-copy_all-in-Some-clause-ok
returns-in_ok-copy_all-in-Some-clause-ok g c =
    put_changed c.put.result c.args.self.now c.put.new.self c.new-row.result c.args.key.now c.in-Some.fields.now _
    (c.new-row.ensures ∙ (λ i. (c.in_ok-copy-in-Some.ensures.ok i, c.in_ok-copy_all-in-Some.ensures.ok i))) (ap option_copied c.in-Some.is) c.put.ensures.ok
