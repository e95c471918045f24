use Rattle.std.proofs.Common.{sym, ap, ◌∙◌}
use Rattle.std.specs.Option.{option_map}
use Rattle.schema.specs.Changing.{put_keyed}
use Rattle.schema.specs.KeyedChange.{shown_changes, own_rows}
use Rattle.schema.proofs.ChangingLemmas.{shown_put, own_put}
use Rattle.schema.proofs.changes.table.ChangedTable.put.Goals as goal

pub invariant_of-self-2 : goal.invariant_of-self-2
invariant_of-self-2 g c =
    c.in_ok-insert.ensures.entries ∙ own_put c.self.inside.rows.entries c.args.key c.args.row c.self.invariant c.requires ∙ ap (λ es. own_rows (shown_changes es)) (sym c.in_ok-insert.ensures.entries)

pub returns-clause-ok : goal.returns-clause-ok
returns-clause-ok g c =
    ap shown_changes c.in_ok-insert.ensures.entries ∙ shown_put c.self.inside.rows.entries c.args.key c.args.row ∙ ap (λ cs. put_keyed cs c.args.key (option_map (λ r. r.1) c.args.row)) c.self.view_is
