use Rattle.std.proofs.Common.{Some, ap, sym, ◌∙◌}
use Rattle.std.specs.Option.{option_copied}
use Rattle.snapshot.proofs.OverlayLemmas.{put_all-in_order, lent_alone, lent_first, own_first, gone_past, fewer_past}
use Rattle.snapshot.proofs.overlay.Overlay.next_or_gone.Goals as goal

pub returns-in_default-clause-row : goal.returns-in_default-clause-row
returns-in_default-clause-row g c = sym (lent_alone c.args.self.now.changes.now (g.R.SnapshotReader.tables c.args.self.now.reader.now) c.args.table c.args.after c.requires c.in_key_order.ensures c.next_row-lent.ensures.ordered (option_copied c.next_row-lent.result) (sym c.next_row-lent.ensures.row) (sym c.in_default.ensures))

pub returns-in_default-clause-ordered : goal.returns-in_default-clause-ordered
returns-in_default-clause-ordered g c = put_all-in_order c.args.self.now.changes.now (g.R.SnapshotReader.tables c.args.self.now.reader.now) c.args.table c.requires c.next_row-lent.ensures.ordered

pub returns-then-is_before-clause-row : goal.returns-then-is_before-clause-row
returns-then-is_before-clause-row g c =
    sym (lent_first c.args.self.now.changes.now (g.R.SnapshotReader.tables c.args.self.now.reader.now) c.args.table c.args.after c.requires c.in_key_order.ensures c.next_row-lent.ensures.ordered (option_copied c.next_row-lent.result) (c.in-Some.key.now, option_copied c.in-Some.own) (sym c.next_row-lent.ensures.row) (sym c.in-Some.ensures) (sym c.is_before.ensures ∙ c.if-is_before.true))

pub returns-then-is_before-clause-ordered : goal.returns-then-is_before-clause-ordered
returns-then-is_before-clause-ordered g c = put_all-in_order c.args.self.now.changes.now (g.R.SnapshotReader.tables c.args.self.now.reader.now) c.args.table c.requires c.next_row-lent.ensures.ordered

pub returns-in-Some-own-clause-row : goal.returns-in-Some-own-clause-row
returns-in-Some-own-clause-row g c =
    sym (own_first c.args.self.now.changes.now (g.R.SnapshotReader.tables c.args.self.now.reader.now) c.args.table c.args.after c.requires c.in_key_order.ensures c.next_row-lent.ensures.ordered (option_copied c.next_row-lent.result) c.in-Some.key.now c.in-Some-own.row.now (sym c.next_row-lent.ensures.row) (sym c.in-Some.ensures ∙ ap (λ o. Some (c.in-Some.key.now, option_copied o)) c.in-Some-own.is) (sym c.is_before.ensures ∙ c.if-is_before.false))

pub returns-in-Some-own-clause-ordered : goal.returns-in-Some-own-clause-ordered
returns-in-Some-own-clause-ordered g c = put_all-in_order c.args.self.now.changes.now (g.R.SnapshotReader.tables c.args.self.now.reader.now) c.args.table c.requires c.next_row-lent.ensures.ordered

pub returns-in-None-clause-gone : goal.returns-in-None-clause-gone
returns-in-None-clause-gone g c =
    gone_past c.args.self.now.changes.now (g.R.SnapshotReader.tables c.args.self.now.reader.now) c.args.table c.args.after c.requires c.in_key_order.ensures c.next_row-lent.ensures.ordered (option_copied c.next_row-lent.result) c.in-Some.key (sym c.next_row-lent.ensures.row) (sym c.in-Some.ensures ∙ ap (λ o. Some (c.in-Some.key.now, option_copied o)) c.in-None.is) (sym c.is_before.ensures ∙ c.if-is_before.false)

pub returns-in-None-clause-fewer : goal.returns-in-None-clause-fewer
returns-in-None-clause-fewer g c = fewer_past c.args.self.now.changes.now c.args.table c.args.after c.in-Some.key (option_copied c.in-Some.own) c.in_key_order.ensures (sym c.in-Some.ensures)

pub returns-in-None-clause-ordered : goal.returns-in-None-clause-ordered
returns-in-None-clause-ordered g c = put_all-in_order c.args.self.now.changes.now (g.R.SnapshotReader.tables c.args.self.now.reader.now) c.args.table c.requires c.next_row-lent.ensures.ordered
