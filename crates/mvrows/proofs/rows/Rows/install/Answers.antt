use Rattle.std.proofs.Common.{sym, subst, ◌≡◌, ℕ, set, IfSome, ◌∙◌}
use Rattle.mvrows.specs.Installing.{installed}
use Rattle.mvrows.specs.Settling.{Needed, settled}
use Rattle.mvrows.specs.HeldRows.{rows_held, AreVersioned}
use Rattle.mvrows.proofs.HeldLemmas.{installed-versioned}
use Rattle.mvrows.proofs.SettlingLemmas.{settled-versioned}
use Rattle.mvrows.proofs.rows.Rows.install.Goals as goal

pub invariant_of-self : goal.invariant_of-self
invariant_of-self g c =
    let needed : Needed = record { oldest = c.args.oldest; snapshots = c.args.snapshots.now } in
    let made = subst (λ o. IfSome o (λ p. (oldest : ℕ) → rows_held (set c.as_slice.result.now p.0 p.1) ≡ settled (record { oldest = oldest; snapshots = c.args.snapshots.now }) c.args.changes.now (installed c.args.commit c.args.changes.now (rows_held c.as_slice.result.now)))) c.in-Some.is c.in_ok-place.ensures.rows in
    let here = subst (λ ts. rows_held (set ts c.in-Some.place c.in-Some.table) ≡ settled (record { oldest = c.args.oldest; snapshots = c.args.snapshots.now }) c.args.changes.now (installed c.args.commit c.args.changes.now (rows_held ts))) c.as_slice.ensures.value (made c.args.oldest) in
    subst AreVersioned (sym (c.share_written.ensures ∙ here))
    (settled-versioned needed c.args.changes.now (installed c.args.commit c.args.changes.now (rows_held c.self.inside.tables.items)) (installed-versioned c.args.commit c.args.changes.now (rows_held c.self.inside.tables.items) c.self.invariant))
