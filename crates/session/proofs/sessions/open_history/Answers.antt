use Rattle.std.proofs.Common.{ap, subst, sym, ◌∙◌, ◌≡◌, [], map}
use Rattle.std.specs.Prelude.{vec_capacity}
use Rattle.history.specs.declared.base.Base.{Base}
use Rattle.history.specs.Opening.{Recorded}
use Rattle.transactions.specs.Keys.{keyed}
use Rattle.session.specs.Unspoilt.{AreUnspoilt}
use Rattle.session.proofs.UnspoiltLemmas.{none_spoilt}
use Rattle.session.proofs.CoreLemmas.{holds_none, kept_on}
use Rattle.session.proofs.RowsKept.{rows_opened}
use Rattle.session.proofs.sessions.open_history.Goals as goal

pub invariant_of-result : goal.invariant_of-result
invariant_of-result g c =
    let h : Recorded _ = c.args.history in
    let none : h ≡ record { opening = h.opening; records = []; most = h.most } = ap (λ rs. record h { records = rs }) c.requires.none in
    let world : c.open-world.result ≡ record { base = h.opening.base; txns = []; exports = []; place = h.opening.base.events } = c.open-world.ensures ∙ ap (λ (b : Base). record { base = b; txns = []; exports = []; place = b.events }) c.base-base.ensures in (
      kept_on h c.open-world.result h.opening.base h.opening.catalog h.opening.tables h.most none world c.requires.sound c.requires.room,
      holds_none h h.opening.base h.opening.catalog h.opening.tables h.most none c.args.keys.items c.requires.no_keys (vec_capacity c.args.keys) c.requires.capacity,
      rows_opened h c.open-world.result c.args.rows c.requires.none c.requires.sound world c.requires.rows,
      subst (λ ks. AreUnspoilt (map keyed ks) c.of.result) (sym c.requires.no_keys) (none_spoilt c.of.result),
    )

pub open-world-requires : goal.open-world-requires
open-world-requires g c = rw c.base-base.ensures c.requires.within
