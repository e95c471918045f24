use Rattle.std.proofs.Common.{◌≡◌, refl, ap, sym, ◌∙◌, ◌==◌, ◌&&◌, Bool, true, false, true≢false, not, cond, is_some}
use Rattle.std.specs.List.{find}
use Rattle.statement.specs.declared.reply.Reply.TheVariants.{Refused, Imported}
use Rattle.value.specs.declared.refusal.Code.TheVariants as code
use Rattle.history.specs.Answer.{refuses}
use Rattle.history.specs.Transactions.{Txn, exported, is_living, is_read_only}
use Rattle.history.specs.Events.{import}
use Rattle.transactions.specs.Ledger.{Ledger, kept, world_on}
use Rattle.transactions.proofs.world.World.import.Goals as goal
use Rattle.transactions.proofs.world.World.import.Goals.{in-ReadOnly, in_default}

-- the last of three answers, which is the first one too
last-of : {X : Type 0} (a b c : Bool) (r s i : X) → b ≡ false → c ≡ false → r ≡ cond a r (cond b s (cond c i r))
last-of true b c r s i p q = refl
last-of false b c r s i p q = sym (ap (λ d. cond d s (cond c i r)) p ∙ ap (λ d. cond d i r) q)

-- the third of three answers
third-of : {X : Type 0} (a b c : Bool) (r s i : X) → a ≡ false → b ≡ false → c ≡ true → i ≡ cond a r (cond b s (cond c i r))
third-of a b c r s i p q e = sym (ap (λ d. cond d r (cond b s (cond c i r))) p ∙ ap (λ d. cond d s (cond c i r)) q ∙ ap (λ d. cond d i r) e)

pub returns-in-Some-clause-course : goal.returns-in-Some-clause-course
returns-in-Some-clause-course g c =
    let txns : c.as_slice.result.now ≡ c.args.self.now.txns = c.as_slice.ensures.value ∙ ap (λ (l : Ledger _). l.txns) c.self.view_is in
    let exports : c.as_slice-2.result.now ≡ c.args.self.now.exports = c.as_slice-2.ensures.value ∙ ap (λ (l : Ledger _). l.exports) c.self.view_is in
    let found = c.find_exported.ensures ∙ ap (λ ts. find (λ x. x.id == c.args.id && is_living ts x) c.as_slice-2.result.now) txns ∙ ap (find (λ x. x.id == c.args.id && is_living c.args.self.now.txns x)) exports in
    λ c' X. c.imports.ensures ∙ ap (λ o. kept (import o (world_on c' X c.args.self.now) c.args.transaction.now)) (sym c.in-Some.is ∙ found)

pub returns-in-None-clause-reply : goal.returns-in-None-clause-reply
returns-in-None-clause-reply g c =
    let txns : c.as_slice.result.now ≡ c.args.self.now.txns = c.as_slice.ensures.value ∙ ap (λ (l : Ledger _). l.txns) c.self.view_is in
    let exports : c.as_slice-2.result.now ≡ c.args.self.now.exports = c.as_slice-2.ensures.value ∙ ap (λ (l : Ledger _). l.exports) c.self.view_is in
    let found = c.find_exported.ensures ∙ ap (λ ts. find (λ x. x.id == c.args.id && is_living ts x) c.as_slice-2.result.now) txns ∙ ap (find (λ x. x.id == c.args.id && is_living c.args.self.now.txns x)) exports in
    let asked : c.args.transaction.now.asked ≡ false = sym (ap (λ (t : Txn _). t.asked) c.transaction.view_is) ∙ c.if-transaction.false in
    λ c' X. ap Refused c.of_code-in-None.ensures
    ∙ last-of (not (is_read_only c.args.transaction.now.mode)) c.args.transaction.now.asked (is_some (exported (world_on c' X c.args.self.now) c.args.id)) (refuses code.ObjectNotInPrerequisiteState) (refuses code.ActiveSqlTransaction) Imported asked (ap is_some (sym found ∙ c.in-None.is))

pub returns-in-Some-clause-reply : goal.returns-in-Some-clause-reply
returns-in-Some-clause-reply g c =
    let txns : c.as_slice.result.now ≡ c.args.self.now.txns = c.as_slice.ensures.value ∙ ap (λ (l : Ledger _). l.txns) c.self.view_is in
    let exports : c.as_slice-2.result.now ≡ c.args.self.now.exports = c.as_slice-2.ensures.value ∙ ap (λ (l : Ledger _). l.exports) c.self.view_is in
    let found = c.find_exported.ensures ∙ ap (λ ts. find (λ x. x.id == c.args.id && is_living ts x) c.as_slice-2.result.now) txns ∙ ap (find (λ x. x.id == c.args.id && is_living c.args.self.now.txns x)) exports in
    let asked : c.args.transaction.now.asked ≡ false = sym (ap (λ (t : Txn _). t.asked) c.transaction.view_is) ∙ c.if-transaction.false in
    let only : is_read_only c.transaction.inside.mode ≡ true = elim c.match-matches.branch [ in-ReadOnly w ↦ ap is_read_only w.in-ReadOnly.is | in_default w ↦ absurd (true≢false (sym c.if-not-matches.false ∙ w.matches-is)) ] in
    let reads : is_read_only c.args.transaction.now.mode ≡ true = sym (ap (λ (t : Txn _). is_read_only t.mode) c.transaction.view_is) ∙ only in
    λ c' X. third-of (not (is_read_only c.args.transaction.now.mode)) c.args.transaction.now.asked (is_some (exported (world_on c' X c.args.self.now) c.args.id)) (refuses code.ObjectNotInPrerequisiteState) (refuses code.ActiveSqlTransaction) Imported
    (ap not reads) asked (ap is_some (sym found ∙ c.in-Some.is))
