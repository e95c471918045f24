-- What is known of the worlds after legal histories, in the form in which it is used here: of any of their transactions, so that it holds too where only some are kept.
use Rattle.std.proofs.Common.{◌≡◌, sym, ap, ◌∙◌, ℕ, ◌<◌, ◌≤◌, true, false, Some, eqb}
use Rattle.std.proofs.lemmas.Bool.{and_parts, eqb-true, eq-eqb}
use Rattle.value.proofs.IsolationLemmas.{In}
use Rattle.value.proofs.Basics.{find-In}
use Rattle.schema.specs.Plain.{put_all}
use Rattle.history.specs.Transactions.{Txn, World, Exported_snapshot, commits, current, is_done, is_of, is_owed, tables_at}
use Rattle.alike.proofs.Sides.{and2, find_some}

module _ {A : Type 0} where
  pub record IsOrderly (w : World A) : Type 0 where
    pub unique : (t u : Txn A) → In t w.txns → In u w.txns → t.number ≡ u.number → t ≡ u
    pub one : (t u : Txn A) → In t w.txns → In u w.txns → is_owed t.standing ≡ true → is_owed u.standing ≡ true → t.session ≡ u.session → t ≡ u
    pub apart : (t u : Txn A) → In t w.txns → In u w.txns → is_done t.standing ≡ true → is_done u.standing ≡ true → t.commit ≡ u.commit → 0 < u.commit → t ≡ u
    pub uncommitted : (t : Txn A) → In t w.txns → is_done t.standing ≡ false → t.commit ≡ 0
    pub committed : (t : Txn A) → In t w.txns → t.commit ≤ commits w
    pub shown : (t : Txn A) → In t w.txns → t.snapshot ≤ commits w
    pub begun : (t : Txn A) → In t w.txns → t.begin ≤ w.place
    pub ended : (t : Txn A) → In t w.txns → t.end ≤ w.place
    pub taken : (t : Txn A) → In t w.txns → t.taken ≤ w.place
    pub owns : (t : Txn A) → In t w.txns → t.own ≡ put_all t.changes (tables_at w t.snapshot)
    pub exports : (x : Exported_snapshot) → In x w.exports → x.snapshot ≤ commits w
    pub identified : (x y : Exported_snapshot) → In x w.exports → In y w.exports → x.id ≡ y.id → x ≡ y

  module _ (w : World A) (g : IsOrderly w) where
    -- a session's transaction is the one that it has still to end
    pub current_is : (s : ℕ) (t : Txn A) → In t w.txns → is_owed t.standing ≡ true → t.session ≡ s → current w s ≡ Some t
    current_is s t i o e = r.1 ∙ ap Some (g.one r.0 t f.0 i p.1 o (eqb-true r.0.session s p.0 ∙ sym e))
      where
        r : (y : Txn A) × (current w s ≡ Some y)
        r = find_some (is_of s) w.txns t i (and2 (eqb t.session s) (is_owed t.standing) (eq-eqb t.session s e) o)

        f : In r.0 w.txns × (is_of s r.0 ≡ true)
        f = find-In (is_of s) w.txns r.0 r.1

        p : (eqb r.0.session s ≡ true) × (is_owed r.0.standing ≡ true)
        p = and_parts (eqb r.0.session s) (is_owed r.0.standing) f.1

    pub current_has : (s : ℕ) (t : Txn A) → current w s ≡ Some t → In t w.txns × (t.session ≡ s) × (is_owed t.standing ≡ true)
    current_has s t e = (f.0, eqb-true t.session s p.0, p.1)
      where
        f : In t w.txns × (is_of s t ≡ true)
        f = find-In (is_of s) w.txns t e

        p : (eqb t.session s ≡ true) × (is_owed t.standing ≡ true)
        p = and_parts (eqb t.session s) (is_owed t.standing) f.1
