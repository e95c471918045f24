use Rattle.std.proofs.Common.{◌≡◌, sym, subst, ◌++◌, OnOk}
use Rattle.orders.proofs.ChoiceLemmas.{denied_several}
use Rattle.orders.proofs.ways.choice.push_denied.Goals as goal

pub returns-in_default-clause-ok : goal.returns-in_default-clause-ok
returns-in_default-clause-ok g c =
    subst (λ ws. OnOk c.push_parted.result (c.push_parted.new.ways.items ≡ c.args.ways.now.items ++ ws))
    (sym (denied_several c.args.few c.args.key.now c.args.way.now c.args.doubted.now c.in_default.len_at_least)) c.push_parted.ensures.ok
