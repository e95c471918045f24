use Rattle.std.proofs.Common.{◌≡◌, ◌++◌, true, map, sym, subst, OnOk}
use Rattle.history.specs.Events.{world}
use Rattle.history.specs.Serial.{IsSerialList, serial_order}
use Rattle.audit.specs.Orders.{check_line}
use Rattle.audit.proofs.ordering.append_check.Goals as goal

pub returns : goal.returns
returns g c =
    let w = world c.args.core.now in
    let listed : IsSerialList (world c.history.result.now) (map (λ n. n.0) c.as_slice.result.now) = rw (c.history.ensures, c.as_slice.ensures.value) (serial_order w, sym c.in_ok-order.ensures.ok, c.in_ok-order.ensures.serializable.serial) in
    let yes : c.in_ok-is_one.is_one ≡ true = c.in_ok-is_one.ensures.answer.1 listed in
    subst (λ b. OnOk c.append_answer.result (c.append_answer.new.text.items ≡ c.args.text.now.items ++ check_line b)) yes c.append_answer.ensures
