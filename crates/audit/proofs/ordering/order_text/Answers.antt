use Rattle.audit.proofs.ordering.order_text.Goals as goal

pub returns : goal.returns
returns g c =
    let checked = c.in_ok-append_check.ensures in
    rw (c.in_ok-text.ensures, c.as_slice.ensures.value, c.in_ok-keys.ensures.ok) at checked
