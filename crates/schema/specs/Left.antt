-- What a call that changes a value answers, with the value that it leaves. So one equation can say both: what `&mut self` has become where the call succeeds, and the refusal where it doesn't.
use Rattle.std.specs.Prelude.{Result, Ok, Err}

-- the answer, with the value that is left in place of what it holds
abbrev pub leaving : {T S E : Type 0} → Result T E → S → Result S E
leaving (Ok x) s = Ok s
leaving (Err e) s = Err e
