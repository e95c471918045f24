use Rattle.alike.proofs.Beginnings.{begins_alike}
use Rattle.alike.proofs.laws.a_writer_and_a_reader_begin_in_either_order.Goals as goal

pub returns : goal.returns
returns g c = λ o s t n. begins_alike o s t n
