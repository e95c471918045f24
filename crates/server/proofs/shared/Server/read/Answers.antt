use Rattle.server.proofs.Holding.{call_goes_on}
use Rattle.server.proofs.shared.Server.read.Goals as goal

pub returns-in-Reads-clause-call : goal.returns-in-Reads-clause-call
returns-in-Reads-clause-call g c =
    let hold = c.in-Reads.ensures.hold in
    call_goes_on g.J.Naming.most c.args.pass.now c.begin_read-held.new.pass c.in-Reads.reading.statement c.args.statement c.read_on.result c.read_on.new.pass hold.0 hold.1 hold.2 c.read_on.ensures.call
