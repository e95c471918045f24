use Rattle.std.proofs.Common.{subst, sym}
use Rattle.restore.proofs.taking.Behind.{put_gives, put_sound}
use Rattle.restore.specs.Rows.{AreStillThere}
use Rattle.restore.proofs.taking.StillThere.{still-put}
use Rattle.restore.proofs.pieces.put_read.Goals as goal

pub returns-clause-row : goal.returns-clause-row
returns-clause-row g c = λ line given. put_gives c.args._catalog.now c.args.tables.now c.put.new.self c.args.table line c.args.row c.in_ok-row.row c.in_ok-row.was c.in_ok-put.ensures.ok c.requires.next given

pub returns-clause-sound : goal.returns-clause-sound
returns-clause-sound g c = λ line given h.
    put_sound c.args._catalog.now c.args.tables.now c.put.new.self c.args.table line c.requires.same_tables h
    (put_gives c.args._catalog.now c.args.tables.now c.put.new.self c.args.table line c.args.row c.in_ok-row.row c.in_ok-row.was c.in_ok-put.ensures.ok c.requires.next given)

pub returns-clause-stay : goal.returns-clause-stay
returns-clause-stay g c = subst (AreStillThere c.args.tables.now) (sym c.in_ok-put.ensures.ok) (still-put c.args.tables.now c.args.table c.in_ok-row.row)
