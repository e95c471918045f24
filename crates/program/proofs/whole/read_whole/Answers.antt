use Rattle.std.proofs.Common.{rules, take, length, ◌<◌, ◌++◌, ◌≡◌, refl, sym, ap, subst, ◌∙◌, append-nil}
use Rattle.std.specs.Io.KnownBytes.{Consumes}
use Rattle.std.proofs.KnownBytes.{Consumes-trans, Consumes-kept, Consumes-whole}
use Rattle.program.proofs.whole.read_whole.Goals as goal
use Rattle.program.proofs.whole.read_whole.Goals.{in-Ok+in_ok-extend_from_slice-in-Ok, in-Err}

pub returns-in-Ok-eq0 : goal.returns-in-Ok-eq0
returns-in-Ok-eq0 g c =
    let start = g.R.Read.remaining c.args.reader.now in
    let end = g.R.Read.remaining c.read.new.self in
    let bytes = c.loop.bytes.items in
    let none : c.in-Ok-eq0.field-0 ≡ 0 = search rules in
    let read = rw c.in-Ok-eq0.is at c.read.ensures.bytes in
    let all = Consumes-trans start _ end bytes (take c.in-Ok-eq0.field-0 c.read.new.buf) c.loop.invariant.read read.0 in
    let room : 0 < length c.read.new.buf = search rules in
    Consumes-whole start end bytes (λ left. bytes ≡ left) (subst (Consumes start end) (ap (λ n. bytes ++ take n c.read.new.buf) none ∙ append-nil bytes) all) (read.1 none room) refl

pub loop-preserved : goal.loop-preserved
loop-preserved g c =
    let start = g.R.Read.remaining c.args.reader.now in
    let now = g.R.Read.remaining c.read.new.self in
    let bytes = c.loop.bytes.items in
    let room : 0 < length c.read.new.buf = search rules in
    elim c.match-read.branch [
      | in-Ok+in_ok-extend_from_slice-in-Ok w ↦
          let read = rw w.in-Ok.is at c.read.ensures.bytes in
          let all = Consumes-trans start _ now bytes (take w.in-Ok.count c.read.new.buf) c.loop.invariant.read read.0 in
          record {
            read = subst (Consumes start now) (sym (ap (λ v. v.items) w.bytes-is ∙ w.in_ok-extend_from_slice-in-Ok.ensures.items)) all;
            room = room;
          }
      | in-Err w ↦
          let kept = rw w.in-Err.is at c.read.ensures.bytes in
          record {
            read = subst (Consumes start now) (sym (ap (λ v. v.items) w.bytes-is)) (Consumes-kept start _ now bytes c.loop.invariant.read kept);
            room = room;
          }
    ]
