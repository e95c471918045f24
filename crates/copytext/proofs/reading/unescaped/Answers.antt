use Rattle.std.proofs.Common.{None, ◌∷◌, ap, ◌∙◌}
use Rattle.std.specs.Option.{option_map}
use Rattle.copytext.specs.Reading.{content}
use Rattle.copytext.proofs.ContentLemmas.{all_read, at_end, found, in_front, nothing_yet, one_more, shorter}
use Rattle.copytext.proofs.reading.unescaped.Goals as goal

pub loop-rest-init : goal.loop-rest-init
loop-rest-init g c = nothing_yet c.new-bytes.result.items (content c.args.raw.now) c.new-bytes.ensures.items

pub loop-rest-smaller : goal.loop-rest-smaller
loop-rest-smaller g c = shorter c.loop-rest.rest.now c.in-Some.after.now c.in-len1-up.len_at_least c.in-Some.ensures.1

pub loop-rest-preserved : goal.loop-rest-preserved
loop-rest-preserved g c =
    c.loop-rest.invariant
    ∙ ap (in_front c.loop-rest.bytes.items) (found c.loop-rest.rest.now (option_map (λ bytes. c.in-Some.byte ∷ bytes) (content c.in-Some.after.now)) c.in-len1-up.len_at_least c.in-Some.ensures.0)
    ∙ one_more c.loop-rest.bytes.items c.push.new.self.items c.in-Some.byte (content c.in-Some.after.now) c.in_ok-push-in-Some.ensures.items

pub returns-in-None-clause-ok : goal.returns-in-None-clause-ok
returns-in-None-clause-ok g c =
    c.loop-rest.invariant ∙ ap (in_front c.loop-rest.bytes.items) (found c.loop-rest.rest.now None c.in-len1-up.len_at_least c.in-None.ensures)

pub returns-clause-ok : goal.returns-clause-ok
returns-clause-ok g c =
    c.loop-rest.invariant ∙ ap (in_front c.loop-rest.bytes.items) (at_end c.loop-rest.rest.now c.in_default.len_below) ∙ all_read c.loop-rest.bytes.items
