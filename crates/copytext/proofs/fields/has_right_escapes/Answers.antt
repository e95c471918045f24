use Rattle.std.proofs.Common.{None, ◌∷◌, sym, ap, ◌∙◌}
use Rattle.std.specs.Option.{is_some, option_map}
use Rattle.copytext.specs.Reading.{content}
use Rattle.copytext.proofs.ContentLemmas.{at_end, found, shorter, some_on}
use Rattle.copytext.proofs.fields.has_right_escapes.Goals as goal

pub loop-rest-smaller : goal.loop-rest-smaller
loop-rest-smaller c = shorter c.loop-rest.rest.now c.in-Some.after.now c.in-len1-up.len_at_least c.in-Some.ensures.1

pub loop-rest-preserved : goal.loop-rest-preserved
loop-rest-preserved c =
    sym (ap is_some (found c.loop-rest.rest.now (option_map (λ bytes. c.in-Some.field-0-0 ∷ bytes) (content c.in-Some.after.now)) c.in-len1-up.len_at_least c.in-Some.ensures.0)
    ∙ some_on c.in-Some.field-0-0 (content c.in-Some.after.now))
    ∙ c.loop-rest.invariant

pub returns-in-None : goal.returns-in-None
returns-in-None c = ap is_some (sym (found c.loop-rest.rest.now None c.in-len1-up.len_at_least c.in-None.ensures)) ∙ c.loop-rest.invariant

pub returns : goal.returns
returns c = ap is_some (sym (at_end c.loop-rest.rest.now c.in_default.len_below)) ∙ c.loop-rest.invariant
