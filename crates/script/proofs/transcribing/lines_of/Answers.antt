use Rattle.std.proofs.Common.{◌∷◌, [], ◌∙◌, ap, map}
use Rattle.std.proofs.lemmas.List.{map-append}
use Rattle.script.proofs.CutLemmas.{line_more, lines_all}
use Rattle.script.proofs.transcribing.lines_of.Goals as goal

pub loop-line-preserved : goal.loop-line-preserved
loop-line-preserved g c =
    line_more c.loop-line.rest.now c.in-Some.line.now c.in-Some.more.now (map (λ x. x.now) c.loop-line.lines.items) (map (λ x. x.now) c.push.new.self.items) _ (rw c.in-Some.is at c.cut.ensures.value)
    (ap (map (λ x. x.now)) c.in_ok-push.ensures.items ∙ map-append (λ x. x.now) c.loop-line.lines.items (c.in-Some.line ∷ [])) c.loop-line.invariant

pub returns : goal.returns
returns g c = lines_all c.loop-line.rest.now (map (λ x. x.now) c.loop-line.lines.items) _ (rw c.in_default.is at c.cut.ensures.value) c.loop-line.invariant
