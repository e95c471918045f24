use Rattle.std.proofs.Common.{◌++◌, ap, subst, sym, ◌∙◌, List, ℕ}
use Rattle.explore.specs.Replies.{AreReplies}
use Rattle.explore.specs.Texts.{outcome_text, replies_of, state_text}
use Rattle.explore.proofs.exploring.outcome_text.Goals as goal

pub append_replies-requires : goal.append_replies-requires
append_replies-requires g c = subst (λ es. AreReplies es c.args.told.now) (sym (c.records.ensures ∙ ap (λ h. h.records) c.history.ensures)) c.requires

pub returns : goal.returns
unfolding outcome_text
returns g c =
    c.in_ok-append_state.ensures
    ∙ ap (λ (t : List ℕ). t ++ state_text c.args.core.now) (c.in_ok-append_replies.ensures.ok ∙ ap (λ (t : List ℕ). t ++ replies_of 64 c.records.result.now) c.in_ok-text.ensures.items ∙ ap (λ es. replies_of 64 es) (c.records.ensures ∙ ap (λ h. h.records) c.history.ensures))
