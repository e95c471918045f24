use Rattle.std.proofs.Common.{◌∙◌, sym, add-zero, arith}
use Rattle.std.proofs.lemmas.List.{take_rest, get_or-drop}
use Rattle.sqltext.specs.Tokens.{tokens}
use Rattle.sqltext.proofs.LexerLemmas.{goes_on}
use Rattle.sqltext.proofs.lexer.tokens.Goals as goal

pub loop-start-preserved : goal.loop-start-preserved
loop-start-preserved g c =
    let at = c.loop-start.start in
    let text = c.args.text.now in (
      goes_on c.loop-start.tokens _ c.loop-start.after_number at text _ _ _ (tokens text) (take_rest text at) c.loop-start-test.true
          c.first_token-kind.ensures.value (rw (take_rest text at, get_or-drop at text 0 0, add-zero) (sym c.is_blank.ensures ∙ c.if-is_blank.false)) c.first_token-kind.ensures.within.0 c.first_token-kind.ensures.within.1
          c.same_kind-after_number.ensures c.in_ok-push.ensures.ok c.loop-start.invariant.0,
      omega arith,
    )
