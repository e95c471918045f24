use Rattle.std.proofs.Common.{◌∙◌, All, sym, subst}
use Rattle.program.specs.Freely.{IsAmong}
use Rattle.program.proofs.free.serving.serve_on.Goals as goal

pub returns-clause-served : goal.returns-clause-served
returns-clause-served g c =
    record {
      history = c.close-core.result;
      passes = c.in_ok-passes.passes.items;
      printed = c.in_ok-passes.text.items;
      opening = c.close-core.ensures.opening;
      room = c.close-core.ensures.most;
      legal = c.close-core.ensures.legal;
      among = subst (λ n. All (λ l. IsAmong n l.step) c.args.beginning.lines.now) (sym (c.in_ok-passes.ensures.count ∙ c.in-Ok.ensures.opened.count)) c.greatest_session-sessions.ensures;
      closed = c.close-core.ensures.passes;
      told = c.in_ok-passes.ensures.text;
      whole = c.in_ok-append_checked.ensures.added;
    }
