use Rattle.std.proofs.Common.{◌≡◌, IfOk, subst, sym}
use Rattle.terminal.specs.Terminals.{DoesAlone, Dumps, with}
use Rattle.terminal.proofs.doing.do_alone.Goals as goal

pub returns-in-Dump-clause-done : goal.returns-in-Dump-clause-done
returns-in-Dump-clause-done g c =
    let answers = g.H.Handler.answers in
    let held = g.H.Attended.held in
    let dumped = subst (λ path. IfOk c.dump_at.result (λ x. (h : _) × Dumps answers held path c.args.terminal.attended h x.1.items × (x.0 ≡ with c.args.terminal h))) c.behind_word-in-Dump.ensures c.dump_at.ensures.done in
    subst (λ typed. IfOk c.dump_at.result (λ x. DoesAlone answers held g.H.Attended.tells typed c.args.terminal c.args.text.now x.0 x.1.items)) (sym c.in-Dump.is) dumped
