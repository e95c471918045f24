use Rattle.std.proofs.Common.{ap, sym, drop, ◌∙◌, ◌||◌}
use Rattle.transactions.specs.Merged.{is_changed}
use Rattle.transactions.proofs.MergedLemmas.{changed-all}
use Rattle.transactions.proofs.statements.own.OwnChanges.has_key_of.Goals as goal

pub returns-then-has_merged : goal.returns-then-has_merged
returns-then-has_merged g c =
    let t = c.args.change.now.table in
    let k = c.args.change.now.key in
    let list = c.self.inside.list.items in
    c.if-has_merged.true
    ∙ ap (λ b. b || is_changed t k (drop c.self.inside.count list)) (sym c.if-has_merged.true ∙ c.has_merged.ensures)
    ∙ changed-all t k c.self.inside.merged list c.self.inside.count c.self.invariant.1
    ∙ ap (is_changed t k) c.self.view_is

pub returns-else-has_merged : goal.returns-else-has_merged
returns-else-has_merged g c =
    let t = c.args.change.now.table in
    let k = c.args.change.now.key in
    let list = c.self.inside.list.items in
    c.has_behind.ensures ∙ ap (λ xs. is_changed t k (drop c.self.inside.count xs)) c.as_slice.ensures.value
    ∙ ap (λ b. b || is_changed t k (drop c.self.inside.count list)) (sym c.if-has_merged.false ∙ c.has_merged.ensures)
    ∙ changed-all t k c.self.inside.merged list c.self.inside.count c.self.invariant.1
    ∙ ap (is_changed t k) c.self.view_is
