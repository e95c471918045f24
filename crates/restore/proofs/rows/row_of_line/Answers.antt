use Rattle.std.proofs.Common.{List, subst}
use Rattle.value.specs.declared.kind.Kind.{Kind}
use Rattle.value.specs.declared.kind.Kind.TheVariants.{Bigint}
use Rattle.restore.specs.Rows.{row_of_line}
use Rattle.restore.specs.Steps.{Gives}
use Rattle.restore.proofs.words.Row.{first_and_rest}
use Rattle.restore.proofs.rows.row_of_line.Goals as goal

pub returns-in-len1-up : goal.returns-in-len1-up
returns-in-len1-up g c =
    subst (λ (ks : List Kind). Gives (λ row. row) c.row_of_key_line.result (row_of_line ks c.args.line.now)) (first_and_rest c.args.kinds.now Bigint c.in-len1-up.len_at_least) c.row_of_key_line.ensures
