use Rattle.std.proofs.Common.{◌≡◌, ◌++◌, ◌∷◌, take}
use Rattle.std.specs.List.{flat_map}
use Rattle.dumpplan.specs.Lines.{written_column, column_text}
use Rattle.dumpplan.proofs.create.append_more_columns.Given as goal

-- the columns so far
abbrev pub invariant-loop-column : goal.invariant-loop-column
invariant-loop-column g l = l.text.items ≡ l.fn.text.items ++ flat_map (λ d. 44 ∷ 32 ∷ column_text (written_column l.catalog d)) (take l.column-index l.columns)
