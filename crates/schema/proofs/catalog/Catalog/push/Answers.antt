use Rattle.std.proofs.Common.{◌≡◌, ap, sym, subst, ◌∙◌, ◌++◌, ◌∷◌, [], true, length, arith, length-append}
use Rattle.std.specs.Map.{values_of}
use Rattle.std.specs.String.{string_bytes, string_eq}
use Rattle.indexmap.proofs.CallerLemmas.{insert_entry-new}
use Rattle.schema.specs.Named.{IsByName}
use Rattle.schema.specs.WellFormed.{is_table_after, are_tables_after}
use Rattle.schema.proofs.NamedLemmas.{lookup-absent, values_of-push, IsByName-push}
use Rattle.schema.proofs.WellFormedLemmas.{name_is_new, tables-push}
use Rattle.schema.proofs.catalog.Catalog.push.Goals as goal

pub invariant_of-self-2 : goal.invariant_of-self-2
invariant_of-self-2 g c =
    let m = c.self.inside.tables in
    let name = c.in_ok-name.name in
    let same = c.in_ok-name.ensures.ok ∙ c.name.ensures in
    let after : is_table_after (values_of m.entries) c.args.table ≡ true = ap (λ tables. is_table_after tables c.args.table) c.self.view_is ∙ c.requires.well_formed in
    let absent = lookup-absent (string_bytes name) m.entries c.self.invariant.0 (rw same (name_is_new (values_of m.entries) c.args.table after)) in
    let entries = c.in_ok-insert.ensures.entries ∙ insert_entry-new string_eq m name c.args.table absent in
    let values = ap values_of entries ∙ values_of-push m.entries (name, c.args.table) in (
      subst (λ es. IsByName es) (sym entries) (IsByName-push m.entries name c.args.table c.self.invariant.0 same),
      omega (arith, ap length values, length-append (values_of m.entries) (c.args.table ∷ []), ap length c.self.view_is, c.requires.room),
      ap (are_tables_after []) values ∙ tables-push (values_of m.entries) c.args.table c.self.invariant.2 after,
    )

pub returns-clause-ok : goal.returns-clause-ok
returns-clause-ok g c =
    let m = c.self.inside.tables in
    let name = c.in_ok-name.name in
    let same = c.in_ok-name.ensures.ok ∙ c.name.ensures in
    let after : is_table_after (values_of m.entries) c.args.table ≡ true = ap (λ tables. is_table_after tables c.args.table) c.self.view_is ∙ c.requires.well_formed in
    let absent = lookup-absent (string_bytes name) m.entries c.self.invariant.0 (rw same (name_is_new (values_of m.entries) c.args.table after)) in
    let entries = c.in_ok-insert.ensures.entries ∙ insert_entry-new string_eq m name c.args.table absent in
    ap values_of entries ∙ values_of-push m.entries (name, c.args.table) ∙ ap (λ front. front ++ c.args.table ∷ []) c.self.view_is
