-- The versions that a core keeps for its history.
use Rattle.std.proofs.Common.{◌≡◌, refl, sym, ap, subst, ◌∙◌, ℕ, suc, ◌+◌, ◌-◌, true, true≢false, Result, Ok, Err, List, [], ◌∷◌, map, take, arith}
use Rattle.std.proofs.lemmas.Bool.{and_parts}
use Rattle.std.specs.List.{AllByRecursion}
use Rattle.std.specs.Result.{OnErr, OnOk}
use Rattle.value.specs.declared.refusal.Refusal.{Refusal}
use Rattle.std.specs.List.Sorted.{IsStrictlySortedBy}
use Rattle.std.specs.FinMap.{is_sorted}
use Rattle.std.specs.FinMap.Entries.{below_all}
use Rattle.std.specs.Ordering.{is_lt}
use Rattle.std.specs.declared.cmp.Ordering.TheVariants.{Less}
use Rattle.value.specs.declared.value.Value.{Value}
use Rattle.value.specs.Order.{value_cmp}
use Rattle.value.proofs.Basics.{Less-from_lt}
use Rattle.schema.specs.Definition.{Catalog}
use Rattle.schema.specs.declared.tables.Tables.{Tables}
use Rattle.schema.specs.Plain.{is_sound, is_sound_table, sound_tables}
use Rattle.schema.specs.Rows.{Rows, IsInKeyOrder}
use Rattle.mvrows.specs.Versions.{VersionedRows}
use Rattle.mvrows.specs.Installing.{opened}
use Rattle.mvrows.proofs.VersionLemmas.{shown-opened}
use Rattle.mvrows.specs.Pruning.{pruned}
use Rattle.mvrows.proofs.HeldLemmas.{opened-all_in_order, opened-below}
use Rattle.mvrows.proofs.PruningLemmas.{pruned-below, pruned-in_order, shown-pruned}
use Rattle.history.specs.Opening.{Recorded}
use Rattle.history.specs.Transactions.{tables_at, with_all}
use Rattle.history.specs.Events.{world_of}
use Rattle.transactions.specs.Ledger.{Ledger}
use Rattle.transactions.specs.Merged.{AreInKeyOrder}
use Rattle.transactions.specs.Versions.{lowest, next_commit}
use Rattle.transactions.proofs.InstallLemmas.{lowest-read}
use Rattle.session.specs.Core.{HoldsRows}

module _ {A : Type 0} where
  -- ---- sound tables are in key order

  below_from : (k : Value A) (rows : Rows A) → below_all value_cmp k rows ≡ true → AllByRecursion (λ l. value_cmp k l ≡ Less) (map (λ row. row.0) rows)
  below_from k [] below = tt
  below_from k (row ∷ rows) below =
      let p = and_parts (is_lt (value_cmp k row.0)) (below_all value_cmp k rows) below in
      (Less-from_lt (value_cmp k row.0) p.0, below_from k rows p.1)

  in_order_from : (rows : Rows A) → is_sorted value_cmp rows ≡ true → IsInKeyOrder rows
  unfolding IsStrictlySortedBy
  in_order_from [] sorted = tt
  in_order_from (row ∷ rows) sorted =
      let p = and_parts (below_all value_cmp row.0 rows) (is_sorted value_cmp rows) sorted in
      (below_from row.0 rows p.0, in_order_from rows p.1)

  sound_in_order : (X : Tables A) (c : Catalog) (Y : Tables A) → sound_tables X c Y ≡ true → AreInKeyOrder Y
  sound_in_order X c [] sound = tt
  sound_in_order X [] (rows ∷ Y) sound = absurd (true≢false (sym sound))
  sound_in_order X (d ∷ ds) (rows ∷ Y) sound =
      let p = and_parts (is_sound_table X d rows) (sound_tables X ds Y) sound in
      (in_order_from rows (and_parts (is_sorted value_cmp rows) _ p.0).0, sound_in_order X ds Y p.1)

  -- ---- an opening

  none_of : (n : ℕ) (X : Tables A) → X ≡ with_all (take n []) X
  none_of Rattle.std.proofs.Common.zero X = refl
  none_of (suc n) X = refl

  pub rows_opened : (h : Recorded A) (l : Ledger A) (rows : List (VersionedRows A)) → h.records ≡ [] → is_sound h.opening.catalog h.opening.tables ≡ true → l ≡ record { base = h.opening.base; txns = []; exports = []; place = h.opening.base.events } → rows ≡ opened h.opening.tables → HoldsRows h l rows
  rows_opened h l rows none sound e f = subst (HoldsRows h l) (sym f) (subst (λ (m : Ledger A). HoldsRows h m (opened h.opening.tables)) (sym e) (record {
    current = record {
      order = opened-all_in_order h.opening.tables (sound_in_order h.opening.tables h.opening.catalog h.opening.tables sound);
      below = opened-below (h.opening.base.commits + 1) h.opening.tables (omega arith);
    };
    shown = λ n _. shown-opened n h.opening.tables ∙ none_of (n - h.opening.base.commits) h.opening.tables ∙ sym (ap (λ es. tables_at (world_of h.opening es) n) none);
  }))

  -- ---- a pruning

  -- what no snapshot that may still be read shows can go
  pub rows_pruned : (h : Recorded A) (l : Ledger A) (rows : List (VersionedRows A)) → HoldsRows h l rows → HoldsRows h l (pruned (lowest l) rows)
  rows_pruned h l rows held = record {
    current = record { order = pruned-in_order (lowest l) rows held.current.order; below = pruned-below (next_commit l) (lowest l) rows held.current.below };
    shown = λ n read. shown-pruned (lowest l) n rows (lowest-read l n read) ∙ held.shown n read;
  }

  -- done, or refused because memory ran out
  pub rows_prune : {T : Type 0} (h : Recorded A) (l : Ledger A) (rows more : List (VersionedRows A)) (n : ℕ) (g : Result T Refusal) → n ≡ lowest l → HoldsRows h l rows → OnOk g (more ≡ pruned n rows) → OnErr g (more ≡ rows) → HoldsRows h l more
  rows_prune h l rows more n (Ok x) e held done back = subst (HoldsRows h l) (sym (done ∙ ap (λ k. pruned k rows) e)) (rows_pruned h l rows held)
  rows_prune h l rows more n (Err x) e held done back = subst (HoldsRows h l) (sym back) held
