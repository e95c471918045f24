-- The last commit of a key, after an install and after commits one after another.
use Rattle.std.proofs.Common.{◌≡◌, refl, sym, ap, ◌∙◌, ℕ, ◌+◌, ◌<◌, ◌==◌, Bool, true, false, cond, ◌&&◌, ◌||◌, List, [], ◌∷◌, map, length, Option, Some, None, set, arith}
use Rattle.std.specs.Prelude.{find}
use Rattle.std.specs.Option.{option_map, option_or, option_and_then}
use Rattle.std.specs.FinMap as finmap
use Rattle.std.specs.Ordering.{is_eq, match_ordering}
use Rattle.std.specs.declared.cmp.Ordering.{Ordering}
use Rattle.std.specs.declared.cmp.Ordering.TheVariants.{Less, Equal, Greater}
use Rattle.std.proofs.lemmas.Bool.{eqb-true, eqb-false}
use Rattle.std.proofs.lemmas.Grind.{get_or-set_at}
use Rattle.std.proofs.lemmas.List.{get_or-set_other, length-set}
use Rattle.value.specs.Order.{value_cmp, value_cmp-exact}
use Rattle.value.specs.declared.value.Value.{Value}
use Rattle.schema.specs.declared.changes.Change.{Change}
use Rattle.schema.specs.declared.row.Row.{Row}
use Rattle.schema.specs.declared.tables.Tables.{Tables}
use Rattle.schema.specs.Plain.{same, rows_of, row_at}
use Rattle.schema.proofs.PlainLemmas.{same_value}
use Rattle.mvrows.specs.Versions.{Version, VersionedRows, versions_of, newest_version, newest_in, newest}
use Rattle.mvrows.specs.Installing.{opened_row, opened, first_version, newer, put_version, install_change, installed}
use Rattle.mvrows.specs.Commits.{changes_key, installed_from, last_change}
use Rattle.mvrows.proofs.VersionLemmas.{get_or-map}

module _ {A : Type 0} where
  -- ---- one version put in

  apart : (key k r : Value A) → value_cmp k r ≡ Greater → same key k ≡ true → same key r ≡ false
  apart key k r above is = ap (λ x. same x r) (same_value key k is) ∙ ap is_eq above

  newest_in-put : (k : Value A) (v : Version A) (rows : VersionedRows A) (key : Value A) → newest_in (put_version k v rows) key ≡ cond (same key k) (Some v.number) (newest_in rows key)
  newest_in-put k v [] key = by_key (same key k)
    where
      by_key : (b : Bool) → option_and_then newest_version (cond b (Some (first_version k v)) None) ≡ cond b (Some v.number) None
      by_key true = refl
      by_key false = refl
  newest_in-put k v (r ∷ rs) key = by_order (value_cmp k r.key) refl (newest_in-put k v rs key)
    where
      first : (b : Bool) → option_and_then newest_version (cond b (Some (first_version k v)) (find (λ l. same key l.key) (r ∷ rs))) ≡ cond b (Some v.number) (newest_in (r ∷ rs) key)
      first true = refl
      first false = refl

      tied : (b : Bool) → option_and_then newest_version (cond b (Some (newer v r)) (find (λ l. same key l.key) rs)) ≡ cond b (Some v.number) (option_and_then newest_version (cond b (Some r) (find (λ l. same key l.key) rs)))
      tied true = refl
      tied false = refl

      later : (b d : Bool) → (d ≡ true → b ≡ false) → newest_in (put_version k v rs) key ≡ cond d (Some v.number) (newest_in rs key)
          → option_and_then newest_version (cond b (Some r) (find (λ l. same key l.key) (put_version k v rs))) ≡ cond d (Some v.number) (option_and_then newest_version (cond b (Some r) (find (λ l. same key l.key) rs)))
      later true true not_both rest = absurd (differs (not_both refl))
        where
          differs : true ≡ false → ⊥
          differs h = cc
      later true false not_both rest = refl
      later false d not_both rest = rest

      by_order : (o : Ordering) → value_cmp k r.key ≡ o → newest_in (put_version k v rs) key ≡ cond (same key k) (Some v.number) (newest_in rs key)
          → newest_in (match_ordering o (first_version k v ∷ r ∷ rs) (newer v r ∷ rs) (r ∷ put_version k v rs)) key ≡ cond (same key k) (Some v.number) (newest_in (r ∷ rs) key)
      by_order Less is rest = first (same key k)
      by_order Equal is rest =
          let k_is : same key r.key ≡ same key k = ap (same key) (sym (value_cmp-exact k r.key is)) in
          tied (same key r.key) ∙ ap (λ b. cond b (Some v.number) (newest_in (r ∷ rs) key)) k_is
      by_order Greater is rest = later (same key r.key) (same key k) (apart key k r.key is) rest

  -- ---- one change installed

  versions-put : (f : VersionedRows A → VersionedRows A) (tables : List (VersionedRows A)) (u t : ℕ) → t < length tables → versions_of (set tables u (f (versions_of tables u))) t ≡ cond (u == t) (f (versions_of tables t)) (versions_of tables t)
  versions-put f tables u t lt = go (u == t) refl
    where
      go : (b : Bool) → (u == t) ≡ b → versions_of (set tables u (f (versions_of tables u))) t ≡ cond b (f (versions_of tables t)) (versions_of tables t)
      go true e =
          let is : u ≡ t = eqb-true u t e in
          get_or-set_at tables u t _ [] (sym is) (omega (arith, is, lt)) ∙ ap (λ n. f (versions_of tables n)) is
      go false e = get_or-set_other tables u t _ [] (λ h. eqb-false u t e (sym h))

  newest-change : (commit : ℕ) (x : Change A) (tables : List (VersionedRows A)) (t : ℕ) (key : Value A) → t < length tables → newest (install_change commit x tables) t key ≡ cond (x.table == t && same key x.key) (Some commit) (newest tables t key)
  newest-change commit x tables t key lt = ap (λ rows. newest_in rows key) (versions-put put tables x.table t lt) ∙ go (x.table == t)
    where
      put : VersionedRows A → VersionedRows A
      put rows = put_version x.key (record { number = commit; fields = x.fields }) rows

      go : (b : Bool) → newest_in (cond b (put (versions_of tables t)) (versions_of tables t)) key ≡ cond (b && same key x.key) (Some commit) (newest tables t key)
      go true = newest_in-put x.key (record { number = commit; fields = x.fields }) (versions_of tables t) key
      go false = refl

  -- ---- all changes of a commit

  length-change : (commit : ℕ) (x : Change A) (tables : List (VersionedRows A)) → length (install_change commit x tables) ≡ length tables
  length-change commit x tables = length-set tables x.table _

  pub length-installed : (commit : ℕ) (xs : List (Change A)) (tables : List (VersionedRows A)) → length (installed commit xs tables) ≡ length tables
  length-installed commit [] tables = refl
  length-installed commit (x ∷ xs) tables = length-installed commit xs (install_change commit x tables) ∙ length-change commit x tables

  pub newest-installed : (commit : ℕ) (xs : List (Change A)) (tables : List (VersionedRows A)) (t : ℕ) (key : Value A) → t < length tables → newest (installed commit xs tables) t key ≡ cond (changes_key xs t key) (Some commit) (newest tables t key)
  newest-installed commit [] tables t key lt = refl
  newest-installed commit (x ∷ xs) tables t key lt =
      newest-installed commit xs (install_change commit x tables) t key (omega (arith, lt, length-change commit x tables))
      ∙ ap (cond (changes_key xs t key) (Some commit)) (newest-change commit x tables t key lt)
      ∙ either (x.table == t && same key x.key) (changes_key xs t key)
    where
      either : (b d : Bool) → cond d (Some commit) (cond b (Some commit) (newest tables t key)) ≡ cond (b || d) (Some commit) (newest tables t key)
      either true true = refl
      either true false = refl
      either false d = refl

  -- ---- commits one after another

  pub newest-last : (n : ℕ) (commits : List (List (Change A))) (tables : List (VersionedRows A)) (t : ℕ) (key : Value A) → t < length tables → newest (installed_from n commits tables) t key ≡ option_or (last_change n commits t key) (newest tables t key)
  newest-last n [] tables t key lt = refl
  newest-last n (xs ∷ commits) tables t key lt =
      newest-last (n + 1) commits (installed n xs tables) t key (omega (arith, lt, length-installed n xs tables))
      ∙ ap (option_or (last_change (n + 1) commits t key)) (newest-installed n xs tables t key lt)
      ∙ either (last_change (n + 1) commits t key) (changes_key xs t key)
    where
      either : (o : Option ℕ) (b : Bool) → option_or o (cond b (Some n) (newest tables t key)) ≡ option_or (option_or o (cond b (Some n) None)) (newest tables t key)
      either (Some m) b = refl
      either None true = refl
      either None false = refl

  -- ---- the opening

  newest_in-opened : (rows : List (Row A)) (key : Value A) → newest_in (map opened_row rows) key ≡ option_map (λ _. 0) (finmap.find value_cmp key rows)
  newest_in-opened [] key = refl
  newest_in-opened (row ∷ rows) key = by_key (same key row.0) (newest_in-opened rows key)
    where
      by_key : (b : Bool) → newest_in (map opened_row rows) key ≡ option_map (λ _. 0) (finmap.find value_cmp key rows)
          → option_and_then newest_version (cond b (Some (opened_row row)) (find (λ l. same key l.key) (map opened_row rows))) ≡ option_map (λ _. 0) (cond b (Some row.1) (finmap.find value_cmp key rows))
      by_key true rest = refl
      by_key false rest = rest

  pub newest-opened : (tables : Tables A) (t : ℕ) (key : Value A) → newest (opened tables) t key ≡ option_map (λ _. 0) (row_at tables t key)
  newest-opened tables t key = ap (λ rows. newest_in rows key) (get_or-map (map opened_row) tables t []) ∙ newest_in-opened (rows_of tables t) key
