-- Keys that a commit has changed, settled in all tables.
use Rattle.std.proofs.Common.{suc, zero, ◌≡◌, refl, sym, ap, subst, ◌∙◌, ℕ, ◌+◌, ◌<◌, Bool, true, false, cond, List, [], ◌∷◌, drop, length, Some, None, get_or, set, arith}
use Rattle.std.specs.Prelude.{IfSome, nat_le}
use Rattle.std.specs.List.{AllByRecursion}
use Rattle.std.specs.Ordering.{match_ordering}
use Rattle.std.specs.declared.cmp.Ordering.{Ordering}
use Rattle.std.specs.declared.cmp.Ordering.TheVariants.{Less, Equal, Greater}
use Rattle.std.proofs.lemmas.Bool.{le-leb}
use Rattle.std.proofs.lemmas.Cmp.{tied_itself}
use Rattle.std.proofs.lemmas.List.{map-set}
use Rattle.value.specs.Order.{value_cmp, value_cmp-total}
use Rattle.value.specs.declared.value.Value.{Value}
use Rattle.value.proofs.Basics.{all-get, all-set, drop_next}
use Rattle.schema.specs.declared.changes.Change.{Change}
use Rattle.schema.specs.Plain.{same}
use Rattle.mvrows.specs.Versions.{Version, VersionedRows, versions_of}
use Rattle.mvrows.specs.Installing.{first_version, newer, put_version, install_change, installed}
use Rattle.mvrows.specs.Settling.{Needed, found, settle_key, settle_change, settled}
use Rattle.mvrows.specs.Fresh.{is_from, IsFresh, AreFresh}
use Rattle.mvrows.specs.HeldRows.{Held, rows_in, rows_held, AreUndoable}
use Rattle.mvrows.proofs.SettlingLemmas.{set-kept}

module _ {A : Type 0} where
  -- ---- a version put in is fresh

  from-itself : (commit : ℕ) (v : Version A) → v.number ≡ commit → nat_le commit v.number ≡ true
  from-itself commit v is = le-leb commit v.number (omega (arith, is))

  -- the key that it is put in for
  put-own_fresh : (commit : ℕ) (k : Value A) (v : Version A) (rows : VersionedRows A) → v.number ≡ commit → IsFresh commit k (put_version k v rows)
  put-own_fresh commit k v [] is = if_same (same k k)
    where
      if_same : (b : Bool) → IfSome (cond b (Some (first_version k v)) None) (λ r. is_from commit r ≡ true)
      if_same true = from-itself commit v is
      if_same false = tt
  put-own_fresh commit k v (r ∷ rs) is = by_order (value_cmp k r.key) refl (put-own_fresh commit k v rs is)
    where
      by_order : (o : Ordering) → value_cmp k r.key ≡ o → IsFresh commit k (put_version k v rs) → IsFresh commit k (match_ordering o (first_version k v ∷ r ∷ rs) (newer v r ∷ rs) (r ∷ put_version k v rs))
      by_order Less e rest = rw (tied_itself value_cmp-total k) (from-itself commit v is)
      by_order Equal e rest = rw e (from-itself commit v is)
      by_order Greater e rest = rw e rest

  -- any other stays fresh
  put-stays_fresh : (commit : ℕ) (k : Value A) (v : Version A) (rows : VersionedRows A) (key : Value A) → v.number ≡ commit → IsFresh commit key rows → IsFresh commit key (put_version k v rows)
  put-stays_fresh commit k v [] key is fresh = if_same (same key k)
    where
      if_same : (b : Bool) → IfSome (cond b (Some (first_version k v)) None) (λ r. is_from commit r ≡ true)
      if_same true = from-itself commit v is
      if_same false = tt
  put-stays_fresh commit k v (r ∷ rs) key is fresh = by_order (value_cmp k r.key) fresh (λ rest. put-stays_fresh commit k v rs key is rest)
    where
      first : (b : Bool) → IfSome (found key (r ∷ rs)) (λ x. is_from commit x ≡ true) → IfSome (cond b (Some (first_version k v)) (found key (r ∷ rs))) (λ x. is_from commit x ≡ true)
      first true p = from-itself commit v is
      first false p = p

      tied : (b : Bool) → IfSome (cond b (Some r) (found key rs)) (λ x. is_from commit x ≡ true) → IfSome (cond b (Some (newer v r)) (found key rs)) (λ x. is_from commit x ≡ true)
      tied true p = from-itself commit v is
      tied false p = p

      later : (b : Bool) → IfSome (cond b (Some r) (found key rs)) (λ x. is_from commit x ≡ true) → (IsFresh commit key rs → IsFresh commit key (put_version k v rs)) → IfSome (cond b (Some r) (found key (put_version k v rs))) (λ x. is_from commit x ≡ true)
      later true p rest = p
      later false p rest = rest p

      by_order : (o : Ordering) → IfSome (found key (r ∷ rs)) (λ x. is_from commit x ≡ true) → (IsFresh commit key rs → IsFresh commit key (put_version k v rs)) → IsFresh commit key (match_ordering o (first_version k v ∷ r ∷ rs) (newer v r ∷ rs) (r ∷ put_version k v rs))
      by_order Less p rest = first (same key k) p
      by_order Equal p rest = tied (same key r.key) p
      by_order Greater p rest = later (same key r.key) p rest

  -- ---- the keys that a commit has changed are fresh

  abbrev IsFreshChange : ℕ → List (VersionedRows A) → Change A → Type 0
  IsFreshChange commit tables x = IsFresh commit x.key (versions_of tables x.table)

  install-own_fresh : (commit : ℕ) (x : Change A) (tables : List (VersionedRows A)) → IsFreshChange commit (install_change commit x tables) x
  install-own_fresh commit x tables = go tables x.table
    where
      go : (ts : List (VersionedRows A)) (t : ℕ) → IsFresh commit x.key (versions_of (set ts t (put_version x.key (record { number = commit; fields = x.fields }) (versions_of ts t))) t)
      go [] t = tt
      go (rows ∷ ts) zero = put-own_fresh commit x.key (record { number = commit; fields = x.fields }) rows refl
      go (rows ∷ ts) (suc t) = go ts t

  install-stays_fresh : (commit : ℕ) (x y : Change A) (tables : List (VersionedRows A)) → IsFreshChange commit tables y → IsFreshChange commit (install_change commit x tables) y
  install-stays_fresh commit x y tables =
      set-kept (λ old new. IsFresh commit y.key old → IsFresh commit y.key new) (λ rows p. p) tables x.table y.table [] _
      (put-stays_fresh commit x.key (record { number = commit; fields = x.fields }) (versions_of tables x.table) y.key refl)

  installed-stays_fresh : (commit : ℕ) (xs : List (Change A)) (y : Change A) (tables : List (VersionedRows A)) → IsFreshChange commit tables y → IsFreshChange commit (installed commit xs tables) y
  installed-stays_fresh commit [] y tables fresh = fresh
  installed-stays_fresh commit (x ∷ xs) y tables fresh = installed-stays_fresh commit xs y (install_change commit x tables) (install-stays_fresh commit x y tables fresh)

  installed-fresh : (commit : ℕ) (xs : List (Change A)) (tables : List (VersionedRows A)) → AllByRecursion (IsFreshChange commit (installed commit xs tables)) xs
  installed-fresh commit [] tables = tt
  installed-fresh commit (x ∷ xs) tables = (installed-stays_fresh commit xs x (install_change commit x tables) (install-own_fresh commit x tables), installed-fresh commit xs (install_change commit x tables))

  pub fresh-installed : (commit : ℕ) (xs : List (Change A)) (tables : List (VersionedRows A)) (new : List (List (Held A))) → AllByRecursion (AreUndoable commit) new → rows_held new ≡ installed commit xs tables → AreFresh xs new
  fresh-installed commit xs tables new undoable is = record {
    commit = commit;
    undoable = undoable;
    fresh = subst (λ ts. AllByRecursion (IsFreshChange commit ts) xs) (sym is) (installed-fresh commit xs tables);
  }

  -- ---- one of them is settled

  held-at : (tables : List (List (Held A))) (t : ℕ) (old : List (Held A)) → t < length tables → old ≡ get_or tables t old → versions_of (rows_held tables) t ≡ rows_in old
  held-at [] t old lt at = absurd (omega arith)
  held-at (h ∷ hs) zero old lt at = ap rows_in (sym at)
  held-at (h ∷ hs) (suc t) old lt at = held-at hs t old (omega arith) at

  pub settled-held : (needed : Needed) (x : Change A) (tables : List (List (Held A))) (t : ℕ) (old h : List (Held A)) (key : Value A) → t ≡ x.table → key ≡ x.key → t < length tables → old ≡ get_or tables t old → rows_in h ≡ settle_key needed key (rows_in old)
      → rows_held (set tables t h) ≡ settle_change needed x (rows_held tables)
  settled-held needed x tables t old h key place is lt at made =
      map-set rows_in tables t h
      ∙ ap (set (rows_held tables) t) (made ∙ ap (λ k. settle_key needed k (rows_in old)) is ∙ ap (settle_key needed x.key) (sym (held-at tables t old lt at)))
      ∙ ap (λ n. set (rows_held tables) n (settle_key needed x.key (versions_of (rows_held tables) n))) place

  -- the others stay fresh
  pub fresh-set : (xs : List (Change A)) (tables : List (List (Held A))) (t : ℕ) (old h : List (Held A)) → t < length tables → old ≡ get_or tables t old → ((commit : ℕ) → AreUndoable commit old → AreUndoable commit h) → ((commit : ℕ) (k : Value A) → IsFresh commit k (rows_in old) → IsFresh commit k (rows_in h))
      → AreFresh xs tables → AreFresh xs (set tables t h)
  fresh-set xs tables t old h lt at undo stays f = record {
    commit = f.commit;
    undoable = all-set (AreUndoable f.commit) tables t h (undo f.commit (all-get (AreUndoable f.commit) tables t old lt at f.undoable)) f.undoable;
    fresh = subst (λ ts. AllByRecursion (IsFreshChange f.commit ts) xs) (sym (map-set rows_in tables t h)) (each xs f.fresh);
  }
    where
      each : (ys : List (Change A)) → AllByRecursion (IsFreshChange f.commit (rows_held tables)) ys → AllByRecursion (IsFreshChange f.commit (set (rows_held tables) t (rows_in h))) ys
      each [] all = tt
      each (y ∷ ys) all = (
        set-kept (λ o n. IsFresh f.commit y.key o → IsFresh f.commit y.key n) (λ rows p. p) (rows_held tables) t y.table [] (rows_in h)
            (λ p. stays f.commit y.key (subst (IsFresh f.commit y.key) (held-at tables t old lt at) p)) all.0,
        each ys all.1,
      )

  -- ---- all of them, one after another

  pub fresh-item : (xs : List (Change A)) (i : ℕ) (x : Change A) (tables : List (List (Held A))) → i < length xs → x ≡ get_or xs i x → AreFresh xs tables → AreFresh (x ∷ []) tables
  fresh-item xs i x tables lt at f = record { commit = f.commit; undoable = f.undoable; fresh = (all-get (IsFreshChange f.commit (rows_held tables)) xs i x lt at f.fresh, tt) }

  pub settled-step : (needed : Needed) (xs : List (Change A)) (i : ℕ) (x : Change A) (old new : List (List (Held A))) (whole : List (VersionedRows A)) → i < length xs → x ≡ get_or xs i x → rows_held new ≡ settle_change needed x (rows_held old)
      → settled needed (drop i xs) (rows_held old) ≡ whole → settled needed (drop (i + 1) xs) (rows_held new) ≡ whole
  settled-step needed xs i x old new whole lt at made so_far =
      ap (settled needed (drop (i + 1) xs)) made ∙ ap (λ ys. settled needed ys (rows_held old)) (sym (drop_next xs i x lt at)) ∙ so_far
