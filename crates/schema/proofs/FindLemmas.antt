-- What is of a key, in a page and among all pages.
use Rattle.std.proofs.Common.{suc, ◌≡◌, refl, sym, ap, subst, ◌∙◌, ℕ, ◌+◌, ◌<◌, Bool, true, false, List, [], ◌∷◌, ◌++◌, take, drop, length, Option, Some, None, get_or}
use Rattle.std.specs.Prelude.{find, slice_get}
use Rattle.std.specs.List.{AllByRecursion, flat_map}
use Rattle.std.specs.Option.{option_or}
use Rattle.std.specs.Ordering.{is_le}
use Rattle.std.specs.declared.cmp.Ordering.TheVariants.{Less}
use Rattle.std.proofs.lemmas.List.{take-append-drop}
use Rattle.std.proofs.lemmas.List.Folds.{find-append}
use Rattle.value.specs.Order.{value_cmp}
use Rattle.value.specs.declared.value.Value.{Value}
use Rattle.value.proofs.Basics.{Greater-from_le, Less-from_le, slice_get-drop, slice_get-none}
use Rattle.schema.specs.Pages.{IsInOrder, IsLeast, IsBehind, IsPlaced}
use Rattle.schema.specs.Plain.{same}
use Rattle.schema.proofs.PageLemmas.{least-after, in_order-drop}
use Rattle.schema.proofs.PagedLemmas.{flat-split}

or-none : {X : Type 0} (o : Option X) → option_or o None ≡ o
or-none None = refl
or-none (Some x) = refl

module _ {A T : Type 0} (key : T → Value A) where
  abbrev is_key : Value A → T → Bool
  is_key k x = same k (key x)

  -- a key below all is none of them
  pub find-none_above : (k : Value A) (items : List T) → IsLeast key k items → find (is_key k) items ≡ None
  find-none_above k [] least = refl
  find-none_above k (x ∷ xs) least = rw least.0 (find-none_above k xs least.1)

  -- nor is one above all
  find-none_before : (k : Value A) (items : List T) → IsBehind key k items → find (is_key k) items ≡ None
  find-none_before k [] behind = refl
  find-none_before k (x ∷ xs) behind = rw (Greater-from_le (value_cmp k (key x)) behind.0) (find-none_before k xs behind.1)

  -- ---- by its place

  find-early : (k : Value A) (i : ℕ) (items : List T) → IsBehind key k (take i items) → find (is_key k) items ≡ find (is_key k) (drop i items)
  find-early k i items early =
      ap (find (is_key k)) (sym (take-append-drop i items))
      ∙ find-append (is_key k) (take i items) (drop i items)
      ∙ ap (λ o. option_or o (find (is_key k) (drop i items))) (find-none_before k (take i items) early)

  pub find-here : (k : Value A) (i : ℕ) (items : List T) (x : T) → IsBehind key k (take i items) → slice_get items i ≡ Some x → same k (key x) ≡ true → find (is_key k) items ≡ Some x
  find-here k i items x early at is = find-early k i items early ∙ ap (find (is_key k)) (slice_get-drop items i x at) ∙ rw is refl

  pub find-missing : (k : Value A) (i : ℕ) (items : List T) (x : T) → IsInOrder key items → IsBehind key k (take i items) → AllByRecursion (λ y. is_le (value_cmp k (key y)) ≡ true) (drop i items) → slice_get items i ≡ Some x → same k (key x) ≡ false → None ≡ find (is_key k) items
  find-missing k i items x sorted early late at isnt =
      let cut = slice_get-drop items i x at in
      let late_here = subst (AllByRecursion (λ (y : T). is_le (value_cmp k (key y)) ≡ true)) cut late in
      let below : value_cmp k (key x) ≡ Less = Less-from_le (value_cmp k (key x)) late_here.0 isnt in
      let none = find-none_above k (x ∷ drop (suc i) items) (least-after key k x (drop (suc i) items) (subst (IsInOrder key) cut (in_order-drop key i items sorted)) below) in
      sym (find-early k i items early ∙ ap (find (is_key k)) cut ∙ none)

  pub find-past : (k : Value A) (i : ℕ) (items : List T) → IsBehind key k (take i items) → slice_get items i ≡ None → None ≡ find (is_key k) items
  find-past k i items early at = sym (find-early k i items early ∙ ap (find (is_key k)) (slice_get-none items i at))

module _ {A T H : Type 0} (key : T → Value A) (items : H → List T) where
  -- it stands in the page that the key belongs to
  pub find-in : (k : Value A) (pages : List H) (i : ℕ) (page : H) → i < length pages → page ≡ get_or pages i page → IsPlaced key items k pages i → find (is_key key k) (items page) ≡ find (is_key key k) (flat_map items pages)
  find-in k pages i page lt at p =
      let rest : List T = flat_map items (drop (i + 1) pages) in
      let found : Option T = find (is_key key k) (items page) in
      sym (
      ap (find (is_key key k)) (flat-split items pages i page lt at)
      ∙ find-append (is_key key k) (flat_map items (take i pages)) (items page ++ rest)
      ∙ ap (λ o. option_or o (find (is_key key k) (items page ++ rest))) (find-none_before key k (flat_map items (take i pages)) p.before)
      ∙ find-append (is_key key k) (items page) rest
      ∙ ap (option_or found) (find-none_above key k rest p.after)
      ∙ or-none found)
