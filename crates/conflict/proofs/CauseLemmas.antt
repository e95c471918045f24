-- Structures and dooms, found from the front of a list.
use Rattle.std.proofs.Common.{◌≡◌, refl, sym, ap, ◌∙◌, Bool, true, false, cond, ◌&&◌, List, [], ◌∷◌, ◌++◌, Option, Some, None, nat_lt, nat_le}
use Rattle.std.specs.List.{filter}
use Rattle.std.specs.Option.{option_map}
use Rattle.value.specs.Isolation.{Node, caused, earlier, earliest, is_dangerous}
use Rattle.value.proofs.Basics.{nat_lt-trans, not_nat_lt-trans}
use Rattle.conflict.specs.Earliest.{first_of}

-- ---- the first to commit

-- the first to commit of a transaction and of those after it
abbrev earlier_of : Node → Option Node → Node
earlier_of n None = n
earlier_of n (Some m) = cond (nat_lt m.commit n.commit) m n

earlier_first : (n : Node) (o : Option Node) (m : Node) → earlier_of n (Some (first_of o m)) ≡ first_of (Some (earlier_of n o)) m
earlier_first n None m = refl
earlier_first n (Some k) m = go (nat_lt m.commit k.commit) refl (nat_lt k.commit n.commit) refl
  where
    go : (b : Bool) → nat_lt m.commit k.commit ≡ b → (d : Bool) → nat_lt k.commit n.commit ≡ d
        → cond (nat_lt (cond b m k).commit n.commit) (cond b m k) n ≡ cond (nat_lt m.commit (cond d k n).commit) m (cond d k n)
    go true p true q = ap (λ b. cond b m n) (nat_lt-trans m.commit k.commit n.commit p q) ∙ sym (ap (λ b. cond b m k) p)
    go true p false q = refl
    go false p true q = ap (λ b. cond b k n) q ∙ sym (ap (λ b. cond b m k) p)
    go false p false q = ap (λ b. cond b k n) q ∙ sym (ap (λ b. cond b m n) (not_nat_lt-trans m.commit k.commit n.commit p q))

module _ {T : Type 0} (node : T → Node) (edge : T → T → Bool) where
  node-earlier : (x : T) (o : Option T) → node (earlier node edge x o) ≡ earlier_of (node x) (option_map node o)
  node-earlier x None = refl
  node-earlier x (Some y) = go (nat_lt (node y).commit (node x).commit)
    where
      go : (b : Bool) → node (cond b y x) ≡ cond b (node y) (node x)
      go true = refl
      go false = refl

  pub earliest-push : (xs : List T) (x : T) → option_map node (earliest node edge (xs ++ x ∷ [])) ≡ Some (first_of (option_map node (earliest node edge xs)) (node x))
  earliest-push [] x = refl
  earliest-push (y ∷ ys) x =
      ap Some (node-earlier y (earliest node edge (ys ++ x ∷ [])) ∙ ap (earlier_of (node y)) (earliest-push ys x)
      ∙ earlier_first (node y) (option_map node (earliest node edge ys)) (node x)
      ∙ ap (λ n. first_of (Some n) (node x)) (sym (node-earlier y (earliest node edge ys))))

  -- ---- structures

  no_edge : (a b c d e f g : Bool) → d ≡ false → (a && b && c && d && e && f && g) ≡ false
  no_edge true true true d e f g q = ap (λ x. x && e && f && g) q
  no_edge true true false d e f g q = refl
  no_edge true false c d e f g q = refl
  no_edge false b c d e f g q = refl

  none_dangerous : (a b : T) → edge a b ≡ false → (ts : List T) → filter (is_dangerous node edge a b) ts ≡ []
  none_dangerous a b e [] = refl
  none_dangerous a b e (c ∷ ts) =
      ap (λ x. cond x (c ∷ filter (is_dangerous node edge a b) ts) (filter (is_dangerous node edge a b) ts))
      (no_edge (node a).committed (node b).committed (node c).committed (edge a b) (edge b c) (nat_lt (node c).commit (node b).commit) (nat_le (node c).commit (cond (node a).read_write (node a).commit (node a).snapshot)) e)
      ∙ none_dangerous a b e ts

  -- without an edge there is none
  pub caused-none : (a b : T) (ts : List T) → edge a b ≡ false → None ≡ caused node edge a b (earliest node edge (filter (is_dangerous node edge a b) ts))
  caused-none a b ts e = sym (ap (λ xs. caused node edge a b (earliest node edge xs)) (none_dangerous a b e ts))
