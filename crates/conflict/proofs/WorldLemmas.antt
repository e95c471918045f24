-- What is asked of a world is what is asked of those of it that are tracked.
use Rattle.std.proofs.Common.{◌≡◌, refl, sym, ap, ◌∙◌, ℕ, min, Bool, true, false, cond, not, ◌&&◌, ◌||◌, ◌⊎◌, inl, inr, List, [], ◌∷◌, ◌++◌, map, fold, Option, Some, None, nat_lt, nat_le, arith, append-nil}
use Rattle.std.proofs.lemmas.Bool.{ltb-false, ltb-true, and_from}
use Rattle.std.proofs.lemmas.Bool.Decides.{nat_tests}
use Rattle.std.specs.List.{filter, find, list_any}
use Rattle.std.specs.Option.{option_map, option_to_list}
use Rattle.value.specs.declared.refusal.Cause.{Cause}
use Rattle.value.specs.Isolation.{Node, bound, cause_from, dooms, earlier, earliest, first_cause, first_part, is_dangerous, is_doomed, is_first, is_live, is_other, with_doom}
use Rattle.value.proofs.IsolationLemmas.{In}
use Rattle.value.proofs.Basics.{fold-same_in, find-map, find-same_in, filter-map}
use Rattle.conflict.specs.Tracked.{Each, Party, edge, least_out, node, reads}
use Rattle.conflict.specs.World.{AreIdle, AreSpared, IsSafeReader, first_commit_out, least_of, shows}
use Rattle.value.proofs.Lists.{clash, filter_alike, filter-kept, find-alike, fold-alike, fold-kept}
use Rattle.conflict.proofs.EachOf.{Each-In}
use Rattle.value.proofs.Structures.{cause-kept, earliest-map, parts}

-- ---- lists

fold-map : {X Y B : Type 0} (f : X → Y) (g : B → Y → B) (b : B) (xs : List X) → fold g b (map f xs) ≡ fold (λ c x. g c (f x)) b xs
fold-map f g b [] = refl
fold-map f g b (x ∷ xs) = fold-map f g (g b (f x)) xs

-- ---- dooms

-- by two kinds of reading that agree
module _ {T : Type 0} (n : T → Node) (r d : T → T → Bool) (ts : List T) (c : T) where
  doom_same : ((a b : T) → In a ts → In b ts → r a b ≡ d a b) → ((a : T) → In a ts → r a c ≡ d a c) → (causes : List Cause) (b : T) → In b ts → with_doom n r ts c causes b ≡ with_doom n d ts c causes b
  doom_same pairs last causes b i =
      ap (λ x. causes ++ option_to_list (cond (is_live n r c b && x) (cause_from n r b c (find (is_first n r c causes b) ts)) None)) (last b i)
      ∙ ap (λ o. causes ++ option_to_list (cond (is_live n d c b && d b c) (cause_from n d b c o) None))
      (find-same_in (is_first n r c causes b) (is_first n d c causes b) ts (λ a j. ap (λ x. is_other n r a b && (not (is_other n r a c) || is_live n r c a && not (is_doomed n r causes a)) && x) (pairs a b j i)))

  dooms_same : ((a b : T) → In a ts → In b ts → r a b ≡ d a b) → ((a : T) → In a ts → r a c ≡ d a c) → dooms n r ts c ≡ dooms n d ts c
  dooms_same pairs last = fold-same_in (with_doom n r ts c) (with_doom n d ts c) [] ts (doom_same pairs last)

-- of transactions as they are seen through f
module _ {S T : Type 0} (f : S → T) (n : T → Node) (r : T → T → Bool) where
  abbrev node_of : S → Node
  node_of s = n (f s)

  abbrev reads_of : S → S → Bool
  reads_of s t = r (f s) (f t)

  cause_from-map : (b c : S) (o : Option S) → cause_from n r (f b) (f c) (option_map f o) ≡ cause_from node_of reads_of b c o
  cause_from-map b c None = refl
  cause_from-map b c (Some a) = refl

  dooms-map : (ts : List S) (c : S) → dooms n r (map f ts) (f c) ≡ dooms node_of reads_of ts c
  dooms-map ts c =
      fold-map f (with_doom n r (map f ts) (f c)) [] ts
      ∙ fold-alike (λ causes b. with_doom n r (map f ts) (f c) causes (f b)) (with_doom node_of reads_of ts c) [] ts one
    where
      one : (causes : List Cause) (b : S) → with_doom n r (map f ts) (f c) causes (f b) ≡ with_doom node_of reads_of ts c causes b
      one causes b =
          ap (λ o. causes ++ option_to_list (cond (is_live n r (f c) (f b) && r (f b) (f c)) (cause_from n r (f b) (f c) o) None)) (find-map f (is_first n r (f c) causes (f b)) ts)
          ∙ ap (λ o. causes ++ option_to_list (cond (is_live n r (f c) (f b) && r (f b) (f c)) o None)) (cause_from-map b c (find (is_first node_of reads_of c causes b) ts))

pub dooms_seen : {T : Type 0} (n : T → Node) (r : T → T → Bool) (f : T → Party) (ts : List T) (c : T) → ((t : T) → record (n t) { place = 0 } ≡ node (f t))
    → Each (λ a. Each (λ b. r a b ≡ reads (f a) (f b)) ts) ts → Each (λ a. r a c ≡ reads (f a) (f c)) ts → dooms n r ts c ≡ dooms node reads (map f ts) (f c)
dooms_seen n r f ts c same pairs last =
    (λ i. dooms (λ t. same t i) r ts c)
    ∙ dooms_same (λ t. node (f t)) r (λ t u. reads (f t) (f u)) ts c
    (λ a b i j. Each-In (λ y. r a y ≡ reads (f a) (f y)) ts b (Each-In (λ x. Each (λ y. r x y ≡ reads (f x) (f y)) ts) ts a pairs i) j)
    (λ a i. Each-In (λ x. r x c ≡ reads (f x) (f c)) ts a last i)
    ∙ sym (dooms-map f node reads ts c)

-- where those go that can't be doomed
pub dooms_left : {T : Type 0} (n : T → Node) (r : T → T → Bool) (keep : T → Bool) (ts : List T) (c : T) → AreSpared n r keep c ts → dooms n r (filter keep ts) c ≡ dooms n r ts c
dooms_left {T} n r keep ts c spared =
    fold-alike (with_doom n r (filter keep ts) c) (with_doom n r ts c) [] (filter keep ts) doom_alike
    ∙ fold-kept (with_doom n r ts c) [] keep ts no_doom
  where
    gone : (t : T) → In t ts → keep t ≡ false → (is_live n r c t ≡ false) × (is_other n r t c ≡ true)
    gone t i = Each-In (λ x. keep x ≡ false → (is_live n r c x ≡ false) × (is_other n r x c ≡ true)) ts t spared i

    neither : (o l : Bool) (causes : List Cause) (b a : T) → o ≡ true → l ≡ false → (is_other n r a b && (not o || l && not (is_doomed n r causes a)) && r a b) ≡ false
    neither o l causes b a e f =
        ap (λ x. is_other n r a b && (not x || l && not (is_doomed n r causes a)) && r a b) e
        ∙ ap (λ x. is_other n r a b && (x && not (is_doomed n r causes a)) && r a b) f
        ∙ none (is_other n r a b)
      where
        none : (x : Bool) → (x && false && r a b) ≡ false
        none true = refl
        none false = refl

    doom_alike : (causes : List Cause) (b : T) → with_doom n r (filter keep ts) c causes b ≡ with_doom n r ts c causes b
    doom_alike causes b =
        ap (λ o. causes ++ option_to_list (cond (is_live n r c b && r b c) (cause_from n r b c o) None))
        (find-alike (is_first n r c causes b) keep ts (λ a i e. neither (is_other n r a c) (is_live n r c a) causes b a (gone a i e).1 (gone a i e).0))

    no_doom : (causes : List Cause) (b : T) → In b ts → keep b ≡ false → with_doom n r ts c causes b ≡ causes
    no_doom causes b i e =
        ap (λ x. causes ++ option_to_list (cond (x && r b c) (cause_from n r b c (find (is_first n r c causes b) ts)) None)) (gone b i e).0
        ∙ append-nil causes

-- ---- the first conflict out

pub out_seen : {T : Type 0} (n : T → Node) (e : T → T → Bool) (f : T → Party) (ts : List T) (t : T) → ((u : T) → record (n u) { place = 0 } ≡ node (f u))
    → Each (λ u. e t u ≡ edge (f t) (f u)) ts → first_commit_out n e ts t ≡ least_out (map f ts) (f t)
out_seen {T} n e f ts t same alike =
    (λ i. option_map (λ u. (same u i).commit) (earliest (λ u. same u i) e (filter (e t) ts)))
    ∙ ap (λ us. option_map (λ u. (node (f u)).commit) (earliest (λ u. node (f u)) e us))
    (filter_alike (e t) (λ u. edge (f t) (f u)) ts (λ u i. Each-In (λ x. e t x ≡ edge (f t) (f x)) ts u alike i))
    ∙ sym (
    ap (λ us. option_map (λ (q : Party). q.commit) (earliest node edge us)) (filter-map f (edge (f t)) ts)
    ∙ ap (option_map (λ (q : Party). q.commit)) (earliest-map f node edge (filter (λ u. edge (f t) (f u)) ts))
    ∙ twice (earliest (λ u. node (f u)) (λ u v. edge (f u) (f v)) (filter (λ u. edge (f t) (f u)) ts)))
  where
    twice : (o : Option T) → option_map (λ (q : Party). q.commit) (option_map f o) ≡ option_map (λ u. (node (f u)).commit) o
    twice None = refl
    twice (Some u) = refl

pub out_left : {T : Type 0} (n : T → Node) (e : T → T → Bool) (keep : T → Bool) (ts : List T) (t : T) → Each (λ u. keep u ≡ false → e t u ≡ false) ts → first_commit_out n e (filter keep ts) t ≡ first_commit_out n e ts t
out_left {T} n e keep ts t gone = ap (λ us. option_map (λ u. (n u).commit) (earliest n e us)) (filter-kept (e t) keep ts there)
  where
    there : (u : T) → In u ts → e t u ≡ true → keep u ≡ true
    there u i d = go (keep u) refl
      where
        go : (b : Bool) → keep u ≡ b → b ≡ true
        go true k = refl
        go false k = clash (e t u) d (Each-In (λ x. keep x ≡ false → e t x ≡ false) ts u gone i k)

-- ---- what comes from it

module _ {T : Type 0} (n : T → Node) (e : T → T → Bool) (t : T) where
  abbrev of_commit : T → ℕ
  of_commit u = (n u).commit

  abbrev outs : List T → Option T
  outs us = earliest n e (filter (e t) us)

  pub key_of_out : (us : List T) → first_part n e t us ≡ least_of (of_commit t) (option_map of_commit (outs us))
  key_of_out [] = refl
  key_of_out (u ∷ us) = go (e t u) (nat_lt (of_commit u) (of_commit t)) refl (key_of_out us)
    where
      both : (o : Option T) → nat_lt (of_commit u) (of_commit t) ≡ true → min (of_commit u) (least_of (of_commit t) (option_map of_commit o)) ≡ least_of (of_commit t) (Some (of_commit (earlier n e u o)))
      both None l = refl
      both (Some v) l = pick (nat_lt (of_commit v) (of_commit u)) refl
        where
          pick : (b : Bool) → nat_lt (of_commit v) (of_commit u) ≡ b → min (of_commit u) (min (of_commit v) (of_commit t)) ≡ min (of_commit (cond b v u)) (of_commit t)
          pick true x = let y = ltb-true (of_commit v) (of_commit u) x in omega (arith, y)
          pick false x = let y = ltb-false (of_commit v) (of_commit u) x in omega (arith, y)

      past : (o : Option T) → nat_lt (of_commit u) (of_commit t) ≡ false → least_of (of_commit t) (option_map of_commit o) ≡ least_of (of_commit t) (Some (of_commit (earlier n e u o)))
      past None l = let y = ltb-false (of_commit u) (of_commit t) l in omega (arith, y)
      past (Some v) l = pick (nat_lt (of_commit v) (of_commit u)) refl
        where
          pick : (b : Bool) → nat_lt (of_commit v) (of_commit u) ≡ b → min (of_commit v) (of_commit t) ≡ min (of_commit (cond b v u)) (of_commit t)
          pick true x = refl
          pick false x = let y = ltb-false (of_commit v) (of_commit u) x in let z = ltb-false (of_commit u) (of_commit t) l in omega (arith, y, z)

      go : (a b : Bool) → nat_lt (of_commit u) (of_commit t) ≡ b → first_part n e t us ≡ least_of (of_commit t) (option_map of_commit (outs us)) →
          cond (a && b) (min (of_commit u) (first_part n e t us)) (first_part n e t us) ≡ least_of (of_commit t) (option_map of_commit (earliest n e (cond a (u ∷ filter (e t) us) (filter (e t) us))))
      go true true l rest = ap (min (of_commit u)) rest ∙ both (outs us) l
      go true false l rest = rest ∙ past (outs us) l
      go false b l rest = rest

  pub spoils_by_out : (s : ℕ) (us : List T) → list_any (λ u. e t u && nat_le (of_commit u) s) us ≡ shows s (option_map of_commit (outs us))
  spoils_by_out s [] = refl
  spoils_by_out s (u ∷ us) = go (e t u) (spoils_by_out s us)
    where
      one : (b : Bool) → (b || false) ≡ b
      one true = refl
      one false = refl

      either_shown : (a b c : ℕ) (x : Bool) → nat_lt b a ≡ x → (nat_le a c || nat_le b c) ≡ nat_le (cond x b a) c
      either_shown a b c x l = pick x (nat_le a c) (nat_le b c) refl refl l
        where
          pick : (z y w : Bool) → nat_le a c ≡ y → nat_le b c ≡ w → nat_lt b a ≡ z → (y || w) ≡ nat_le (cond z b a) c
          pick true true true p q r = sym q
          pick true true false p q r = absurd_here
            where
              absurd_here : true ≡ nat_le b c
              absurd_here = grind (arith, nat_tests)
          pick true false w p q r = sym q
          pick false true w p q r = sym p
          pick false false true p q r = absurd_there
            where
              absurd_there : true ≡ nat_le a c
              absurd_there = grind (arith, nat_tests)
          pick false false false p q r = sym p

      both : (o : Option T) → (nat_le (of_commit u) s || shows s (option_map of_commit o)) ≡ shows s (Some (of_commit (earlier n e u o)))
      both None = one (nat_le (of_commit u) s)
      both (Some v) = pick (nat_lt (of_commit v) (of_commit u)) refl
        where
          pick : (b : Bool) → nat_lt (of_commit v) (of_commit u) ≡ b → (nat_le (of_commit u) s || nat_le (of_commit v) s) ≡ nat_le (of_commit (cond b v u)) s
          pick true x = either_shown (of_commit u) (of_commit v) s true x
          pick false x = either_shown (of_commit u) (of_commit v) s false x

      go : (a : Bool) → list_any (λ v. e t v && nat_le (of_commit v) s) us ≡ shows s (option_map of_commit (outs us)) →
          (a && nat_le (of_commit u) s || list_any (λ v. e t v && nat_le (of_commit v) s) us) ≡ shows s (option_map of_commit (earliest n e (cond a (u ∷ filter (e t) us) (filter (e t) us))))
      go true rest = ap (λ b. nat_le (of_commit u) s || b) rest ∙ both (outs us)
      go false rest = rest

-- ---- structures

-- where those go that are aborted, or read from a safe snapshot
pub cause_left : {T : Type 0} (n : T → Node) (e : T → T → Bool) (keep : T → Bool) (ts : List T) → AreIdle n e keep ts → first_cause n e (filter keep ts) ≡ first_cause n e ts
cause_left {T} n e keep ts idle = cause-kept n e keep ts three
  where
    stays : (t : T) → In t ts → (((n t).committed ≡ false) ⊎ IsSafeReader n e ts t → ⊥) → keep t ≡ true
    stays t i never = go (keep t) refl
      where
        go : (b : Bool) → keep t ≡ b → b ≡ true
        go true k = refl
        go false k = absurd (never (Each-In (λ x. keep x ≡ false → ((n x).committed ≡ false) ⊎ IsSafeReader n e ts x) ts t idle i k))

    within_snapshot : (a c : T) → (n a).read_write ≡ false → nat_le (n c).commit (bound n e a) ≡ true → nat_le (n c).commit (n a).snapshot ≡ true
    within_snapshot a c r w = sym (ap (λ b. nat_le (n c).commit (cond b (n a).commit (n a).snapshot)) r) ∙ w

    three : (a b c : T) → In a ts → In b ts → In c ts → is_dangerous n e a b c ≡ true → (keep a ≡ true) × (keep b ≡ true) × (keep c ≡ true)
    three a b c i j k d = (stays a i first, stays b j pivot, stays c k last)
      where
        first : ((n a).committed ≡ false) ⊎ IsSafeReader n e ts a → ⊥
        first (inl x) = clash (n a).committed (parts n e a b c d).first x
        first (inr x) =
            clash (nat_le (n c).commit (n a).snapshot) (within_snapshot a c x.reader (parts n e a b c d).within)
            (Each-In (λ z. (e a b && e b z) ≡ true → nat_le (n z).commit (n a).snapshot ≡ false) ts c (Each-In (λ y. Each (λ z. (e a y && e y z) ≡ true → nat_le (n z).commit (n a).snapshot ≡ false) ts) ts b x.safe j) k (and_from (e a b) (e b c) (parts n e a b c d).into (parts n e a b c d).out))

        pivot : ((n b).committed ≡ false) ⊎ IsSafeReader n e ts b → ⊥
        pivot (inl x) = clash (n b).committed (parts n e a b c d).pivot x
        pivot (inr x) = clash (e a b) (parts n e a b c d).into (Each-In (λ y. e y b ≡ false) ts a x.unwritten i)

        last : ((n c).committed ≡ false) ⊎ IsSafeReader n e ts c → ⊥
        last (inl x) = clash (n c).committed (parts n e a b c d).last x
        last (inr x) = clash (e b c) (parts n e a b c d).out (Each-In (λ y. e y c ≡ false) ts b x.unwritten j)
