-- What a commit dooms is told as the history has it.
use Rattle.std.proofs.Common.{◌≡◌, refl, sym, ap, ◌∙◌, ℕ, ◌+◌, Bool, true, false, true≢false, cond, not, ◌&&◌, ◌||◌, List, [], ◌∷◌, ◌++◌, map, Option, Some, None, eqb, nat_lt, arith}
use Rattle.std.proofs.lemmas.Bool.{eqb-true}
use Rattle.std.specs.List.{find, fold, list_any}
use Rattle.std.specs.Option.{option_map, option_to_list}
use Rattle.value.specs.declared.refusal.Cause.{Cause}
use Rattle.value.specs.Isolation.{cause_from, doom_of, dooms, is_doomed, is_first, is_live, is_other, structure, with_doom}
use Rattle.history.specs.declared.base.Base.{Base}
use Rattle.history.specs.Transactions.{Standing, Open, Doomed, Failed, Aborted, Done, Txn, is_done, is_open, is_owed, node, reads_from}
use Rattle.history.specs.Events.{doomed_by, doomed_with}
use Rattle.retrace.specs.Items.{cover_written}
use Rattle.retrace.specs.Runs.{Going, over}
use Rattle.retrace.specs.Dooms as tale
use Rattle.retrace.specs.Told.{PlaceByPlace, Tells, counted}
use Rattle.retrace.proofs.told.Places.{eqb-above}
use Rattle.retrace.proofs.told.Turns.{over_told}

-- a cause, with the transactions that were counted before
abbrev pub above : ℕ → Cause → Cause
above n c = record { a = record { 0 = n + c.a.0 }; b = record { 0 = n + c.b.0 }; c = record { 0 = n + c.c.0 } }

not_counted : (base n : ℕ) → counted base n ≡ 0 → n ≡ 0
not_counted base n e = go (eqb n 0) refl e
  where
    go : (b : Bool) → eqb n 0 ≡ b → cond b 0 (base + n) ≡ 0 → n ≡ 0
    go true p q = eqb-true n 0 p
    go false p q = omega arith

append-one : {T : Type 0} (f : Cause → T) (cs : List Cause) (o : Option Cause) → map f cs ++ option_to_list (option_map f o) ≡ map f (cs ++ option_to_list o)
append-one f [] None = refl
append-one f [] (Some c) = refl
append-one f (d ∷ cs) o = ap (λ xs. f d ∷ xs) (append-one f cs o)

open_not_done : (st : Standing) → is_open st ≡ true → is_done st ≡ false
open_not_done Open e = refl
open_not_done (Doomed c) e = refl
open_not_done Failed e = refl
open_not_done Aborted e = refl
open_not_done Done e = sym e

open_owed : (st : Standing) → is_open st ≡ true → is_owed st ≡ true
open_owed Open e = refl
open_owed (Doomed c) e = refl
open_owed Failed e = refl
open_owed Aborted e = e
open_owed Done e = e

both : (a b : Bool) → (a && b) ≡ true → (a ≡ true) × (b ≡ true)
both true b e = (refl, e)
both false b e = absurd (true≢false (sym e))

pub and_true : (a : Bool) → (a && true) ≡ a
and_true true = refl
and_true false = refl

-- a condition that is asked once more
once_more : (a x y : Bool) → (a && x && (a && y)) ≡ (a && x && y)
once_more true x y = refl
once_more false x y = refl

module _ {A : Type 0} (b : Base) where
  -- What is told of a transaction, which has no commit before it has committed.
  abbrev pub Knows : Going A → Txn A → Type 0
  Knows g t = Tells b g t × (is_done t.standing ≡ false → t.commit ≡ 0)

  same_number : (g h : Going A) (t u : Txn A) → Tells b g t → Tells b h u → eqb g.trace.number h.trace.number ≡ eqb t.number u.number
  same_number g h t u k l = sym (eqb-above b.transactions g.trace.number h.trace.number) ∙ ap (λ n. eqb n (b.transactions + h.trace.number)) k.number ∙ ap (λ n. eqb t.number n) l.number

  pub same_cover : (g h : Going A) (t u : Txn A) → Tells b g t → Tells b h u → cover_written g.trace.reads h.trace.changes h.trace.marks ≡ reads_from t u
  same_cover g h t u k l = ap (λ rs. cover_written rs h.trace.changes h.trace.marks) k.reads ∙ ap (λ xs. cover_written t.reads xs h.trace.marks) l.changes ∙ ap (λ ms. cover_written t.reads u.changes ms) l.marks

  pub same_other : (g h : Going A) (t u : Txn A) → Tells b g t → Tells b h u → not (eqb g.trace.number h.trace.number) ≡ not (eqb t.number u.number)
  same_other g h t u k l = ap not (same_number g h t u k l)

  -- one has read what another wrote, which hasn't committed
  same_reads : (g h : Going A) (t u : Txn A) → Tells b g t → Tells b h u → u.commit ≡ 0 → tale.reads g h ≡ (not (eqb t.number u.number) && reads_from t u)
  same_reads g h t u k l z =
      ap (λ c. not (eqb g.trace.number h.trace.number) && (c || nat_lt g.trace.snapshot h.trace.commit) && cover_written g.trace.reads h.trace.changes h.trace.marks) (ap (λ n. eqb n 0) (not_counted b.commits h.trace.commit (l.commit ∙ z)))
      ∙ ap (λ c. c && cover_written g.trace.reads h.trace.changes h.trace.marks) (and_true (not (eqb g.trace.number h.trace.number)) ∙ same_other g h t u k l)
      ∙ ap (λ c. not (eqb t.number u.number) && c) (same_cover g h t u k l)

  same_live : (g h : Going A) (t u : Txn A) → Tells b g t → Tells b h u → is_live tale.node tale.reads g h ≡ is_live node reads_from t u
  same_live g h t u k l = ap (λ c. c && h.active && h.trace.read_write) (same_other h g u t l k) ∙ ap (λ c. not (eqb u.number t.number) && c && h.trace.read_write) l.active ∙ ap (λ c. not (eqb u.number t.number) && is_open u.standing && c) l.read_write

  same_doomed : (cs : List Cause) (g : Going A) (t : Txn A) → Tells b g t → is_doomed tale.node tale.reads cs g ≡ is_doomed node reads_from (map (above b.transactions) cs) t
  same_doomed [] g t k = refl
  same_doomed (c ∷ cs) g t k = ap (λ x. x || is_doomed tale.node tale.reads cs g) (sym (eqb-above b.transactions c.b.0 g.trace.number) ∙ ap (λ n. eqb (b.transactions + c.b.0) n) k.number)
      ∙ ap (λ x. eqb (b.transactions + c.b.0) t.number || x) (same_doomed cs g t k)

  -- ---- the causes

  module _ (g : Going A) (t : Txn A) (k : Tells b g t) (z : t.commit ≡ 0) where
    same_first : (cs : List Cause) (h i : Going A) (u v : Txn A) → Tells b h u → u.commit ≡ 0 → Tells b i v → is_first tale.node tale.reads g cs h i ≡ is_first node reads_from t (map (above b.transactions) cs) u v
    same_first cs h i u v l y m =
        let other = same_other i h v u m l in
        let may : (not (is_other tale.node tale.reads i g) || is_live tale.node tale.reads g i && not (is_doomed tale.node tale.reads cs i)) ≡ (not (is_other node reads_from v t) || is_live node reads_from t v && not (is_doomed node reads_from (map (above b.transactions) cs) v))
        = ap (λ c. not c || is_live tale.node tale.reads g i && not (is_doomed tale.node tale.reads cs i)) (same_other i g v t m k)
        ∙ ap (λ c. not (is_other node reads_from v t) || c && not (is_doomed tale.node tale.reads cs i)) (same_live g i t v k m)
        ∙ ap (λ c. not (is_other node reads_from v t) || is_live node reads_from t v && not c) (same_doomed cs i v m) in
        ap (λ c. is_other tale.node tale.reads i h && (not (is_other tale.node tale.reads i g) || is_live tale.node tale.reads g i && not (is_doomed tale.node tale.reads cs i)) && c) (same_reads i h v u m l y)
        ∙ ap (λ c. c && (not (is_other tale.node tale.reads i g) || is_live tale.node tale.reads g i && not (is_doomed tale.node tale.reads cs i)) && (not (eqb v.number u.number) && reads_from v u)) other
        ∙ ap (λ c. not (eqb v.number u.number) && c && (not (eqb v.number u.number) && reads_from v u)) may
        ∙ once_more (not (eqb v.number u.number)) (not (is_other node reads_from v t) || is_live node reads_from t v && not (is_doomed node reads_from (map (above b.transactions) cs) v)) (reads_from v u)

    same_structure : (i h : Going A) (v u : Txn A) → Tells b i v → Tells b h u → structure (node v) (node u) (node t) ≡ above b.transactions (structure (tale.node i) (tale.node h) (tale.node g))
    same_structure i h v u m l =
        ap (λ (n : ℕ). record { a = record { 0 = n }; b = record { 0 = u.number }; c = record { 0 = t.number } }) (sym m.number)
        ∙ ap (λ (n : ℕ). record { a = record { 0 = b.transactions + i.trace.number }; b = record { 0 = n }; c = record { 0 = t.number } }) (sym l.number)
        ∙ ap (λ (n : ℕ). record { a = record { 0 = b.transactions + i.trace.number }; b = record { 0 = b.transactions + h.trace.number }; c = record { 0 = n } }) (sym k.number)

    same_cause : (cs : List Cause) (h : Going A) (u : Txn A) → Tells b h u → u.commit ≡ 0 → (gs : List (Going A)) (ts : List (Txn A)) → PlaceByPlace Knows gs ts
        → cause_from node reads_from u t (find (is_first node reads_from t (map (above b.transactions) cs) u) ts) ≡ option_map (above b.transactions) (cause_from tale.node tale.reads h g (find (is_first tale.node tale.reads g cs h) gs))
    same_cause cs h u l y [] [] r = refl
    same_cause cs h u l y [] (v ∷ ts) r = absurd r
    same_cause cs h u l y (i ∷ gs) [] r = absurd r
    same_cause cs h u l y (i ∷ gs) (v ∷ ts) r = go (is_first node reads_from t (map (above b.transactions) cs) u v) (is_first tale.node tale.reads g cs h i) (same_first cs h i u v l y r.0.0) (same_cause cs h u l y gs ts r.1)
      where
        Rest : Type 0
        Rest = cause_from node reads_from u t (find (is_first node reads_from t (map (above b.transactions) cs) u) ts) ≡ option_map (above b.transactions) (cause_from tale.node tale.reads h g (find (is_first tale.node tale.reads g cs h) gs))

        go : (c d : Bool) → d ≡ c → Rest → cause_from node reads_from u t (cond c (Some v) (find (is_first node reads_from t (map (above b.transactions) cs) u) ts)) ≡ option_map (above b.transactions) (cause_from tale.node tale.reads h g (cond d (Some i) (find (is_first tale.node tale.reads g cs h) gs)))
        go true true e rest = ap Some (same_structure i h v u r.0.0 l)
        go false false e rest = rest
        go true false e rest = absurd (true≢false (sym e))
        go false true e rest = absurd (true≢false e)

    module _ (gs : List (Going A)) (ts : List (Txn A)) (r : PlaceByPlace Knows gs ts) where
      same_doom : (cs : List Cause) (h : Going A) (u : Txn A) → Knows h u → doom_of node reads_from ts t (map (above b.transactions) cs) u ≡ option_map (above b.transactions) (doom_of tale.node tale.reads gs g cs h)
      same_doom cs h u l = go (is_live node reads_from t u) refl
        where
          firsts : Option Cause
          firsts = cause_from node reads_from u t (find (is_first node reads_from t (map (above b.transactions) cs) u) ts)

          tale_firsts : Option Cause
          tale_firsts = cause_from tale.node tale.reads h g (find (is_first tale.node tale.reads g cs h) gs)

          live : is_live tale.node tale.reads g h ≡ is_live node reads_from t u
          live = same_live g h t u k l.0

          given : (c : Bool) → (u.commit ≡ 0) → cond c firsts None ≡ option_map (above b.transactions) (cond c tale_firsts None)
          given true y = same_cause cs h u l.0 y gs ts r
          given false y = refl

          reads : not (eqb u.number t.number) ≡ true → tale.reads h g ≡ reads_from u t
          reads e = same_reads h g u t l.0 k z ∙ ap (λ c. c && reads_from u t) e

          go : (c : Bool) → is_live node reads_from t u ≡ c → cond (is_live node reads_from t u && reads_from u t) firsts None ≡ option_map (above b.transactions) (cond (is_live tale.node tale.reads g h && tale.reads h g) tale_firsts None)
          go false e = ap (λ c. cond (c && reads_from u t) firsts None) e ∙ sym (ap (λ c. option_map (above b.transactions) (cond (c && tale.reads h g) tale_firsts None)) (live ∙ e))
          go true e =
              let p = both (not (eqb u.number t.number)) _ (front e) in
              ap (λ c. cond (c && reads_from u t) firsts None) e
              ∙ given (reads_from u t) (l.1 (open_not_done u.standing p.1))
              ∙ sym (ap (λ c. option_map (above b.transactions) (cond (c && tale.reads h g) tale_firsts None)) (live ∙ e) ∙ ap (λ c. option_map (above b.transactions) (cond c tale_firsts None)) (reads p.0))
            where
              front : is_live node reads_from t u ≡ true → (not (eqb u.number t.number) && is_open u.standing) ≡ true
              front f = (both (not (eqb u.number t.number) && is_open u.standing) _ f).0

      same_fold : (hs : List (Going A)) (us : List (Txn A)) → PlaceByPlace Knows hs us → (cs : List Cause) → fold (with_doom node reads_from ts t) (map (above b.transactions) cs) us ≡ map (above b.transactions) (fold (with_doom tale.node tale.reads gs g) cs hs)
      same_fold [] [] q cs = refl
      same_fold [] (u ∷ us) q cs = absurd q
      same_fold (h ∷ hs) [] q cs = absurd q
      same_fold (h ∷ hs) (u ∷ us) q cs =
          ap (λ o. fold (with_doom node reads_from ts t) (map (above b.transactions) cs ++ option_to_list o) us) (same_doom cs h u q.0)
          ∙ ap (λ ds. fold (with_doom node reads_from ts t) ds us) (append-one (above b.transactions) cs (doom_of tale.node tale.reads gs g cs h))
          ∙ same_fold hs us q.1 (cs ++ option_to_list (doom_of tale.node tale.reads gs g cs h))

      pub same_dooms : dooms node reads_from ts t ≡ map (above b.transactions) (dooms tale.node tale.reads gs g)
      same_dooms = same_fold gs ts r []

  -- ---- those that are doomed

  pub doomed_told : (place : ℕ) (cs : List Cause) (g : Going A) (t : Txn A) → Tells b g t → Tells b (tale.doomed_by cs g) (doomed_by place (map (above b.transactions) cs) t)
  doomed_told place cs g t k = go (is_open t.standing) refl
    where
      already : is_open t.standing ≡ false → (c : Bool) → Tells b (cond c (over g) g) t
      already e true = over_told b g t t.standing t.end k refl e
      already e false = k

      walk : is_open t.standing ≡ true → (ds : List Cause) → Tells b (cond (list_any (λ x. eqb x.b.0 g.trace.number) ds) (over g) g) (doomed_with place (find (λ x. eqb x.b.0 t.number) (map (above b.transactions) ds)) t)
      walk e [] = k
      walk e (d ∷ ds) = step (eqb (b.transactions + d.b.0) t.number) (eqb d.b.0 g.trace.number) (sym (eqb-above b.transactions d.b.0 g.trace.number) ∙ ap (λ n. eqb (b.transactions + d.b.0) n) k.number) (walk e ds)
        where
          Rest : Type 0
          Rest = Tells b (cond (list_any (λ c. eqb c.b.0 g.trace.number) ds) (over g) g) (doomed_with place (find (λ c. eqb c.b.0 t.number) (map (above b.transactions) ds)) t)

          step : (x y : Bool) → y ≡ x → Rest → Tells b (cond (y || list_any (λ c. eqb c.b.0 g.trace.number) ds) (over g) g) (doomed_with place (cond x (Some (above b.transactions d)) (find (λ c. eqb c.b.0 t.number) (map (above b.transactions) ds))) t)
          step true true p rest = over_told b g t (Doomed (above b.transactions d)) place k (open_owed t.standing e) refl
          step false false p rest = rest
          step true false p rest = absurd (true≢false (sym p))
          step false true p rest = absurd (true≢false p)

      go : (c : Bool) → is_open t.standing ≡ c → Tells b (tale.doomed_by cs g) (doomed_with place (cond c (find (λ x. eqb x.b.0 t.number) (map (above b.transactions) cs)) None) t)
      go true e = walk e cs
      go false e = already e (is_doomed tale.node tale.reads cs g)
