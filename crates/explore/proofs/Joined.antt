-- The outcomes of later runs, joined to those of earlier ones, are those of all.
use Rattle.std.proofs.Common.{◌≡◌, refl, sym, ap, ◌∙◌, ℕ, suc, ◌+◌, Bool, true, false, cond, List, [], ◌∷◌, ◌++◌, length, arith}
use Rattle.std.specs.Prelude.{bytes_eq}
use Rattle.std.specs.Cmp.Lexicographic.{bytes_decides}
use Rattle.explore.specs.Outcomes.{Counted, all_runs, joined, merged, noted, noted_all, outcomes_from, single}
use Rattle.explore.proofs.Noted.{all_runs-merged, merged_other, merged_same, more}

pub same : (a b : List ℕ) → bytes_eq a b ≡ true → a ≡ b
same a b e = (bytes_decides a b).0 e

pub equal : (a : List ℕ) → bytes_eq a a ≡ true
equal a = (bytes_decides a a).1 refl

-- ---- a text that some outcome has

present : List ℕ → List Counted → Bool
present t [] = false
present t (o ∷ os) = cond (bytes_eq o.text t) true (present t os)

present-merged : (t : List ℕ) (os : List Counted) (q : Counted) → present t os ≡ true → present t (merged os q) ≡ true
unfolding present
present-merged t [] q e = cc
present-merged t (o ∷ os) q e = go (bytes_eq o.text q.text) (bytes_eq o.text t) e (present-merged t os q)
  where
    go : (b c : Bool) → cond c true (present t os) ≡ true → (present t os ≡ true → present t (merged os q) ≡ true) → present t (cond b (more q.runs o ∷ os) (o ∷ merged os q)) ≡ true
    go true c f rest = e
    go false c f rest = inner (bytes_eq o.text t) e rest
      where
        inner : (d : Bool) → cond d true (present t os) ≡ true → (present t os ≡ true → present t (merged os q) ≡ true) → cond d true (present t (merged os q)) ≡ true
        inner true g r = refl
        inner false g r = r g

present-itself : (os : List Counted) (p : Counted) → present p.text (merged os p) ≡ true
unfolding present
present-itself [] p = ap (λ x. cond x true false) (equal p.text)
present-itself (o ∷ os) p = go (bytes_eq o.text p.text) refl (present-itself os p)
  where
    go : (b : Bool) → bytes_eq o.text p.text ≡ b → present p.text (merged os p) ≡ true → present p.text (cond b (more p.runs o ∷ os) (o ∷ merged os p)) ≡ true
    go true e rest = ap (λ x. cond x true (present p.text os)) e
    go false e rest = ap (λ x. cond x true (present p.text (merged os p))) e ∙ rest

-- ---- one more run

-- an outcome with one more run, merged
merged-more : (os : List Counted) (p : Counted) (n : ℕ) → merged os (more 1 p) ≡ noted (merged os p) p.text n
merged-more [] p n = sym (merged_same p [] (single p.text n) (equal p.text))
merged-more (o ∷ os) p n = go (bytes_eq o.text p.text) refl (merged-more os p n)
  where
    go : (b : Bool) → bytes_eq o.text p.text ≡ b → merged os (more 1 p) ≡ noted (merged os p) p.text n → merged (o ∷ os) (more 1 p) ≡ noted (merged (o ∷ os) p) p.text n
    go true e rest =
        merged_same o os (more 1 p) e
        ∙ ap (λ (k : ℕ). record o { runs = k } ∷ os) (omega arith)
        ∙ sym (ap (λ x. noted x p.text n) (merged_same o os p e) ∙ merged_same (more p.runs o) os (single p.text n) e)
    go false e rest =
        merged_other o os (more 1 p) e
        ∙ ap (λ x. o ∷ x) rest
        ∙ sym (ap (λ x. noted x p.text n) (merged_other o os p e) ∙ merged_other o (merged os p) (single p.text n) e)

-- a further run of a text that is there, and another outcome: in either order
noted-merged : (t : List ℕ) (os : List Counted) (q : Counted) (n : ℕ) → present t os ≡ true → merged (noted os t n) q ≡ noted (merged os q) t n
unfolding present
noted-merged t [] q n e = cc
noted-merged t (o ∷ os) q n e = go (bytes_eq o.text t) (bytes_eq o.text q.text) refl refl (noted-merged t os q n)
  where
    there : bytes_eq o.text t ≡ false → present t os ≡ true
    there f = ap (λ x. cond x true (present t os)) (sym f) ∙ e

    go : (b c : Bool) → bytes_eq o.text t ≡ b → bytes_eq o.text q.text ≡ c → (present t os ≡ true → merged (noted os t n) q ≡ noted (merged os q) t n) →
        merged (noted (o ∷ os) t n) q ≡ noted (merged (o ∷ os) q) t n
    go true true e1 e2 rest =
        ap (λ x. merged x q) (merged_same o os (single t n) e1)
        ∙ merged_same (more 1 o) os q e2
        ∙ ap (λ (k : ℕ). record o { runs = k } ∷ os) (omega arith)
        ∙ sym (ap (λ x. noted x t n) (merged_same o os q e2) ∙ merged_same (more q.runs o) os (single t n) e1)
    go true false e1 e2 rest =
        ap (λ x. merged x q) (merged_same o os (single t n) e1)
        ∙ merged_other (more 1 o) os q e2
        ∙ sym (ap (λ x. noted x t n) (merged_other o os q e2) ∙ merged_same o (merged os q) (single t n) e1)
    go false true e1 e2 rest =
        ap (λ x. merged x q) (merged_other o os (single t n) e1)
        ∙ merged_same o (noted os t n) q e2
        ∙ sym (ap (λ x. noted x t n) (merged_same o os q e2) ∙ merged_other (more q.runs o) os (single t n) e1)
    go false false e1 e2 rest =
        ap (λ x. merged x q) (merged_other o os (single t n) e1)
        ∙ merged_other o (noted os t n) q e2
        ∙ ap (λ x. o ∷ x) (rest (there e1))
        ∙ sym (ap (λ x. noted x t n) (merged_other o os q e2) ∙ merged_other o (merged os q) (single t n) e1)

joined-present : (t : List ℕ) (os ps : List Counted) (n : ℕ) → present t os ≡ true → joined (noted os t n) ps ≡ noted (joined os ps) t n
joined-present t os [] n e = refl
joined-present t os (q ∷ ps) n e = ap (λ x. joined x ps) (noted-merged t os q n e) ∙ joined-present t (merged os q) ps n (present-merged t os q e)

joined-noted : (os ps : List Counted) (t : List ℕ) (n : ℕ) → joined os (noted ps t n) ≡ noted (joined os ps) t n
joined-noted os [] t n = refl
joined-noted os (p ∷ ps) t n = go (bytes_eq p.text t) refl (joined-noted (merged os p) ps t n)
  where
    go : (b : Bool) → bytes_eq p.text t ≡ b → joined (merged os p) (noted ps t n) ≡ noted (joined (merged os p) ps) t n → joined os (noted (p ∷ ps) t n) ≡ noted (joined os (p ∷ ps)) t n
    go true e rest =
        ap (λ x. joined os x) (merged_same p ps (single t n) e)
        ∙ ap (λ x. joined x ps) (merged-more os p n)
        ∙ joined-present p.text (merged os p) ps n (present-itself os p)
        ∙ ap (λ x. noted (joined (merged os p) ps) x n) (same p.text t e)
    go false e rest = ap (λ x. joined os x) (merged_other p ps (single t n) e) ∙ rest

-- ---- many runs

joined-all : (os ps : List Counted) (texts : List (List ℕ)) (n : ℕ) → joined os (noted_all ps texts n) ≡ noted_all (joined os ps) texts n
joined-all os ps [] n = refl
joined-all os ps (t ∷ texts) n = joined-all os (noted ps t n) texts (n + 1) ∙ ap (λ x. noted_all x texts (n + 1)) (joined-noted os ps t n)

noted_all-append : (os : List Counted) (a b : List (List ℕ)) (n : ℕ) → noted_all os (a ++ b) n ≡ noted_all (noted_all os a n) b (n + length a)
noted_all-append os [] b n = ap (λ (k : ℕ). noted_all os b k) (omega arith)
noted_all-append os (t ∷ a) b n = noted_all-append (noted os t n) a b (n + 1) ∙ ap (λ (k : ℕ). noted_all (noted_all (noted os t n) a (n + 1)) b k) (shifted n (length a))
  where
    shifted : (i k : ℕ) → i + 1 + k ≡ i + suc k
    shifted i k = omega arith

pub noted_all-push : (os : List Counted) (texts : List (List ℕ)) (text : List ℕ) (n : ℕ) → noted_all os (texts ++ text ∷ []) n ≡ noted (noted_all os texts n) text (n + length texts)
noted_all-push os texts text n = noted_all-append os texts (text ∷ []) n

-- stretches of runs, one after the other
pub stretches : (n m : ℕ) (a b : List (List ℕ)) → m ≡ n + length a → joined (outcomes_from n a) (outcomes_from m b) ≡ outcomes_from n (a ++ b)
stretches n m a b e =
    joined-all (noted_all [] a n) [] b m
    ∙ ap (λ (k : ℕ). noted_all (noted_all [] a n) b k) e
    ∙ sym (noted_all-append [] a b n)

-- ---- how many runs there are

pub all_runs-noted_all : (os : List Counted) (texts : List (List ℕ)) (n : ℕ) → all_runs (noted_all os texts n) ≡ all_runs os + length texts
all_runs-noted_all os [] n = omega arith
all_runs-noted_all os (t ∷ texts) n = omega (arith, all_runs-noted_all (noted os t n) texts (n + 1), all_runs-merged os (single t n))
