-- Trackers that answer alike, whatever is reported later.
use Rattle.std.proofs.Common.{◌≡◌, refl, sym, ap, subst, ◌∙◌, ℕ, ◌+◌, ◌<◌, ◌≤◌, Bool, true, false, cond, not, ◌&&◌, ◌||◌, ◌⊎◌, inl, inr, List, [], ◌∷◌, ◌++◌, map, Option, Some, None, fold, eqb, nat_lt, arith, append-nil}
use Rattle.std.proofs.lemmas.Bool.{and_parts, and_from, or_cases, or_left, or_right, false_from_ne_true, ltb-true, lt-ltb, eqb-true, eq-eqb, le-ltb}
use Rattle.std.proofs.lemmas.List.Elements.{filter-append}
use Rattle.std.specs.List.{filter, find, list_any}
use Rattle.std.specs.Option.{option_map, option_to_list}
use Rattle.value.specs.declared.refusal.Cause.{Cause}
use Rattle.value.specs.Isolation.{cause_from, earliest, bound, first_cause, is_doomed, is_first, is_live, is_other, with_doom}
use Rattle.value.proofs.IsolationLemmas.{In}
use Rattle.value.proofs.Basics.{filter-In, any-In, In-any, find-In, filter-map, In-map}
use Rattle.conflict.specs.Tracked.{Party, Tracked, Each, IsNumbered, IsProper, node, reads, edge, opened, after_forget, cause_of, dooms_of, dooms_from, first_out, out_from, party_of, is_active, is_needed, is_recent, is_writer, forgetful, with_edge, with_snapshot, with_commit, without_active}
use Rattle.conflict.specs.Later.{Told, Begins, Reads, Moves, Commits, Drops, told, all_told, has_committed, CanTell, CanTellAll, IsFrom, is_recent_from, AnswersAlike, Alike, IsOldest}
use Rattle.value.proofs.Lists.{clash, In-filter, In-append, filter_alike, filter-kept, filter-filter, find-kept, find-alike, fold-kept, fold-alike}
use Rattle.conflict.proofs.EachOf.{Each-In, Each-all}
use Rattle.conflict.proofs.Proper.{edge_still, one_of_number, proper_drop, proper_begin, proper_edge, proper_move, proper_commit}
use Rattle.conflict.proofs.Thinned.{Thinned, active_recent, commit_recent, commit_step, edge_step, move_recent, move_step, moved_snapshot, needed_by, needed_cases, needed_recent, same_cause, thinned_needed}

abbrev keeps : (ℕ → Bool) → Party → Bool
keeps keep p = keep p.number

-- it stays where t goes
abbrev without : ℕ → Party → Bool
without t p = not (is_active t p)

pub proper_told : (r : Tracked) → IsProper r → (x : Told) → CanTell x r → IsProper (told x r)
proper_told r h (Begins t m n) can = proper_begin t m n r h can.0 can.1
proper_told r h (Reads t u) can = proper_edge t u r h can
proper_told r h (Moves t n) can = proper_move t n r h can
proper_told r h (Commits t) can = proper_commit t r h can
proper_told r h (Drops t) can = proper_drop t r h

-- ---- the oldest snapshot stays

module _ (o : ℕ) (r : Tracked) (h : IsProper r) (old : IsOldest o r) where
  abbrev Late : Party → Type 0
  Late p = p.active ≡ true → o ≤ p.snapshot

  late : (p : Party) → In p r.parties → Late p
  late p i = Each-In Late r.parties p old.active i

  late_map : (f : Party → Party) → ((p : Party) → In p r.parties → Late (f p)) → Each Late (map f r.parties)
  late_map f each = Each-all Late (map f r.parties) (λ p i. let m = In-map f p r.parties i in subst Late (sym m.2) (each m.0 m.1))

  oldest_told : (x : Told) → IsFrom o x → IsOldest o (told x r)
  oldest_told (Begins t m n) from = record { commits = old.commits; active = Each-all Late (r.parties ++ opened t m n ∷ []) (λ p i. go p (In-append p r.parties (opened t m n ∷ []) i)) }
    where
      go : (p : Party) → In p r.parties ⊎ ((p ≡ opened t m n) ⊎ ⊥) → Late p
      go p (inl i) = late p i
      go p (inr (inl q)) = subst Late (sym q) (λ _. from)
      go p (inr (inr i)) = absurd i
  oldest_told (Reads t u) from = record { commits = old.commits; active = late_map (with_edge r.begun t u) (λ p i. late p i) }
  oldest_told (Moves t n) from = record { commits = old.commits; active = late_map (with_snapshot t n) (λ p i a. moved_snapshot o r h old t n from p i a) }
  oldest_told (Commits t) from = record { commits = grown (list_any (is_writer t) r.parties); active = late_map (with_commit t (r.commits + 1)) (λ p i a. late p i (and_parts (not (eqb p.number t)) p.active a).1) }
    where
      grown : (b : Bool) → o ≤ cond b (r.commits + 1) r.commits
      grown true = omega (arith, old.commits)
      grown false = old.commits
  oldest_told (Drops t) from = record {
    commits = old.commits;
    active = Each-all Late (without_active t r.parties) (λ p i.
        let m = In-map (forgetful (list_any (is_active t) r.parties) t) p (filter (without t) r.parties) i in
        subst Late (sym m.2) (late m.0 (In-filter (without t) m.0 r.parties m.1).0));
  }

  -- ---- the two trackers, one given the reports that the other is given

  module _ (keep : ℕ → Bool) (s : Tracked) (thin : Thinned o keep s r) where
    abbrev k : Party → Bool
    k = keeps keep

    same_map : (f : Party → Party) → ((p : Party) → (f p).number ≡ p.number) → map f s.parties ≡ filter k (map f r.parties)
    same_map f number =
        ap (map f) thin.parties
        ∙ sym (filter-map f k r.parties ∙ ap (map f) (filter_alike (λ p. k (f p)) k r.parties (λ p i. ap keep (number p))))

    check_alike : (t : ℕ) → cause_of t s ≡ cause_of t r
    check_alike t =
        ap (λ c. first_cause node edge (map (with_commit t (c + 1)) s.parties)) thin.commits
        ∙ ap (λ ps. first_cause node edge (map (with_commit t (r.commits + 1)) ps)) thin.parties
        ∙ same_cause o r h old keep t thin.needed

    -- whether a committed one is there, in the one and in the other
    has_fewer : (t : ℕ) → has_committed t s.parties ≡ true → has_committed t r.parties ≡ true
    has_fewer t e =
        let x = any-In (λ (p : Party). not p.active && eqb p.number t) s.parties e in
        let i : In x.0 (filter k r.parties) = subst (λ ps. In x.0 ps) thin.parties x.1 in
        In-any (λ (p : Party). not p.active && eqb p.number t) r.parties x.0 (In-filter k x.0 r.parties i).0 x.2

    can_tell : (x : Told) → CanTell x r → CanTell x s
    can_tell (Begins t m n) can = (subst (λ c. c < t) (sym thin.begun) can.0, subst (λ c. n ≤ c) (sym thin.commits) can.1)
    can_tell (Reads t u) can = false_from_ne_true _ (λ e. let b = and_parts (has_committed t s.parties) (has_committed u s.parties) e in clash _ (and_from _ _ (has_fewer t b.0) (has_fewer u b.1)) can)
    can_tell (Moves t n) can = subst (λ c. n ≤ c) (sym thin.commits) can
    can_tell (Commits t) can = check_alike t ∙ can
    can_tell (Drops t) can = tt

    -- one that writes and is active is there
    writer_there : (t : ℕ) → list_any (is_writer t) s.parties ≡ list_any (is_writer t) r.parties
    writer_there t = go (list_any (is_writer t) r.parties) refl
      where
        more : list_any (is_writer t) s.parties ≡ true → list_any (is_writer t) r.parties ≡ true
        more e =
            let x = any-In (is_writer t) s.parties e in
            In-any (is_writer t) r.parties x.0 (In-filter k x.0 r.parties (subst (λ ps. In x.0 ps) thin.parties x.1)).0 x.2

        there : list_any (is_writer t) r.parties ≡ true → list_any (is_writer t) s.parties ≡ true
        there e =
            let x = any-In (is_writer t) r.parties e in
            let a = and_parts (eqb x.0.number t) x.0.active (and_parts (is_active t x.0) x.0.read_write x.2).0 in
            let kept = thin.needed x.0 x.1 (needed_recent o r.parties x.0 (active_recent o x.0 a.1)) in
            In-any (is_writer t) s.parties x.0 (subst (λ ps. In x.0 ps) (sym thin.parties) (filter-In k x.0 r.parties x.1 kept)) x.2

        go : (b : Bool) → list_any (is_writer t) r.parties ≡ b → list_any (is_writer t) s.parties ≡ list_any (is_writer t) r.parties
        go true e = there e ∙ sym e
        go false e = false_from_ne_true _ (λ d. clash _ (more d) e) ∙ sym e

    active_there : (t : ℕ) → list_any (is_active t) s.parties ≡ list_any (is_active t) r.parties
    active_there t = go (list_any (is_active t) r.parties) refl
      where
        more : list_any (is_active t) s.parties ≡ true → list_any (is_active t) r.parties ≡ true
        more e =
            let x = any-In (is_active t) s.parties e in
            In-any (is_active t) r.parties x.0 (In-filter k x.0 r.parties (subst (λ ps. In x.0 ps) thin.parties x.1)).0 x.2

        there : list_any (is_active t) r.parties ≡ true → list_any (is_active t) s.parties ≡ true
        there e =
            let x = any-In (is_active t) r.parties e in
            let kept = thin.needed x.0 x.1 (needed_recent o r.parties x.0 (active_recent o x.0 (and_parts (eqb x.0.number t) x.0.active x.2).1)) in
            In-any (is_active t) s.parties x.0 (subst (λ ps. In x.0 ps) (sym thin.parties) (filter-In k x.0 r.parties x.1 kept)) x.2

        go : (b : Bool) → list_any (is_active t) r.parties ≡ b → list_any (is_active t) s.parties ≡ list_any (is_active t) r.parties
        go true e = there e ∙ sym e
        go false e = false_from_ne_true _ (λ d. clash _ (more d) e) ∙ sym e

    thin_told : (x : Told) → IsFrom o x → CanTell x r → Thinned o keep (told x s) (told x r)
    thin_told (Begins t m n) from can = record {
      begun = refl;
      commits = thin.commits;
      parties =
          ap (λ ps. ps ++ opened t m n ∷ []) thin.parties
          ∙ sym (filter-append k r.parties (opened t m n ∷ []) ∙ ap (λ b. filter k r.parties ++ cond b (opened t m n ∷ []) []) (thin.later t can.0));
      later = λ a l. thin.later a (omega (arith, l, can.0));
      needed = λ p i e. go p (In-append p r.parties (opened t m n ∷ []) i) e;
    }
      where
        go : (p : Party) → In p r.parties ⊎ ((p ≡ opened t m n) ⊎ ⊥) → is_needed o (r.parties ++ opened t m n ∷ []) p ≡ true → keep p.number ≡ true
        go p (inr (inl q)) e = subst (λ (z : Party). keep z.number ≡ true) (sym q) (thin.later t can.0)
        go p (inr (inr i)) e = absurd i
        go p (inl i) e = thin.needed p i (before (needed_cases o (r.parties ++ opened t m n ∷ []) p e))
          where
            by : (q : Party) → In q r.parties ⊎ ((q ≡ opened t m n) ⊎ ⊥) → is_recent o q ≡ true → edge q p ≡ true → is_needed o r.parties p ≡ true
            by q (inl j) x y = needed_by o r.parties p q j x y
            by q (inr (inl z)) x y = clash _ (and_parts (not (eqb t p.number) && nat_lt n p.commit) false (subst (λ u. edge u p ≡ true) z y)).1 refl
            by q (inr (inr j)) x y = absurd j

            before : (is_recent o p ≡ true) ⊎ ((q : Party) × In q (r.parties ++ opened t m n ∷ []) × (is_recent o q ≡ true) × (edge q p ≡ true)) → is_needed o r.parties p ≡ true
            before (inl x) = needed_recent o r.parties p x
            before (inr x) = by x.0 (In-append x.0 r.parties (opened t m n ∷ []) x.1) x.2 x.3
    thin_told (Reads t u) from can = record {
      begun = thin.begun;
      commits = thin.commits;
      parties = ap (λ b. map (with_edge b t u) s.parties) thin.begun ∙ same_map (with_edge r.begun t u) (λ p. refl);
      later = thin.later;
      needed = thinned_needed o r h old (with_edge r.begun t u) (λ p. refl) (λ p i e. e) (λ q p j i e. edge_step o r h old t u can q p j i e) keep thin.needed;
    }
    thin_told (Moves t n) from can = record {
      begun = thin.begun;
      commits = thin.commits;
      parties = same_map (with_snapshot t n) (λ p. refl);
      later = thin.later;
      needed = thinned_needed o r h old (with_snapshot t n) (λ p. refl) (λ p i e. move_recent o r h old t n p i e) (λ q p j i e. move_step o r h old t n from q p j i e) keep thin.needed;
    }
    thin_told (Commits t) from can = record {
      begun = thin.begun;
      commits = ap (λ c. cond (list_any (is_writer t) s.parties) (c + 1) c) thin.commits ∙ ap (λ b. cond b (r.commits + 1) r.commits) (writer_there t);
      parties = ap (λ c. map (with_commit t (c + 1)) s.parties) thin.commits ∙ same_map (with_commit t (r.commits + 1)) (λ p. refl);
      later = thin.later;
      needed = thinned_needed o r h old (with_commit t (r.commits + 1)) (λ p. refl) (λ p i e. commit_recent o r h old t p i e) (λ q p j i e. commit_step o r h old t q p j i e) keep thin.needed;
    }
    thin_told (Drops t) from can = record {
      begun = thin.begun;
      commits = thin.commits;
      parties =
          ap (λ b. map (forgetful b t) (filter (without t) s.parties)) (active_there t)
          ∙ ap (λ ps. map (forgetful gone t) (filter (without t) ps)) thin.parties
          ∙ ap (map (forgetful gone t)) (filter-filter (without t) k r.parties)
          ∙ sym (filter-map (forgetful gone t) k (filter (without t) r.parties) ∙ ap (map (forgetful gone t)) (filter_alike (λ p. k (forgetful gone t p)) k (filter (without t) r.parties) (λ p i. refl)));
      later = thin.later;
      needed = λ p i e. stays p (In-map (forgetful gone t) p (filter (without t) r.parties) i) e;
    }
      where
        gone : Bool
        gone = list_any (is_active t) r.parties

        before : (m : Party) → (is_recent o m ≡ true) ⊎ ((q : Party) × In q (map (forgetful gone t) (filter (without t) r.parties)) × (is_recent o q ≡ true) × (edge q (forgetful gone t m) ≡ true)) → is_needed o r.parties m ≡ true
        before m (inl x) = needed_recent o r.parties m x
        before m (inr x) =
            let q = In-map (forgetful gone t) x.0 (filter (without t) r.parties) x.1 in
            needed_by o r.parties m q.0 (In-filter (without t) q.0 r.parties q.1).0 (subst (λ z. is_recent o z ≡ true) q.2 x.2) (edge_still t r h gone q.0 m (subst (λ z. edge z (forgetful gone t m) ≡ true) q.2 x.3))

        stays : (p : Party) → (m : Party) × In m (filter (without t) r.parties) × (p ≡ forgetful gone t m) → is_needed o (map (forgetful gone t) (filter (without t) r.parties)) p ≡ true → keep p.number ≡ true
        stays p m e =
            subst (λ (z : Party). keep z.number ≡ true) (sym m.2)
            (thin.needed m.0 (In-filter (without t) m.0 r.parties m.1).0 (before m.0 (needed_cases o (map (forgetful gone t) (filter (without t) r.parties)) (forgetful gone t m.0) (subst (λ z. is_needed o (map (forgetful gone t) (filter (without t) r.parties)) z ≡ true) m.2 e))))

    -- ---- what is asked of one that is recent

    module _ (t : ℕ) (p : Party) (found : party_of t r ≡ Some p) (recent : is_recent o p ≡ true) where
      there : In p r.parties
      there = (find-In (λ (q : Party). eqb q.number t) r.parties p found).0

      kept : keep p.number ≡ true
      kept = thin.needed p there (needed_recent o r.parties p recent)

      found_too : party_of t s ≡ Some p
      found_too = ap (find (λ (q : Party). eqb q.number t)) thin.parties ∙ find-kept (λ (q : Party). eqb q.number t) k r.parties p found kept

      out_alike : first_out t s ≡ first_out t r
      out_alike =
          ap (out_from s) found_too
          ∙ ap (λ ps. option_map (λ (q : Party). q.commit) (earliest node edge (filter (edge p) ps))) thin.parties
          ∙ ap (λ ps. option_map (λ (q : Party). q.commit) (earliest node edge ps)) (filter-kept (edge p) k r.parties (λ q j e. thin.needed q j (needed_by o r.parties q p there recent e)))
          ∙ sym (ap (out_from r) found)

      -- those that are gone are neither the committer nor active
      gone_other : (q : Party) → k q ≡ false → is_other node reads q p ≡ true
      gone_other q e = ap not (false_from_ne_true (eqb q.number p.number) (λ d. clash _ kept (ap keep (sym (eqb-true q.number p.number d)) ∙ e)))

      gone_idle : (q : Party) → In q r.parties → k q ≡ false → q.active ≡ false
      gone_idle q j e = false_from_ne_true q.active (λ d. clash _ (thin.needed q j (needed_recent o r.parties q (active_recent o q d))) e)

      gone_not_live : (q : Party) → In q r.parties → k q ≡ false → is_live node reads p q ≡ false
      gone_not_live q j e = false_from_ne_true _ (λ d. clash q.active (and_parts (is_other node reads q p) q.active (and_parts (is_other node reads q p && q.active) q.read_write d).0).1 (gone_idle q j e))

      gone_not_first : (causes : List Cause) (b q : Party) → In q r.parties → k q ≡ false → is_first node reads p causes b q ≡ false
      gone_not_first causes b q j e =
          false_from_ne_true _ (λ d.
          let x = and_parts (is_other node reads q b && (not (is_other node reads q p) || is_live node reads p q && not (is_doomed node reads causes q))) (reads q b) d in
          go (or_cases (not (is_other node reads q p)) (is_live node reads p q && not (is_doomed node reads causes q)) (and_parts (is_other node reads q b) (not (is_other node reads q p) || is_live node reads p q && not (is_doomed node reads causes q)) x.0).1))
        where
          go : (not (is_other node reads q p) ≡ true) ⊎ ((is_live node reads p q && not (is_doomed node reads causes q)) ≡ true) → ⊥
          go (inl y) = clash _ (sym (ap not (gone_other q e)) ∙ y) refl
          go (inr y) = clash _ (and_parts (is_live node reads p q) (not (is_doomed node reads causes q)) y).0 (gone_not_live q j e)

      doom_alike : (causes : List Cause) (b : Party) → with_doom node reads (filter k r.parties) p causes b ≡ with_doom node reads r.parties p causes b
      doom_alike causes b =
          ap (λ x. causes ++ option_to_list (cond (is_live node reads p b && reads b p) (cause_from node reads b p x) None))
          (find-alike (is_first node reads p causes b) k r.parties (λ q j e. gone_not_first causes b q j e))

      no_doom : (causes : List Cause) (b : Party) → In b r.parties → k b ≡ false → with_doom node reads r.parties p causes b ≡ causes
      no_doom causes b j e =
          ap (λ x. causes ++ option_to_list (cond (x && reads b p) (cause_from node reads b p (find (is_first node reads p causes b) r.parties)) None)) (gone_not_live b j e)
          ∙ append-nil causes

      dooms_alike : dooms_of t s ≡ dooms_of t r
      dooms_alike =
          ap (dooms_from s) found_too
          ∙ ap (λ ps. fold (with_doom node reads ps p) [] ps) thin.parties
          ∙ fold-alike (with_doom node reads (filter k r.parties) p) (with_doom node reads r.parties p) [] (filter k r.parties) doom_alike
          ∙ fold-kept (with_doom node reads r.parties p) [] k r.parties (λ causes b j e. no_doom causes b j e)
          ∙ sym (ap (dooms_from r) found)

    asked : (X : ℕ → Tracked → Type 0) (t : ℕ) → ((p : Party) → party_of t r ≡ Some p → is_recent o p ≡ true → X t r) → is_recent_from o (party_of t r) ≡ true → X t r
    asked X t f e = go (party_of t r) refl e
      where
        go : (x : Option Party) → party_of t r ≡ x → is_recent_from o x ≡ true → X t r
        go None d y = clash false y refl
        go (Some p) d y = f p d y

    answers_alike : AnswersAlike o s r
    answers_alike = record {
      party = λ t. asked (λ u q. party_of u s ≡ party_of u r) t (λ p f e. found_too t p f e ∙ sym f);
      check = check_alike;
      first_out = λ t. asked (λ u q. first_out u s ≡ first_out u r) t (λ p f e. out_alike t p f e);
      dooms = λ t. asked (λ u q. dooms_of u s ≡ dooms_of u r) t (λ p f e. dooms_alike t p f e);
    }

-- ---- whatever is reported

tells_all : (o : ℕ) (keep : ℕ → Bool) (more : List Told) (s r : Tracked) → IsProper r → IsOldest o r → Thinned o keep s r → Each (IsFrom o) more → CanTellAll more r → CanTellAll more s
tells_all o keep [] s r h old thin from can = tt
tells_all o keep (x ∷ more) s r h old thin from can =
    (can_tell o r h old keep s thin x can.0, tells_all o keep more (told x s) (told x r) (proper_told r h x can.0) (oldest_told o r h old x from.0) (thin_told o r h old keep s thin x from.0 can.0) from.1 can.1)

all_alike : (o : ℕ) (keep : ℕ → Bool) (more : List Told) (s r : Tracked) → IsProper r → IsOldest o r → Thinned o keep s r → Each (IsFrom o) more → CanTellAll more r → AnswersAlike o (all_told more s) (all_told more r)
all_alike o keep [] s r h old thin from can = answers_alike o r h old keep s thin
all_alike o keep (x ∷ more) s r h old thin from can =
    all_alike o keep more (told x s) (told x r) (proper_told r h x can.0) (oldest_told o r h old x from.0) (thin_told o r h old keep s thin x from.0 can.0) from.1 can.1

pub thinned_alike : (o : ℕ) (keep : ℕ → Bool) (s r : Tracked) → IsProper r → IsOldest o r → Thinned o keep s r → Alike o s r
thinned_alike o keep s r h old thin = record { tells = λ more. tells_all o keep more s r h old thin; answers = λ more. all_alike o keep more s r h old thin }

-- ---- forgetting

abbrev stays : ℕ → Tracked → ℕ → Bool
stays o s n = nat_lt s.begun n || list_any (λ p. eqb p.number n && is_needed o s.parties p) s.parties

forget_thinned : (o : ℕ) (s : Tracked) → IsProper s → Thinned o (stays o s) (after_forget o s) s
forget_thinned o s h = record {
  begun = refl;
  commits = refl;
  parties = filter_alike (is_needed o s.parties) (λ p. stays o s p.number) s.parties same;
  later = λ n l. or_left (nat_lt s.begun n) _ (lt-ltb s.begun n l);
  needed = λ p i e. or_right (nat_lt s.begun p.number) _ (In-any (λ q. eqb q.number p.number && is_needed o s.parties q) s.parties p i (and_from (eqb p.number p.number) (is_needed o s.parties p) (eq-eqb p.number p.number refl) e));
}
  where
    same : (p : Party) → In p s.parties → is_needed o s.parties p ≡ stays o s p.number
    same p i = go (is_needed o s.parties p) refl
      where
        among : (q : Party) → In q s.parties → (eqb q.number p.number && is_needed o s.parties q) ≡ true → is_needed o s.parties p ≡ true
        among q j e =
            let b = and_parts (eqb q.number p.number) (is_needed o s.parties q) e in
            subst (λ z. is_needed o s.parties z ≡ true) (one_of_number s.parties h.rising q p j i (eqb-true q.number p.number b.0)) b.1

        one : (nat_lt s.begun p.number ≡ true) ⊎ (list_any (λ q. eqb q.number p.number && is_needed o s.parties q) s.parties ≡ true) → is_needed o s.parties p ≡ true
        one (inl e) = clash _ e (le-ltb s.begun p.number (Each-In (IsNumbered s.begun s.commits) s.parties p h.numbered i).number)
        one (inr e) = let x = any-In (λ q. eqb q.number p.number && is_needed o s.parties q) s.parties e in among x.0 x.1 x.2

        go : (b : Bool) → is_needed o s.parties p ≡ b → is_needed o s.parties p ≡ stays o s p.number
        go true e = e ∙ sym (or_right (nat_lt s.begun p.number) _ (In-any (λ q. eqb q.number p.number && is_needed o s.parties q) s.parties p i (and_from (eqb p.number p.number) (is_needed o s.parties p) (eq-eqb p.number p.number refl) e)))
        go false e = e ∙ sym (false_from_ne_true _ (λ d. clash _ (one (or_cases (nat_lt s.begun p.number) _ d)) e))

-- What is left answers alike.
pub forgets_alike : (o : ℕ) (s : Tracked) → IsProper s → IsOldest o s → Alike o (after_forget o s) s
forgets_alike o s h old = thinned_alike o (stays o s) (after_forget o s) s h old (forget_thinned o s h)

-- ---- trackers that answer alike

pub alike_itself : (o : ℕ) (s : Tracked) → Alike o s s
alike_itself o s = record { tells = λ more from can. can; answers = λ more from can. record { party = λ t e. refl; check = λ t. refl; first_out = λ t e. refl; dooms = λ t e. refl } }

pub alike_told : (o : ℕ) (s r : Tracked) (x : Told) → Alike o s r → IsFrom o x → CanTell x r → Alike o (told x s) (told x r)
alike_told o s r x a from can = record {
  tells = λ more f c. (a.tells (x ∷ more) (from, f) (can, c)).1;
  answers = λ more f c. a.answers (x ∷ more) (from, f) (can, c);
}

recent_before : (o p : ℕ) → o ≤ p → (x : Option Party) → is_recent_from p x ≡ true → is_recent_from o x ≡ true
recent_before o p l None e = e
recent_before o p l (Some q) e = go (or_cases q.active (nat_lt p (bound node edge q)) e)
  where
    go : (q.active ≡ true) ⊎ (nat_lt p (bound node edge q) ≡ true) → is_recent o q ≡ true
    go (inl a) = active_recent o q a
    go (inr a) = or_right q.active (nat_lt o (bound node edge q)) (lt-ltb o (bound node edge q) (let b = ltb-true p (bound node edge q) a in omega (arith, b, l)))

from_before : (o p : ℕ) → o ≤ p → (x : Told) → IsFrom p x → IsFrom o x
from_before o p l (Begins t m n) f = omega (arith, l, f)
from_before o p l (Reads t u) f = tt
from_before o p l (Moves t n) f = omega (arith, l, f)
from_before o p l (Commits t) f = tt
from_before o p l (Drops t) f = tt

all_before : (o p : ℕ) → o ≤ p → (more : List Told) → Each (IsFrom p) more → Each (IsFrom o) more
all_before o p l [] f = tt
all_before o p l (x ∷ more) f = (from_before o p l x f.0, all_before o p l more f.1)

answers_later : (o p : ℕ) (s r : Tracked) → o ≤ p → AnswersAlike o s r → AnswersAlike p s r
answers_later o p s r l a = record { party = λ t e. a.party t (recent_before o p l (party_of t r) e); check = a.check; first_out = λ t e. a.first_out t (recent_before o p l (party_of t r) e); dooms = λ t e. a.dooms t (recent_before o p l (party_of t r) e) }

pub alike_later : (o p : ℕ) (s r : Tracked) → o ≤ p → Alike o s r → Alike p s r
alike_later o p s r l a = record {
  tells = λ more f c. a.tells more (all_before o p l more f) c;
  answers = λ more f c. answers_later o p (all_told more s) (all_told more r) l (a.answers more (all_before o p l more f) c);
}

pub alike_answers : (o : ℕ) (s r : Tracked) → Alike o s r → AnswersAlike o s r
alike_answers o s r a = a.answers [] tt tt

answers_chain : (o : ℕ) (s r q : Tracked) → AnswersAlike o s r → AnswersAlike o r q → AnswersAlike o s q
answers_chain o s r q a b = record {
  party = λ t e. a.party t (there t e) ∙ b.party t e;
  check = λ t. a.check t ∙ b.check t;
  first_out = λ t e. a.first_out t (there t e) ∙ b.first_out t e;
  dooms = λ t e. a.dooms t (there t e) ∙ b.dooms t e;
}
  where
    there : (t : ℕ) → is_recent_from o (party_of t q) ≡ true → is_recent_from o (party_of t r) ≡ true
    there t e = ap (is_recent_from o) (b.party t e) ∙ e

pub alike_chain : (o : ℕ) (s r q : Tracked) → Alike o s r → Alike o r q → Alike o s q
alike_chain o s r q a b = record {
  tells = λ more f c. a.tells more f (b.tells more f c);
  answers = λ more f c. answers_chain o (all_told more s) (all_told more r) (all_told more q) (a.answers more f (b.tells more f c)) (b.answers more f c);
}
