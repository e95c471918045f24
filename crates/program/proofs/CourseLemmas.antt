-- What a history's records tell, once more of them are followed.
use Rattle.std.proofs.Common.{◌≡◌, ◌⊎◌, inl, inr, refl, sym, ap, ◌∙◌, subst, ℕ, ◌+◌, List, [], ◌∷◌, ◌++◌, length, take, drop, position, Option, Some, None, IfSome, Result, Ok, IfOk, append_assoc, arith, true≢false}
use Rattle.std.proofs.lemmas.List.{append-nil, take_all}
use Rattle.std.proofs.Math.Seq.{drop-append_seam}
use Rattle.std.specs.Result.{is_ok}
use Rattle.value.specs.Refusals.{AnswersOrNoMemory}
use Rattle.value.specs.declared.refusal.Refusal.{Refusal}
use Rattle.statement.specs.declared.reply.Reply.{Reply}
use Rattle.schema.specs.Definition.{Catalog}
use Rattle.history.specs.declared.event.Action.{Action}
use Rattle.history.specs.declared.event.Action.TheVariants.{Begin, Run, Broken, Poll, Export, Import, Commit, Rollback, Prune}
use Rattle.history.specs.declared.event.Record.{Record}
use Rattle.history.specs.Answer.{checkpoint_answer}
use Rattle.history.specs.Opening.{Recorded}
use Rattle.request.specs.declared.request.Request.{Request}
use Rattle.request.specs.Requests.{asked}
use Rattle.session.specs.Core.{from_opening}
use Rattle.asking.specs.Asking.{Replies}
use Rattle.script.specs.Printing.{reply_text}
use Rattle.retrace.specs.declared.run.When.{When}
use Rattle.retrace.specs.Past.{Bygone, after_all, followed, followed_by, followed_to, joined, unbegun, when}
use Rattle.retrace.specs.Explained.{why_told}
use Rattle.retrace.specs.Runs.{Going, is_its}
use Rattle.program.specs.Remarks.{IsFollowed, Noted, account_of, bygone, remarks_on, unnoted, with_line}
use Rattle.asking.specs.Checkpoints.{Checkpoints}
use Rattle.program.specs.Runs.{TellsWhy}

module _ {A : Type 0} where
  -- ---- how many records were followed

  joined-place : (s : ℕ) (a : Action A) (w : When) (p : Bygone A) → (joined s a w p).place ≡ p.place
  joined-place s (Begin m) w p = refl
  joined-place s (Run q) w p = refl
  joined-place s (Broken r) w p = refl
  joined-place s Poll w p = refl
  joined-place s Export w p = refl
  joined-place s (Import i) w p = refl
  joined-place s Commit w p = refl
  joined-place s Rollback w p = refl
  joined-place s Prune w p = refl

  followed_by-place : (c : Catalog) (w : When) (e : Record A) (o : Option ℕ) (p : Bygone A) → (followed_by c w e o p).place ≡ p.place
  followed_by-place c w e None p = joined-place e.session e.action w p
  followed_by-place c w e (Some i) p = refl

  followed-place : (c : Catalog) (n : ℕ) (e : Record A) (p : Bygone A) → (followed c n e p).place ≡ p.place + 1
  followed-place c n e p = followed_by-place c (when n (p.place + 1) e.action p.commits p.lent) e (position (is_its e.session) p.runs) (record p { place = p.place + 1 })

  after_all-place : (c : Catalog) (n : ℕ) (es : List (Record A)) (p : Bygone A) → (after_all c n es p).place ≡ p.place + length es
  after_all-place c n [] p = omega arith
  after_all-place c n (e ∷ es) p =
      let last : p.place + 1 + length es ≡ p.place + length (e ∷ es) = omega arith in
      after_all-place c n es (followed c n e p) ∙ ap (λ k. k + length es) (followed-place c n e p) ∙ last

  after_all-append : (c : Catalog) (n : ℕ) (es ds : List (Record A)) (p : Bygone A) → after_all c n (es ++ ds) p ≡ after_all c n ds (after_all c n es p)
  after_all-append c n [] ds p = refl
  after_all-append c n (e ∷ es) ds p = after_all-append c n es ds (followed c n e p)

  -- ---- what is known of the first records

  -- of none
  pub none_followed : (h : Recorded A) (p : Bygone A) → p ≡ unbegun h.opening → IsFollowed h p
  none_followed h p is = ([], h.records, refl, ap (λ (q : Bygone A). q.place) is, is)

  -- of all
  pub all_followed : (h : Recorded A) (p : Bygone A) → p ≡ bygone h → IsFollowed h p
  all_followed h p is =
      let count : p.place ≡ 0 + length h.records = ap (λ (q : Bygone A). q.place) is ∙ after_all-place h.opening.catalog h.opening.base.commits h.records (unbegun h.opening) in
      let all : p.place ≡ length h.records = omega (arith, count) in
      (h.records, [], sym (append-nil h.records), all, is)

  -- the records were followed that weren't yet
  pub followed_all : (h : Recorded A) (p : Bygone A) (n : ℕ) → n ≡ length h.records → IsFollowed h p → followed_to h.opening (take n h.records) p ≡ bygone h
  followed_all h p n count so =
      let c = h.opening.catalog in
      let base = h.opening.base.commits in
      let seen = so.0 in
      let rest = so.1 in
      let all : take n h.records ≡ h.records = take_all n h.records (omega (arith, count)) in
      let behind : drop p.place h.records ≡ rest = ap (λ m. drop m h.records) so.3 ∙ ap (drop (length seen)) so.2 ∙ drop-append_seam seen rest in
      ap (λ es. followed_to h.opening es p) all
      ∙ ap (λ es. after_all c base es p) behind
      ∙ ap (after_all c base rest) so.4
      ∙ sym (after_all-append c base seen rest (unbegun h.opening))
      ∙ ap (λ es. after_all c base es (unbegun h.opening)) (sym so.2)

  -- the history has one record more
  followed_on : (h : Recorded A) (e : Record A) (p : Bygone A) → IsFollowed h p → IsFollowed (record h { records = h.records ++ e ∷ [] }) p
  followed_on h e p so = (so.0, so.1 ++ e ∷ [], ap (λ es. es ++ e ∷ []) so.2 ∙ append_assoc so.0 so.1 (e ∷ []), so.3, so.4)

  -- the same history, or one with one record more
  known_on : (h k : Recorded A) (e : Record A) (o : Option (Bygone A)) → (k ≡ h) ⊎ (k ≡ record h { records = h.records ++ e ∷ [] }) → IfSome o (λ p. IsFollowed h p) → IfSome o (λ p. IsFollowed k p)
  known_on h k e None was so = tt
  known_on h k e (Some p) (inl is) so = subst (λ g. IsFollowed g p) (sym is) so
  known_on h k e (Some p) (inr is) so = subst (λ g. IsFollowed g p) (sym is) (followed_on h e p so)

  -- after the reply to what a session asked for
  pub known_after : (h k : Recorded A) (s : ℕ) (q : Request A) (r : Reply A) (o : Option (Bygone A)) → Replies h k s q r → IfSome o (λ p. IsFollowed h p) → IfSome o (λ p. IsFollowed k p)
  known_after h k s q r o (inl (inl t)) so = known_on h k (record { session = s; action = asked h.opening.catalog q; reply = r }) o (inr t.2) so
  known_after h k s q r o (inl (inr (inl t))) so = known_on h k (record { session = s; action = asked h.opening.catalog q; reply = r }) o (inl t.2) so
  known_after h k s q r o (inl (inr (inr t))) so = known_on h k (record { session = s; action = asked h.opening.catalog q; reply = r }) o (inl t.3) so
  known_after h k s q r o (inr t) so = known_on h k (record { session = s; action = asked h.opening.catalog q; reply = r }) o (inl t.2) so

  pub known_of : (h k : Recorded A) (o u : Option (Bygone A)) → u ≡ o → k ≡ h → IfSome o (λ p. IsFollowed h p) → IfSome u (λ p. IsFollowed k p)
  known_of h k o u same is so = subst (λ z. IfSome z (λ p. IsFollowed k p)) (sym same) (subst (λ g. IfSome o (λ p. IsFollowed g p)) (sym is) so)

  -- ---- remarks

  -- by what is known of all records
  pub explained_by : {X E : Type 0} (items : X → List ℕ) (r : Result X E) (h : Recorded A) (lines : List ℕ) (p : Bygone A) (gs : List (Going A)) (s : ℕ) (e : Refusal) → p ≡ bygone h → gs ≡ p.runs
      → IfOk r (λ t. items t ≡ why_told (record { catalog = h.opening.catalog; base = h.opening.base.transactions; runs = gs; lines = lines }) s e) → IfOk r (λ t. items t ≡ why_told (account_of h lines) s e)
  explained_by items r h lines p gs s e is runs told =
      subst (λ (hs : List (Going A)). IfOk r (λ t. items t ≡ why_told (record { catalog = h.opening.catalog; base = h.opening.base.transactions; runs = hs; lines = lines }) s e)) (runs ∙ ap (λ (q : Bygone A). q.runs) is) told

  -- of a history and its lines
  pub explained_of : (v w : Noted A) (h : Recorded A) (lines text : List ℕ) (s : ℕ) (e : Refusal) → text ≡ why_told (account_of h lines) s e → h ≡ w.history → lines ≡ w.lines → w ≡ v → text ≡ why_told (account_of v.history v.lines) s e
  explained_of v w h lines text s e told history noted is =
      told ∙ ap (λ g. why_told (account_of g lines) s e) history ∙ ap (λ ls. why_told (account_of w.history ls) s e) noted ∙ ap (λ (z : Noted A). why_told (account_of z.history z.lines) s e) is

  -- the reply, its line noted, and its remarks
  pub tells_why : (n : ℕ) (h m l k : Noted A) (s : ℕ) (q : Request A) (r : Reply A) (rest text : List ℕ)
      → Replies h.history m.history s q r → m.lines ≡ h.lines → l ≡ record m { lines = with_line n (length m.history.records) m.lines } → k ≡ l → rest ≡ remarks_on l s r → text ≡ reply_text s r ++ rest → TellsWhy n h k s q text
  tells_why n h m l k s q r rest text replied kept noted same remarks worded =
      let is : l ≡ record m { lines = with_line n (length m.history.records) h.lines } = noted ∙ ap (λ ls. record m { lines = with_line n (length m.history.records) ls }) kept in
      subst (λ z. TellsWhy n h z s q text) (sym (same ∙ is)) (r, replied, refl, worded ∙ ap (λ t. reply_text s r ++ t) (remarks ∙ ap (λ z. remarks_on z s r) is))

  -- a checkpoint that is done
  pub went_on : (most : ℕ) (v w k : Noted A) (next : Recorded A) → AnswersOrNoMemory (Ok next) (from_opening most (checkpoint_answer w.history.opening w.history.records most)) → w ≡ v → k ≡ unnoted next → Checkpoints most v.history k.history None
  went_on most v w k next (inl told) same is = subst (λ (z : Noted A). Checkpoints most z.history k.history None) same (sym told ∙ ap (λ (z : Recorded A). Ok z) (sym (ap (λ (z : Noted A). z.history) is)))
  went_on most v w k next (inr none) same is = absurd (true≢false (ap is_ok none))
