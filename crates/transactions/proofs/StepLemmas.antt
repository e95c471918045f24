-- An event of a session, from what was done with its transaction.
use Rattle.std.proofs.Common.{◌≡◌, refl, sym, ap, subst, ◌∙◌, ℕ, true, false, true≢false, List, [], Some, None, Result, Ok, Err}
use Rattle.std.specs.Prelude.{IfOk, IfErr, OnErr, OnOk}
use Rattle.std.specs.List.{find}
use Rattle.value.specs.Refusals.{out_of_memory}
use Rattle.value.specs.declared.refusal.Refusal.{Refusal}
use Rattle.schema.specs.Definition.{Catalog}
use Rattle.schema.specs.declared.tables.Tables.{Tables}
use Rattle.statement.specs.declared.reply.Reply.{Reply}
use Rattle.statement.specs.declared.reply.Reply.TheVariants.{Committed}
use Rattle.statement.specs.declared.statement.Statement.{Statement}
use Rattle.history.specs.declared.event.Action.{Action}
use Rattle.history.specs.declared.event.Action.TheVariants.{Run, Export, Commit}
use Rattle.history.specs.Transactions.{Txn, is_of, is_open}
use Rattle.history.specs.Answer.{cause_of, commit_reply, export_reply, idle, reply_from}
use Rattle.mvrows.specs.Versions.{VersionedRows}
use Rattle.transactions.specs.declared.answers.answered.Answered.{Answered}
use Rattle.transactions.specs.Answers.{both}
use Rattle.transactions.specs.Courses.{is_simple, takes_memory}
use Rattle.transactions.specs.Ledger.{Ledger, after_owned, committed_by, kept_after, txn_at, world_on}
use Rattle.transactions.specs.Runs.{only_reads}
use Rattle.transactions.specs.Steps.{HasRun, IsStepped, IsUndone}
use Rattle.transactions.specs.Versions.{AreCurrent, HasSameCommits, StayShown, versions_at}
use Rattle.transactions.proofs.InstallLemmas.{stay-same}
use Rattle.transactions.proofs.RunLemmas.{open_ready, over_after, over-commits, over_reply}

-- what is known of a result, in parts
pub on_done : {T E : Type 0} (P Q : T → Type 0) (L : Type 0) (S : T → Type 0) (r : Result T E) → ((x : T) → P x → Q x → L → S x) → IfOk r P → IfOk r Q → OnOk r L → IfOk r S
on_done P Q L S (Ok x) f p q l = f x p q l
on_done P Q L S (Err e) f p q l = tt

pub if_done : {T E : Type 0} (P Q V S : T → Type 0) (r : Result T E) → ((x : T) → P x → Q x → V x → S x) → IfOk r P → IfOk r Q → IfOk r V → IfOk r S
if_done P Q V S (Ok x) f p q v = f x p q v
if_done P Q V S (Err e) f p q v = tt

module _ {A : Type 0} where
  -- ---- out of memory

  pub undone : {T : Type 0} (a : Action A) (l m : Ledger A) (rows more : List (VersionedRows A)) (r : Result T Refusal) → OnErr r (takes_memory a ≡ true) → IfErr r (λ e. e ≡ out_of_memory) → OnErr r (m ≡ l) → OnErr r (more ≡ rows) → IfErr r (λ e. IsUndone a e l rows m more)
  undone a l m rows more (Ok x) taken memory world versions = tt
  undone a l m rows more (Err e) taken memory world versions = record { memory = memory; taken = taken; world = world; versions = versions }

  -- a statement takes memory
  pub reads-take : (a : Action A) → only_reads a ≡ true → takes_memory a ≡ true
  reads-take (Run q) e = refl
  reads-take _ e = absurd (true≢false (sym e))

  -- ---- an event of a session with no transaction

  none-commits : (a : Action A) (r : Reply A) → committed_by a r None ≡ []
  none-commits Commit Committed = refl
  none-commits Commit _ = refl
  none-commits _ r = refl

  pub stepped-none : (c : Catalog) (s : ℕ) (a : Action A) (l : Ledger A) (rows : List (VersionedRows A)) (given : Answered A) (m : Ledger A) → AreCurrent l rows → given ≡ both (idle a)
      → ((c : Catalog) (X : Tables A) → m ≡ kept_after (world_on c X l) s a given.reply None) → HasSameCommits l m → IsStepped c s a None l rows given m rows
  stepped-none c s a l rows given m current reply world log = record {
    reply = λ X. reply;
    world = world c;
    versions = subst (λ xs. StayShown l rows xs m rows) (sym (none-commits a given.reply)) (stay-same l m rows rows log refl current);
  }

  -- ---- an event of the session whose transaction is t

  module _ (c : Catalog) (s : ℕ) (t : Txn A) (l : Ledger A) (rows : List (VersionedRows A)) (current : AreCurrent l rows) where
    -- it is over
    pub stepped-over : (a : Action A) (given : Answered A) (m : Ledger A) → is_open t.standing ≡ false → ((c : Catalog) (X : Tables A) → given ≡ both (reply_from t.standing (world_on c X l) t a))
        → ((c : Catalog) (X : Tables A) → m ≡ after_owned (world_on c X l) a given.reply t) → HasSameCommits l m → IsStepped c s a (Some t) l rows given m rows
    stepped-over a given m over reply world log = record {
      reply = λ X. reply c X ∙ ap both (over_reply (world_on c X l) (versions_at rows) a t over);
      world = λ X. world c X ∙ over_after (world_on c X l) (versions_at rows) a given.reply t over;
      versions = subst (λ xs. StayShown l rows xs m rows) (sym (ap (λ (r : Answered A). committed_by a r.reply (Some t)) (reply c []) ∙ over-commits (world_on c [] l) t a (Some t) over)) (stay-same l m rows rows log refl current);
    }

    -- it adds nothing but an event
    pub stepped-simple : (a : Action A) (given : Answered A) (m : Ledger A) → is_simple a ≡ true → ((c : Catalog) (X : Tables A) → given ≡ both (reply_from t.standing (world_on c X l) t a))
        → ((c : Catalog) (X : Tables A) → m ≡ after_owned (world_on c X l) a given.reply t) → HasSameCommits l m → IsStepped c s a (Some t) l rows given m rows
    stepped-simple (Run q) given m simple reply world log = absurd (true≢false (sym simple))
    stepped-simple Export given m simple reply world log = absurd (true≢false (sym simple))
    stepped-simple Commit given m simple reply world log = absurd (true≢false (sym simple))
    stepped-simple _ given m simple reply world log = record { reply = reply c; world = world c; versions = stay-same l m rows rows log refl current }

    -- a statement
    pub stepped-run : (q : Statement A) (given : Answered A) (m : Ledger A) → is_open t.standing ≡ true → HasRun c (versions_at rows) t q l given m → IsStepped c s (Run q) (Some t) l rows given m rows
    stepped-run q given m o h = record {
      reply = λ X. h.reply X ∙ ap both (open_ready (world_on c X l) (versions_at rows) (Run q) t o);
      world = h.world;
      versions = stay-same l m rows rows h.log refl current;
    }

    pub stepped-export : (given : Answered A) (m : Ledger A) → is_open t.standing ≡ true → ((c : Catalog) (X : Tables A) → given ≡ both (export_reply (world_on c X l) t))
        → ((c : Catalog) (X : Tables A) → m ≡ after_owned (world_on c X l) Export given.reply t) → HasSameCommits l m → IsStepped c s Export (Some t) l rows given m rows
    stepped-export given m o reply world log = record {
      reply = λ X. reply c X ∙ ap both (open_ready (world_on c X l) (versions_at rows) Export t o);
      world = world c;
      versions = stay-same l m rows rows log refl current;
    }

    pub stepped-commit : (given : Answered A) (m : Ledger A) (more : List (VersionedRows A)) → is_open t.standing ≡ true → ((c : Catalog) (X : Tables A) → given ≡ both (commit_reply (cause_of (world_on c X l) t)))
        → ((c : Catalog) (X : Tables A) → m ≡ after_owned (world_on c X l) Commit given.reply t) → StayShown l rows (committed_by Commit given.reply (Some t)) m more → IsStepped c s Commit (Some t) l rows given m more
    stepped-commit given m more o reply world stay = record {
      reply = λ X. reply c X ∙ ap both (open_ready (world_on c X l) (versions_at rows) Commit t o);
      world = world c;
      versions = stay;
    }

  -- the actions that aren't simple
  pub simple_else : (a : Action A) → ((q : Statement A) → a ≡ Run q → ⊥) → (a ≡ Export → ⊥) → (a ≡ Commit → ⊥) → is_simple a ≡ true
  simple_else (Run q) run export commit = absurd (run q refl)
  simple_else Export run export commit = absurd (export refl)
  simple_else Commit run export commit = absurd (commit refl)
  simple_else _ run export commit = refl

  -- what is said of a transaction is said of the session that has it
  pub stepped-found : (c : Catalog) (s n : ℕ) (a : Action A) (l : Ledger A) (rows : List (VersionedRows A)) (given : Answered A) (m : Ledger A) (more : List (VersionedRows A)) → find (is_of s) l.txns ≡ Some (txn_at l.txns n)
      → IsStepped c (txn_at l.txns n).session a (Some (txn_at l.txns n)) l rows given m more → IsStepped c s a (find (is_of s) l.txns) l rows given m more
  stepped-found c s n a l rows given m more found h = subst (λ o. IsStepped c s a o l rows given m more) (sym found) (record { reply = h.reply; world = h.world; versions = h.versions })
