-- It asks the counter, and answers `Err` or what the inner allocator answers. Assumes `Logic`.
use Rattle.std.proofs.Common.{◌≡◌, ℕ, ◌^◌, ◌<◌, Bool, true, false, List, [], ◌∷◌, Ok, Err, refl, w64, Bor}
use seplogic.Ra.Ura.{Ura}
use mir.Syntax.{Ty, Fn}
use mir.Val.{Val, vint, vptr, vbool}
use mir.MapTy.{inst_fn}
use base.Logic.{SProp, ent, id⊢}
use base.Fml.{Lft, Share, ftrue, flft}
use prog.Memory.{Memory, size, align, capped}
use prog.Routine.{Routine}
use prog.Wp.{WpFn, Tables}
use types.Logic.{Logic}
use types.Kit.{Item, Sq, ‵, raw, prop, at_ret, ◌⊛◌, some, later, given, ◌$◌, ◌∵◌, !, qed, move, keep, drop, use0, use1, use2, pick, learn, split, join, fsplit, fjoin, suffices, await, done}
use types.Run.{enter, stop, fld, addr, lit, no_more, and_then, first, branches, skips, exec, returns, returns_within}
use types.ByLocal.{alloc_all, pass_all, free_all, look_at, get, through, sets, lands_as, env}
use types.Part.{agg}
use Rattle.std.proofs.VecSteps.Shapes.{after}
use contract.BorrowLft.{◌⊑◌, ⊑_trans}
use contract.Monad.{Fun, fact}
use contract.Running.{tables, tables_of}
use sound.WpLaws.{fm_of, WpFn-mono}
use denote.Builtin.{usize}
use denote.Exit.{yes}
use denote.Opens.{unhide}
use denote.Plain.{uint_vals, uint_Tells}
use denote.RattleType.{owns}
use denote.RawPtr.{block_ptr}
use denote.Ref.{shr_vals}
use denote.Signature.{plain, types_at}
use denote.Steps.{heard, nothing}
use denote.Triple.Call.{calls_at}
use denote.Triple.Clauses.{Ended, Clauses}
use denote.Triple.Spec.{triple_of}
use denote.Triple.Statement.{Triple}
use denote.Triple.Table.{entered, cited}
use denote.Triple.Walked.{Stays, stay_dropped, walk_of, ends_at, walked, Goes-dropped, walk_Meets}
use Rattle.std.proofs.alloc.Calls.{Al, seen, token, got, Answer, answer_val, Answer-typed, Answer-Ok, Answer-err, takes_key, Takes, at_takes, Answered, Takes-goes, Takes-gives, answers}
use Rattle.scarce.proofs.Handle.{args, handle, inner_at, counter_at}
use Rattle.scarce.proofs.Requested.{counter, Asks, asked, Asks-takes, Asks-leaves}
use Rattle.scarce.proofs.Requests.is_next_refused.Symbol as asks_key
use Rattle.scarce.proofs.Requests.is_next_refused.Met as asks_met
use Rattle.scarce.specs.contracts.Scarce.{the_row as Whole}
use Rattle.scarce.specs.contracts.ScarceAllocator.allocate as F
use Rattle.scarce.specs.contracts.ScarceAllocator.allocate.Key as key
use Rattle.scarce.proofs.ScarceAllocator.allocate.Statement as stated
use Rattle.scarce.proofs.ScarceAllocator.allocate.Code as code

module _ (Z : Al) where
  abbrev here : Fn
  here = inst_fn (args Z) code.function

  abbrev ended : Ended
  ended = F.ended Z.row Z.g Z.d Z.drops

  abbrev stayed : Stays ended.signature.params ended.kept
  stayed = (stay_dropped (handle Z) yes, (stay_dropped (plain (λ _. usize)) yes, (stay_dropped (plain (λ _. usize)) yes, tt)))

module _ (Z : Al) {M : Type 1} {𝓤 : Ura M} (𝓛 : Logic 𝓤) (at_mem : Memory → SProp 𝓤) (run : Routine → Fun 𝓤) (κ₁ κ₂ : Lft) (q₁ q₂ : Share) (inn : κ₁ ⊑ κ₂) (r : Bor (Whole Z.row).Denot) (n a : ℕ) (τ : Ty) where
  abbrev held : Clauses 𝓤 (ended Z)
  held = F.clauses Z.row Z.g Z.d Z.drops 𝓛 at_mem run

  abbrev bound : (walk_of 𝓛 (ended Z) (stayed Z) held).Ghost
  bound = (((κ₁, (κ₂, tt)), (q₁, (q₂, tt)), (inn, tt), (r, (n, (a, tt))), (shr_vals r, (vint w64 n ∷ [], (vint w64 a ∷ [], tt)))), τ)

  abbrev Post : Val → SProp 𝓤
  Post = (walk_of 𝓛 (ended Z) (stayed Z) held).post bound

  -- At the return: the block, if there is one, and the tokens.
  abbrev Left : Bool → ℕ → ℕ → List (Item 𝓤)
  Left y b o = ‵ (got (token Z r.now.inner) τ y b o) ∷ ‵ (flft κ₁ q₁) ∷ (‵ (flft κ₂ q₂) ⊛ ‵ ftrue) ∷ []

  ends : (y : Bool) (b o : ℕ) → Sq 𝓛 (Left y b o) (prop (Post (answer_val y b o)))
  ends true b o =
      suffices ! _ (ends_at 𝓛 (ended Z) (stayed Z) held bound (answer_val true b o) (Ok (block_ptr b o)) (tt, (tt, (tt, tt))) (tt, (tt, (tt, tt)))) $
      use0 𝓛 (‵ (Answer.own_val (Ok (block_ptr b o)) (answer_val true b o ∷ []))) (Answer-Ok 𝓛 b o) $
      nothing ! $ nothing ! $ fjoin ! $ nothing ! $ fjoin ! $ nothing ! $ fjoin ! $ join ! $ move ! (2 ∷ 3 ∷ []) $ join ! $ join ! $ done !
  ends false b o =
      suffices ! _ (ends_at 𝓛 (ended Z) (stayed Z) held bound (answer_val false b o) (Err (record {})) (tt, (tt, (tt, tt))) (tt, (tt, (tt, tt)))) $
      use0 𝓛 (‵ (Answer.own_val (Err (record {})) (answer_val false b o ∷ []))) (Answer-err 𝓛) $
      nothing ! $ nothing ! $ fjoin ! $ nothing ! $ fjoin ! $ nothing ! $ fjoin ! $ join ! $ move ! (2 ∷ 3 ∷ []) $ join ! $ join ! $ done !

module _ (Z : Al) {M : Type 1} {𝓤 : Ura M} (𝓛 : Logic 𝓤) (at_mem : Memory → SProp 𝓤) (run : Routine → Fun 𝓤) (𝓣 : Tables 𝓤 𝓛.H)
    (takes : Triple 𝓤 (𝓣.C (takes_key Z)) (Takes Z 𝓛 at_mem run)) (asks : Triple 𝓤 (𝓣.C asks_key.name) (Asks 𝓛 at_mem run))
    (κ₁ κ₂ : Lft) (q₁ q₂ : Share) (inn : κ₁ ⊑ κ₂) (r : Bor (Whole Z.row).Denot) (n a : ℕ) (τ : Ty) where
  open 𝓛 use {H}

  abbrev vs : List Val
  vs = vptr r.ref_ptr.0 r.ref_ptr.1 ∷ vint w64 n ∷ vint w64 a ∷ []

  abbrev y : (walk_of 𝓛 (ended Z) (stayed Z) (held Z 𝓛 at_mem run κ₁ κ₂ q₁ q₂ inn r n a τ)).Ghost
  y = bound Z 𝓛 at_mem run κ₁ κ₂ q₁ q₂ inn r n a τ

  walk : n < 2 ^ 64 → a < 2 ^ 64 → ent 𝓤 ((walk_of 𝓛 (ended Z) (stayed Z) (held Z 𝓛 at_mem run κ₁ κ₂ q₁ q₂ inn r n a τ)).pre y) (WpFn 𝓤 H 𝓣.C 𝓣.Λ (here Z) vs (Post Z 𝓛 at_mem run κ₁ κ₂ q₁ q₂ inn r n a τ))
  walk fits_n fits_a =
      let h : Z.row.Denot = r.now.inner in
      let p : ℕ × ℕ = inner_at Z r.ref_ptr in
      let c : ℕ × ℕ = counter_at Z r.ref_ptr in
      let z : (Takes Z 𝓛 at_mem run).Ghost = at_takes Z 𝓛 at_mem run κ₁ q₁ p h n a τ in
      let Sized : Type 0 = (capped (size τ) ≡ n) × (capped (align τ) ≡ a) in
      let out = ends Z 𝓛 at_mem run κ₁ κ₂ q₁ q₂ inn r n a τ in
      qed 𝓛 (((‵ (flft κ₁ q₁) ⊛ ‵ (flft κ₂ q₂) ⊛ ‵ ftrue) ⊛ ‵ (owns (types_at (ended Z).signature.params y.0.0) y.0.3 y.0.4)) ∷ (raw (fact 𝓤 (κ₂ ⊑ Z.row.lives)) ⊛ raw (fact 𝓤 Sized)) ∷ []) ∵
      move ! (1 ∷ []) $ split ! $ heard ! (κ₂ ⊑ Z.row.lives) (λ lives. heard ! Sized (λ sized.
      split ! $ split ! $ move ! (2 ∷ []) $ fsplit ! $ fsplit ! $ move ! (1 ∷ []) $ unhide ! $ fsplit ! $ fsplit ! $
      use1 𝓛 (‵ (seen Z κ₁ p h)) (id⊢ 𝓤 _) $ move ! (1 ∷ []) $ fsplit ! $ use1 𝓛 (‵ (counter κ₁ r.now.requests c)) (id⊢ 𝓤 _) $ keep ! (0 ∷ 6 ∷ 2 ∷ 7 ∷ []) $
      -- [the counter; the token of κ₁; the inner allocator; the other tokens]
      enter ! 𝓣.C 𝓣.Λ (here Z) vs _ $ alloc_all ! (λ l. pass_all ! refl ((tt, tt), ((tt, record { fits = fits_n }), ((tt, record { fits = fits_a }), tt))) $
      sets ! (addr ! (through ! refl (fld ! refl (stop !)))) refl (tt, tt) $
      use2 𝓛 (raw ((Asks 𝓛 at_mem run).pre (asked 𝓛 at_mem run κ₁ q₁ r.now.requests c))) (Asks-takes 𝓛 at_mem run κ₁ q₁ r.now.requests c) $
      calls_at ! (fm_of 𝓤 H 𝓛.laws 𝓣) (Asks 𝓛 at_mem run) asks (asked 𝓛 at_mem run κ₁ q₁ r.now.requests c) (and_then ! (get ! refl) (no_more !)) (λ u.
      use1 𝓛 (later (some (λ (t : Bool). given (u ≡ vbool t) (‵ (flft κ₁ q₁))))) (Asks-leaves 𝓛 at_mem run κ₁ q₁ r.now.requests c u) $ await ! tt $ pick ! (λ t. learn ! (λ is.
      lands_as ! is refl (tt, tt) $
      -- [the token of κ₁; the inner allocator; the other tokens]
      first ! $ branches ! (get ! refl)
      (λ refused. move ! (1 ∷ []) $ drop ! $ nothing ! $
      sets ! (agg ! (no_more !)) refl (tt, tt) $ sets ! (agg ! (and_then ! (lit ! tt) (and_then ! (get ! refl) (no_more !)))) refl (Answer-typed false 0 0) $
      returns_within ! (Post Z 𝓛 at_mem run κ₁ κ₂ q₁ q₂ inn r n a τ) refl (look_at ! 0 refl) $ free_all ! refl $ out false 0 0)
      (λ allowed. skips ! $ exec ! 𝓣.C 𝓣.Λ (env (here Z).locals l) (after 3 (here Z).body) (at_ret _ (Post Z 𝓛 at_mem run κ₁ κ₂ q₁ q₂ inn r n a τ)) $
      sets ! (addr ! (through ! refl (fld ! refl (stop !)))) refl (tt, tt) $ move ! (1 ∷ 0 ∷ []) $
      use2 𝓛 (raw ((Takes Z 𝓛 at_mem run).pre z)) (Takes-goes Z 𝓛 at_mem run κ₁ q₁ p h (⊑_trans κ₁ κ₂ Z.row.lives inn lives) n a τ sized.0 sized.1 fits_n fits_a) $
      calls_at ! (fm_of 𝓤 H 𝓛.laws 𝓣) (Takes Z 𝓛 at_mem run) takes z (and_then ! (get ! refl) (and_then ! (get ! refl) (and_then ! (get ! refl) (no_more !)))) (λ v.
      use1 𝓛 (later (raw (Answered Z 𝓛 at_mem run h τ v) ⊛ ‵ (flft κ₁ q₁))) (Takes-gives Z 𝓛 at_mem run κ₁ q₁ p h n a τ v) $ await ! tt $ split ! $
      answers Z ! at_mem run h τ v
      (λ b o e. fjoin ! $ lands_as ! e refl (Answer-typed true b o) $ returns ! (look_at ! 0 refl) $ free_all ! refl $ out true b o)
      (λ e. nothing ! $ lands_as ! e refl (Answer-typed false 0 0) $ returns ! (look_at ! 0 refl) $ free_all ! refl $ out false 0 0)))))))))

pub allocate_spec : {M : Type 1} → stated.statement M
unfolding tables_of
allocate_spec 𝓤 𝓛 𝓜 𝓡 wired Y L g d d' met _ =
    let Z : Al = record { row = Y; laws = L; g = g; d = d; drops = d' } in
    let 𝓣 : Tables 𝓤 𝓛.H = tables_of 𝓤 𝓛.H 𝓜 (tables 𝓤 𝓛.H 𝓜 𝓡 𝓡.env) in
    let c = F.clauses Y g d d' 𝓛 𝓜.mem 𝓡.returns in
    let whole = WpFn 𝓤 𝓛.H 𝓣.C 𝓣.Λ (here Z) in
    let number = Goes-dropped 𝓛 2 (plain (λ _. usize)) yes (λ κs x f. refl) in
    let asks = cited 𝓤 𝓛.H _ 𝓜 𝓡 𝓡.env asks_key.name (𝓡.env asks_key.name) refl (asks_met.met 𝓤 𝓛 𝓜 𝓡 (code.calls-scarce::Requests::is_next_refused 𝓡.env wired)) in
    entered 𝓤 𝓛.H (triple_of 𝓛 (F.signature Y) (F.spec Y g d d' 𝓛 𝓜.mem 𝓡.returns)) 𝓣.C 𝓣.Λ (key.name (args Z)) (here Z) (code.unfolded 𝓤 𝓛.H 𝓜 𝓡 wired (Y, tt) d d')
    (walk_Meets 𝓛 (ended Z) (stayed Z) (Goes-dropped 𝓛 2 (handle Z) yes (λ κs x f. refl), (number, (number, tt))) c whole (WpFn-mono 𝓤 𝓛.H 𝓛.laws 𝓣 (here Z))
    (walked 𝓛 (ended Z) (stayed Z) c whole (λ κs. (shr_vals, (uint_vals w64, (uint_vals w64, tt)))) (λ κs. ((λ r vs s. s.0), (uint_Tells w64, (uint_Tells w64, tt))))
    (λ κs qs bounds a τ are. walk Z 𝓛 𝓜.mem 𝓡.returns 𝓣 (met.allocate d') asks κs.0 κs.1.0 qs.0 qs.1.0 bounds.0 a.0 a.1.0 a.1.1.0 τ are.1.0.1 are.1.1.0.1)))
