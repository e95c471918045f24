-- `into_loose` takes the pointer and what it owns out, where the handle is open.
use Rattle.std.proofs.Common.{◌≡◌, true, false, List, [], ◌∷◌, ◌++◌, refl, sym, ap, subst, Some, None, lit<}
use mathlib.Core.Path.{◌∙◌}
use mir.Syntax.{ty_ptr, impl, tnil, dnil}
use mir.Raw.{raw as bare}
use mir.Val.{Val, vptr, vbool, vstruct, of_list, has_ty}
use base.Logic.{SProp, ent, emp, id⊢, never, fst∗}
use base.Fml.{ftrue}
use prog.Wp.{WpFn}
use types.Logic.{sem}
use types.Kit.{‵, raw, ◌⊛◌, ◌$◌, ◌∵◌, !, qed, by, move, keep, drop, split, fsplit, fjoin, fpick, feq_l, suffices, use0, use1, at_ret}
use types.Part.{agg, sub, whole}
use types.Run.{enter, of_opd, un, no_more, and_then, returns, returns_within, stop, fld, first, branches, skips, exec, lit}
use types.ByLocal.{alloc_all, pass_all, free_all, look_at, get, get_in, sets, env}
use contract.Monad.{fact, fact_i}
use contract.Running.{tables}
use denote.Exit.{yes}
use denote.RattleType.{RattleType, owns}
use Rattle.library_c.specs.contracts.kept.Kept as Kept
use denote.RawPtr.{Ptr, block_ptr, null_ptr, ptr_val, in_a_block}
use denote.Signature.{types_at, plain}
use denote.Steps.{nothing}
use types.Match.{live}
use Rattle.std.specs.contracts.option.Option as OP
use Rattle.std.proofs.option.Made.{Some-of, none_of}
use Rattle.std_alloc.proofs.ResultValues.{and_tt}
use denote.Triple.Walked.{Stays, stay_dropped, walk_of, Goes-dropped}
use Rattle.std.proofs.raw_atomic.Walks.{proved_at, leaves}
use Rattle.std.proofs.alloc.Calls.{Al, handle_tells}
use Rattle.std.specs.Box.Ownership.{box_owns}
use denote.Memory.{lone}
use Rattle.std_heap.specs.contracts.Global as heap
use Rattle.std_heap.proofs.Global.TheLaws as heap_laws
use Rattle.std_heap.specs.contracts.GlobalAllocator.TheImpl.{ghosts}
use Rattle.library_c.proofs.Values.{Loose, both, by_value, loose_good, loose_in, ptr_good}
use Rattle.library_c.specs.contracts.handle.Handle as Handle
use Rattle.library_c.specs.contracts.handle.Handle.into_loose as f
use Rattle.library_c.proofs.handle.Handle.into_loose.Statement.{statement}
use Rattle.library_c.proofs.handle.Handle.into_loose.Code as code

abbrev al : Al
al = record { row = heap.the_row; laws = heap_laws.the_row_laws; g = ghosts; d = impl [] tnil dnil; drops = impl [] tnil dnil }

pub into_loose_spec : {M : Type 1} → statement M
into_loose_spec 𝓤 𝓛 𝓜 𝓡 wired =
    let H = 𝓛.H in let 𝓣 = tables 𝓤 H 𝓜 𝓡 𝓡.env in let Z : RattleType = heap.the_row in let LZ = heap_laws.the_row_laws in let c = f.clauses 𝓛 𝓜.mem 𝓡.returns in
    let Lo : RattleType = Loose Kept.the_row Z LZ ghosts in
    let hs : Stays f.ended.signature.params f.ended.kept = (stay_dropped (plain (λ _. Handle.the_row)) yes, (stay_dropped (plain (λ _. Z)) yes, tt)) in
    proved_at 𝓛 f.ended hs c 𝓜 𝓡 (Goes-dropped 𝓛 0 (plain (λ _. Handle.the_row)) yes (λ κs x w. refl), (Goes-dropped 𝓛 0 (plain (λ _. Z)) yes (λ κs x w. refl), tt)) f.Key.name code.function (code.unfolded 𝓤 H 𝓜 𝓡 wired) (λ z are.
    let κs = z.0.0 in let d = z.0.3.0 in let a = z.0.3.1.0 in let Post : Val → SProp 𝓤 = (walk_of 𝓛 f.ended hs c).post z in let Run : List Val → SProp 𝓤 = λ ws. WpFn 𝓤 H 𝓣.C 𝓣.Λ code.function ws Post in
    let asked = raw ((c κs z.0.3).requires z.1) in
    qed 𝓛 ((‵ ftrue ⊛ ‵ (owns (types_at f.ended.signature.params κs) z.0.3 z.0.4)) ∷ asked ∷ []) ∵ split ! $ move ! (1 ∷ []) $ fsplit ! $
    fsplit ! $ fpick ! (λ vss. fsplit ! $ feq_l ! (λ ev. fsplit ! $ feq_l ! (λ ep. fsplit ! $ feq_l ! (λ eb. drop ! $ move ! (1 ∷ []) $ fsplit ! $ handle_tells al ! a z.0.4.1.0 (λ h ea fits. move ! (1 ∷ []) $ drop ! $ move ! (1 ∷ []) $
    by_value ! d.is_open d.at d.value
    (λ x some opened. in_a_block ! d.at (λ p. box_owns (ghosts.dealloc_token a) Kept.the_row p x) (fst∗ 𝓤 (never 𝓤) (sem 𝓛 (ghosts.dealloc_token a (bare (lone Kept.the_row.mir)) null_ptr))) (λ b o at.
    let w : Val = both (vptr b o) (vbool true) in
    let l : Val = both (vptr b o) h in
    let es : z.0.4.0 ≡ w ∷ [] = ev ∙ (λ i. vstruct (of_list ((ep ∙ ap (λ (p : Ptr). ptr_val p ∷ []) at) i ++ ((eb ∙ ap (λ q. vbool q ∷ []) opened) i ++ []))) ∷ []) in
    let fit = loose_good Kept.the_row Z LZ ghosts b o h fits in
    let made : Lo.Denot = record { at = block_ptr b o; alloc = a; value = x } in
    suffices ! (Run (w ∷ h ∷ [])) (subst (λ (us : List Val). ent 𝓤 (Run (w ∷ h ∷ [])) (Run us)) (sym (λ i. es i ++ (ea i ++ []))) (id⊢ 𝓤 (Run (w ∷ h ∷ [])))) $
    enter ! 𝓣.C 𝓣.Λ code.function (w ∷ h ∷ []) Post $ alloc_all ! (λ m. pass_all ! refl ((tt, (tt, (tt, tt))), (fits, tt)) $
    sets ! (of_opd ! (get_in ! (fld ! refl (stop !)) (sub ! 0 refl (whole !)))) refl (tt, tt) $
    sets ! (of_opd ! (get_in ! (fld ! refl (stop !)) (sub ! 1 refl (whole !)))) refl (tt, tt) $
    sets ! (un ! (get ! refl) tt) refl (tt, tt) $
    first ! $ branches ! (get ! refl) (λ t. absurd t)
    (λ t. skips ! $ exec ! 𝓣.C 𝓣.Λ (env code.function.locals m) code.Mir.t-5 (at_ret (env code.function.locals m) Post) $
    sets ! (of_opd ! (get ! refl)) refl (tt, tt) $
    sets ! (agg ! (and_then ! (get ! refl) (and_then ! (get ! refl) (no_more !)))) refl (loose_good Kept.the_row Z LZ ghosts b o h fits) $
    sets ! (agg ! (and_then ! (lit ! tt) (and_then ! (get ! refl) (no_more !)))) refl (and_tt _ fit.0, (record { fits = lit< tt }, (fit.1, tt))) $
    returns ! (look_at ! 0 refl) $ free_all ! refl $ loose_in Kept.the_row Z LZ ghosts ! b o h a x $
    use1 𝓛 (‵ ((OP.the_row Lo).own_val (Some made) (live 1 (of_list (l ∷ [])) ∷ []))) (Some-of 𝓛 Lo made l) $
    use0 𝓛 (raw (fact 𝓤 (Some x ≡ d.value))) (fact_i 𝓤 (Some x ≡ d.value) (emp 𝓤) (sym some)) $
    nothing ! $ nothing ! $ fjoin ! $ nothing ! $ fjoin ! $ keep ! (3 ∷ 0 ∷ 2 ∷ 1 ∷ []) $
    by ! (leaves 𝓛 f.ended hs c z (live 1 (of_list (l ∷ []))) (Some made) (tt, (tt, tt)) (tt, (tt, tt)))))))
    (λ none shut.
    let w : Val = both (ptr_val d.at) (vbool false) in
    let es : z.0.4.0 ≡ w ∷ [] = ev ∙ (λ i. vstruct (of_list (ep i ++ ((eb ∙ ap (λ q. vbool q ∷ []) shut) i ++ []))) ∷ []) in
    let good = ptr_good d.at in
    suffices ! (Run (w ∷ h ∷ [])) (subst (λ (us : List Val). ent 𝓤 (Run (w ∷ h ∷ [])) (Run us)) (sym (λ i. es i ++ (ea i ++ []))) (id⊢ 𝓤 (Run (w ∷ h ∷ [])))) $
    enter ! 𝓣.C 𝓣.Λ code.function (w ∷ h ∷ []) Post $ alloc_all ! (λ m. pass_all ! refl ((and_tt (has_ty ty_ptr (ptr_val d.at)) good.0, (good.1, (tt, tt))), (fits, tt)) $
    sets ! (of_opd ! (get_in ! (fld ! refl (stop !)) (sub ! 0 refl (whole !)))) refl good $
    sets ! (of_opd ! (get_in ! (fld ! refl (stop !)) (sub ! 1 refl (whole !)))) refl (tt, tt) $
    sets ! (un ! (get ! refl) tt) refl (tt, tt) $
    first ! $ branches ! (get ! refl)
    (λ t. sets ! (agg ! (and_then ! (lit ! tt) (no_more !))) refl (tt, (record { fits = lit< tt }, tt)) $ returns_within ! Post refl (look_at ! 0 refl) $ free_all ! refl $
    use0 𝓛 (‵ ((OP.the_row Lo).own_val None (live 0 (of_list []) ∷ []))) (none_of 𝓛 Lo) $
    use0 𝓛 (raw (fact 𝓤 (None ≡ d.value))) (fact_i 𝓤 (None ≡ d.value) (emp 𝓤) (sym none)) $
    nothing ! $ nothing ! $ fjoin ! $ nothing ! $ fjoin ! $ keep ! (4 ∷ 0 ∷ 2 ∷ 1 ∷ []) $
    by ! (leaves 𝓛 f.ended hs c z (live 0 (of_list [])) None (tt, (tt, tt)) (tt, (tt, tt))))
    (λ t. absurd t)))))))))
