-- `into_room` tests the place: at null there is nothing, else it is a room's.
use Rattle.std.proofs.Common.{◌≡◌, List, [], ◌∷◌, ◌++◌, refl, sym, ap, ◌∙◌, subst, lit<}
use mir.Val.{Val, vptr, vcons, vnil}
use base.Logic.{SProp, ent, id⊢, emp}
use base.Fml.{ftrue}
use prog.Wp.{WpFn}
use types.Kit.{‵, raw, ◌⊛◌, at_ret, ◌$◌, ◌∵◌, !, qed, by, move, keep, split, fsplit, fjoin, suffices, use0, use1}
use types.Run.{stop, fld, lit, of_opd, bin, no_more, and_then, first, branches, exec, returns, enter}
use types.ByLocal.{alloc_all, pass_all, free_all, look_at, get, get_in, sets, sets_last, env}
use types.Part.{agg, sub, whole}
use types.Match.{live}
use contract.Monad.{fact, fact_i}
use contract.Running.{tables}
use denote.Exit.{yes}
use denote.RattleType.{RattleType, owns}
use denote.Signature.{types_at, type_at, plain}
use denote.RawPtr.{Ptr, block_ptr, null_ptr, ptr_val, tests_null}
use denote.Steps.{nothing}
use denote.Param.{layout}
use denote.Triple.Walked.{Goes-dropped, Stays, stay_dropped, walk_of}
use Rattle.std.proofs.alloc.Calls.{handle_tells}
use Rattle.std.proofs.alloc.Global.TheLaws as heap_laws
use Rattle.std.proofs.alloc.Shapes.{after}
use Rattle.std.proofs.cell.Inside.{Good}
use Rattle.std.proofs.option.Made.{Some-of, none_of}
use Rattle.std.proofs.raw_atomic.Walks.{proved_at, leaves}
use Rattle.std.proofs.ResultValues.{and_tt}
use Rattle.std.specs.contracts.alloc.Global as heap
use Rattle.std.specs.contracts.impls.GlobalAllocator.TheImpl.{ghosts}
use Rattle.std.specs.declared.option.Option.TheVariants.{None, Some}
use Rattle.hal_device_c.proofs.Handles.{either, handle_out, word}
use Rattle.hal_device_c.proofs.Rooms.{Room, allocator, pair, room_in, room_typed}
use Rattle.hal_device_c.specs.contracts.handle.Handle as handle
use Rattle.hal_device_c.specs.contracts.handle.Held as held
use Rattle.hal_device_c.specs.contracts.handle.Handle.into_room as f
use Rattle.hal_device_c.proofs.handle.Handle.into_room.Statement.{statement}
use Rattle.hal_device_c.proofs.handle.Handle.into_room.Code as code

pub into_room_spec : {M : Type 1} → statement M
into_room_spec 𝓤 𝓛 𝓜 𝓡 wired =
    let H = 𝓛.H in let 𝓣 = tables 𝓤 H 𝓜 𝓡 𝓡.env in let R : RattleType = held.the_row in let Z : RattleType = heap.the_row in
    let LZ = heap_laws.the_row_laws in let P : RattleType = handle.the_row in let Q : RattleType = Room R Z LZ ghosts in
    let c = f.clauses 𝓛 𝓜.mem 𝓡.returns in
    let hs : Stays f.ended.signature.params f.ended.kept = (stay_dropped (plain (λ _. P)) yes, (stay_dropped (plain (λ _. Z)) yes, tt)) in
    let fn = code.function in
    proved_at 𝓛 f.ended hs c 𝓜 𝓡 (Goes-dropped 𝓛 0 (plain (λ _. P)) yes (λ κs x w. refl), (Goes-dropped 𝓛 0 (plain (λ _. Z)) yes (λ κs x w. refl), tt)) f.Key.name fn (code.unfolded 𝓤 H 𝓜 𝓡 wired) (λ z are.
    let d = z.0.3.0 in let a = z.0.3.1.0 in let Post : Val → SProp 𝓤 = (walk_of 𝓛 f.ended hs c).post z in let Run : List Val → SProp 𝓤 = λ ws. WpFn 𝓤 H 𝓣.C 𝓣.Λ fn ws Post in
    let Out : RattleType = type_at f.ended.signature.result z.0.0 in
    qed 𝓛 ((‵ ftrue ⊛ ‵ (owns (types_at f.ended.signature.params z.0.0) z.0.3 z.0.4)) ∷ raw ((c z.0.0 z.0.3).requires z.1) ∷ []) ∵
    split ! $ move ! (1 ∷ []) $ fsplit ! $ handle_out ! d z.0.4.0 (λ ws. move ! (1 ∷ []) $ fsplit ! $ handle_tells (allocator Z LZ ghosts) ! a z.0.4.1.0 (λ h hs' good.
    let told : z.0.4.0 ++ (z.0.4.1.0 ++ []) ≡ word (ptr_val d.at) ∷ h ∷ [] = λ i. ws i ++ (hs' i ++ []) in
    let at_word : (w : Val) → z.0.4.0 ++ (z.0.4.1.0 ++ []) ≡ w ∷ h ∷ [] → ent 𝓤 (Run (w ∷ h ∷ [])) (Run (z.0.4.0 ++ (z.0.4.1.0 ++ []))) =
    λ w e. subst (λ (us : List Val). ent 𝓤 (Run (w ∷ h ∷ [])) (Run us)) (sym e) (id⊢ 𝓤 (Run (w ∷ h ∷ []))) in
    move ! (2 ∷ []) $ either ! d.at d.device
    (λ none is. let w : Val = word (ptr_val null_ptr) in
    suffices ! (Run (w ∷ h ∷ [])) (at_word w (told ∙ ap (λ (p : Ptr). word (ptr_val p) ∷ h ∷ []) is)) $
    enter ! 𝓣.C 𝓣.Λ fn (w ∷ h ∷ []) Post $ alloc_all ! (λ l. pass_all ! refl ((tt, (record { fits = lit< tt }, tt)), (good, tt)) $ let Ev = env fn.locals l in
    sets ! (of_opd ! (get_in ! (fld ! refl (stop !)) (sub ! 0 refl (whole !)))) refl (tt, record { fits = lit< tt }) $
    sets ! (bin ! (get ! refl) (lit ! tt) tt) refl (tt, tt) $ first ! $ branches ! (get ! refl)
    (λ _. sets_last ! (agg ! (and_then ! (lit ! tt) (no_more !))) refl (tt, (record { fits = lit< tt }, tt)) $
    exec ! 𝓣.C 𝓣.Λ Ev (after 3 fn.body) (at_ret Ev Post) $ sets ! (of_opd ! (get ! refl)) refl (tt, (record { fits = lit< tt }, tt)) $
    use0 𝓛 (‵ (Out.own_val None (live 0 vnil ∷ []))) (none_of 𝓛 Q) $
    use0 𝓛 (raw (fact 𝓤 (None ≡ d.device))) (fact_i 𝓤 (None ≡ d.device) (emp 𝓤) (sym none)) $
    nothing ! $ nothing ! $ fjoin ! $ nothing ! $ fjoin ! $
    returns ! (look_at ! 0 refl) $ free_all ! refl $ keep ! (5 ∷ 0 ∷ 2 ∷ 1 ∷ []) $
    by ! (leaves 𝓛 f.ended hs c z (live 0 vnil) None (tt, (tt, tt)) (tt, (tt, tt))))
    (λ wrong. absurd wrong)))
    (λ b o heap' state some is t. let w : Val = word (vptr b o) in let made : Val = pair (vptr b o) h in let v : Val = live 1 (vcons made vnil) in
    let typed = room_typed R Z LZ ghosts b o h good in let room : Q.Denot = record { at = block_ptr b o; heap = a; value = state } in
    let fits : Good (layout Out) v = (and_tt _ typed.0, (record { fits = lit< tt }, (typed.1, tt))) in
    suffices ! (Run (w ∷ h ∷ [])) (at_word w (told ∙ ap (λ (p : Ptr). word (ptr_val p) ∷ h ∷ []) is)) $
    enter ! 𝓣.C 𝓣.Λ fn (w ∷ h ∷ []) Post $ alloc_all ! (λ l. pass_all ! refl ((tt, (tt, tt)), (good, tt)) $ let Ev = env fn.locals l in
    sets ! (of_opd ! (get_in ! (fld ! refl (stop !)) (sub ! 0 refl (whole !)))) refl (tt, tt) $
    sets ! (bin ! (get ! refl) (lit ! tt) (tests_null (block_ptr b o) t)) refl (tt, tt) $ first ! $ branches ! (get ! refl)
    (λ wrong. absurd wrong)
    (λ _. sets ! (of_opd ! (get ! refl)) refl (tt, tt) $ sets ! (agg ! (and_then ! (get ! refl) (and_then ! (get ! refl) (no_more !)))) refl typed $
    sets_last ! (agg ! (and_then ! (lit ! tt) (and_then ! (get ! refl) (no_more !)))) refl fits $
    exec ! 𝓣.C 𝓣.Λ Ev (after 3 fn.body) (at_ret Ev Post) $ sets ! (of_opd ! (get ! refl)) refl fits $
    room_in R Z LZ ghosts ! b o h a state $ use1 𝓛 (‵ (Out.own_val (Some room) (v ∷ []))) (Some-of 𝓛 Q room made) $
    use0 𝓛 (raw (fact 𝓤 (Some state ≡ d.device))) (fact_i 𝓤 (Some state ≡ d.device) (emp 𝓤) (sym some)) $
    nothing ! $ nothing ! $ fjoin ! $ nothing ! $ fjoin ! $
    returns ! (look_at ! 0 refl) $ free_all ! refl $ keep ! (4 ∷ 0 ∷ 2 ∷ 1 ∷ []) $
    by ! (leaves 𝓛 f.ended hs c z v (Some room) (tt, (tt, tt)) (tt, (tt, tt)))))))))
