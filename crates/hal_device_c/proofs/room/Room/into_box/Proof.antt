-- `into_box`: the library makes a box of the room's pointer and handle, and of what they own.
use Rattle.std.proofs.Common.{◌≡◌, List, [], ◌∷◌, ◌++◌, refl, sym, ap, subst}
use mir.Syntax.{a_type, dcons, dnil}
use mir.Val.{Val, vptr}
use mir.MapTy.{inst_fn}
use base.Logic.{SProp, ent, id⊢}
use base.Fml.{ftrue, flft}
use prog.Wp.{WpFn}
use types.Kit.{‵, raw, ◌⊛◌, some, later, at_ret, ◌$◌, ◌∵◌, !, qed, by, move, keep, drop, split, split3, join, fsplit, fjoin, pick, suffices, use1, await, rewrite, feq_i}
use types.Run.{stop, fld, of_opd, no_more, and_then, first, blocks, exec, returns, enter}
use types.ByLocal.{alloc_all, pass_all, free_all, look_at, get, get_in, sets, lands_last, env}
use types.Part.{sub, whole}
use contract.Monad.{fact}
use contract.BorrowLft.{◌⊑◌}
use contract.Running.{tables}
use denote.Exit.{no}
use denote.RattleType.{RattleType, owns}
use denote.Signature.{types_at, plain}
use denote.RawPtr.{block_ptr}
use denote.Steps.{nothing, only}
use denote.Param.{param, layout, bounded}
use denote.Param.Laws.{param_laws}
use denote.Triple.Clauses.{Lasts, lasts}
use denote.Triple.Spec.{triple_of}
use denote.Triple.Call.{calls_at_last}
use denote.Triple.Walked.{Stays, stay_dropped, walk_of}
use Rattle.std.proofs.alloc.Calls.{Goes-blank}
use Rattle.std.proofs.alloc.Shapes.{after}
use denote.Triple.Table.{framed}
use Rattle.std.proofs.cell.Inside.{Good}
use Rattle.std.proofs.BoxSteps.Form as box
use Rattle.std.proofs.BoxSteps.Steps.{box_out, box_in}
use Rattle.std.proofs.raw_atomic.Walks.{proved_at, leaves}
use Rattle.hal_device_c.proofs.Rooms.{pair, Room, room_typed, room_out}
use Rattle.std.specs.contracts.boxed.Box.from_raw as callee
use Rattle.std.proofs.boxed.Box.from_raw.Met.{met}
use Rattle.hal_device_c.specs.contracts.room.Room.into_box.{ended, clauses}
use Rattle.hal_device_c.specs.contracts.room.Room.into_box.Key.{name as #self}
use Rattle.hal_device_c.proofs.room.Room.into_box.Statement.{statement}
use Rattle.hal_device_c.proofs.room.Room.into_box.Code as code

pub into_box_spec : {M : Type 1} → statement M
into_box_spec 𝓤 𝓛 𝓜 𝓡 wired X A X-laws A-laws g methods ends frees allocator X-glue A-glue =
    let H = 𝓛.H in
    let 𝓣 = tables 𝓤 H 𝓜 𝓡 𝓡.env in
    let R : RattleType = param 0 X in
    let Z : RattleType = param 1 A in
    let Z-laws = param_laws 1 A A-laws in
    let P : RattleType = Room R Z Z-laws g in
    let E : box.Bx = record { row = X; laws = X-laws; al = record { row = A; laws = A-laws; g = g; d = methods; drops = frees } } in
    let B : RattleType = box.B E in
    let T = ended X A g methods ends frees in
    let c = clauses X A g methods ends frees 𝓛 𝓜.mem 𝓡.returns in
    let given = bounded (a_type ∷ a_type ∷ []) (X, (A, tt)) (dcons methods (dcons ends (dcons frees dnil))) in
    let fn = inst_fn given code.function in
    let stayed : Stays T.signature.params T.kept = (stay_dropped (plain (λ _. P)) no, tt) in
    proved_at 𝓛 T stayed c 𝓜 𝓡 (Goes-blank 𝓛 2 (plain (λ _. P)) no (λ κs x f. tt), tt) (#self given) fn
    (code.unfolded 𝓤 H 𝓜 𝓡 wired (X, (A, tt)) methods ends frees) (λ z are.
    let κs = z.0.0 in
    let qs = z.0.1 in
    let room = z.0.3.0 in
    let Post : Val → SProp 𝓤 = (walk_of 𝓛 T stayed c).post z in
    let Run : List Val → SProp 𝓤 = λ ws. WpFn 𝓤 H 𝓣.C 𝓣.Λ fn ws Post in
    let alive = ‵ (flft κs.0 qs.0) ⊛ ‵ (flft κs.1.0 qs.1.0) ⊛ ‵ ftrue in
    let k = triple_of 𝓛 (callee.signature X A g methods frees) (callee.spec X A g methods frees 𝓛 𝓜.mem 𝓡.returns) in
    let lives = met 𝓤 𝓛 𝓜 𝓡 (code.calls-std_alloc::boxed::Box::from_raw 𝓡.env wired) X A X-laws A-laws g methods frees allocator A-glue in
    qed 𝓛 ((alive ⊛ ‵ (owns (types_at T.signature.params κs) z.0.3 z.0.4)) ∷ raw ((c κs z.0.3).requires z.1) ∷ []) ∵
    split ! $ move ! (1 ∷ []) $ fsplit ! $
    room_out R Z Z-laws g ! room z.0.4.0 (λ b o h at_b is good.
    let w : Val = pair (vptr b o) h in
    let y : k.Ghost = ((κs, qs, tt, (room.heap, (block_ptr b o, tt)), (h ∷ [], (vptr b o ∷ [], tt))), room.value) in
    -- the lifetimes of the two types, then what the call is given
    move ! (4 ∷ []) $ use1 𝓛 (raw (fact 𝓤 (κs.0 ⊑ X.lives)) ⊛ raw (fact 𝓤 (κs.1.0 ⊑ A.lives)) ⊛ ‵ ftrue) (id⊢ 𝓤 _) $
    split3 ! $ move ! (2 ∷ []) $ drop ! $ move ! (1 ∷ 2 ∷ []) $ join ! $ move ! (1 ∷ 0 ∷ []) $ join ! $
    move ! (2 ∷ []) $ feq_i ! (List Val) (vptr b o ∷ []) (vptr b o ∷ []) refl $ fjoin ! $ move ! (2 ∷ 0 ∷ []) $ fjoin ! $
    move ! (2 ∷ 0 ∷ []) $ join ! $ join ! $ use1 𝓛 (raw (k.pre y)) (id⊢ 𝓤 _) $
    suffices ! (Run (w ∷ [])) (subst (λ (us : List Val). ent 𝓤 (Run (w ∷ [])) (Run us)) (sym (λ i. is i ++ [])) (id⊢ 𝓤 (Run (w ∷ [])))) $
    enter ! 𝓣.C 𝓣.Λ fn (w ∷ []) Post $
    alloc_all ! (λ l. pass_all ! refl (room_typed R Z Z-laws g b o h good, tt) $
    let Locals = env fn.locals l in
    sets ! (of_opd ! (get_in ! (fld ! refl (stop !)) (sub ! 0 refl (whole !)))) refl (tt, tt) $
    sets ! (of_opd ! (get_in ! (fld ! refl (stop !)) (sub ! 1 refl (whole !)))) refl good $
    -- unsafe { Box::from_raw(heap, at) }
    first ! $ blocks ! $ sets ! (of_opd ! (get ! refl)) refl good $
    calls_at_last ! (framed 𝓤 H 𝓜 𝓣) k lives y (and_then ! (get ! refl) (and_then ! (get ! refl) (no_more !))) (λ u.
    use1 𝓛 (later (some (λ (r : B.Denot). (alive ⊛ ‵ (B.own_val r (u ∷ [])))
    ⊛ some (λ (ls : Lasts (callee.ended X A g methods frees) κs y.0.3). ‵ (lasts (callee.ended X A g methods frees) κs y.0.3 ls)
    ⊛ (raw (fact 𝓤 (r.value ≡ room.value)) ⊛ raw (fact 𝓤 (r.alloc ≡ room.heap))))))) (id⊢ 𝓤 (k.post y u)) $
    await ! tt $ pick ! (λ r. split ! $ move ! (1 ∷ []) $ pick ! (λ _. split3 ! $ drop ! $ move ! (2 ∷ []) $ split ! $ move ! (1 ∷ []) $
    -- the box is one machine value
    box_out E ! r (u ∷ []) (λ b' o' h' at_b' is' good'. box_in E ! r b' o' r.value at_b' refl $
    rewrite ! 0 (λ (xs : List Val). ‵ (B.own_val r xs)) (sym is') refl $
    let typed : Good (layout B) u = subst (Good (layout B)) (sym (ap only is')) (room_typed R Z Z-laws g b' o' h' good') in
    lands_last ! refl typed $ exec ! 𝓣.C 𝓣.Λ Locals (after 3 fn.body) (at_ret Locals Post) $ sets ! (of_opd ! (get ! refl)) refl typed $
    nothing ! $ nothing ! $ fjoin ! $
    returns ! (look_at ! 0 refl) $ free_all ! refl $ keep ! (2 ∷ 0 ∷ 1 ∷ 3 ∷ []) $
    by ! (leaves 𝓛 T stayed c z u r ((tt, (tt, tt)), tt) (tt, tt)))))))))
