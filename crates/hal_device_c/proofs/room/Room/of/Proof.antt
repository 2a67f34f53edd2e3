-- `of`: the library takes the box apart, and the room keeps its pointer, its heap's handle and what they own.
use Rattle.std.proofs.Common.{◌≡◌, List, [], ◌∷◌, ◌++◌, refl, sym, ap, ◌∙◌, subst}
use mir.Syntax.{a_type, dcons, dnil}
use mir.Raw.{raw as bare}
use mir.Val.{Val, vptr, vstruct, of_list}
use mir.MapTy.{inst_fn}
use base.Logic.{SProp, ent, emp, never, id⊢, fst∗}
use base.Fml.{ftrue, fsep, flft}
use prog.Wp.{WpFn}
use types.Logic.{sem}
use types.Kit.{‵, raw, ◌⊛◌, some, later, ◌$◌, ◌∵◌, !, qed, by, move, keep, drop, split, split3, join, fsplit, fjoin, fpick, pick, suffices, use0, use1, await, rewrite, feq_l}
use types.Run.{stop, fld, of_opd, no_more, and_then, returns, enter}
use types.ByLocal.{alloc_all, pass_all, free_all, look_at, get, get_in, sets, lands_as}
use types.Part.{agg, sub, whole}
use contract.Monad.{fact, fact_i}
use contract.Running.{tables}
use denote.Exit.{no}
use denote.RattleType.{RattleType, owns}
use denote.Signature.{types_at, plain}
use denote.Builtin.{RawPtr}
use denote.RawPtr.{Ptr, block_ptr, null_ptr, ptr_val, in_a_block}
use denote.Steps.{nothing, only, heard}
use denote.Param.{param, layout, bounded}
use denote.Param.Laws.{param_laws}
use denote.Struct.Tuple.{Tuple}
use denote.Triple.Spec.{triple_of}
use denote.Triple.Call.{calls_at}
use denote.Triple.Walked.{Stays, stay_dropped, walk_of}
use Rattle.std.proofs.alloc.Calls.{Goes-blank, handle_tells}
use denote.Triple.Table.{framed}
use Rattle.std.specs.Box.Ownership.{box_owns}
use Rattle.std.proofs.BoxSteps.Form as box
use Rattle.std.proofs.BoxSteps.Steps.{box_out, box_in}
use Rattle.std.proofs.raw_atomic.Walks.{proved_at, leaves}
use Rattle.hal_device_c.proofs.Rooms.{pair, room_typed, room_in}
use Rattle.std.specs.contracts.boxed.Box.into_raw_with_allocator as callee
use Rattle.std.proofs.boxed.Box.into_raw_with_allocator.Met.{met}
use Rattle.hal_device_c.specs.contracts.room.Room.of.{ended, clauses}
use Rattle.hal_device_c.specs.contracts.room.Room.of.Key.{name as #self}
use Rattle.hal_device_c.proofs.room.Room.of.Statement.{statement}
use Rattle.hal_device_c.proofs.room.Room.of.Code as code

abbrev taken : Ptr → Val → List Val
taken p h = vstruct (of_list (ptr_val p ∷ h ∷ [])) ∷ []

-- what the library's pair is as a machine value, by its two parts
both-parts : (us ps hs : List Val) (p q : Ptr) (h : Val) → us ≡ vstruct (of_list (ps ++ (hs ++ []))) ∷ [] → ps ≡ ptr_val p ∷ []
    → p ≡ q → hs ≡ h ∷ [] → us ≡ taken q h
both-parts us ps hs p q h entire place same handle =
    entire ∙ (λ i. vstruct (of_list ((place ∙ ap (λ (r : Ptr). ptr_val r ∷ []) same) i ++ (handle i ++ []))) ∷ [])

pub of_spec : {M : Type 1} → statement M
of_spec 𝓤 𝓛 𝓜 𝓡 wired X A X-laws A-laws g methods ends frees allocator X-glue A-glue =
    let H = 𝓛.H in
    let 𝓣 = tables 𝓤 H 𝓜 𝓡 𝓡.env in
    let R : RattleType = param 0 X in
    let Z : RattleType = param 1 A in
    let Z-laws = param_laws 1 A A-laws in
    let E : box.Bx = record { row = X; laws = X-laws; al = record { row = A; laws = A-laws; g = g; d = methods; drops = frees } } in
    let T = ended X A g methods ends frees in
    let c = clauses X A g methods ends frees 𝓛 𝓜.mem 𝓡.returns in
    let given = bounded (a_type ∷ a_type ∷ []) (X, (A, tt)) (dcons methods (dcons ends (dcons frees dnil))) in
    let fn = inst_fn given code.function in
    let stayed : Stays T.signature.params T.kept = (stay_dropped (plain (λ _. box.B E)) no, tt) in
    proved_at 𝓛 T stayed c 𝓜 𝓡 (Goes-blank 𝓛 2 (plain (λ _. box.B E)) no (λ κs x f. tt), tt) (#self given) fn
    (code.unfolded 𝓤 H 𝓜 𝓡 wired (X, (A, tt)) methods ends frees) (λ z are.
    let κs = z.0.0 in
    let qs = z.0.1 in
    let b₀ = z.0.3.0 in
    let Post : Val → SProp 𝓤 = (walk_of 𝓛 T stayed c).post z in
    let Run : List Val → SProp 𝓤 = λ ws. WpFn 𝓤 H 𝓣.C 𝓣.Λ fn ws Post in
    let alive = ‵ (flft κs.0 qs.0) ⊛ ‵ (flft κs.1.0 qs.1.0) ⊛ ‵ ftrue in
    let Parts = Tuple (RawPtr ∷ Z ∷ []) in
    let k = triple_of 𝓛 (callee.signature X A g methods frees ends) (callee.spec X A g methods frees ends 𝓛 𝓜.mem 𝓡.returns) in
    let lives = met 𝓤 𝓛 𝓜 𝓡 (code.calls-std_alloc::boxed::Box::into_raw_with_allocator 𝓡.env wired) X A X-laws A-laws g methods frees ends allocator A-glue X-glue in
    qed 𝓛 ((alive ⊛ ‵ (owns (types_at T.signature.params κs) z.0.3 z.0.4)) ∷ raw ((c κs z.0.3).requires z.1) ∷ []) ∵
    split ! $ move ! (1 ∷ []) $ fsplit ! $
    -- the box is one machine value
    box_out E ! b₀ z.0.4.0 (λ b o h at_b is good. box_in E ! b₀ b o b₀.value at_b refl $
    let w : Val = box.word E h b o in
    let y : k.Ghost = ((κs, qs, tt, (b₀, tt), (w ∷ [], tt)), tt) in
    fjoin ! $ move ! (1 ∷ 0 ∷ []) $ join ! $ join ! $ use1 𝓛 (raw (k.pre y)) (id⊢ 𝓤 _) $
    suffices ! (Run (w ∷ [])) (subst (λ (us : List Val). ent 𝓤 (Run (w ∷ [])) (Run us)) (sym (λ i. is i ++ [])) (id⊢ 𝓤 (Run (w ∷ [])))) $
    enter ! 𝓣.C 𝓣.Λ fn (w ∷ []) Post $
    alloc_all ! (λ l. pass_all ! refl (room_typed R Z Z-laws g b o h good, tt) $
    sets ! (of_opd ! (get ! refl)) refl (room_typed R Z Z-laws g b o h good) $
    -- Box::into_raw_with_allocator(value)
    calls_at ! (framed 𝓤 H 𝓜 𝓣) k lives y (and_then ! (get ! refl) (no_more !)) (λ u.
    use1 𝓛 (later (some (λ (r : Ptr × A.Denot). (alive ⊛ ‵ (Parts.own_val r (u ∷ [])))
    ⊛ some (λ (_ : (Unit {0} × (Unit {0} × Unit {0})) × Unit {0}). ‵ (fsep (fsep ftrue (fsep ftrue ftrue)) ftrue)
    ⊛ (raw (fact 𝓤 (r.1 ≡ b₀.alloc)) ⊛ ‵ (box_owns (g.dealloc_token b₀.alloc) R r.0 b₀.value)))))) (id⊢ 𝓤 _) $
    await ! tt $ pick ! (λ r. split ! $ move ! (1 ∷ []) $ pick ! (λ _. split3 ! $ drop ! $ heard ! (r.1 ≡ b₀.alloc) (λ same.
    in_a_block ! r.0 (λ p. box_owns (g.dealloc_token b₀.alloc) R p b₀.value)
    (fst∗ 𝓤 (never 𝓤) (sem 𝓛 (g.dealloc_token b₀.alloc (bare (layout X)) null_ptr))) (λ b' o' at_b'.
    -- the pair's two parts
    move ! (1 ∷ []) $ split ! $ move ! (1 ∷ []) $ fpick ! (λ parts. fsplit ! $ feq_l ! (λ entire. fsplit ! $ feq_l ! (λ place. fsplit ! $
    rewrite ! 0 (λ (s : A.Denot). ‵ (A.own_val s parts.1.0)) same refl $
    handle_tells E.al ! b₀.alloc parts.1.0 (λ h' handle good'.
    let typed = room_typed R Z Z-laws g b' o' h' good' in
    lands_as ! (ap only (both-parts (u ∷ []) parts.0 parts.1.0 r.0 (block_ptr b' o') h' entire place at_b' handle)) refl typed $
    sets ! (of_opd ! (get_in ! (fld ! refl (stop !)) (sub ! 0 refl (whole !)))) refl (tt, tt) $
    sets ! (of_opd ! (get_in ! (fld ! refl (stop !)) (sub ! 1 refl (whole !)))) refl good' $
    -- Room { at, heap }
    sets ! (of_opd ! (get ! refl)) refl good' $
    sets ! (agg ! (and_then ! (get ! refl) (and_then ! (get ! refl) (no_more !)))) refl typed $
    move ! (3 ∷ 0 ∷ []) $ room_in R Z Z-laws g ! b' o' h' b₀.alloc b₀.value $
    use0 𝓛 (raw (fact 𝓤 (b₀.value ≡ b₀.value))) (fact_i 𝓤 (b₀.value ≡ b₀.value) (emp 𝓤) refl) $
    nothing ! $ nothing ! $ fjoin ! $
    returns ! (look_at ! 0 refl) $ free_all ! refl $ keep ! (4 ∷ 0 ∷ 2 ∷ 1 ∷ []) $
    by ! (leaves 𝓛 T stayed c z (pair (vptr b' o') h') (record { at = block_ptr b' o'; heap = b₀.alloc; value = b₀.value }) ((tt, (tt, tt)), tt) (tt, tt))))))))))))))
