-- The machine value of a room: its place and its heap's handle. Assumes `Logic`.
--     pair          a struct of two words
--     allocator     a heap's handle, as the kit's steps take it
--     room_typed    it has its type
--     room_out      a room by value is [the box's memory; the handle]
--     room_in       the same back
use Rattle.std.proofs.Common.{◌≡◌, ℕ, List, [], ◌∷◌, ◌++◌, refl, subst}
use mathlib.Core.Bool.{true, ◌&&◌}
use lib.Dec.{T}
use mir.Syntax.{impl, tnil, dnil}
use mir.Raw.{raw as bare}
use mir.Val.{Val, vptr, vstruct, vcons, vnil, of_list, has_ty, WT}
use seplogic.Ra.Ura.{Ura}
use base.Logic.{never, fst∗}
use types.Logic.{Logic, sem}
use types.Kit.{Item, Goal, Seq, Step, step, ‵, ◌$◌, move, drop, fsplit, fjoin, fpick, fpack, feq_i, feq_l}
use denote.RattleType.{RattleType, Valss}
use denote.Builtin.{RawPtr}
use denote.Memory.{lone}
use denote.RawPtr.{Ptr, block_ptr, null_ptr, ptr_val, in_a_block}
use denote.Steps.{nothing}
use denote.Param.{layout}
use denote.Param.Laws.{Laws}
use denote.Struct.Struct.{within}
use denote.Struct.Owning.{shape}
use Rattle.std.specs.declared.alloc.Allocator.{Ghosts}
use Rattle.std.proofs.alloc.Calls.{Al, handle_tells}
use Rattle.std.proofs.cell.Inside.{Good}
use Rattle.std.specs.Box.Ownership.{box_owns}
use Rattle.std.proofs.ResultValues.{and_tt}
use Rattle.hal_device_c.specs.contracts.room.Room as room

abbrev pub pair : Val → Val → Val
pair v w = vstruct (vcons v (vcons w vnil))

abbrev pub allocator : (Z : RattleType) → Laws Z → Ghosts Z.Denot → Al
allocator Z L g = record { row = Z; laws = L; g = g; d = impl [] tnil dnil; drops = impl [] tnil dnil }

module _ (R Z : RattleType) (L : Laws Z) (g : Ghosts Z.Denot) where
  abbrev pub Room : RattleType
  Room = room.the_row R Z g

  pub room_typed : (b o : ℕ) (h : Val) → Good (layout Z) h → T (has_ty (layout Z) h && true) × WT (pair (vptr b o) h)
  room_typed b o h good = (and_tt (has_ty (layout Z) h) good.0, (tt, (good.1, tt)))

  module _ {M : Type 1} {𝓤 : Ura M} {𝓛 : Logic 𝓤} {K : Type 0} {Γ : List (Item 𝓤)} {G : Goal 𝓤 𝓛.H} where
    pub room_out : K → (r : Room.Denot) (vs : List Val)
        → ((b o : ℕ) (h : Val) → r.at ≡ block_ptr b o → vs ≡ pair (vptr b o) h ∷ [] → Good (layout Z) h
        → Seq K 𝓛 (‵ (box_owns (g.dealloc_token r.heap) R (block_ptr b o) r.value) ∷ ‵ (Z.own_val r.heap (h ∷ [])) ∷ Γ) G)
        → Seq K 𝓛 (‵ (Room.own_val r vs) ∷ Γ) G
    room_out t r vs next =
        fsplit t $ fpick t (λ fields. fsplit t $ feq_l t (λ whole. fsplit t $ feq_l t (λ first. fsplit t $
        handle_tells (allocator Z L g) t r.heap fields.1.0 (λ h second good. move t (1 ∷ []) $ drop t $ move t (1 ∷ []) $
        in_a_block t r.at (λ p. box_owns (g.dealloc_token r.heap) R p r.value)
        (fst∗ 𝓤 (never 𝓤) (sem 𝓛 (g.dealloc_token r.heap (bare (lone R.mir)) null_ptr))) (λ b o e.
        let made = subst (λ (ps : List Val). vs ≡ vstruct (of_list (ps ++ (fields.1.0 ++ []))) ∷ []) first whole in
        let both = subst (λ (ws : List Val). vs ≡ vstruct (of_list (ptr_val r.at ∷ (ws ++ []))) ∷ []) second made in
        next b o h e (subst (λ (p : Ptr). vs ≡ vstruct (of_list (ptr_val p ∷ h ∷ [])) ∷ []) e both) good)))))

    pub room_in : K → (b o : ℕ) (h : Val) (a : Z.Denot) (x : R.Denot)
        → Step K 𝓛 (‵ (Room.own_val (record { at = block_ptr b o; heap = a; value = x }) (pair (vptr b o) h ∷ [])) ∷ Γ) G
        (‵ (box_owns (g.dealloc_token a) R (block_ptr b o) x) ∷ ‵ (Z.own_val a (h ∷ [])) ∷ Γ) G
    room_in t b o h a x = step (λ rest. let w : Val = pair (vptr b o) h in
        nothing t $ move t (2 ∷ 0 ∷ []) $ fjoin t $ feq_i t (List Val) (vptr b o ∷ []) (vptr b o ∷ []) refl $ fjoin t $
        feq_i t (List Val) (w ∷ []) (w ∷ []) refl $ fjoin t $
        fpack t (Valss (RawPtr ∷ Z ∷ [])) (within (shape (room.the_type R Z g)) (block_ptr b o, (a, tt)) (w ∷ []))
        (vptr b o ∷ [], (h ∷ [], tt)) $ fjoin t $ rest)
