-- The machine value of a handle: its place alone. Assumes `Logic`.
--     word          a struct of one word
--     handle_out    a handle by value is what `holds` says of its place
--     handle_in     the same back
--     either        a place is null, and nothing stands there, or a device stands there
use Rattle.std.proofs.Common.{◌≡◌, ℕ, List, [], ◌∷◌, ◌++◌, refl, subst}
use mir.Raw.{raw as bare}
use mir.Val.{Val, vstruct, vcons, vnil, of_list}
use seplogic.Ra.Ura.{Ura}
use base.Logic.{never, fst∗, snd∗, via, guard_i}
use types.Logic.{Logic, sem}
use types.Kit.{Item, Goal, Seq, Step, step, ‵, given, ◌$◌, drop, learn, use1, fsplit, fjoin, fpick, fpack, feq_i, feq_l}
use contract.Monad.{fact_use}
use denote.RattleType.{Valss}
use denote.Builtin.{RawPtr}
use denote.Memory.{lone}
use denote.RawPtr.{Ptr, Testable, block_ptr, lies_at, null_ptr, ptr_val, in_a_block}
use denote.Steps.{nothing}
use denote.Struct.Struct.{within}
use denote.Struct.Owning.{shape}
use base.Fraction.{full_share}
use Rattle.std.proofs.GlobalToken.{dealloc_token-Testable}
use Rattle.std.specs.contracts.impls.GlobalAllocator.TheImpl.{ghosts}
use Rattle.std.specs.declared.alloc.Global.{Global}
use Rattle.std.specs.declared.option.Option.{Option}
use Rattle.std.specs.declared.option.Option.TheVariants.{None, Some}
use Rattle.std.specs.Box.Ownership.{box_owns}
use Rattle.hal_device_c.specs.Room.{holds}
use Rattle.hal_device_c.specs.contracts.handle.Handle as handle
use Rattle.hal_device_c.specs.contracts.handle.Held as held
use Rattle.hal_device_model.specs.State.{HalDeviceState}

abbrev pub word : Val → Val
word v = vstruct (vcons v vnil)

abbrev pub standing : Global → Ptr → HalDeviceState → base.Fml.Fml
standing heap p state = box_owns (ghosts.dealloc_token heap) held.the_row p state

module _ {M : Type 1} {𝓤 : Ura M} {𝓛 : Logic 𝓤} {K : Type 0} {Γ : List (Item 𝓤)} {G : Goal 𝓤 𝓛.H} where
  pub handle_out : K → (h : handle.the_row.Denot) (vs : List Val)
      → (vs ≡ word (ptr_val h.at) ∷ [] → Seq K 𝓛 (‵ (holds h.at h.device) ∷ Γ) G)
      → Seq K 𝓛 (‵ (handle.the_row.own_val h vs) ∷ Γ) G
  handle_out t h vs next =
      fsplit t $ fpick t (λ fields. fsplit t $ feq_l t (λ whole. fsplit t $ feq_l t (λ first. drop t $
      next (subst (λ (ps : List Val). vs ≡ vstruct (of_list (ps ++ [])) ∷ []) first whole))))

  pub handle_in : K → (p : Ptr) (d : Option HalDeviceState)
      → Step K 𝓛 (‵ (handle.the_row.own_val (record { at = p; device = d }) (word (ptr_val p) ∷ [])) ∷ Γ) G (‵ (holds p d) ∷ Γ) G
  handle_in t p d = step (λ rest. let w : Val = word (ptr_val p) in
      nothing t $ feq_i t (List Val) (ptr_val p ∷ []) (ptr_val p ∷ []) refl $ fjoin t $
      feq_i t (List Val) (w ∷ []) (w ∷ []) refl $ fjoin t $
      fpack t (Valss (RawPtr ∷ [])) (within (shape handle.the_type) (p, tt) (w ∷ [])) (ptr_val p ∷ [], tt) $ fjoin t $ rest)

  pub either : K → (p : Ptr) (d : Option HalDeviceState)
      → (d ≡ None → p ≡ null_ptr → Seq K 𝓛 Γ G)
      → ((b o : ℕ) (heap : Global) (state : HalDeviceState) → d ≡ Some state → p ≡ block_ptr b o → Testable (block_ptr b o)
      → Seq K 𝓛 (‵ (standing heap (block_ptr b o) state) ∷ Γ) G)
      → Seq K 𝓛 (‵ (holds p d) ∷ Γ) G
  either t p None none one = fpick t (λ e. drop t $ none refl e)
  either t p (Some state) none one = fpick t (λ heap.
      in_a_block t p (λ q. standing heap q state)
      (fst∗ 𝓤 (never 𝓤) (sem 𝓛 (ghosts.dealloc_token heap (bare (lone held.the_row.mir)) null_ptr))) (λ b o e.
      use1 𝓛 (given (Testable (block_ptr b o)) (‵ (standing heap (block_ptr b o) state)))
      (fact_use 𝓤 (Testable (block_ptr b o)) (via 𝓤 _ (snd∗ 𝓤 (sem 𝓛 (lies_at held.the_row full_share (block_ptr b o) state)) (sem 𝓛 (ghosts.dealloc_token heap (bare (lone held.the_row.mir)) (block_ptr b o)))) (dealloc_token-Testable 𝓛 heap (bare (lone held.the_row.mir)) (block_ptr b o))) (guard_i 𝓤 (Testable (block_ptr b o)) (sem 𝓛 (standing heap (block_ptr b o) state)))) $
      learn t (λ testable. one b o heap state refl e testable)))
