-- A buffer that isn't in the pool is one of the configuration's, so in the end each is in the pool.
use Rattle.std.proofs.Common.{◌≡◌, ℕ, ◌==◌, true, false, List, [], ◌∷◌, refl, sym, inl, inr}
use Rattle.std.specs.List.{list_all}
use Rattle.std.proofs.lemmas.Bool.{cases_Bool, eqb-true, false≢true}
use Rattle.cam_types.specs.declared.script.Script.{Script}
use Rattle.trace_model.specs.declared.entry.Entry.{Entry}
use Rattle.trace_model.specs.declared.entry.Entry.TheVariants.{Call, Send, Filled, Failed, Release, Early}
use Rattle.trace_model.specs.Complete.{IsComplete}
use Rattle.trace_model.specs.Entry.{names}
use Rattle.trace_model.specs.Legal.{IsLegal}
use Rattle.trace_model.specs.Place.{Pool, Device, is_at, place}
use Rattle.trace_laws.proofs.StreamLemmas.{IsOwn, at-device-own, kept-own, none_out}
use Rattle.trace_laws.proofs.Own.{at-device-by-some}
use Rattle.trace_laws.proofs.Returns.{ComesBack, early-back, filled-back}

abbrev pub IsSomes : List Entry → ℕ → Type 0
IsSomes past b = (s : ℕ) × IsOwn past s b

back-own : (script : Script) (past : List Entry) (n s c b : ℕ) → IsLegal script past → ComesBack past n s c → (c == b) ≡ true → IsOwn past s b
back-own script past n s c b legal back here =
    let own = at-device-own script past n s c legal back.out in rw (eqb-true c b here) at own

pub out-own : (script : Script) (past : List Entry) (b : ℕ) → IsLegal script past → is_at (place b past) Pool ≡ false → IsSomes past b
out-own script [] b legal out = absurd (false≢true (sym out))
out-own script (Call i w r ∷ past) b legal out =
    let ih = out-own script past b legal.1 out in (ih.0, kept-own script past i w r ih.0 b legal.0 out ih.1)
out-own script (Send n r i same targets ∷ past) b legal out =
    elim (cases_Bool (names b (Send n r i same targets))) [
      | inl named ↦ (
          let now : is_at (place b (Send n r i same targets ∷ past)) Device ≡ true = rw named refl in
          let by = at-device-by-some (Send n r i same targets ∷ past) b now in
          (by.1, at-device-own script (Send n r i same targets ∷ past) by.0 by.1 b legal by.2)
          )
      | inr other ↦ (let out' = rw other at out in let ih = out-own script past b legal.1 out' in (ih.0, ih.1))
    ]
out-own script (Filled n s c f d ∷ past) b legal out =
    elim (cases_Bool (c.0 == b)) [
      | inl named ↦ (s.0, back-own script past n.0 s.0 c.0 b legal.1 (filled-back script past n s c f d legal.0) named)
      | inr other ↦ (let out' = rw other at out in let ih = out-own script past b legal.1 out' in (ih.0, ih.1))
    ]
out-own script (Early n s c d ∷ past) b legal out =
    elim (cases_Bool (c.0 == b)) [
      | inl named ↦ (s.0, back-own script past n.0 s.0 c.0 b legal.1 (early-back script past n s c d legal.0) named)
      | inr other ↦ (let out' = rw other at out in let ih = out-own script past b legal.1 out' in (ih.0, ih.1))
    ]
out-own script (Failed n s c f ∷ past) b legal out =
    elim (cases_Bool (c.0 == b)) [
      | inl named ↦ (let out' = rw named at out in absurd (false≢true (sym out')))
      | inr other ↦ (let out' = rw other at out in let ih = out-own script past b legal.1 out' in (ih.0, ih.1))
    ]
out-own script (Release c f ∷ past) b legal out =
    elim (cases_Bool (c.0 == b)) [
      | inl named ↦ (let out' = rw named at out in absurd (false≢true (sym out')))
      | inr other ↦ (let out' = rw other at out in let ih = out-own script past b legal.1 out' in (ih.0, ih.1))
    ]
out-own script (e ∷ past) b legal out = let ih = out-own script past b legal.1 out in (ih.0, ih.1)

-- in a complete run every buffer is in the pool
pub all-home : (script : Script) (past : List Entry) (b : ℕ) → IsComplete script past → is_at (place b past) Pool ≡ true
all-home script past b complete = elim (cases_Bool (is_at (place b past) Pool)) [
  | inl home ↦ home
  | inr out ↦ (let own = out-own script past b complete.legal out in absurd (none_out past own.0 b complete.pool out own.1))
]

pub each-home : (script : Script) (past : List Entry) (bs : List ℕ) → IsComplete script past → list_all (λ b. is_at (place b past) Pool) bs ≡ true
each-home script past [] complete = refl
each-home script past (b ∷ bs) complete = rw (all-home script past b complete, each-home script past bs complete) refl
