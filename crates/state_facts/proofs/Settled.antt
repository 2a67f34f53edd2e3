-- With which buffers the device is done, entry by entry.
use Rattle.std.proofs.Common.{◌≡◌, ℕ, ◌==◌, true, false, ◌&&◌, List, [], ◌∷◌, refl, sym, inl, inr}
use Rattle.std.specs.List.{list_any}
use Rattle.std.proofs.lemmas.Bool.{cases_Bool, eq-eqb, eqb-true, false≢true, or_left, or_right}
use Rattle.trace_model.specs.declared.entry.Entry.{Entry}
use Rattle.trace_model.specs.declared.entry.Entry.TheVariants.{Early}
use Rattle.trace_model.specs.Entry.{is_early_with}
use Rattle.trace_model.specs.Open.{early_fences, is_returned, is_settled}
use Rattle.trace_laws.proofs.Early.{not-brought, not-given}
use Rattle.trace_laws.specs.Settled.{has_fence}

-- ---- an early return alone settles nothing

-- ---- the signal of a device fence settles the buffer that came back with it

-- ---- and no other

-- ---- entry by entry

-- a device fence of a target was given
pub fence-given : (n s d : ℕ) (past : List Entry) → has_fence d (early_fences n s past) ≡ true → list_any (is_early_with d) past ≡ true
fence-given n s d [] h = absurd (false≢true h)
fence-given n s d (Early m t b f ∷ past) h =
    elim (cases_Bool ((m.0 == n) && (t.0 == s))) [
      | inl own ↦ (
          let h' = rw own at h in
          elim (cases_Bool (d == f.0)) [
            | inl here ↦ or_left (f.0 == d) (list_any (is_early_with d) past) (eq-eqb f.0 d (sym (eqb-true d f.0 here)))
            | inr other ↦ (let h'' = rw other at h' in or_right (f.0 == d) (list_any (is_early_with d) past) (fence-given n s d past h''))
          ]
          )
      | inr other ↦ (let h' = rw other at h in or_right (f.0 == d) (list_any (is_early_with d) past) (fence-given n s d past h'))
    ]
fence-given n s d (e ∷ past) h = or_right (is_early_with d e) (list_any (is_early_with d) past) (fence-given n s d past h)

-- ---- what didn't come back isn't settled

pub not-settled : (n s : ℕ) (past : List Entry) → is_returned n s past ≡ false → is_settled n s past ≡ false
not-settled n s past out = rw (not-brought n s past out, not-given n s past out) refl
