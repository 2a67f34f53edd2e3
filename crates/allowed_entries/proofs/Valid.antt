-- What a valid script and a legal past give to the list.
use Rattle.std.proofs.Common.{◌≡◌, ◌∙◌, ◌<◌, ◌^◌, ℕ, ◌+◌, ◌==◌, true, ◌&&◌, List, inl, inr, refl, sym, ap, subst, arith, length}
use Rattle.std.proofs.lemmas.Bool.{and_parts, cases_Bool, eqb-true}
use Rattle.cam_types.specs.Profile.{is_profile, profile_fits}
use Rattle.cam_types.specs.Script.{is_valid}
use Rattle.cam_types.specs.declared.script.Script.{Script}
use Rattle.trace_model.specs.declared.entry.Entry.{Entry}
use Rattle.trace_model.specs.Legal.{IsLegal}
use Rattle.trace_model.specs.Numbers.{next_fence}
use Rattle.trace_laws.specs.Typed.{is_typed}
use Rattle.state_facts.proofs.BufferReadings.{fences_are}
use Rattle.state_facts.proofs.Fits.{numbers_fit}
use Rattle.judge_rows.specs.Judged.{Judged}
use Rattle.trace_check.specs.Held.{held}
use Rattle.allowed_entries.specs.declared.entry.AllowedEntry.{AllowedEntry}
use Rattle.allowed_entries.specs.Entries.{allowed_entries}
use Rattle.allowed_entries.specs.Readings.{all_in}
use Rattle.allowed_entries.proofs.Readings.{allowed_are}
use Rattle.service_parts.proofs.Room.{buffers_fit}

-- ---- a valid script has a profile

pub valid_profile : (script : Script) → is_valid script ≡ true → is_profile script.profile ≡ true
valid_profile script h =
    let p = script.profile in
    let fits = (and_parts (profile_fits script.version p) _ h).0 in
    elim (cases_Bool (script.version == 1)) [
      | inl first ↦ (
          let plain = rw first at fits in
          let sizes = and_parts (p.depth == 6) ((p.raw == 3) && (p.yuv == 4)) plain in
          let both = and_parts (p.raw == 3) (p.yuv == 4) sizes.1 in
          rw (eqb-true p.depth 6 sizes.0, eqb-true p.raw 3 both.0, eqb-true p.yuv 4 both.1) refl
          )
      | inr later ↦ (let named = rw later at fits in (and_parts (script.version == 2) (is_profile p) named).1)
    ]

-- ---- numbers

pub few_fences : (script : Script) (past : List Entry) → is_typed script ≡ true → is_valid script ≡ true → IsLegal script past → next_fence past < 2 ^ 32
few_fences script past typed valid legal =
    let fits = (numbers_fit script past typed valid legal).fences in omega (arith, fences_are past, fits)

pub numbered_held : (script : Script) (past : List Entry) (t : Judged) → is_valid script ≡ true → IsLegal script past → t ≡ held script past → t.state.buffers.first + (length t.state.buffers.places + 72) < 2 ^ 32
numbered_held script past t valid legal is =
    subst (λ (u : Judged). u.state.buffers.first + (length u.state.buffers.places + 72) < 2 ^ 32) (sym is) (buffers_fit script past valid legal)

-- ---- the list

pub all_told : (script : Script) (past : List Entry) (t : Judged) (fences : ℕ) (items : List AllowedEntry) → IsLegal script past → t ≡ held script past → fences ≡ next_fence past → items ≡ all_in script t.state fences → items ≡ allowed_entries script past
all_told script past t fences items legal is count h =
    h
    ∙ (ap (λ (u : Judged). all_in script u.state fences) is
    ∙ (ap (λ (n : ℕ). all_in script (held script past).state n) count ∙ sym (allowed_are script past legal)))
