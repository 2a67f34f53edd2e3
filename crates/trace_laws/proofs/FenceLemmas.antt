-- The bound on fences: each buffer that isn't in the pool was sent, and neither released nor failed since.
use Rattle.std.proofs.Common.{◌≡◌, ℕ, ◌+◌, ◌*◌, ◌≤◌, ◌==◌, Bool, true, false, ◌||◌, not, List, [], ◌∷◌, refl, arith, count_by, if◌then◌else◌}
use Rattle.std.proofs.lemmas.Bool.{eqb-true, false≢true}
use Rattle.cam_types.specs.declared.script.Script.{Script}
use Rattle.trace_model.specs.declared.entry.Entry.{Entry}
use Rattle.trace_model.specs.declared.entry.Entry.TheVariants.{Send, Filled, Failed, Release, Early}
use Rattle.trace_model.specs.Entry.{is_release, names}
use Rattle.trace_model.specs.Legal.{IsLegal}
use Rattle.trace_model.specs.Numbers.{next_fence, next_number}
use Rattle.trace_model.specs.Place.{Place, Pool, Device, Client, is_at, place}
use Rattle.trace_model.specs.Summary.{is_failed_buffer}
use Rattle.trace_laws.specs.Bounds.{fence_bound}
use Rattle.trace_laws.proofs.FrameLemmas.{frames_bounded}
use Rattle.trace_laws.proofs.Lent.{GivesBack, HeldBefore, ends_and_lent, has, held_lent, lent}
use Rattle.trace_laws.proofs.Shapes.{early-from-device, failed-from-device, filled-from-device, release-is}
use Rattle.basic_lemmas.proofs.Counts.{count-cons}
use Rattle.basic_lemmas.proofs.Tests.{own-number}

abbrev is_out : Place → Bool
is_out p = not (is_at p Pool)

-- the entry brings a buffer back to the pool
abbrev ends : Entry → Bool
ends e = is_release e || is_failed_buffer e

device_out : (past : List Entry) (c b : ℕ) → (c == b) ≡ true → place c past ≡ Device → is_out (place b past) ≡ true
device_out past c b same device = let device' = rw (eqb-true c b same) at device in rw device' refl

out_before : (script : Script) → HeldBefore script ends is_out
out_before script past (Send n r i same targets) b legal sent named h = absurd (cc)
out_before script past (Filled n s c f d) b legal sent named h = (refl, device_out past c.0 b named (filled-from-device script past n s c f d legal.0))
out_before script past (Early n s c d) b legal sent named h = (refl, device_out past c.0 b named (early-from-device script past n s c d legal.0))
out_before script past (Failed n s c f) b legal sent named h = let home = rw named at h in absurd (false≢true home)
out_before script past (Release c f) b legal sent named h = let home = rw named at h in absurd (false≢true home)
out_before script past _ b legal sent named h = absurd (false≢true named)

out_lent : (script : Script) (past : List Entry) (b : ℕ) → IsLegal script past → is_out (place b past) ≡ true → has b (lent ends past) ≡ true
out_lent script past b legal out = held_lent script ends is_out past b refl (out_before script) legal out

pub at_client : (p : Place) → is_at p Client ≡ true → is_at p Pool ≡ false
at_client Pool h = absurd (false≢true h)
at_client Device h = absurd (false≢true h)
at_client Client h = refl

gives_back : (script : Script) → GivesBack script ends
gives_back script = record { sends = λ n r i same targets. refl; gives = given }
  where
    given : (past : List Entry) (e : Entry) → IsLegal script (e ∷ past) → ends e ≡ true → (b : ℕ) × (names b e ≡ true) × (has b (lent ends past) ≡ true)
    given past (Release b f) legal h = (b.0, own-number b.0, out_lent script past b.0 legal.1 (rw (at_client (place b.0 past) (release-is past b f legal.0).0) refl))
    given past (Failed n s b f) legal h = (b.0, own-number b.0, out_lent script past b.0 legal.1 (rw (failed-from-device past n s b f legal.0) refl))
    given past _ legal h = absurd (false≢true h)

both_counted : (past : List Entry) → count_by ends past ≡ next_fence past + count_by is_failed_buffer past
both_counted [] = refl
both_counted (e ∷ past) =
    let ih = both_counted past in
    let all = count-cons ends e past in
    let released = count-cons is_release e past in
    let failed = count-cons is_failed_buffer e past in
    let one = each e in
    omega (arith, ih, all, released, failed, one)
  where
    each : (e : Entry) → ◌≡◌ {A = ℕ} (if ends e then 1 else 0) ((if is_release e then 1 else 0) + (if is_failed_buffer e then 1 else 0))
    each (Release b f) = refl
    each (Failed n s b f) = refl
    each _ = refl

-- releases and failed buffers are at most four for each frame
pub ends_bounded : (script : Script) (past : List Entry) → IsLegal script past → next_fence past + count_by is_failed_buffer past ≤ 4 * next_number past
ends_bounded script past legal =
    let sum = ends_and_lent script ends past (gives_back script) legal in
    let both = both_counted past in
    omega (arith, sum, both)

pub fences_bounded : (script : Script) (past : List Entry) → IsLegal script past → next_fence past ≤ fence_bound script
fences_bounded script past legal =
    let sum = ends_bounded script past legal in
    let few = frames_bounded script past legal in
    omega (arith, sum, few)
