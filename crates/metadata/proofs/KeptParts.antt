-- Settings and parts are read in the lists that are packed of them.
use Rattle.std.proofs.Common.{◌≡◌, Bool, true, false, cond, Option, Some, None, Ok, refl}
use Rattle.std.specs.Prelude.{not}
use Rattle.cam_types.specs.declared.item.Settings.{Settings}
use Rattle.cam_types.specs.Metadata.{range_fault, is_pattern, is_level, is_exposure, is_sensitivity, pattern_tag, level_tag, exposure_tag, sensitivity_tag}
use Rattle.metadata.specs.Numbers.{settings_in, settings_entries}

some_is : {A : Type 0} (b : Bool) (x : A) (o : Option A) → cond (not b) (Some x) o ≡ None → (b ≡ true) × (o ≡ None)
some_is true x o h = (refl, h)
some_is false x o h = absurd (cc)

pub settings_again : (s : Settings) → range_fault s ≡ None → settings_in (settings_entries s) ≡ Ok s
unfolding settings_in
settings_again s h =
    let iso = cond (not (is_sensitivity s.iso)) (Some sensitivity_tag) None in
    let exposure = cond (not (is_exposure s.exposure)) (Some exposure_tag) iso in
    let level = cond (not (is_level s.level)) (Some level_tag) exposure in
    let a = some_is (is_pattern s.pattern) pattern_tag level h in
    let b = some_is (is_level s.level) level_tag exposure a.1 in
    let c = some_is (is_exposure s.exposure) exposure_tag iso b.1 in
    let d = some_is (is_sensitivity s.iso) sensitivity_tag None c.1 in
    rw (a.0, b.0, c.0, d.0) refl
