-- Settings of zeros give the dark picture.
use Rattle.std.proofs.Common.{◌≡◌, ℕ, ◌==◌, ◌&&◌, ◌||◌, Bool, true, false, Some, None, refl, sym, ap, ◌∙◌, arith, IsTrue, slice_get}
use Rattle.std.specs.Prelude.{is_none}
use Rattle.std.proofs.lemmas.Bool.{and_parts}
use Rattle.std.proofs.lemmas.Bool.Decides.{nat_tests}
use Rattle.cam_types.specs.Metadata.{range_fault}
use Rattle.cam_types.specs.Picture.{picture, picture_of, readout, sensor_value}
use Rattle.cam_types.proofs.PictureLemmas.{picture-of-readout, plane-same}
use Rattle.cam_types.specs.declared.item.Settings.{Settings}
use Rattle.cam_types.specs.declared.stream.StreamSpec.{StreamSpec}
use Rattle.sha2.specs.Sha256.{sha256}
use Rattle.trace_model.specs.Frames.{no_settings}
use Rattle.trace_model.specs.Picture.{digest, digest_on}
use Rattle.trace_check.specs.Drawing.{is_drawable}

abbrev pub dark : Settings
dark = record { pattern = 0; level = 0; exposure = 100000; iso = 100 }

pub dark-scene : (n x y : ℕ) → sensor_value dark n x y ≡ 64
dark-scene n x y = refl

pub zero-scene : (n x y : ℕ) → sensor_value no_settings n x y ≡ 64
zero-scene n x y = refl

pub dark-readout : (n : ℕ) → readout dark n ≡ readout no_settings n
unfolding readout
dark-readout n = plane-same (sensor_value dark n) (sensor_value no_settings n) 160 120 (λ x y. dark-scene n x y ∙ sym (zero-scene n x y))

pub dark-picture : (spec : StreamSpec) (n : ℕ) → picture spec dark n ≡ picture spec no_settings n
dark-picture spec n =
    picture-of-readout spec dark n
    ∙ (ap (picture_of spec.format spec.width spec.height) (dark-readout n) ∙ sym (picture-of-readout spec no_settings n))

-- settings of zeros
zeros : (s : Settings) → ((s.pattern == 0) && ((s.level == 0) && ((s.exposure == 0) && (s.iso == 0)))) ≡ true → s ≡ no_settings
zeros s h =
    let p = and_parts (s.pattern == 0) ((s.level == 0) && ((s.exposure == 0) && (s.iso == 0))) h in
    let l = and_parts (s.level == 0) ((s.exposure == 0) && (s.iso == 0)) p.1 in
    let e = and_parts (s.exposure == 0) (s.iso == 0) l.1 in
    let p0 : s.pattern ≡ 0 = grind (arith, nat_tests, p.0) in
    let l0 : s.level ≡ 0 = grind (arith, nat_tests, l.0) in
    let e0 : s.exposure ≡ 0 = grind (arith, nat_tests, e.0) in
    let i0 : s.iso ≡ 0 = grind (arith, nat_tests, e.1) in
    let k : record { pattern = s.pattern; level = s.level; exposure = s.exposure; iso = s.iso } ≡ no_settings = rw (p0, l0, e0, i0) refl in k

-- settings that can be drawn and aren't in their range are those
pub drawn_dark : (s : Settings) (b : Bool) → is_drawable s ≡ true → b ≡ is_none (range_fault s) → b ≡ false → (spec : StreamSpec) (n : ℕ) → picture spec dark n ≡ picture spec s n
drawn_dark s b may is out spec n =
    let none : is_none (range_fault s) ≡ false = sym is ∙ out in
    let zero' : ((s.pattern == 0) && ((s.level == 0) && ((s.exposure == 0) && (s.iso == 0)))) ≡ true = rw none at may in
    dark-picture spec n ∙ ap (λ (t : Settings). picture spec t n) (sym (zeros s zero'))

pub digest-picture : (spec : StreamSpec) (s : Settings) (n : ℕ) → digest spec s n ≡ sha256 (picture spec s n)
unfolding digest
digest-picture spec s n = refl

-- the digest of a picture that is drawn with settings that give the same
pub drawn : (spec : StreamSpec) (drawn' own : Settings) (n : ℕ) → picture spec drawn' n ≡ picture spec own n → sha256 (picture spec drawn' n) ≡ digest_on (Some spec) own n
drawn spec drawn' own n same = ap sha256 same ∙ sym (digest-picture spec own n)
