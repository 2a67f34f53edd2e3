-- A picture is that of its key.
use Rattle.std.proofs.Common.{◌≡◌, ℕ, ◌+◌, ◌/◌, ◌%◌, ◌==◌, ◌||◌, Bool, true, false, List, refl, sym, ap, ◌∙◌, if◌then◌else◌, IsTrue}
use Rattle.std.proofs.Math.Nat.{add-mod-mod}
use Rattle.std.proofs.lemmas.Bool.{false≢true}
use Rattle.cam_types.specs.Picture.{Channel, channel_at, is_offered, is_lit, picture, picture_of, readout, scene, sensor_value}
use Rattle.cam_types.proofs.PictureLemmas.{picture-of-readout, plane-same}
use Rattle.cam_types.specs.declared.item.Settings.{Settings}
use Rattle.cam_types.specs.declared.stream.Format.{Format}
use Rattle.cam_types.specs.declared.stream.Format.TheVariants.{Raw16, Yuv, Other}
use Rattle.cam_types.specs.declared.stream.StreamSpec.{StreamSpec}
use Rattle.picture_stages.specs.Keys.{is_raw, key_of, picture_by, turn_of}

moved : (solid bars : Bool) (level lit x y n : ℕ) → (if solid then level else (if bars then lit else (x + y + n) % 256)) ≡ (if solid then level else (if bars then lit else (x + y + (if solid || bars then 0 else n % 256)) % 256))
moved true bars level lit x y n = refl
moved false true level lit x y n = refl
moved false false level lit x y n = sym (add-mod-mod (x + y) n 256)

scene-turned : (s : Settings) (n : ℕ) (channel : Channel) (x y : ℕ) → scene s n channel x y ≡ scene s (turn_of s n) channel x y
scene-turned s n channel x y = moved (s.pattern == 0) (s.pattern == 1) s.level (if is_lit channel (x / 20) then s.level else 0) x y n

value-turned : (s : Settings) (n x y : ℕ) → sensor_value s n x y ≡ sensor_value s (turn_of s n) x y
value-turned s n x y = rw (scene-turned s n (channel_at x y) x y) refl

readout-turned : (s : Settings) (n : ℕ) → readout s n ≡ readout s (turn_of s n)
unfolding readout
readout-turned s n = plane-same (sensor_value s n) (sensor_value s (turn_of s n)) 160 120 (value-turned s n)

-- a format that is offered is told by whether it is RAW16
format-told : (format : Format) (width height : ℕ) (values : List ℕ) → is_offered (record { input = false; format = format; width = width; height = height }) ≡ true → picture_of format width height values ≡ picture_of (if is_raw format then Raw16 else Yuv) width height values
format-told Raw16 width height values h = refl
format-told Yuv width height values h = refl
format-told (Other k) width height values h = absurd (false≢true h)

pub by-key : (spec : StreamSpec) (s : Settings) (n : ℕ) → IsTrue (is_offered spec) → picture spec s n ≡ picture_by (key_of spec s n)
by-key spec s n h =
    picture-of-readout spec s n
    ∙ (ap (picture_of spec.format spec.width spec.height) (readout-turned s n)
    ∙ format-told spec.format spec.width spec.height (readout s (turn_of s n)) h)
