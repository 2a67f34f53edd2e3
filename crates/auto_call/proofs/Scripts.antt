-- The script of the frames is valid.
use Rattle.std.proofs.Common.{◌≡◌, ℕ, ◌+◌, ◌*◌, ◌≤◌, ◌<◌, ◌^◌, Bool, true, false, ◌||◌, List, [], ◌∷◌, ◌++◌, map, length, refl, ap, ◌∙◌, arith, nat_le, nat_lt}
use Rattle.std.specs.Prelude.{sum_by}
use Rattle.std.specs.List.{flat_map, list_all, list_any, range_with_len}
use Rattle.std.proofs.lemmas.Bool.{and_parts, and_from}
use Rattle.std.proofs.lemmas.Bool.Decides.{nat_tests}
use Rattle.std.proofs.lemmas.List.{length-append, length-map}
use Rattle.std.proofs.lemmas.List.Folds.{list_any-append}
use Rattle.std.proofs.lemmas.List.FromFn.{length-map-range_with_len}
use Rattle.std.proofs.lemmas.List.Concat.{flat_map-cons}
use Rattle.std.proofs.lemmas.List.Sums.{sum_by-append, sum_by-cons}
use Rattle.basic_lemmas.proofs.Lists.{all-append, all-mapped, all-always}
use Rattle.cam_types.specs.declared.item.Settings.{Settings}
use Rattle.cam_types.specs.declared.script.Command.TheVariants.{Configure, Close}
use Rattle.cam_types.specs.Script.{awaited_by, command_fits, is_closing_command, is_valid, settings_fit}
use Rattle.auto_call.specs.Brightness.{least}
use Rattle.auto_call.specs.Search.{searched, step_of}
use Rattle.call_parts.specs.OwnScripts.{small_stream}
use Rattle.auto_call.specs.Output.{once, script_of, settings_of, shot, scene_shots, shots_of}
use Rattle.auto_call.specs.declared.text.AutoText.{AutoText}
use Rattle.auto_call.specs.declared.text.Scene.{Scene}
use Rattle.auto_call.specs.Valid.{frames_of, is_iso, is_scene, is_valid as is_valid_text}
use Rattle.auto_call.proofs.Few.{parts-of, frames-few}
use Rattle.auto_call.proofs.Halves.{searched-step}
use Rattle.auto_call.proofs.Steps.{frames-cons}
use Rattle.basic_lemmas.proofs.Tests.{or-true}

-- as many as the frames
shots-length : (target iso : ℕ) (scenes : List Scene) → length (flat_map (λ scene. scene_shots target (settings_of iso scene) scene.frames) scenes) ≡ frames_of scenes
shots-length target iso [] = refl
shots-length target iso (scene ∷ scenes) =
    let f = λ (scene : Scene). scene_shots target (settings_of iso scene) scene.frames in
    let cons = ap length (flat_map-cons f scene scenes) in
    let both = length-append (f scene) (flat_map f scenes) in
    let first = length-map-range_with_len (shot target (settings_of iso scene)) 0 scene.frames in
    let sum = frames-cons scene scenes in
    let ih = shots-length target iso scenes in
    cons ∙ (both ∙ omega arith)

pub shots-few : (text : AutoText) → is_valid_text text ≡ true → length (shots_of text) ≤ 64
shots-few text h =
    let len = shots-length text.target text.iso text.scenes in
    let few = frames-few text h in
    omega arith

shot-fits : (target : ℕ) (s : Settings) (i : ℕ) → s.level ≤ 255 → s.iso ≤ 1600 → settings_fit (shot target s i) ≡ true
unfolding shot
shot-fits target s i level iso =
    fits s.level (step_of (searched (least s target) i)) s.iso level (searched-step (least s target) i) iso
  where
    fits : (l e i : ℕ) → l ≤ 255 → e ≤ 1000 → i ≤ 1600 → settings_fit (record { pattern = 0; level = l; exposure = e * 100000; iso = i }) ≡ true
    fits l e i h k j = grind (arith, nat_tests)

scene-fits : (target : ℕ) (s : Settings) (frames : ℕ) → s.level ≤ 255 → s.iso ≤ 1600 → list_all settings_fit (scene_shots target s frames) ≡ true
scene-fits target s frames level iso =
    rw (all-mapped settings_fit (shot target s) (range_with_len 0 frames)) (all-always (λ i. settings_fit (shot target s i)) (range_with_len 0 frames) (λ i. shot-fits target s i level iso))

level-most : (scene : Scene) → is_scene scene ≡ true → scene.level ≤ 255
level-most scene h = grind (arith, nat_tests)

iso-most : (iso : ℕ) → is_iso iso ≡ true → iso ≤ 1600
iso-most iso h = grind (arith, nat_tests)

shots-fit : (target iso : ℕ) (scenes : List Scene) → iso ≤ 1600 → list_all is_scene scenes ≡ true → list_all settings_fit (flat_map (λ scene. scene_shots target (settings_of iso scene) scene.frames) scenes) ≡ true
shots-fit target iso [] most h = refl
shots-fit target iso (scene ∷ scenes) most h =
    let p = and_parts (is_scene scene) (list_all is_scene scenes) h in
    let f = λ (scene : Scene). scene_shots target (settings_of iso scene) scene.frames in
    ap (list_all settings_fit) (flat_map-cons f scene scenes)
    ∙ all-append settings_fit (f scene) (flat_map f scenes) (scene-fits target (settings_of iso scene) scene.frames (level-most scene p.0) most) (shots-fit target iso scenes most p.1)

once-fits : (shots : List Settings) → list_all settings_fit shots ≡ true → list_all command_fits (map once shots) ≡ true
once-fits [] h = refl
once-fits (s ∷ shots) h =
    let p = and_parts (settings_fit s) (list_all settings_fit shots) h in
    and_from _ _ (and_from _ _ p.0 refl) (once-fits shots p.1)

none-awaited : (shots : List Settings) → sum_by awaited_by (map once shots ++ Close ∷ []) ≡ 0
none-awaited [] = refl
none-awaited (s ∷ shots) =
    let ih = none-awaited shots in
    let cons = sum_by-cons awaited_by (once s) (map once shots ++ Close ∷ []) in
    omega arith

closes : (shots : List Settings) → list_any is_closing_command (map once shots ++ Close ∷ []) ≡ true
closes shots = list_any-append is_closing_command (map once shots) (Close ∷ []) ∙ or-true (list_any is_closing_command (map once shots))

script-valid : (shots : List Settings) → length shots ≤ 64 → list_all settings_fit shots ≡ true → is_valid (script_of shots) ≡ true
unfolding script_of
script-valid shots few fit =
    let behind = map once shots ++ Close ∷ [] in
    let len = length-append (map once shots) (Close ∷ []) in
    let same = length-map shots once in
    let count : nat_le (length (Configure small_stream ∷ behind)) 512 ≡ true = grind (arith, nat_tests) in
    let none = none-awaited shots in
    let cons = sum_by-cons awaited_by (Configure small_stream) behind in
    let total : sum_by awaited_by (Configure small_stream ∷ behind) ≡ 0 = omega arith in
    let awaited : nat_le (sum_by awaited_by (Configure small_stream ∷ behind)) 16384 ≡ true = rw total refl in
    let all : list_all command_fits behind ≡ true = all-append command_fits (map once shots) (Close ∷ []) (once-fits shots fit) refl in
    and_from _ _ count (and_from _ _ all (and_from _ _ awaited (closes shots)))

pub drawn-valid : (text : AutoText) → is_valid_text text ≡ true → is_valid (script_of (shots_of text)) ≡ true
drawn-valid text h =
    let p = parts-of text h in
    script-valid (shots_of text) (shots-few text h) (shots-fit text.target text.iso text.scenes (iso-most text.iso p.iso) p.scenes)
