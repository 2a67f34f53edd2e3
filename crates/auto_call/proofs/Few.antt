-- A valid text has no more scenes than frames, and may have one more scene that fits.
use Rattle.std.proofs.Common.{◌≡◌, ◌+◌, ◌≤◌, true, List, [], ◌∷◌, ◌++◌, length, leb, refl, arith}
use Rattle.std.specs.List.{list_all}
use Rattle.std.proofs.lemmas.Bool.{and_parts, and_from, le-leb}
use Rattle.std.proofs.lemmas.Bool.Decides.{nat_tests}
use Rattle.std.proofs.lemmas.List.Sums.{sum_by-append, sum_by-cons}
use Rattle.basic_lemmas.proofs.Lists.{all-append}
use Rattle.auto_call.specs.declared.text.AutoText.{AutoText}
use Rattle.auto_call.specs.declared.text.Scene.{Scene}
use Rattle.auto_call.specs.Valid.{is_scene, is_target, is_iso, is_valid, frames_of, frame_limit}

pub some-frames : (scene : Scene) → is_scene scene ≡ true → 1 ≤ scene.frames
some-frames scene h = grind (arith, nat_tests)

-- each scene has a frame
pub scenes-few : (scenes : List Scene) → list_all is_scene scenes ≡ true → length scenes ≤ frames_of scenes
scenes-few [] h = omega arith
scenes-few (scene ∷ scenes) h =
    let p = and_parts (is_scene scene) (list_all is_scene scenes) h in
    let one = some-frames scene p.0 in
    let ih = scenes-few scenes p.1 in
    let more = sum_by-cons (λ (s : Scene). s.frames) scene scenes in
    omega arith

-- the parts of a valid text
pub record Parts (text : AutoText) : Type 0 where
  pub target : is_target text.target ≡ true
  pub iso : is_iso text.iso ≡ true
  pub scenes : list_all is_scene text.scenes ≡ true
  pub frames : leb (frames_of text.scenes) frame_limit ≡ true

pub parts-of : (text : AutoText) → is_valid text ≡ true → Parts text
parts-of text h =
    let a = and_parts (is_target text.target) _ h in
    let b = and_parts (is_iso text.iso) _ a.1 in
    let c = and_parts (list_all is_scene text.scenes) _ b.1 in
    record { target = a.0; iso = b.0; scenes = c.0; frames = c.1 }

pub frames-few : (text : AutoText) → is_valid text ≡ true → frames_of text.scenes ≤ 64
frames-few text h = let few = (parts-of text h).frames in grind (arith, nat_tests)

pub text-few : (text : AutoText) → is_valid text ≡ true → length text.scenes ≤ 64
text-few text h =
    let few = frames-few text h in
    let less = scenes-few text.scenes (parts-of text h).scenes in
    omega arith

pub added-valid : (text : AutoText) (scene : Scene) → is_valid text ≡ true → is_scene scene ≡ true → frames_of text.scenes + scene.frames ≤ 64 → is_valid (record text { scenes = text.scenes ++ scene ∷ [] }) ≡ true
added-valid text scene h k few =
    let p = parts-of text h in
    let sum = sum_by-append (λ (s : Scene). s.frames) text.scenes (scene ∷ []) in
    let last = sum_by-cons (λ (s : Scene). s.frames) scene [] in
    let less : frames_of (text.scenes ++ scene ∷ []) ≤ 64 = omega arith in
    and_from _ _ p.target (and_from _ _ p.iso (and_from _ _ (all-append is_scene text.scenes (scene ∷ []) p.scenes (and_from _ _ k refl)) (le-leb (frames_of (text.scenes ++ scene ∷ [])) 64 less)))
