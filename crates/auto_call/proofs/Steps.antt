-- One more frame, and one more scene.
use Rattle.std.proofs.Common.{◌≡◌, ℕ, zero, suc, ◌+◌, ◌*◌, ◌≤◌, Bool, true, List, [], ◌∷◌, ◌++◌, map, length, drop, refl, ap, sym, ◌∙◌, subst, arith, append_assoc}
use Rattle.std.specs.List.{flat_map, list_all, range_with_len}
use Rattle.std.proofs.lemmas.Bool.{and_parts}
use Rattle.std.proofs.lemmas.List.{length-append, map-append}
use Rattle.std.proofs.lemmas.List.FromFn.{length-map-range_with_len}
use Rattle.std.proofs.lemmas.List.Sums.{sum_by-cons}
use Rattle.std.proofs.lemmas.List.Concat.{flat_map-cons}
use Rattle.basic_lemmas.proofs.Ranges.{range-more}
use Rattle.cam_types.specs.declared.item.Settings.{Settings}
use Rattle.auto_call.specs.Brightness.{at_step, least}
use Rattle.auto_call.specs.Scene.{measured}
use Rattle.auto_call.specs.Search.{Search, searched, state_of, step_of}
use Rattle.auto_call.proofs.Found.{measured-searched}
use Rattle.auto_call.specs.declared.output_line.AutoLine.{AutoLine}
use Rattle.auto_call.specs.OutputLines.{frame_line, end_line}
use Rattle.auto_call.specs.Output.{shot, scene_shots, scene_lines, settings_of, lines_from, lines_of, shots_of}
use Rattle.auto_call.specs.declared.text.AutoText.{AutoText}
use Rattle.auto_call.specs.declared.text.Scene.{Scene}
use Rattle.auto_call.specs.Valid.{frames_of, is_scene}
use Rattle.auto_call.proofs.Few.{some-frames}

range-next : (i : ℕ) → range_with_len 0 (i + 1) ≡ range_with_len 0 i ++ i ∷ []
range-next i = let e : 0 + i ≡ i = omega arith in range-more 0 i 1 ∙ ap (λ (k : ℕ). range_with_len 0 i ++ k ∷ []) e

map-next : {X : Type 0} (f : ℕ → X) (i : ℕ) → map f (range_with_len 0 (i + 1)) ≡ map f (range_with_len 0 i) ++ f i ∷ []
map-next f i = ap (map f) (range-next i) ∙ map-append f (range_with_len 0 i) (i ∷ [])

-- one more behind what stands
pub one-more : {X : Type 0} (f : ℕ → X) (i : ℕ) (before xs ys : List X) (x : X) → xs ≡ before ++ map f (range_with_len 0 i) → ys ≡ xs ++ x ∷ [] → x ≡ f i → ys ≡ before ++ map f (range_with_len 0 (i + 1))
one-more {X} f i before xs ys x is next value =
    next ∙ (ap (λ (zs : List X). zs ++ x ∷ []) is
    ∙ (ap (λ (y : X). (before ++ map f (range_with_len 0 i)) ++ y ∷ []) value
    ∙ (append_assoc before (map f (range_with_len 0 i)) (f i ∷ [])
    ∙ ap (λ (zs : List X). before ++ zs) (sym (map-next f i)))))

-- a frame of a scene is captured with the settings that the least step gives
pub shot-is : (target : ℕ) (s : Settings) (first i : ℕ) (ae : Search) → s.pattern ≤ 1 → ae ≡ measured s target first i → at_step s (step_of ae) ≡ shot target s i
unfolding shot
shot-is target s first i ae still is = ap (λ (search : Search). at_step s (step_of search)) (is ∙ measured-searched s target first i still)

pub shots-count : (target : ℕ) (s : Settings) (i : ℕ) (before xs : List Settings) → xs ≡ before ++ scene_shots target s i → length xs ≡ length before + i
shots-count target s i before xs is =
    ap length is ∙ (length-append before (scene_shots target s i) ∙ ap (λ (k : ℕ). length before + k) (length-map-range_with_len (shot target s) 0 i))

pub frame-is : (target : ℕ) (s : Settings) (first i n : ℕ) (sh : Settings) → n ≡ first + i → sh ≡ shot target s i → frame_line n sh ≡ frame_line (first + i) (shot target s i)
frame-is target s first i n sh number is = ap (λ (k : ℕ). frame_line k sh) number ∙ ap (frame_line (first + i)) is

pub lines-count : (f : ℕ → AutoLine) (i : ℕ) (before xs : List AutoLine) → xs ≡ before ++ map f (range_with_len 0 i) → length xs ≡ length before + i
lines-count f i before xs is =
    ap length is ∙ (length-append before (map f (range_with_len 0 i)) ∙ ap (λ (k : ℕ). length before + k) (length-map-range_with_len f 0 i))

-- the line that ends a scene
pub scene-ended : (target : ℕ) (s : Settings) (first k frames : ℕ) (ae : Search) (before xs ys : List AutoLine) → s.pattern ≤ 1 → ae ≡ measured s target first frames → xs ≡ before ++ map (λ i. frame_line (first + i) (shot target s i)) (range_with_len 0 frames) → ys ≡ xs ++ end_line k (state_of ae) ∷ [] → ys ≡ before ++ scene_lines target s first k frames
scene-ended target s first k frames ae before xs ys still search is next =
    let lines = map (λ i. frame_line (first + i) (shot target s i)) (range_with_len 0 frames) in
    next ∙ (ap (λ (zs : List AutoLine). zs ++ end_line k (state_of ae) ∷ []) is
    ∙ (ap (λ (a : Search). (before ++ lines) ++ end_line k (state_of a) ∷ []) (search ∙ measured-searched s target first frames still)
    ∙ append_assoc before lines (end_line k (state_of (searched (least s target) frames)) ∷ [])))

-- ---- one more scene

pub scene-lines-more : (target iso k n m : ℕ) (scene : Scene) (rest : List Scene) (xs ys all : List AutoLine) → m ≡ n + scene.frames → xs ++ lines_from target iso n k (scene ∷ rest) ≡ all → ys ≡ xs ++ scene_lines target (settings_of iso scene) n k scene.frames → ys ++ lines_from target iso m (k + 1) rest ≡ all
scene-lines-more target iso k n m scene rest xs ys all number was is =
    ap (λ (zs : List AutoLine). zs ++ lines_from target iso m (k + 1) rest) is
    ∙ (append_assoc xs (scene_lines target (settings_of iso scene) n k scene.frames) (lines_from target iso m (k + 1) rest)
    ∙ (ap (λ (j : ℕ). xs ++ (scene_lines target (settings_of iso scene) n k scene.frames ++ lines_from target iso j (k + 1) rest)) number ∙ was))

pub scene-shots-more : (f : Scene → List Settings) (scene : Scene) (rest : List Scene) (xs ys all : List Settings) → xs ++ flat_map f (scene ∷ rest) ≡ all → ys ≡ xs ++ f scene → ys ++ flat_map f rest ≡ all
scene-shots-more f scene rest xs ys all was is =
    ap (λ (zs : List Settings). zs ++ flat_map f rest) is
    ∙ (append_assoc xs (f scene) (flat_map f rest)
    ∙ (ap (λ (zs : List Settings). xs ++ zs) (sym (flat_map-cons f scene rest)) ∙ was))

pub frames-cons : (scene : Scene) (rest : List Scene) → frames_of (scene ∷ rest) ≡ scene.frames + frames_of rest
frames-cons scene rest = sum_by-cons (λ (s : Scene). s.frames) scene rest

pub scene-first : (scene : Scene) (rest : List Scene) → list_all is_scene (scene ∷ rest) ≡ true → (is_scene scene ≡ true) × (list_all is_scene rest ≡ true)
scene-first scene rest h = and_parts (is_scene scene) (list_all is_scene rest) h

pub scene-lines-count : (target : ℕ) (s : Settings) (first k frames : ℕ) → length (scene_lines target s first k frames) ≡ frames + 1
scene-lines-count target s first k frames =
    let lines = map (λ i. frame_line (first + i) (shot target s i)) (range_with_len 0 frames) in
    length-append lines (end_line k (state_of (searched (least s target) frames)) ∷ [])
    ∙ ap (λ (n : ℕ). n + 1) (length-map-range_with_len (λ i. frame_line (first + i) (shot target s i)) 0 frames)

-- ---- all scenes

-- what is found before the scene of a number, and what is left
pub record Going (text : AutoText) (number : ℕ) (xs : List AutoLine) (ys : List Settings) : Type 0 where
  pub lines : xs ++ lines_from text.target text.iso (length ys) number (drop number text.scenes) ≡ lines_of text
  pub shots : ys ++ flat_map (λ scene. scene_shots text.target (settings_of text.iso scene) scene.frames) (drop number text.scenes) ≡ shots_of text
  pub few : length ys + frames_of (drop number text.scenes) ≤ 64
  pub valid : list_all is_scene (drop number text.scenes) ≡ true
  pub double : length xs ≤ 2 * length ys

pub going-more : (text : AutoText) (number : ℕ) (lines lines' : List AutoLine) (shots shots' : List Settings) (scene : Scene) → drop number text.scenes ≡ scene ∷ drop (number + 1) text.scenes → Going text number lines shots → lines' ≡ lines ++ scene_lines text.target (settings_of text.iso scene) (length shots) number scene.frames → shots' ≡ shots ++ scene_shots text.target (settings_of text.iso scene) scene.frames → Going text (number + 1) lines' shots'
going-more text number lines lines' shots shots' scene cut g more_lines more_shots =
    let s = settings_of text.iso scene in
    let rest = drop (number + 1) text.scenes in
    let count = shots-count text.target s scene.frames shots shots' more_shots in
    let valid = scene-first scene rest (rw cut at g.valid) in
    let some = some-frames scene valid.0 in
    let few = rw cut at g.few in
    let frames = frames-cons scene rest in
    let long = ap length more_lines ∙ length-append lines (scene_lines text.target s (length shots) number scene.frames) in
    let added = scene-lines-count text.target s (length shots) number scene.frames in
    let double = g.double in
    record {
      lines = scene-lines-more text.target text.iso number (length shots) (length shots') scene rest lines lines' (lines_of text) count (rw cut at g.lines) more_lines;
      shots = scene-shots-more (λ scene. scene_shots text.target (settings_of text.iso scene) scene.frames) scene rest shots shots' (shots_of text) (rw cut at g.shots) more_shots;
      few = omega arith;
      valid = valid.1;
      double = omega arith;
    }
