use Rattle.std.proofs.Common.{◌≡◌, ℕ, ◌+◌, ◌<◌, List, ◌∷◌, ◌++◌, drop, drop-cons, get_or, length, add-one, ap, ◌∙◌, subst, arith}
use Rattle.auto_call.proofs.Steps.{going-more}
use Rattle.auto_call.specs.Output.{scene_lines, scene_shots, settings_of}
use Rattle.auto_call.specs.declared.output_line.AutoLine.{AutoLine}
use Rattle.cam_types.specs.declared.item.Settings.{Settings}
use Rattle.auto_call.specs.declared.text.Scene.{Scene}
use Rattle.auto_call.proofs.Few.{text-few}
use Rattle.auto_call.proofs.run.find_all.Goals as goal

pub overflow_cast-number : goal.overflow_cast-number
overflow_cast-number c =
    let few = text-few c.args.text.now c.requires in
    let same = ap length c.as_slice-scene-items.ensures in
    omega arith

cut-at : (scenes : List Scene) (number : ℕ) (d : Scene) → number < length scenes → drop number scenes ≡ get_or scenes number d ∷ drop (number + 1) scenes
cut-at scenes number d h = rw add-one (drop-cons scenes number d h)

-- a scene's lines and settings, by what the scenes were read from
lines-at : (target iso first number : ℕ) (items scenes : List Scene) (d : Scene) (s : Settings) (lines lines' : List AutoLine) → items ≡ scenes → s ≡ settings_of iso (get_or items number d) → lines' ≡ lines ++ scene_lines target s first number (get_or items number d).frames → lines' ≡ lines ++ scene_lines target (settings_of iso (get_or scenes number d)) first number (get_or scenes number d).frames
lines-at target iso first number items scenes d s lines lines' same is more =
    more ∙ (ap (λ (t : Settings). lines ++ scene_lines target t first number (get_or items number d).frames) is
    ∙ ap (λ (xs : List Scene). lines ++ scene_lines target (settings_of iso (get_or xs number d)) first number (get_or xs number d).frames) same)

shots-at : (target iso number : ℕ) (items scenes : List Scene) (d : Scene) (s : Settings) (shots shots' : List Settings) → items ≡ scenes → s ≡ settings_of iso (get_or items number d) → shots' ≡ shots ++ scene_shots target s (get_or items number d).frames → shots' ≡ shots ++ scene_shots target (settings_of iso (get_or scenes number d)) (get_or scenes number d).frames
shots-at target iso number items scenes d s shots shots' same is more =
    more ∙ (ap (λ (t : Settings). shots ++ scene_shots target t (get_or items number d).frames) is
    ∙ ap (λ (xs : List Scene). shots ++ scene_shots target (settings_of iso (get_or xs number d)) (get_or xs number d).frames) same)

pub loop-number-preserved : goal.loop-number-preserved
loop-number-preserved c =
    let text = c.args.text.now in
    let number = c.loop-number.number in
    let items = c.as_slice-scene-items.result.now in
    let same = c.as_slice-scene-items.ensures in
    let len = ap length same in
    let low : number < length text.scenes = omega arith in
    let d : Scene = record { pattern = 0; level = 0; frames = 0 } in
    going-more text number c.loop-number.found.lines c.add_scene.new.found.lines c.loop-number.found.shots c.add_scene.new.found.shots (get_or text.scenes number d)
    (cut-at text.scenes number d low) c.loop-number.invariant
    (lines-at text.target text.iso (length c.loop-number.found.shots) number items text.scenes d c.settings_of-settings.result c.loop-number.found.lines c.add_scene.new.found.lines same c.settings_of-settings.ensures c.in_ok-add_scene.ensures.lines)
    (shots-at text.target text.iso number items text.scenes d c.settings_of-settings.result c.loop-number.found.shots c.add_scene.new.found.shots same c.settings_of-settings.ensures c.in_ok-add_scene.ensures.shots)
