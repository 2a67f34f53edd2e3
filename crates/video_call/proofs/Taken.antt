-- What is taken from a legal trace can be drawn, and its file is the one that is wanted.
use Rattle.std.proofs.Common.{◌≡◌, ◌==◌, Bool, true, false, List, [], ◌∷◌, Option, Some, None, Result, Ok, Err, refl, sym, ap, ◌∙◌, find, reverse, if◌then◌else◌, inl, inr}
use Rattle.std.specs.Prelude.{IfOk}
use Rattle.std.specs.List.{list_all}
use Rattle.std.proofs.lemmas.Bool.{and_parts, cases_Bool}
use Rattle.std.proofs.lemmas.List.{reverse-reverse}
use Rattle.std.specs.declared.alloc.AllocError.{AllocError}
use Rattle.cam_types.specs.declared.script.Script.{Script}
use Rattle.video_call.specs.Choice.{alike_or_none, cause_of, has_stream, is_alike, or_cause}
use Rattle.video_call.specs.Film.{film}
use Rattle.video_call.specs.declared.choice.NoFilm.{NoFilm}
use Rattle.video_call.specs.declared.shot.Shot.{Shot}
use Rattle.trace_model.specs.declared.entry.Entry.{Entry}
use Rattle.trace_model.specs.Legal.{IsLegal}
use Rattle.video_call.specs.Chosen.{IsChosenOf, can_draw, chosen_file}
use Rattle.video_call.specs.Drawing.{are_drawable, is_drawable}
use Rattle.video_call.specs.Shows.{file_of, film_made, picture_made}
use Rattle.video_call.specs.declared.chosen.Chosen.{Chosen}
use Rattle.video_call.specs.declared.chosen.Chosen.TheVariants.{Film, Picture, Nothing}
use Rattle.video_call.specs.declared.wanted.Wanted.{Wanted}
use Rattle.video_call.specs.declared.wanted.Wanted.TheVariants.{Film as WantedFilm, Picture as WantedPicture}
use Rattle.video_call.proofs.Films.{drawable-film}

-- ---- the file

file-chosen : (wanted : Wanted) (script : Script) (trace : List Entry) (chosen : Chosen) → IsChosenOf wanted script trace chosen → file_of wanted script trace ≡ chosen_file chosen
file-chosen (WantedFilm s) script trace (Film shots) is = ap film_made is
file-chosen (WantedFilm s) script trace (Nothing cause) is = ap film_made is
file-chosen (WantedFilm s) script trace (Picture shot) is = absurd is
file-chosen (WantedPicture n s) script trace (Picture shot) is = ap picture_made is
file-chosen (WantedPicture n s) script trace (Nothing cause) is = ap picture_made is
file-chosen (WantedPicture n s) script trace (Film shots) is = absurd is

-- ---- drawing

alike-same : (shots xs : List Shot) → alike_or_none shots ≡ Ok xs → shots ≡ xs
alike-same [] xs is = absurd (cc)
alike-same (shot ∷ shots) xs is = elim (cases_Bool (list_all (λ x. is_alike shot.spec x.spec) (shot ∷ shots))) [
  | inl all ↦ (let is' = rw all at is in cc)
  | inr some ↦ (let is' = rw some at is in absurd (cc))
]

film-same : (b : Bool) (shots xs : List Shot) (cause : NoFilm) → (if b then alike_or_none shots else Err cause) ≡ Ok xs → shots ≡ xs
film-same true shots xs cause is = alike-same shots xs is
film-same false shots xs cause is = absurd (cc)

found-drawable : (p : Shot → Bool) (shots : List Shot) (shot : Shot) → are_drawable shots ≡ true → find p shots ≡ Some shot → is_drawable shot ≡ true
found-drawable p [] shot all at = absurd (cc)
found-drawable p (x ∷ shots) shot all at =
    let parts = and_parts (is_drawable x) (are_drawable shots) all in
    elim (cases_Bool (p x)) [
      | inl own ↦ (let at' = rw own at at in let same : x ≡ shot = cc in ap is_drawable (sym same) ∙ parts.0)
      | inr other ↦ (let at' = rw other at at in found-drawable p shots shot parts.1 at')
    ]

shot-same : (o : Option Shot) (cause : NoFilm) (shot : Shot) → or_cause o cause ≡ Ok shot → o ≡ Some shot
shot-same None cause shot is = absurd (cc)
shot-same (Some x) cause shot is = let same : x ≡ shot = cc in ap Some same

drawn-chosen : (wanted : Wanted) (script : Script) (trace : List Entry) (chosen : Chosen) → IsLegal script trace → IsChosenOf wanted script trace chosen → can_draw chosen ≡ true
drawn-chosen (WantedFilm s) script trace (Film shots) legal is =
    ap are_drawable (sym (film-same (has_stream script s.0 trace) (film script s.0 trace) shots.items _ is)) ∙ drawable-film script s.0 trace legal
drawn-chosen (WantedFilm s) script trace (Nothing cause) legal is = refl
drawn-chosen (WantedFilm s) script trace (Picture shot) legal is = absurd is
drawn-chosen (WantedPicture n s) script trace (Picture shot) legal is =
    found-drawable (λ x. x.frame.0 == n.0) (film script s.0 trace) shot (drawable-film script s.0 trace legal)
    (shot-same (find (λ x. x.frame.0 == n.0) (film script s.0 trace)) (cause_of script n.0 s.0 trace) shot is)
drawn-chosen (WantedPicture n s) script trace (Nothing cause) legal is = refl
drawn-chosen (WantedPicture n s) script trace (Film shots) legal is = absurd is

-- ---- what a call answers of a trace whose entries are given, the oldest first

pub file-taken : (wanted : Wanted) (script : Script) (trace entries : List Entry) (r : Result Chosen AllocError) → entries ≡ reverse trace → IfOk r (λ chosen. IsChosenOf wanted script (reverse entries) chosen) → IfOk r (λ chosen. file_of wanted script trace ≡ chosen_file chosen)
file-taken wanted script trace entries (Ok chosen) are is =
    ap (λ es. file_of wanted script es) (sym (ap reverse are ∙ reverse-reverse trace)) ∙ file-chosen wanted script (reverse entries) chosen is
file-taken wanted script trace entries (Err e) are is = tt

pub drawn-taken : (wanted : Wanted) (script : Script) (trace entries : List Entry) (r : Result Chosen AllocError) → IsLegal script trace → entries ≡ reverse trace → IfOk r (λ chosen. IsChosenOf wanted script (reverse entries) chosen) → IfOk r (λ chosen. can_draw chosen ≡ true)
drawn-taken wanted script trace entries (Ok chosen) legal are is =
    let legal' : IsLegal script (reverse entries) = rw (ap reverse are ∙ reverse-reverse trace) legal in
    drawn-chosen wanted script (reverse entries) chosen legal' is
drawn-taken wanted script trace entries (Err e) legal are is = tt
