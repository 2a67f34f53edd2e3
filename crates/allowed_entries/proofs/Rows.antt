-- The frames of rows, one after the other.
use Rattle.std.proofs.Common.{◌≡◌, ◌∙◌, ◌<◌, ℕ, ◌+◌, List, [], ◌∷◌, ◌++◌, refl, sym, ap, append-nil, get_or, length, map, take}
use Rattle.std.proofs.lemmas.List.{append_assoc, take_more}
use Rattle.basic_lemmas.proofs.Lists.{map-map}
use Rattle.cam_types.specs.declared.script.Script.{Script}
use Rattle.state_facts.specs.Row.{Row}
use Rattle.state_facts.specs.States.{State}
use Rattle.judge_rows.specs.declared.row.OpenRow.{OpenRow}
use Rattle.judge_rows.specs.Views.{row_of, rows_of}
use Rattle.allowed_entries.specs.declared.entry.AllowedEntry.{AllowedEntry}
use Rattle.allowed_entries.specs.Readings.{frame_in, frames_in}

-- one row more
pub frames_more : (script : Script) (s : State) (rows : List OpenRow) (row : OpenRow) → frames_in script s (map (λ r. r.frame.0) (rows ++ row ∷ [])) ≡ frames_in script s (map (λ r. r.frame.0) rows) ++ frame_in script s row.frame.0
unfolding frames_in
frames_more script s [] row = append-nil (frame_in script s row.frame.0)
frames_more script s (r ∷ rows) row =
    ap (λ (l : List AllowedEntry). frame_in script s r.frame.0 ++ l) (frames_more script s rows row)
    ∙ sym (append_assoc (frame_in script s r.frame.0) _ _)

pub none_first : (script : Script) (s : State) → frames_in script s [] ≡ []
unfolding frames_in
none_first script s = refl

-- the frames of the table's rows
pub frames_of : (rows : List OpenRow) (state : List Row) → rows_of rows ≡ state → map (λ r. r.frame.0) rows ≡ map (λ r. r.number) state
frames_of rows state is = sym (map-map (λ (r : Row). r.number) row_of rows) ∙ ap (map (λ (r : Row). r.number)) is

-- as the loop adds them
pub added_more : (script : Script) (s : State) (before now new : List AllowedEntry) (rows : List OpenRow) (i : ℕ) (other : OpenRow) → now ≡ before ++ frames_in script s (map (λ r. r.frame.0) (take i rows)) → i < length rows → new ≡ now ++ frame_in script s (get_or rows i other).frame.0 → new ≡ before ++ frames_in script s (map (λ r. r.frame.0) (take (i + 1) rows))
added_more script s before now new rows i other was less step =
    let row = get_or rows i other in
    let old = frames_in script s (map (λ r. r.frame.0) (take i rows)) in
    let one : take (i + 1) rows ≡ take i rows ++ row ∷ [] = take_more rows i other less in
    step ∙ (ap (λ (l : List AllowedEntry). l ++ frame_in script s row.frame.0) was
    ∙ (append_assoc before old (frame_in script s row.frame.0)
    ∙ ap (λ (l : List AllowedEntry). before ++ l) (sym (ap (λ (rs : List OpenRow). frames_in script s (map (λ r. r.frame.0) rs)) one ∙ frames_more script s (take i rows) row))))
