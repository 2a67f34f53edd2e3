use Rattle.std.proofs.Common.{◌≡◌, ℕ, ◌+◌, ◌<◌, true, nat_lt, List, [], ◌∷◌, ◌++◌, length, map, take, drop, slice_set, get_or, refl, sym, ◌∙◌, ap}
use Rattle.std.proofs.lemmas.Bool.{and_parts}
use Rattle.std.specs.List.{list_all}
use Rattle.std.proofs.lemmas.List.{length-map}
use Rattle.cam_types.specs.declared.four.Four.{Four}
use Rattle.cam_types.specs.declared.number.FrameNo.{FrameNo}
use Rattle.cam_types.specs.declared.row.RowView.{RowView}
use Rattle.device_rows.specs.declared.mark.Mark.{Mark}
use Rattle.device_rows.specs.declared.mark.Mark.TheVariants.{Shutter, PartialResult, RequestError, ResultError, Announced, Target, Sensor, Stopped}
use Rattle.device_rows.specs.declared.table_row.Row.{Row}
use Rattle.device_rows.specs.Marks.{marked}
use Rattle.device_rows.specs.Inside.Kept.{IsKept}
use Rattle.device_rows.specs.TableRows.{are_in_order, frame_of, is_sound, with_mark, with_row}
use Rattle.device_rows.proofs.General.{get_or-mapped, set-mapped, written-back}
use Rattle.device_rows.proofs.Reach.{sound-marked}
use Rattle.device_rows.proofs.Places.{Present}

abbrev mk : {B : Type 0} → RowView → Four B → Row B
mk view parked = record { view = view; parked = parked }

-- no mark changes which frame the row is of
frame-marked : (mark : Mark) (view : RowView) → (marked mark view).frame ≡ view.frame
frame-marked (Shutter time) view = refl
frame-marked (PartialResult parts) view = refl
frame-marked RequestError view = refl
frame-marked ResultError view = refl
frame-marked (Announced stream) view = refl
frame-marked (Target stream state) view = refl
frame-marked (Sensor place) view = refl
frame-marked Stopped view = refl

pub same-frame : (mark : Mark) (view new : RowView) → new ≡ marked mark view → new.frame.0 ≡ view.frame.0
same-frame mark view new e = ap (λ (z : RowView). z.frame.0) e ∙ ap (λ (z : FrameNo). z.0) (frame-marked mark view)

-- the rows once the row at place i is marked
pub marked-rows : {B : Type 0} (f : ℕ) (mark : Mark) (rows : List (Row B)) (i : ℕ) (row : Row B) (new : RowView) → Present f rows i row → new ≡ marked mark row.view → slice_set rows i (record { view = new; parked = row.parked }) ≡ with_row f (with_mark mark) rows
marked-rows f mark rows i row new there e =
    ap (λ (z : RowView). slice_set rows i (record { view = z; parked = row.parked })) e ∙ sym (there.changed (with_mark mark))

-- ---- all rows marked

parts-same : {B : Type 0} (v w : RowView) (p q : Four B) → v ≡ w → p ≡ q → mk v p ≡ mk w q
parts-same {B} v w p q e h = ap (λ (z : RowView). mk z p) e ∙ ap (λ (z : Four B). mk w z) h

-- the row at place i marked, where those before it are
pub marked-next : {B : Type 0} (mark : Mark) (old rows : List (Row B)) (i : ℕ) (row : Row B) (view : RowView) (parked : Four B) → rows ≡ map (with_mark mark) (take i old) ++ drop i old → i < length old → view ≡ marked mark (get_or rows i row).view → parked ≡ (get_or rows i row).parked → slice_set rows i (mk view parked) ≡ map (with_mark mark) (take (i + 1) old) ++ drop (i + 1) old
marked-next {B} mark old rows i row view parked so_far l e p =
    let at : get_or rows i row ≡ get_or old i row = ap (λ (z : List (Row B)). get_or z i row) so_far ∙ get_or-mapped (with_mark mark) old i row l in
    let new : mk view parked ≡ with_mark mark (get_or old i row) = parts-same view (marked mark (get_or rows i row).view) parked (get_or rows i row).parked e p ∙ ap (λ (z : Row B). with_mark mark z) at in
    ap (λ (z : List (Row B)). slice_set z i (mk view parked)) so_far ∙ set-mapped (with_mark mark) old i row (mk view parked) l new

frame-with : {B : Type 0} (mark : Mark) (row : Row B) → frame_of (with_mark mark row) ≡ frame_of row
frame-with mark row = same-frame mark row.view (marked mark row.view) refl

above-all : {B : Type 0} (mark : Mark) (n : ℕ) (rows : List (Row B)) → list_all (λ other. nat_lt n (frame_of other)) (map (with_mark mark) rows) ≡ list_all (λ other. nat_lt n (frame_of other)) rows
above-all mark n [] = refl
above-all mark n (r ∷ rs) = rw (frame-with mark r, above-all mark n rs) refl

order-all : {B : Type 0} (mark : Mark) (rows : List (Row B)) → are_in_order (map (with_mark mark) rows) ≡ are_in_order rows
order-all mark [] = refl
order-all mark (r ∷ rs) = rw (frame-with mark r, above-all mark (frame_of r) rs, order-all mark rs) refl

sound-all : {B : Type 0} (mark : Mark) (rows : List (Row B)) → list_all is_sound rows ≡ true → list_all is_sound (map (with_mark mark) rows) ≡ true
sound-all mark [] h = refl
sound-all mark (r ∷ rs) h =
    let parts = and_parts (is_sound r) (list_all is_sound rs) h in
    rw (sound-marked mark r.view (marked mark r.view) r.parked parts.0 refl, sound-all mark rs parts.1) refl

all-kept : {B : Type 0} (mark : Mark) (rows : List (Row B)) (capacity memory : ℕ) → IsKept rows capacity memory → IsKept (map (with_mark mark) rows) capacity memory
all-kept mark rows capacity memory kept = record {
  few = kept.few;
  room = kept.room;
  within = rw (length-map rows (with_mark mark)) kept.within;
  ordered = order-all mark rows ∙ kept.ordered;
  sound = sound-all mark rows kept.sound;
}

-- all rows marked and written back to where they stood
pub all-back : {B : Type 0} (mark : Mark) (rows lent after : List (Row B)) (n : ℕ) → lent ≡ rows → length lent ≡ n → after ≡ map (with_mark mark) lent → take n (after ++ drop (length after) rows) ≡ map (with_mark mark) rows
all-back mark rows lent after n same size is =
    let e : after ≡ map (with_mark mark) rows = rw (← same) is in
    let l : length (map (with_mark mark) rows) ≡ length rows = length-map rows (with_mark mark) in
    let m : n ≡ length rows = rw (← same) (sym size) in
    rw (m, e) (written-back rows (map (with_mark mark) rows) l)

pub kept-all : {B : Type 0} (mark : Mark) (rows lent after : List (Row B)) (n capacity memory : ℕ) → IsKept rows capacity memory → lent ≡ rows → length lent ≡ n → after ≡ map (with_mark mark) lent → IsKept (take n (after ++ drop (length after) rows)) capacity memory
kept-all mark rows lent after n capacity memory kept same size is =
    rw (all-back mark rows lent after n same size is) (all-kept mark rows capacity memory kept)
