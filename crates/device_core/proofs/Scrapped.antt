-- The waiters of what is held for rows whose fences were made.
use Rattle.std.proofs.Common.{◌≡◌, ℕ, Bool, true, ◌&&◌, ◌||◌, not, List, [], ◌∷◌, ◌++◌, map, option_to_list, Option, Some, None, slice_get, refl, ap, ◌∙◌}
use Rattle.std.specs.List.{list_all}
use Rattle.std.proofs.lemmas.Bool.{and_from, and_parts}
use Rattle.basic_lemmas.proofs.Lists.{all-mapped, all-where}
use Rattle.cam_types.specs.declared.number.FenceNo.{FenceNo}
use Rattle.cam_types.specs.declared.row.RowView.{RowView}
use Rattle.cam_types.specs.declared.row.TargetState.{TargetState}
use Rattle.cam_types.specs.declared.row.TargetState.TheVariants.{Waiting, Out, Filled, ReturnedEarly, EarlyFilled, ReturnedOk, ReturnedFailed}
use Rattle.cam_types.specs.declared.row.TargetView.{TargetView}
use Rattle.cam_types.specs.declared.stream.StreamSpec.{StreamSpec}
use Rattle.device_rows.specs.Kept.{has_made_fence, have_made_fences, is_made}
use Rattle.device_rows.specs.Ready.{is_same_state}
use Rattle.device_core.specs.declared.buffers.Held.{Held}
use Rattle.device_core.specs.Kept.{fence_number, full, held_at, held_by}
use Rattle.device_core.specs.Stored.{views}
use Rattle.device_core.specs.Unpacked.{is_made_at, is_made_number, is_made_row}
use Rattle.device_rows.specs.declared.table_row.Row.{Row}

made-number : (k : ℕ) (fence : Option FenceNo) → is_made k fence ≡ true → is_made_number k (fence_number fence) ≡ true
made-number k None h = refl
made-number k (Some f) h = h

made-held : (k : ℕ) (st : TargetState) (row : RowView) (t : TargetView) (o : Option StreamSpec) → (not (is_same_state st Waiting) || is_made k t.fence) ≡ true → is_made_at k (held_by st row t o) ≡ true
made-held k Waiting row t (Some spec) h = made-number k t.fence h
made-held k Waiting row t None h = refl
made-held k Filled row t (Some spec) h = refl
made-held k Filled row t None h = refl
made-held k EarlyFilled row t (Some spec) h = refl
made-held k EarlyFilled row t None h = refl
made-held k Out row t o h = refl
made-held k ReturnedEarly row t o h = refl
made-held k ReturnedOk row t o h = refl
made-held k ReturnedFailed row t o h = refl

made-at : (k : ℕ) (specs : List StreamSpec) (row : RowView) (o : Option TargetView) (rest : List TargetView) → list_all (has_made_fence k) (option_to_list o ++ rest) ≡ true → (is_made_at k (held_at specs row o) ≡ true) × (list_all (has_made_fence k) rest ≡ true)
made-at k specs row None rest h = (refl, h)
made-at k specs row (Some t) rest h =
    let parts = and_parts (has_made_fence k t) (list_all (has_made_fence k) rest) h in
    (made-held k t.state row t (slice_get specs t.stream.0) parts.0, parts.1)

made-last : (k : ℕ) (specs : List StreamSpec) (row : RowView) (o : Option TargetView) → list_all (has_made_fence k) (option_to_list o) ≡ true → is_made_at k (held_at specs row o) ≡ true
made-last k specs row None h = refl
made-last k specs row (Some t) h = made-held k t.state row t (slice_get specs t.stream.0) (and_parts (has_made_fence k t) true h).0

made-full : (k : ℕ) (specs : List StreamSpec) (row : RowView) → have_made_fences k row ≡ true → is_made_row k (full specs row) ≡ true
made-full k specs row h =
    let a = made-at k specs row row.targets.a _ h in
    let b = made-at k specs row row.targets.b _ a.1 in
    let c = made-at k specs row row.targets.c _ b.1 in
    let d = made-last k specs row row.targets.d c.1 in
    rw (a.0, b.0, c.0, d) refl

pub made-rows : (k : ℕ) (specs : List StreamSpec) (rows : List (Row Held)) → rows ≡ map (full specs) (views rows) → list_all (have_made_fences k) (views rows) ≡ true → list_all (is_made_row k) rows ≡ true
made-rows k specs rows filled all =
    ap (λ (z : List (Row Held)). list_all (is_made_row k) z) filled ∙ (all-mapped (is_made_row k) (full specs) (views rows) ∙ all-where (have_made_fences k) (λ row. is_made_row k (full specs row)) (views rows) (λ row h. made-full k specs row h) all)

all-back : {X : Type 0} (p : X → Bool) (front : List X) (x : X) → list_all p (front ++ x ∷ []) ≡ true → (list_all p front ≡ true) × (p x ≡ true)
all-back p [] x all = (refl, (and_parts (p x) true all).0)
all-back p (y ∷ ys) x all =
    let parts = and_parts (p y) (list_all p (ys ++ x ∷ [])) all in
    let rest = all-back p ys x parts.1 in
    (and_from (p y) (list_all p ys) parts.0 rest.0, rest.1)

-- what all pass, the last and those before it do
pub all-last : {X : Type 0} (p : X → Bool) (rows front : List X) (x : X) → rows ≡ front ++ x ∷ [] → list_all p rows ≡ true → (list_all p front ≡ true) × (p x ≡ true)
all-last p rows front x is all = all-back p front x (rw is at all)

-- what is held for a row, one by one
pub made-parts : (k : ℕ) (row : Row Held) → is_made_row k row ≡ true → (is_made_at k row.parked.a ≡ true) × (is_made_at k row.parked.b ≡ true) × (is_made_at k row.parked.c ≡ true) × (is_made_at k row.parked.d ≡ true)
made-parts k row h =
    let a = and_parts (is_made_at k row.parked.a) (is_made_at k row.parked.b && (is_made_at k row.parked.c && is_made_at k row.parked.d)) h in
    let b = and_parts (is_made_at k row.parked.b) (is_made_at k row.parked.c && is_made_at k row.parked.d) a.1 in
    let c = and_parts (is_made_at k row.parked.c) (is_made_at k row.parked.d) b.1 in
    (a.0, b.0, c.0, c.1)
