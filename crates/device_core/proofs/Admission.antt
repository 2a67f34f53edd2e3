-- A row that is admitted, and what is held for it.
use Rattle.std.proofs.Common.{◌≡◌, ◌≤◌, ◌<◌, ◌+◌, ℕ, true, false, ◌&&◌, not, is_some, is_none, nat_le, nat_lt, List, [], ◌∷◌, ◌++◌, length, option_to_list, slice_get, Option, Some, None, refl, sym, ap, ◌∙◌, arith}
use Rattle.std.specs.List.{list_all}
use Rattle.std.proofs.lemmas.Bool.{and_from, and_parts, false≢true, or_right}
use Rattle.std.proofs.lemmas.Bool.Decides.{nat_tests}
use Rattle.std.proofs.lemmas.List.{map-append}
use Rattle.std.proofs.lemmas.Grind.{common_steps}
use Rattle.basic_lemmas.proofs.Lists.{all-append, all-mapped, all-where, append-none}
use Rattle.buffer_pool.specs.declared.parked.Parked.{Parked}
use Rattle.cam_types.specs.Four.{four_list}
use Rattle.cam_types.specs.Metadata.{range_fault}
use Rattle.cam_types.specs.declared.four.Four.{Four}
use Rattle.cam_types.specs.declared.row.RowView.{RowView}
use Rattle.cam_types.specs.declared.row.SensorPlace.{SensorPlace}
use Rattle.cam_types.specs.declared.row.SensorPlace.TheVariants.{NotYet, Out as SensorOut, Home, WithFill}
use Rattle.cam_types.specs.declared.row.TargetState.{TargetState}
use Rattle.cam_types.specs.declared.row.TargetState.TheVariants.{Waiting, Out, Filled, ReturnedEarly, EarlyFilled, ReturnedOk, ReturnedFailed}
use Rattle.cam_types.specs.declared.row.TargetView.{TargetView}
use Rattle.cam_types.specs.declared.stream.StreamSpec.{StreamSpec}
use Rattle.device_rows.specs.Kept.{is_fresh, is_fresh_target, is_not_yet, rise_from}
use Rattle.device_rows.specs.Ready.{is_same_state}
use Rattle.device_core.specs.declared.buffers.Held.{Held}
use Rattle.device_core.specs.declared.readouts.Slot.{Slot}
use Rattle.device_core.specs.declared.readouts.Slot.TheVariants.{Spare}
use Rattle.device_core.specs.Kept.{agree, full, held_at, held_by, held_in, is_kept, is_placed, is_unbegun, IsKept, slot_of, waiting_at, waiting_in, waiting_with, waits}
use Rattle.device_core.specs.Stored.{AreParked, are_before, frame_number, is_some_target, IsParkedAt, IsParkedIn, specs_of, views}
use Rattle.device_rows.specs.declared.table_row.Row.{Row}
use Rattle.device_rows.specs.TableRows.{are_apart, are_below, are_both, is_apart, is_for, is_one_each, view_of}
use Rattle.request_checks.specs.declared.plan.Plan.{Plan}
use Rattle.device_core.proofs.General.{rises-push}

-- ---- streams that rise are apart

-- what follows a target has streams above
record IsAfter (o : Option TargetView) (rest : List TargetView) (low streams high : ℕ) : Type 0 where
  above : low ≤ high
  rise : rise_from high streams rest ≡ true
  skips : (s : ℕ) → s < low → is_for s o ≡ false
  below : (t : TargetView) → o ≡ Some t → t.stream.0 < high

after : (o : Option TargetView) (rest : List TargetView) (low streams : ℕ) → rise_from low streams (option_to_list o ++ rest) ≡ true → (high : ℕ) × IsAfter o rest low streams high
after None rest low streams h = (low, record { above = omega arith; rise = h; skips = λ s l. refl; below = λ t e. absurd (cc) })
after (Some t) rest low streams h =
    let parts = and_parts (nat_le low t.stream.0 && nat_lt t.stream.0 streams) (rise_from (t.stream.0 + 1) streams rest) h in
    let first = and_parts (nat_le low t.stream.0) (nat_lt t.stream.0 streams) parts.0 in
    let at : low ≤ t.stream.0 = grind (arith, nat_tests, first.0) in
    (t.stream.0 + 1, record { above = omega (arith, at); rise = parts.1; skips = λ s l. grind (arith, nat_tests, at, l); below = λ u e. (let same : t ≡ u = cc in rw same (omega arith)) })

apart-by : (o p : Option TargetView) → ((t : TargetView) → o ≡ Some t → is_for t.stream.0 p ≡ false) → is_apart o p ≡ true
apart-by None p h = refl
apart-by (Some t) p h = rw (h t refl) refl

rise-padded : (xs : List TargetView) (low streams : ℕ) → rise_from low streams xs ≡ true → rise_from low streams (xs ++ []) ≡ true
rise-padded xs low streams h = rw (append-none xs) h

pub rise-apart : (a b c d : Option TargetView) (low streams : ℕ) → rise_from low streams (option_to_list a ++ (option_to_list b ++ (option_to_list c ++ option_to_list d))) ≡ true → are_apart (record { a = a; b = b; c = c; d = d }) ≡ true
rise-apart a b c d low streams h =
    let (m, ra) = after a _ low streams h in
    let (n, rb) = after b _ m streams ra.rise in
    let (k, rc) = after c _ n streams rb.rise in
    let last = rise-padded (option_to_list d) k streams rc.rise in
    let (l, rd) = after d [] k streams last in
    let ab = apart-by a b (λ t e. rb.skips t.stream.0 (ra.below t e)) in
    let ac = apart-by a c (λ t e. rc.skips t.stream.0 (omega (arith, ra.below t e, rb.above))) in
    let ad = apart-by a d (λ t e. rd.skips t.stream.0 (omega (arith, ra.below t e, rb.above, rc.above))) in
    let bc = apart-by b c (λ t e. rc.skips t.stream.0 (rb.below t e)) in
    let bd = apart-by b d (λ t e. rd.skips t.stream.0 (omega (arith, rb.below t e, rc.above))) in
    let cd = apart-by c d (λ t e. rd.skips t.stream.0 (rc.below t e)) in
    rw (ab, ac, ad, bc, bd, cd) refl

-- ---- a buffer for each target

both-in : (target : TargetView) (parked : Parked) (spec : Option StreamSpec) → IsParkedIn spec target parked → is_some (waiting_with target spec) ≡ true
both-in target parked (Some spec) h = refl
both-in target parked None h = absurd h

both-at : (specs : List StreamSpec) (target : Option TargetView) (parked : Option Parked) → IsParkedAt specs target parked → are_both target (waiting_at specs target) ≡ true
both-at specs (Some target) (Some parked) h = both-in target parked (slice_get specs target.stream.0) h
both-at specs (Some target) None h = absurd h
both-at specs None (Some parked) h = absurd h
both-at specs None None h = refl

pub one-each : (specs : List StreamSpec) (targets : Four TargetView) (parked : Four Parked) → AreParked specs targets parked → is_one_each targets (waiting_in specs targets) ≡ true
one-each specs targets parked h =
    rw (both-at specs targets.a parked.a h.a, both-at specs targets.b parked.b h.b, both-at specs targets.c parked.c h.c, both-at specs targets.d parked.d h.d) refl

-- ---- what is held for a fresh row

state-waiting : (state : TargetState) → is_same_state state Waiting ≡ true → state ≡ Waiting
state-waiting Waiting h = refl
state-waiting Out h = absurd (false≢true h)
state-waiting Filled h = absurd (false≢true h)
state-waiting ReturnedEarly h = absurd (false≢true h)
state-waiting EarlyFilled h = absurd (false≢true h)
state-waiting ReturnedOk h = absurd (false≢true h)
state-waiting ReturnedFailed h = absurd (false≢true h)

held-waiting : (row : RowView) (target : TargetView) (spec : Option StreamSpec) → held_by Waiting row target spec ≡ waiting_with target spec
held-waiting row target (Some spec) = refl
held-waiting row target None = refl

fresh-at : (specs : List StreamSpec) (row : RowView) (o : Option TargetView) (rest : List TargetView) → list_all is_fresh_target (option_to_list o ++ rest) ≡ true → (held_at specs row o ≡ waiting_at specs o) × (list_all is_fresh_target rest ≡ true)
fresh-at specs row None rest h = (refl, h)
fresh-at specs row (Some t) rest h =
    let parts = and_parts (is_fresh_target t) (list_all is_fresh_target rest) h in
    let own = and_parts (is_same_state t.state Waiting) (not t.announced) parts.0 in
    (rw (state-waiting t.state own.0) (held-waiting row t (slice_get specs t.stream.0)), parts.1)

fresh-in : (specs : List StreamSpec) (row : RowView) → list_all is_fresh_target (four_list row.targets) ≡ true → held_in specs row ≡ waiting_in specs row.targets
fresh-in specs row h =
    let a = fresh-at specs row row.targets.a _ h in
    let b = fresh-at specs row row.targets.b _ a.1 in
    let c = fresh-at specs row row.targets.c _ b.1 in
    let last = rw (← append-none (option_to_list row.targets.d)) at c.1 in
    let d = fresh-at specs row row.targets.d [] last in
    rw (a.0, b.0, c.0, d.0) refl

sensor-not_yet : (place : SensorPlace) → is_not_yet place ≡ true → place ≡ NotYet
sensor-not_yet NotYet h = refl
sensor-not_yet SensorOut h = absurd (false≢true h)
sensor-not_yet Home h = absurd (false≢true h)
sensor-not_yet WithFill h = absurd (false≢true h)

fresh-waits : (t : TargetView) → is_fresh_target t ≡ true → waits t ≡ true
fresh-waits t h =
    let own = and_parts (is_same_state t.state Waiting) (not t.announced) h in
    rw (state-waiting t.state own.0) refl

fresh-unbegun : (t : TargetView) → is_fresh_target t ≡ true → is_unbegun t ≡ true
fresh-unbegun t h =
    let own = and_parts (is_same_state t.state Waiting) (not t.announced) h in
    rw (state-waiting t.state own.0) own.1

-- what a fresh row says
record Fresh (row : RowView) : Type 0 where
  dark : is_none row.shutter ≡ true
  sensor : row.sensor ≡ NotYet
  targets : list_all is_fresh_target (four_list row.targets) ≡ true

fresh-parts : (row : RowView) → is_fresh row ≡ true → Fresh row
fresh-parts row h =
    let halves = and_parts _ (list_all is_fresh_target (four_list row.targets)) h in
    let thirds = and_parts _ _ halves.0 in
    let first = and_parts (is_none row.shutter) _ thirds.0 in
    let last = and_parts _ _ thirds.1 in
    let sensor = and_parts (is_not_yet row.sensor) (not row.stopped) last.1 in
    record { dark = first.0; sensor = sensor-not_yet row.sensor sensor.0; targets = halves.1 }

kept-fresh : (streams : ℕ) (row : RowView) → Fresh row → range_fault row.settings ≡ None → rise_from 0 streams (four_list row.targets) ≡ true → is_some_target (four_list row.targets) ≡ true → is_kept streams row ≡ true
kept-fresh streams row fresh range rise some =
    let waiting = all-where is_fresh_target waits (four_list row.targets) fresh-waits fresh.targets in
    let unbegun = all-where is_fresh_target is_unbegun (four_list row.targets) fresh-unbegun fresh.targets in
    let placed : is_placed streams row ≡ true = rw (range, rise, some) refl in
    let agrees : agree row ≡ true = rw (fresh.sensor, fresh.dark, unbegun, waiting) (or_right row.request_error true refl) in
    and_from (is_placed streams row) (agree row) placed agrees

views-append : {B : Type 0} (rows : List (Row B)) (row : Row B) → views (rows ++ row ∷ []) ≡ views rows ++ row.view ∷ []
views-append rows row = map-append view_of rows (row ∷ [])

-- the store with one row more
pub kept-admitted : (plan : Plan) (rows after : List (Row Held)) (capacity capacity' : ℕ) (slots slots' : List Slot) (spares spares' slot_room spare_room slot_room' spare_room' : ℕ) (row : RowView) (held : Four Held) → IsKept plan rows capacity slots spares slot_room spare_room → held ≡ waiting_in (specs_of plan) row.targets → after ≡ rows ++ record { view = row; parked = held } ∷ [] → slots' ≡ slots ++ Spare 0 ∷ [] → capacity' ≡ capacity → spares' + 1 ≡ spares → slot_room' ≡ slot_room → spare_room' ≡ spare_room → is_fresh row ≡ true → range_fault row.settings ≡ None → rise_from 0 (length (specs_of plan)) (four_list row.targets) ≡ true → is_some_target (four_list row.targets) ≡ true → are_before row.frame.0 (views rows) ≡ true → IsKept plan after capacity' slots' spares' slot_room' spare_room'
kept-admitted plan rows after capacity capacity' slots slots' spares spares' slot_room spare_room slot_room' spare_room' row held kept is_held is_after is_slots same less room room' fresh range rise some before =
    let parts = fresh-parts row fresh in
    let in_place : record { view = row; parked = held } ≡ full (specs_of plan) row = rw (is_held, fresh-in (specs_of plan) row parts.targets) refl in
    let more = views-append rows (record { view = row; parked = held }) in
    let slot : slot_of row ≡ Spare 0 = rw parts.sensor refl in
    let new = kept-fresh (length (specs_of plan)) row parts range rise some in
    rw (is_after, is_slots, same, room, room') (record {
      filled = rw (more, map-append (full (specs_of plan)) (views rows) (row ∷ []), ← kept.filled, in_place) refl;
      shown = rw (more, map-append slot_of (views rows) (row ∷ []), ← kept.shown, slot) refl;
      order = rw more (rises-push frame_number (views rows) row kept.order before);
      enough = (let old = kept.enough in grind (arith, common_steps, old, less));
      room = kept.room;
      each = rw more (all-append (is_kept (length (specs_of plan))) (views rows) (row ∷ []) kept.each (rw new refl));
      offered = kept.offered;
    })

pub below-before : {B : Type 0} (n : ℕ) (rows : List (Row B)) → are_before n (views rows) ≡ true → are_below n rows ≡ true
below-before n rows h = sym (all-mapped (λ v. nat_lt v.frame.0 n) view_of rows) ∙ h
