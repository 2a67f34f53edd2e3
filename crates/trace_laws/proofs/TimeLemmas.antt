-- The bound on shutter times: there are no more shutters than frames, and each time is at most 0.1 s after the last.
use Rattle.std.proofs.Common.{◌≡◌, ℕ, ◌==◌, ◌+◌, ◌*◌, ◌≤◌, Bool, true, false, ◌&&◌, ◌||◌, not, List, [], ◌∷◌, refl, arith, inl, inr, length, filter, max, nat_le, count_by}
use Rattle.std.specs.List.{list_all}
use Rattle.std.proofs.lemmas.Bool.{cases_Bool, false≢true, and_parts}
use Rattle.std.proofs.lemmas.Bool.Decides.{nat_tests}
use Rattle.cam_types.specs.declared.number.FrameNo.{FrameNo}
use Rattle.cam_types.specs.declared.script.Script.{Script}
use Rattle.trace_model.specs.declared.entry.Entry.{Entry}
use Rattle.trace_model.specs.declared.entry.Entry.TheVariants.{Send, Dropped, Shutter}
use Rattle.trace_model.specs.Entry.{is_numbering}
use Rattle.trace_model.specs.Faults.{device_fault}
use Rattle.trace_model.specs.Frames.{each_earlier, frames, has_error, has_error_request, has_shutter, is_sent, settings_of}
use Rattle.trace_model.specs.Legal.{IsLegal}
use Rattle.trace_model.specs.Numbers.{next_number}
use Rattle.trace_model.specs.Shutter.{may_expose, next_time}
use Rattle.trace_model.specs.Stopping.{is_stopping}
use Rattle.trace_laws.specs.Bounds.{time_bound}
use Rattle.trace_laws.specs.Laws.{is_until}
use Rattle.trace_laws.proofs.Accepted.{frame-moderate}
use Rattle.trace_laws.proofs.FrameLemmas.{frames_bounded}
use Rattle.trace_laws.proofs.Shapes.{found-kept, shutter-is}
use Rattle.basic_lemmas.proofs.Counts.{filter-fewer, count-cons}

abbrev pub exposes : Entry → Bool
exposes (Shutter _ _) = true
exposes _ = false

-- how many shutters there are
abbrev pub shutter_count : List Entry → ℕ
shutter_count past = count_by exposes past

-- the frames that were sent and have no shutter
abbrev pub unexposed : List Entry → List ℕ
unexposed past = filter (λ n. not (has_shutter n past)) (frames past)

by_sensor : (stopping sent shutter error earlier fault : Bool) → (not stopping && (((sent && (not shutter && not error)) && earlier) && not fault)) ≡ true → not shutter ≡ true
by_sensor true sent shutter error earlier fault h = absurd (false≢true h)
by_sensor false false shutter error earlier fault h = absurd (false≢true h)
by_sensor false true true error earlier fault h = absurd (false≢true h)
by_sensor false true false error earlier fault h = refl

may-first : (script : Script) (past : List Entry) (n : ℕ) → may_expose script past n ≡ true → not (has_shutter n past) ≡ true
may-first script past n h =
    by_sensor (is_stopping past) (is_sent n past) (has_shutter n past) (has_error n past) (each_earlier n (λ m. has_shutter m past || has_error_request m past) past) (device_fault script n) h

shutters_and_unexposed : (script : Script) (past : List Entry) → IsLegal script past → shutter_count past + length (unexposed past) ≤ next_number past
shutters_and_unexposed script [] legal = omega arith
shutters_and_unexposed script (Send n r i same targets ∷ past) legal =
    let ih = shutters_and_unexposed script past legal.1 in
    let number = count-cons is_numbering (Send n r i same targets) past in
    elim (cases_Bool (has_shutter n.0 past)) [
      | inl yes' ↦ rw yes' (omega (arith, ih, number))
      | inr no' ↦ rw no' (omega (arith, ih, number))
    ]
shutters_and_unexposed script (Dropped n r i ∷ past) legal =
    let ih = shutters_and_unexposed script past legal.1 in
    let number = count-cons is_numbering (Dropped n r i) past in
    omega (arith, ih, number)
shutters_and_unexposed script (Shutter n time ∷ past) legal =
    let ih = shutters_and_unexposed script past legal.1 in
    let one = count-cons exposes (Shutter n time) past in
    let is = shutter-is script past n time legal.0 in
    let there = found-kept (may_expose script past) (λ m. not (has_shutter m past)) (frames past) n.0 (may-first script past) is.0 in
    let less = filter-fewer (λ m. not (has_shutter m past)) (λ m. not (has_shutter m (Shutter n time ∷ past))) (λ m. m == n.0) (stays n time past) (now n time past) (frames past) there in
    omega (arith, ih, one, less)
  where
    stays : (n : FrameNo) (time : ℕ) (past : List Entry) (m : ℕ) → not (has_shutter m past) ≡ false → not (has_shutter m (Shutter n time ∷ past)) ≡ false
    stays n time past m h = grind arith

    now : (n : FrameNo) (time : ℕ) (past : List Entry) (m : ℕ) → (m == n.0) ≡ true → not (has_shutter m (Shutter n time ∷ past)) ≡ false
    now n time past m h = let here : (n.0 == m) ≡ true = grind (arith, nat_tests) in rw here refl
shutters_and_unexposed script (e ∷ past) legal = shutters_and_unexposed script past legal.1

at_most_tenth : (p l e i : Bool) (x : ℕ) → nat_le x 100000000 ≡ e → ((p && l) && (e && i)) ≡ true → max 33333333 x ≤ 100000000
at_most_tenth p l e i x is h =
    let some = (and_parts e i (and_parts (p && l) (e && i) h).1).0 in
    let some' : nat_le x 100000000 ≡ true = rw is some in
    grind (arith, nat_tests, some')

pub time-by-shutters : (script : Script) (past : List Entry) → IsLegal script past → next_time script past ≤ 1000000000 + 100000000 * shutter_count past
time-by-shutters script [] legal = omega arith
time-by-shutters script (Shutter n time ∷ past) legal =
    let ih = time-by-shutters script past legal.1 in
    let one = count-cons exposes (Shutter n time) past in
    let is = shutter-is script past n time legal.0 in
    let s = settings_of script past n.0 in
    let tenth = at_most_tenth (nat_le s.pattern 2) (nat_le s.level 255) (nat_le s.exposure 100000000) (nat_le s.iso 1600) s.exposure refl (frame-moderate script past n.0 legal.1) in
    omega (arith, ih, one, is.1, tenth)
time-by-shutters script (e ∷ past) legal = time-by-shutters script past legal.1

pub next-time-bounded : (script : Script) (past : List Entry) → IsLegal script past → next_time script past ≤ time_bound script
next-time-bounded script past legal =
    let time = time-by-shutters script past legal in
    let few = shutters_and_unexposed script past legal in
    let frames' = frames_bounded script past legal in
    omega (arith, time, few, frames')

pub times_bounded : (script : Script) (past : List Entry) → IsLegal script past → list_all (is_until (time_bound script)) past ≡ true
times_bounded script [] legal = refl
times_bounded script (Shutter n time ∷ past) legal =
    let is = shutter-is script past n time legal.0 in
    let early = next-time-bounded script past legal.1 in
    let early' : nat_le time (time_bound script) ≡ true = at-least time (next_time script past) (time_bound script) is.1 early in
    rw (early', times_bounded script past legal.1) refl
  where
    at-least : (a b c : ℕ) → a ≡ b → b ≤ c → nat_le a c ≡ true
    at-least a b c e l = grind (arith, nat_tests)
times_bounded script (e ∷ past) legal = times_bounded script past legal.1
