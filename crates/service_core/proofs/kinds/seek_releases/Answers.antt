use Rattle.std.proofs.Common.{arith, ◌≡◌, ◌<◌, ℕ, ◌+◌, ◌-◌, Bool, List, [], ◌∷◌, Result, Ok, Err, ap, ◌∙◌, filter, length, map, slice_get, sym}
use Rattle.std.specs.List.{range_with_len}
use Rattle.run_model.specs.declared.step.StepName.{StepName}
use Rattle.run_model.specs.declared.step.StepName.TheVariants.{Release}
use Rattle.service_core.specs.Candidates.{is_ready_by}
use Rattle.service_core.specs.Finding.{Finds}
use Rattle.service_state.proofs.Calls.{buffers_have_room}
use Rattle.service_core.proofs.Walking.{Continues, Turns, apart, ends, row_none, row_rest, turns}
use Rattle.service_core.proofs.kinds.seek_releases.Goals as goal

-- the releases of these buffers that are ready
abbrev ready : (StepName → Bool) → List ℕ → List StepName
ready q bs = filter q (map (λ b. Release (record { 0 = b })) bs)

turn : (q : StepName → Bool) (a m number n left : ℕ) → Continues (ready q (range_with_len a m)) number (ready q (range_with_len (a + n) (m - n))) left → n < m → (r : Result StepName ℕ) → Finds (filter q (Release (record { 0 = a + n }) ∷ [])) left r → Turns (ready q (range_with_len a m)) number (ready q (range_with_len (a + (n + 1)) (m - (n + 1)))) r
turn q a m number n left goes less r found =
    let rest = range_with_len (a + (n + 1)) (m - (n + 1)) in
    let step = λ (b : ℕ). Release (record { 0 = b }) in
    turns (ready q (range_with_len a m)) (ready q (range_with_len (a + n) (m - n))) (ready q ((a + n) ∷ [])) (ready q rest) number left goes (ap (ready q) (row_rest a m n less) ∙ apart q (step (a + n)) (map step rest)) r found

-- the buffers that are asked for are those of the configuration
asked : (a m first : ℕ) (places : ℕ) → a ≡ first → m ≡ places → range_with_len a m ≡ range_with_len first places
asked a m first places b n = ap (λ (k : ℕ). range_with_len k m) b ∙ ap (λ (k : ℕ). range_with_len first k) n

pub returns-in-Ok : goal.returns-in-Ok
returns-in-Ok c =
    let s = c.args.state.now in
    let q = is_ready_by s.script s.parts in
    let all = asked _ _ s.parts.buffers.first (length s.parts.buffers.places) c.first_buffer-first.ensures c.buffer_count-count.ensures in
    sym (ap (λ (bs : List ℕ). slice_get (ready q bs) c.args.number) all) ∙ turn q c.first_buffer-first.result c.buffer_count-count.result c.args.number c.loop-place.place c.loop-place.left c.loop-place.invariant c.loop-place-test.true (Ok c.in-Ok.step) c.in-Ok.ensures

pub loop-place-preserved : goal.loop-place-preserved
loop-place-preserved c = turn (is_ready_by c.args.state.now.script c.args.state.now.parts) c.first_buffer-first.result c.buffer_count-count.result c.args.number c.loop-place.place c.loop-place.left c.loop-place.invariant c.loop-place-test.true (Err c.in-Err.rest) c.in-Err.ensures

pub returns : goal.returns
returns c =
    let s = c.args.state.now in
    let q = is_ready_by s.script s.parts in
    let a = c.first_buffer-first.result in
    let m = c.buffer_count-count.result in
    let n = c.loop-place.place in
    let all = asked a m s.parts.buffers.first (length s.parts.buffers.places) c.first_buffer-first.ensures c.buffer_count-count.ensures in
    ends (ready q (range_with_len a m)) (ready q (range_with_len (a + n) (m - n))) c.args.number c.loop-place.left c.loop-place.invariant (ap (ready q) (row_none a m n c.loop-place-test.false)) ∙ ap (λ (bs : List ℕ). c.loop-place.left + length (ready q bs)) all

pub overflow_add-first : goal.overflow_add-first
overflow_add-first c =
    let room = buffers_have_room c.args.state.now c.requires in
    let first = c.first_buffer-first.ensures in
    let count = c.buffer_count-count.ensures in
    let more = c.loop-place-test.true in
    omega (arith, room, first, count, more)
