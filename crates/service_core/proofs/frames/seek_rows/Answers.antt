use Rattle.std.proofs.Common.{arith, ◌≡◌, ◌≤◌, ℕ, ◌+◌, Bool, List, [], ◌∷◌, ◌++◌, Some, Result, Ok, Err, ap, sym, ◌∙◌, drop, filter, length, map, slice_get}
use Rattle.cam_types.specs.Four.{four_list}
use Rattle.cam_types.specs.declared.row.RowView.{RowView}
use Rattle.cam_types.specs.declared.row.TargetView.{TargetView}
use Rattle.run_model.specs.declared.step.StepName.{StepName}
use Rattle.service_core.specs.Candidates.{is_ready_by, row_steps, target_steps}
use Rattle.service_core.specs.Finding.{Finds}
use Rattle.service_core.specs.Walks.{frame_step, steps_of_rows, target_step}
use Rattle.service_core.specs.declared.frames.OfRow.{OfRow}
use Rattle.service_core.specs.declared.frames.OfRow.TheVariants.{Frame, Targets}
use Rattle.service_core.proofs.Walking.{Continues, Turns, apart, ends, piece_at, rest_at, rest_none, turns}
use Rattle.service_core.proofs.frames.seek_rows.Goals as goal
use Rattle.service_core.proofs.frames.seek_rows.Goals.{in-Frame, in-Targets}

-- the steps of the kind for a row
abbrev steps_at : OfRow → RowView → List StepName
steps_at (Frame k) row = frame_step k row.frame ∷ []
steps_at (Targets k) row = map (λ (target : TargetView). target_step k row.frame target.stream) (four_list row.targets)

-- the steps from a row on are its own, and those of the rows behind it
at-row : (q : StepName → Bool) (kind : OfRow) (rows : List RowView) (n : ℕ) (row : RowView) → slice_get rows n ≡ Some row → filter q (steps_of_rows kind (drop n rows)) ≡ filter q (steps_at kind row) ++ filter q (steps_of_rows kind (drop (n + 1) rows))
at-row q (Frame k) rows n row at =
    ap (λ (rs : List RowView). filter q (row_steps (frame_step k) rs)) (rest_at rows n row at) ∙ apart q (frame_step k row.frame) (row_steps (frame_step k) (drop (n + 1) rows))
at-row q (Targets k) rows n row at =
    piece_at q (λ (r : RowView). map (λ (target : TargetView). target_step k r.frame target.stream) (four_list r.targets)) rows n row at

no-row : (q : StepName → Bool) (kind : OfRow) (rows : List RowView) (n : ℕ) → length rows ≤ n → filter q (steps_of_rows kind (drop n rows)) ≡ []
no-row q (Frame k) rows n past = ap (λ (rs : List RowView). filter q (row_steps (frame_step k) rs)) (rest_none rows n past)
no-row q (Targets k) rows n past = ap (λ (rs : List RowView). filter q (target_steps (target_step k) rs)) (rest_none rows n past)

turn : (q : StepName → Bool) (kind : OfRow) (rows : List RowView) (number n left : ℕ) (row : RowView) → Continues (filter q (steps_of_rows kind rows)) number (filter q (steps_of_rows kind (drop n rows))) left → slice_get rows n ≡ Some row → (r : Result StepName ℕ) → Finds (filter q (steps_at kind row)) left r → Turns (filter q (steps_of_rows kind rows)) number (filter q (steps_of_rows kind (drop (n + 1) rows))) r
turn q kind rows number n left row goes at r found =
    turns (filter q (steps_of_rows kind rows)) (filter q (steps_of_rows kind (drop n rows))) (filter q (steps_at kind row)) (filter q (steps_of_rows kind (drop (n + 1) rows))) number left goes (at-row q kind rows n row at) r found

-- what was sought for a row, by the kind's own name
by-kind : (q : StepName → Bool) (kind k : OfRow) (row : RowView) (left : ℕ) (r found : Result StepName ℕ) → kind ≡ k → r ≡ found → Finds (filter q (steps_at k row)) left found → Finds (filter q (steps_at kind row)) left r
by-kind q kind k row left r found is same finds = rw is (rw same finds)

pub returns-in-Ok : goal.returns-in-Ok
returns-in-Ok c =
    let s = c.args.state.now in
    let q = is_ready_by s.script s.parts in
    let row = c.row_at-row.result in
    let left = c.loop-place.left in
    let own = sym c.loop-place.invariant.0 in
    turn q c.args.kind s.parts.rows c.args.number c.loop-place.place left row c.loop-place.invariant.1 c.row_at-row.ensures.at (Ok c.in-Ok.step)
    (elim c.match-kind.branch [
      | in-Frame w ↦ by-kind q c.args.kind (Frame w.in-Frame.own) row left (Ok c.in-Ok.step) w.seek_frame-sought.result (own ∙ w.in-Frame.is) (sym c.in-Ok.is ∙ w.sought-is) w.seek_frame-sought.ensures
      | in-Targets w ↦ by-kind q c.args.kind (Targets w.in-Targets.each) row left (Ok c.in-Ok.step) w.seek_row-sought.result (own ∙ w.in-Targets.is) (sym c.in-Ok.is ∙ w.sought-is) w.seek_row-sought.ensures
    ])

pub loop-place-preserved : goal.loop-place-preserved
loop-place-preserved c =
    let s = c.args.state.now in
    let q = is_ready_by s.script s.parts in
    let row = c.row_at-row.result in
    let left = c.loop-place.left in
    let own = sym c.loop-place.invariant.0 in (
      elim c.match-kind.branch [
        | in-Frame w ↦ w.kind-is ∙ sym (own ∙ w.in-Frame.is)
        | in-Targets w ↦ w.kind-is ∙ sym (own ∙ w.in-Targets.is)
      ],
      turn q c.args.kind s.parts.rows c.args.number c.loop-place.place left row c.loop-place.invariant.1 c.row_at-row.ensures.at (Err c.in-Err.rest)
          (elim c.match-kind.branch [
            | in-Frame w ↦ by-kind q c.args.kind (Frame w.in-Frame.own) row left (Err c.in-Err.rest) w.seek_frame-sought.result (own ∙ w.in-Frame.is) (sym c.in-Err.is ∙ w.sought-is) w.seek_frame-sought.ensures
            | in-Targets w ↦ by-kind q c.args.kind (Targets w.in-Targets.each) row left (Err c.in-Err.rest) w.seek_row-sought.result (own ∙ w.in-Targets.is) (sym c.in-Err.is ∙ w.sought-is) w.seek_row-sought.ensures
          ]),
    )

pub returns : goal.returns
returns c =
    let s = c.args.state.now in
    let q = is_ready_by s.script s.parts in
    let rows = s.parts.rows in
    let past = c.loop-place-test.false in
    let count = c.open_frames-count.ensures in
    ends (filter q (steps_of_rows c.args.kind rows)) (filter q (steps_of_rows c.args.kind (drop c.loop-place.place rows))) c.args.number c.loop-place.left c.loop-place.invariant.1 (no-row q c.args.kind rows c.loop-place.place (omega (arith, past, count)))
