use Rattle.std.proofs.Common.{◌≡◌, Bool, true, false, ◌&&◌, ◌||◌, not, cond, Option, Some, None, is_some, IsTrue, IsSome, refl, arith, inl, inr}
use Rattle.basic_lemmas.proofs.Tests.{and-false}
use Rattle.std.proofs.lemmas.Bool.{cases_Bool}
use Rattle.cam_types.specs.declared.four.Four.{Four}
use Rattle.cam_types.specs.declared.row.RowFaults.{RowFaults}
use Rattle.cam_types.specs.declared.row.RowView.{RowView}
use Rattle.cam_types.specs.declared.row.TargetView.{TargetView}
use Rattle.cam_types.specs.declared.row.RowVerdict.{RowVerdict}
use Rattle.cam_types.specs.declared.row.RowVerdict.TheVariants.{Request, Parts, Nothing}
use Rattle.cam_types.specs.Rows.{awaits_metadata}
use Rattle.device_rows.specs.Due.{fails_in_part, fails_whole, has_fault, is_all_said, is_awaited, is_awaited_at, is_bare, is_cut_short, is_some_true, is_true_at, misses_at, misses_metadata, missing_buffers, verdict_of}

-- where a stop cuts the frame short, each buffer that the client waits for is missing
missed-at : (fault : Option Bool) (target : Option TargetView) → is_true_at (misses_at true fault target) ≡ is_awaited_at target
missed-at None None = refl
missed-at (Some f) None = refl
missed-at None (Some t) = elim (is_awaited t) as (λ w. (w && true) ≡ w) [ true ↦ refl | false ↦ refl ]
missed-at (Some f) (Some t) = elim (is_awaited t) as (λ w. (w && (f || true)) ≡ w) [ true ↦ (elim f as (λ v. (v || true) ≡ true) [ true ↦ refl | false ↦ refl ]) | false ↦ refl ]

-- with no fault and no cut no buffer is missing
kept-at : (fault : Option Bool) (target : Option TargetView) → is_true_at fault ≡ false → is_true_at (misses_at false fault target) ≡ false
kept-at None None h = refl
kept-at (Some f) None h = refl
kept-at None (Some t) h = elim (is_awaited t) as (λ w. (w && false) ≡ false) [ true ↦ refl | false ↦ refl ]
kept-at (Some f) (Some t) h = rw h (elim (is_awaited t) as (λ w. (w && false) ≡ false) [ true ↦ refl | false ↦ refl ])

-- nothing is due where nothing is missing
nothing-due : (whole part metadata buffers : Bool) (parts : RowVerdict) → whole ≡ false → metadata ≡ false → buffers ≡ false → cond whole Request (cond (part && (metadata || buffers)) parts Nothing) ≡ Nothing
nothing-due whole part metadata buffers parts w m b = rw (w, m, b, and-false part) refl

-- and the other way round
due-none : (whole part missing : Bool) (m : Bool) (bs : Four Bool) → cond whole Request (cond (part && missing) (Parts m bs) Nothing) ≡ Nothing → (whole ≡ false) × ((part && missing) ≡ false)
due-none true part missing m bs h = absurd (cc)
due-none false true true m bs h = absurd (cc)
due-none false true false m bs h = (refl, refl)
due-none false false missing m bs h = (refl, refl)

no_cause-three : (a b c : Bool) → (a || (b || c)) ≡ false → (a ≡ false) × (b ≡ false) × (c ≡ false)
no_cause-three true b c h = absurd (cc)
no_cause-three false true c h = absurd (cc)
no_cause-three false false c h = (refl, refl, h)

no_cause-four : (a b c d : Bool) → (a || (b || (c || d))) ≡ false → (a ≡ false) × (b ≡ false) × (c ≡ false) × (d ≡ false)
no_cause-four true b c d h = absurd (cc)
no_cause-four false b c d h = let r = no_cause-three b c d h in (refl, r.0, r.1, r.2)

kept-all : (row : RowView) (faults : RowFaults) → is_cut_short row ≡ false → is_some_true faults.buffers ≡ false → is_some_true (missing_buffers row faults) ≡ false
kept-all row faults cut none =
    let fs = no_cause-four (is_true_at faults.buffers.a) (is_true_at faults.buffers.b) (is_true_at faults.buffers.c) (is_true_at faults.buffers.d) none in
    let a = kept-at faults.buffers.a row.targets.a fs.0 in
    let b = kept-at faults.buffers.b row.targets.b fs.1 in
    let c = kept-at faults.buffers.c row.targets.c fs.2 in
    let d = kept-at faults.buffers.d row.targets.d fs.3 in
    rw (cut, a, b, c, d) refl

pub no_cause : (row : RowView) (faults : RowFaults) → row.stopped ≡ false → has_fault faults ≡ false → verdict_of row faults ≡ Nothing
no_cause row faults going faultless =
    let fs = no_cause-three faults.request faults.result (is_some_true faults.buffers) faultless in
    let cut : is_cut_short row ≡ false = rw going refl in
    let whole : fails_whole row faults ≡ false = rw (going, fs.0) (and-false (is_bare row)) in
    let metadata : misses_metadata row faults ≡ false = rw (fs.1, cut) (and-false (awaits_metadata row)) in
    nothing-due (fails_whole row faults) (fails_in_part row faults) (misses_metadata row faults) (is_some_true (missing_buffers row faults)) (Parts (misses_metadata row faults) (missing_buffers row faults)) whole metadata (kept-all row faults cut fs.2)

-- what a frame cut short misses
pub missed-all : (row : RowView) (faults : RowFaults) → is_cut_short row ≡ true → is_some_true (missing_buffers row faults) ≡ (is_awaited_at row.targets.a || (is_awaited_at row.targets.b || (is_awaited_at row.targets.c || is_awaited_at row.targets.d)))
missed-all row faults cut =
    let a = missed-at faults.buffers.a row.targets.a in
    let b = missed-at faults.buffers.b row.targets.b in
    let c = missed-at faults.buffers.c row.targets.c in
    let d = missed-at faults.buffers.d row.targets.d in
    rw (cut, a, b, c, d) refl

all_said-cases : (failed exposed fault waits fault_result awaited : Bool) → exposed ≡ true → ((exposed && not failed) && (not fault || true)) && ((waits && (fault_result || true)) || awaited) ≡ false → IsTrue (failed || (not waits && not awaited))
all_said-cases failed exposed fault waits fault_result awaited e h = grind arith

all_said-cut : (row : RowView) (faults : RowFaults) → row.stopped ≡ true → is_some row.shutter ≡ true → is_cut_short row ≡ true → (fails_in_part row faults && (misses_metadata row faults || is_some_true (missing_buffers row faults))) ≡ false → IsTrue (is_all_said row)
all_said-cut row faults stopped shutter cut none =
    let missed = missed-all row faults cut in
    let none' = rw (missed, cut, stopped) at none in
    all_said-cases row.request_error (is_some row.shutter) faults.request (awaits_metadata row) faults.result (is_awaited_at row.targets.a || (is_awaited_at row.targets.b || (is_awaited_at row.targets.c || is_awaited_at row.targets.d))) shutter none'

pub all_said : (row : RowView) (faults : RowFaults) → row.stopped ≡ true → IsSome row.shutter → verdict_of row faults ≡ Nothing → IsTrue (is_all_said row)
all_said row faults stopped shutter none =
    let parts = due-none (fails_whole row faults) (fails_in_part row faults) (misses_metadata row faults || is_some_true (missing_buffers row faults)) (misses_metadata row faults) (missing_buffers row faults) none in
    elim (cases_Bool (is_bare row)) [
      | inl bare ↦ (let whole : fails_whole row faults ≡ true = rw (bare, stopped) refl in let not_whole = parts.0 in absurd (cc))
      | inr rest ↦ (let cut : is_cut_short row ≡ true = rw (stopped, rest) refl in all_said-cut row faults stopped shutter cut parts.1)
    ]
