-- What the verdict on a row names: the buffers that are missing, by their targets, and the first of them.
use Rattle.std.proofs.Common.{◌≡◌, ℕ, ◌==◌, Bool, true, false, ◌&&◌, ◌||◌, not, List, [], ◌∷◌, ◌++◌, Option, Some, None, refl, ap, ◌∙◌, arith, inl, inr, filter, find, is_some, map, nat_lt, option_to_list, if◌then◌else◌}
use Rattle.std.specs.List.{list_all, list_any}
use Rattle.std.specs.Option.{option_map}
use Rattle.std.proofs.lemmas.Bool.{and_parts, cases_Bool, ltb-true}
use Rattle.std.proofs.lemmas.Bool.Decides.{nat_tests}
use Rattle.run_rows.proofs.General.{kept-append}
use Rattle.cam_types.specs.Four.{four_list}
use Rattle.cam_types.specs.Rows.{is_returned as is_back}
use Rattle.cam_types.specs.declared.four.Four.{Four}
use Rattle.cam_types.specs.declared.number.FrameNo.{FrameNo}
use Rattle.cam_types.specs.declared.row.RowVerdict.TheVariants.{Request, Parts, Nothing}
use Rattle.cam_types.specs.declared.row.RowView.{RowView}
use Rattle.cam_types.specs.declared.row.TargetView.{TargetView}
use Rattle.cam_types.specs.declared.script.Fault.{Fault}
use Rattle.trace_model.specs.declared.entry.Entry.{Entry}
use Rattle.trace_model.specs.declared.entry.Entry.TheVariants.{ErrorRequest, ErrorResult, ErrorBuffer}
use Rattle.run_model.specs.Ready.{or_entry}
use Rattle.device_rows.specs.Next.{least, lesser, missing_at, missing_streams, next_due}
use Rattle.device_rows.specs.Due.{fails_in_part, is_awaited, is_bare, is_cut_short, is_some_true, is_true_at, is_untouched, misses_at, missing_buffers}
use Rattle.device_rows.specs.Faults.{fault_at, fault_of_buffer, faults_of}
use Rattle.run_rows.specs.Entries.{error_entry}
use Rattle.run_rows.proofs.Fours.{all-four, any-four, each_of, some_of}
use Rattle.basic_lemmas.proofs.Lists.{any-found, all-found}

-- ---- nothing came

untouched : (o : Option TargetView) → is_untouched o ≡ each_of is_awaited o
untouched None = refl
untouched (Some t) = refl

all-bare : (ts : List TargetView) → list_all is_awaited ts ≡ (not (list_any (λ t. is_back t.state) ts) && not (list_any (λ t. t.announced) ts))
all-bare [] = refl
all-bare (t ∷ ts) = rw (all-bare ts) (by t.announced (is_back t.state) (list_any (λ u. u.announced) ts) (list_any (λ u. is_back u.state) ts))
  where
    by : (a r x y : Bool) → ((not a && not r) && (not y && not x)) ≡ (not (r || y) && not (a || x))
    by true true x y = refl
    by true false x true = refl
    by true false x false = refl
    by false true x y = refl
    by false false x y = refl

-- something of the row's frame came
abbrev pub came : RowView → Bool
came row =
    nat_lt 0 row.parts || (list_any (λ t. is_back t.state) (four_list row.targets) || (row.request_error || (row.result_error || list_any (λ t. t.announced) (four_list row.targets))))

pub bare-row : (row : RowView) → is_bare row ≡ not (came row)
bare-row row =
    rw (untouched row.targets.a, untouched row.targets.b, untouched row.targets.c, untouched row.targets.d, ← all-four is_awaited row.targets, all-bare (four_list row.targets))
    (by row.parts row.request_error row.result_error (list_any (λ t. is_back t.state) (four_list row.targets)) (list_any (λ t. t.announced) (four_list row.targets)))
  where
    by : (k : ℕ) (q e r a : Bool) → (((k == 0) && (not q && not e)) && (not r && not a)) ≡ not (nat_lt 0 k || (r || (q || (e || a))))
    by k q e r a = grind (arith, nat_tests)

-- ---- the first buffer that is missing

-- the target's buffer is missing, by the verdict
abbrev pub missing : List Fault → RowView → TargetView → Bool
missing faults row t = is_awaited t && (fault_of_buffer faults row.frame.0 t.stream.0 || is_cut_short row)

streams-one : (faults : List Fault) (row : RowView) (o : Option TargetView) → option_to_list (missing_at (misses_at (is_cut_short row) (fault_at faults row.frame.0 o) o) o) ≡ map (λ t. t.stream.0) (filter (missing faults row) (option_to_list o))
streams-one faults row None = refl
streams-one faults row (Some t) = elim (cases_Bool (missing faults row t)) [ inl here ↦ rw here refl | inr other ↦ rw other refl ]

missing-listed : (faults : List Fault) (row : RowView) → missing_streams (missing_buffers row (faults_of faults row)) row.targets ≡ map (λ t. t.stream.0) (filter (missing faults row) (four_list row.targets))
missing-listed faults row =
    let p = missing faults row in
    let f : TargetView → ℕ = λ t. t.stream.0 in
    let a = option_to_list row.targets.a in
    let b = option_to_list row.targets.b in
    let c = option_to_list row.targets.c in
    let d = option_to_list row.targets.d in
    rw (
      streams-one faults row row.targets.a,
      streams-one faults row row.targets.b,
      streams-one faults row row.targets.c,
      streams-one faults row row.targets.d,
      kept-append f p a (b ++ (c ++ d)),
      kept-append f p b (c ++ d),
      kept-append f p c d,
    ) refl

-- the streams of the targets rise
abbrev pub are_rising : List TargetView → Bool
are_rising [] = true
are_rising (t ∷ ts) = list_all (λ u. nat_lt t.stream.0 u.stream.0) ts && are_rising ts

lesser-is : (s : ℕ) (o : Option TargetView) → ((u : TargetView) → o ≡ Some u → nat_lt s u.stream.0 ≡ true) → lesser s (option_map (λ t. t.stream.0) o) ≡ s
lesser-is s None low = refl
lesser-is s (Some u) low = let less = ltb-true s u.stream.0 (low u refl) in omega (arith, less)

least-first : (p : TargetView → Bool) (ts : List TargetView) → are_rising ts ≡ true → least (map (λ t. t.stream.0) (filter p ts)) ≡ option_map (λ t. t.stream.0) (find p ts)
least-first p [] rising = refl
least-first p (t ∷ ts) rising =
    let parts = and_parts (list_all (λ u. nat_lt t.stream.0 u.stream.0) ts) (are_rising ts) rising in
    let ih = least-first p ts parts.1 in
    elim (cases_Bool (p t)) [
      | inl here ↦ rw (here, ih, lesser-is t.stream.0 (find p ts) (λ u at. all-found (λ w. nat_lt t.stream.0 w.stream.0) p ts u parts.0 at)) refl
      | inr other ↦ rw other ih
    ]

true-one : (faults : List Fault) (row : RowView) (o : Option TargetView) → is_true_at (misses_at (is_cut_short row) (fault_at faults row.frame.0 o) o) ≡ some_of (missing faults row) o
true-one faults row None = refl
true-one faults row (Some t) = refl

some-missing : (faults : List Fault) (row : RowView) → is_some_true (missing_buffers row (faults_of faults row)) ≡ is_some (find (missing faults row) (four_list row.targets))
some-missing faults row =
    rw (true-one faults row row.targets.a, true-one faults row row.targets.b, true-one faults row row.targets.c, true-one faults row row.targets.d, ← any-four (missing faults row) row.targets, any-found (missing faults row) (four_list row.targets)) refl

-- ---- all that it names

-- the error of the first buffer
abbrev pub first_lost : FrameNo → Option TargetView → Option Entry
first_lost n o = option_map (λ t. ErrorBuffer n t.stream) o

named-by : (row : RowView) (whole part metadata may : Bool) (lost : Four Bool) (o : Option TargetView) → is_some_true lost ≡ is_some o → least (missing_streams lost row.targets) ≡ option_map (λ t. t.stream.0) o → option_map error_entry (next_due row (if whole then Request else (if part && (metadata || is_some_true lost) then Parts metadata lost else Nothing)) may) ≡ or_entry (if whole then Some (ErrorRequest row.frame) else None) (or_entry (if part && (metadata && may) then Some (ErrorResult row.frame) else None) (first_lost row.frame (if part then o else None)))
named-by row true part metadata may lost o some first = refl
named-by row false false metadata may lost o some first = refl
named-by row false true true true lost o some first = refl
named-by row false true true false lost None some first = rw first refl
named-by row false true true false lost (Some t) some first = rw first refl
named-by row false true false may lost None some first = rw some refl
named-by row false true false may lost (Some t) some first = rw (some, first) refl

-- the error that the verdict names first
pub verdict-names : (faults : List Fault) (row : RowView) (whole metadata may : Bool) → are_rising (four_list row.targets) ≡ true → option_map error_entry (next_due row (if whole then Request else (if fails_in_part row (faults_of faults row) && (metadata || is_some_true (missing_buffers row (faults_of faults row))) then Parts metadata (missing_buffers row (faults_of faults row)) else Nothing)) may) ≡ or_entry (if whole then Some (ErrorRequest row.frame) else None) (or_entry (if fails_in_part row (faults_of faults row) && (metadata && may) then Some (ErrorResult row.frame) else None) (first_lost row.frame (if fails_in_part row (faults_of faults row) then find (missing faults row) (four_list row.targets) else None)))
verdict-names faults row whole metadata may rising =
    named-by row whole (fails_in_part row (faults_of faults row)) metadata may (missing_buffers row (faults_of faults row)) (find (missing faults row) (four_list row.targets)) (some-missing faults row)
    (ap least (missing-listed faults row) ∙ least-first (missing faults row) (four_list row.targets) rising)
