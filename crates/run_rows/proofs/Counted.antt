-- How many rows there are, their order, and what each of them meets.
use Rattle.std.proofs.Common.{◌≡◌, ◌≤◌, ◌<◌, ℕ, zero, suc, ◌==◌, ◌+◌, Bool, true, ◌&&◌, not, List, [], ◌∷◌, ◌++◌, Option, Some, None, refl, sym, ap, ◌∙◌, arith, inl, inr, filter, is_none, is_some, length, map, nat_le, nat_lt, reverse, slice_get}
use Rattle.std.specs.List.{list_all, list_any}
use Rattle.std.proofs.lemmas.Bool.{and_from, and_parts, cases_Bool, eqb-true, false≢true, lt-ltb}
use Rattle.std.proofs.lemmas.Bool.Decides.{nat_tests}
use Rattle.std.proofs.lemmas.List.{length-append, reverse-append}
use Rattle.std.proofs.lemmas.List.Elements.{filter-append}
use Rattle.std.proofs.lemmas.List.Folds.{list_all-append}
use Rattle.run_rows.proofs.General.{all-reverse}
use Rattle.cam_types.specs.declared.four.Four.{Four}
use Rattle.cam_types.specs.declared.number.FrameNo.{FrameNo}
use Rattle.cam_types.specs.declared.number.RequestId.{RequestId}
use Rattle.cam_types.specs.declared.row.RowView.{RowView}
use Rattle.cam_types.specs.declared.row.TargetView.{TargetView}
use Rattle.cam_types.specs.declared.script.Script.{Script}
use Rattle.trace_model.specs.declared.entry.Entry.{Entry}
use Rattle.trace_model.specs.declared.entry.Entry.TheVariants.{Send}
use Rattle.trace_model.specs.declared.entry.Sent.{Sent}
use Rattle.trace_model.specs.Configuration.{streams}
use Rattle.trace_model.specs.Frames.{frames, targets_of}
use Rattle.trace_model.specs.Legal.{IsLegal}
use Rattle.trace_model.specs.Open.{is_open, is_quiet, open_count}
use Rattle.run_model.specs.declared.step.Move.{Move}
use Rattle.run_model.specs.History.{trace_of, with_entry}
use Rattle.run_model.specs.Rows.{row_of, rows, target_view}
use Rattle.run_model.specs.Run.{IsRun}
use Rattle.device_rows.specs.Kept.{rise_from}
use Rattle.basic_lemmas.proofs.Lists.{all-where}
use Rattle.run_model.proofs.Entries.{open-sent}
use Rattle.run_model.proofs.Legal.{runs_legally}
use Rattle.state_facts.proofs.Targets.{has_some, sent-targets}
use Rattle.state_facts.specs.FrameReadings.{rise}
use Rattle.state_facts.proofs.OpenRows.{count_reads}
use Rattle.state_facts.proofs.Orderly.{rows_few, sent_fine, streams_of}
use Rattle.trace_laws.proofs.Sends.{sent-below}
use Rattle.trace_laws.proofs.Frames.{falls, frames-fall}
use Rattle.run_rows.specs.Kept.{are_below, frames_rise, has_few_parts, has_some_target, has_streams, is_in_range, is_no_row}
use Rattle.run_rows.proofs.Fours.{row-targets}
use Rattle.run_rows.proofs.Ranges.{sent-range}
use Rattle.run_rows.proofs.Streams.{is_offered, open-offered}
use Rattle.state_facts.proofs.Fits.{parts-few}
use Rattle.trace_laws.proofs.BufferSends.{send-number}

-- ---- each row is of an open frame

pub each-row : (script : Script) (h : List Move) (q : RowView → Bool) → ((n : ℕ) → is_open n (trace_of h) ≡ true → q (row_of script h n) ≡ true) → list_all q (rows script h) ≡ true
each-row script h q each = by (reverse (frames (trace_of h)))
  where
    by : (xs : List ℕ) → list_all q (map (row_of script h) (filter (λ n. is_open n (trace_of h)) xs)) ≡ true
    by [] = refl
    by (x ∷ xs) = elim (cases_Bool (is_open x (trace_of h))) [ inl yes' ↦ rw (yes', each x yes') (by xs) | inr no' ↦ rw no' (by xs) ]

-- ---- how many

length-rows : (script : Script) (h : List Move) (xs : List ℕ) → length (map (row_of script h) (filter (λ n. is_open n (trace_of h)) xs)) ≡ length (filter (λ n. is_open n (trace_of h)) xs)
length-rows script h [] = refl
length-rows script h (x ∷ xs) = elim (cases_Bool (is_open x (trace_of h))) [ inl yes' ↦ rw yes' (ap (λ (n : ℕ). suc n) (length-rows script h xs)) | inr no' ↦ rw no' (length-rows script h xs) ]

pub count_is : (script : Script) (h : List Move) → open_count (trace_of h) ≡ length (rows script h)
count_is script h =
    let past = trace_of h in
    let one = kept-length (λ n. is_open n past) (frames past) in
    let two = length-rows script h (reverse (frames past)) in
    sym (two ∙ one)
  where
    kept-length : (p : ℕ → Bool) (xs : List ℕ) → length (filter p (reverse xs)) ≡ length (filter p xs)
    kept-length p [] = refl
    kept-length p (x ∷ xs) =
        ap (λ (ys : List ℕ). length (filter p ys)) (reverse-append (x ∷ []) xs)
        ∙ (ap (λ (ys : List ℕ). length ys) (filter-append p (reverse xs) (x ∷ []))
        ∙ (length-append (filter p (reverse xs)) (filter p (x ∷ []))
        ∙ (ap (λ n. n + length (filter p (x ∷ []))) (kept-length p xs)
        ∙ elim (cases_Bool (p x)) [ inl yes' ↦ rw yes' (plus-one (length (filter p xs))) | inr no' ↦ rw no' (plus-none (length (filter p xs))) ])))
      where
        plus-one : (n : ℕ) → n + 1 ≡ suc n
        plus-one n = omega arith

        plus-none : (n : ℕ) → n + 0 ≡ n
        plus-none n = omega arith

pub quiet_is : (script : Script) (h : List Move) → is_quiet (trace_of h) ≡ is_no_row (rows script h)
quiet_is script h = sym (all-reverse (λ n. not (is_open n (trace_of h))) (frames (trace_of h))) ∙ by (reverse (frames (trace_of h)))
  where
    by : (xs : List ℕ) → list_all (λ n. not (is_open n (trace_of h))) xs ≡ is_no_row (map (row_of script h) (filter (λ n. is_open n (trace_of h)) xs))
    by [] = refl
    by (x ∷ xs) = elim (cases_Bool (is_open x (trace_of h))) [ inl yes' ↦ rw yes' refl | inr no' ↦ rw no' (by xs) ]

pub few : (script : Script) (h : List Move) → IsRun script h → length (rows script h) ≤ script.profile.depth
few script h run =
    let legal = runs_legally script h run in
    let one = rows_few script (trace_of h) legal in
    let two = count_reads script (trace_of h) legal in
    let three = count_is script h in
    omega (arith, one, two, three)

-- ---- their order

abbrev pub rises : List ℕ → Bool
rises [] = true
rises (x ∷ xs) = list_all (λ m. nat_lt x m) xs && rises xs

rises-with : (xs : List ℕ) (x : ℕ) → rises xs ≡ true → list_all (λ m. nat_lt m x) xs ≡ true → rises (xs ++ x ∷ []) ≡ true
rises-with [] x rise below = refl
rises-with (y ∷ xs) x rise below =
    let a = and_parts (list_all (λ m. nat_lt y m) xs) (rises xs) rise in
    let b = and_parts (nat_lt y x) (list_all (λ m. nat_lt m x) xs) below in
    let first : list_all (λ m. nat_lt y m) (xs ++ x ∷ []) ≡ true = list_all-append (λ m. nat_lt y m) xs (x ∷ []) ∙ rw (a.0, b.0) refl in
    and_from (list_all (λ m. nat_lt y m) (xs ++ x ∷ [])) (rises (xs ++ x ∷ [])) first (rises-with xs x a.1 b.1)

turned-rises : (xs : List ℕ) → falls xs ≡ true → rises (reverse xs) ≡ true
turned-rises [] fall = refl
turned-rises (x ∷ xs) fall =
    let parts = and_parts (list_all (λ m. nat_lt m x) xs) (falls xs) fall in
    ap rises (reverse-append (x ∷ []) xs) ∙ rises-with (reverse xs) x (turned-rises xs parts.1) (all-reverse (λ m. nat_lt m x) xs ∙ parts.0)

rising-rows : (script : Script) (h : List Move) (xs : List ℕ) → rises xs ≡ true → frames_rise (map (row_of script h) (filter (λ n. is_open n (trace_of h)) xs)) ≡ true
rising-rows script h [] rise = refl
rising-rows script h (x ∷ xs) rise =
    let parts = and_parts (list_all (λ m. nat_lt x m) xs) (rises xs) rise in
    elim (cases_Bool (is_open x (trace_of h))) [
      | inl yes' ↦ rw yes' (and_from (list_all (λ (other : RowView). nat_lt x other.frame.0) (map (row_of script h) (filter (λ n. is_open n (trace_of h)) xs))) (frames_rise (map (row_of script h) (filter (λ n. is_open n (trace_of h)) xs))) (above xs parts.0) (rising-rows script h xs parts.1))
      | inr no' ↦ rw no' (rising-rows script h xs parts.1)
    ]
  where
    above : (ys : List ℕ) → list_all (λ m. nat_lt x m) ys ≡ true → list_all (λ (other : RowView). nat_lt x other.frame.0) (map (row_of script h) (filter (λ n. is_open n (trace_of h)) ys)) ≡ true
    above [] all = refl
    above (y ∷ ys) all =
        let parts = and_parts (nat_lt x y) (list_all (λ m. nat_lt x m) ys) all in
        elim (cases_Bool (is_open y (trace_of h))) [ inl yes' ↦ rw (yes', parts.0) (above ys parts.1) | inr no' ↦ rw no' (above ys parts.1) ]

pub frames_rise_is : (script : Script) (h : List Move) → IsRun script h → frames_rise (rows script h) ≡ true
frames_rise_is script h run = rising-rows script h (reverse (frames (trace_of h))) (turned-rises (frames (trace_of h)) (frames-fall script (trace_of h) (runs_legally script h run)))

-- a frame that is sent is above all
abbrev pub SendsAbove : Script → List Move → Option Entry → Type 0
SendsAbove script h (Some (Send n _ _ _ _)) = are_below n.0 (rows script h) ≡ true
SendsAbove script h _ = Unit {0}

sends-by : (script : Script) (h : List Move) (o : Option Entry) → IsLegal script (with_entry o (trace_of h)) → SendsAbove script h o
sends-by script h (Some (Send n r i same targets)) legal =
    let number = send-number script (trace_of h) n.0 r.0 i same targets legal.0 in
    each-row script h (λ row. nat_lt row.frame.0 n.0) (λ x open_. let below = sent-below script (trace_of h) x legal.1 (open-sent x (trace_of h) open_) in lt-ltb x n.0 (omega (arith, number, below)))
sends-by script h (Some _) legal = tt
sends-by script h None legal = tt

pub sends_above : (script : Script) (m : Move) (h : List Move) (n : FrameNo) (r : RequestId) (i : ℕ) (same : Bool) (targets : Four Sent) → IsRun script (m ∷ h) → m.entry ≡ Some (Send n r i same targets) → are_below n.0 (rows script h) ≡ true
sends_above script m h n r i same targets run at =
    let all = sends-by script h m.entry (runs_legally script (m ∷ h) run) in
    rw at at all

-- ---- each row

some-target : (f : Sent → TargetView) (ts : List Sent) → has_some ts ≡ true → list_any (λ (v : TargetView). true) (map f ts) ≡ true
some-target f [] some = absurd (false≢true some)
some-target f (t ∷ ts) some = refl

pub targets_is : (script : Script) (h : List Move) → IsRun script h → list_all has_some_target (rows script h) ≡ true
targets_is script h run =
    let past = trace_of h in
    each-row script h has_some_target (λ n open_. ap (λ (vs : List TargetView). list_any (λ v. true) vs) (row-targets script h n) ∙ some-target (target_view h n) (targets_of n past) (sent-targets script past n (runs_legally script h run) (open-sent n past open_)))

-- a place that stands is within
within : {X : Type 0} (xs : List X) (i : ℕ) → is_some (slice_get xs i) ≡ true → i < length xs
within [] i h = absurd (false≢true h)
within (x ∷ xs) zero h = omega arith
within (x ∷ xs) (suc i) h = let ih = within xs i h in omega (arith, ih)

rise-from : (f : Sent → TargetView) (low count : ℕ) (ts : List Sent) → ((t : Sent) → (f t).stream.0 ≡ t.stream.0) → list_all (λ t. nat_le low t.stream.0) ts ≡ true → rise (streams_of ts) ≡ true → list_all (λ t. nat_lt t.stream.0 count) ts ≡ true → rise_from low count (map f ts) ≡ true
rise-from f low count [] own above up all = refl
rise-from f low count (t ∷ ts) own above up all =
    let a = and_parts (nat_le low t.stream.0) (list_all (λ u. nat_le low u.stream.0) ts) above in
    let b = and_parts (list_all (λ u. nat_lt t.stream.0 u) (streams_of ts)) (rise (streams_of ts)) up in
    let c = and_parts (nat_lt t.stream.0 count) (list_all (λ u. nat_lt u.stream.0 count) ts) all in
    rw (own t, a.0, c.0) (rise-from f (t.stream.0 + 1) count ts own (later ts b.0) b.1 c.1)
  where
    later : (us : List Sent) → list_all (λ u. nat_lt t.stream.0 u) (streams_of us) ≡ true → list_all (λ u. nat_le (t.stream.0 + 1) u.stream.0) us ≡ true
    later [] h = refl
    later (u ∷ us) h =
        let parts = and_parts (nat_lt t.stream.0 u.stream.0) (list_all (λ v. nat_lt t.stream.0 v) (streams_of us)) h in
        and_from (nat_le (t.stream.0 + 1) u.stream.0) (list_all (λ v. nat_le (t.stream.0 + 1) v.stream.0) us) (let less = parts.0 in grind (arith, nat_tests, less)) (later us parts.1)

pub streams_is : (script : Script) (h : List Move) → IsRun script h → list_all (has_streams (length (streams script (trace_of h)))) (rows script h) ≡ true
streams_is script h run =
    let past = trace_of h in
    let legal = runs_legally script h run in
    let count = length (streams script past) in
    each-row script h (has_streams count)
    (λ n open_.
    let fine = and_parts (rise (streams_of (targets_of n past))) (list_all (λ s. nat_lt s 4) (streams_of (targets_of n past))) (sent_fine script past n legal (open-sent n past open_)) in
    ap (λ (vs : List TargetView). rise_from 0 count vs) (row-targets script h n)
    ∙ rise-from (target_view h n) 0 count (targets_of n past) (λ t. refl) (all-from (targets_of n past)) fine.0
    (all-where (is_offered script past) (λ t. nat_lt t.stream.0 count) (targets_of n past) (λ t some. lt-ltb t.stream.0 count (within (streams script past) t.stream.0 some)) (open-offered script past n legal open_)))
  where
    all-from : (ts : List Sent) → list_all (λ t. nat_le 0 t.stream.0) ts ≡ true
    all-from [] = refl
    all-from (t ∷ ts) = and_from (nat_le 0 t.stream.0) (list_all (λ u. nat_le 0 u.stream.0) ts) (grind (arith, nat_tests)) (all-from ts)

pub range_is : (script : Script) (h : List Move) → IsRun script h → list_all is_in_range (rows script h) ≡ true
range_is script h run =
    let past = trace_of h in
    each-row script h is_in_range (λ n open_. ap (λ (o : Option ℕ). is_none o) (sent-range script past n (runs_legally script h run) (open-sent n past open_)))

pub parts_is : (script : Script) (h : List Move) → IsRun script h → list_all has_few_parts (rows script h) ≡ true
parts_is script h run =
    let past = trace_of h in
    each-row script h has_few_parts (λ n open_. let short = parts-few script past n (runs_legally script h run) in grind (arith, nat_tests, short))
