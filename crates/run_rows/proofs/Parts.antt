-- The next part of a frame is read from the rows.
use Rattle.std.proofs.Common.{◌≡◌, ℕ, ◌==◌, ◌+◌, Bool, true, false, ◌&&◌, ◌||◌, not, List, Option, Some, None, refl, sym, ap, ◌∙◌, arith, nat_le, nat_lt}
use Rattle.std.specs.Option.{option_map}
use Rattle.std.proofs.lemmas.Bool.Decides.{nat_tests}
use Rattle.run_rows.proofs.General.{map-if, if-same}
use Rattle.cam_types.specs.Metadata.{part_at}
use Rattle.cam_types.specs.Rows.{awaits_metadata}
use Rattle.cam_types.specs.declared.script.Script.{Script}
use Rattle.trace_model.specs.Faults.{request_fault, result_fault}
use Rattle.trace_model.specs.Frames.{each_earlier, has_error_request, shutter_time}
use Rattle.trace_model.specs.Legal.{IsLegal}
use Rattle.trace_model.specs.Open.{has_error_result, is_metadata_ended}
use Rattle.trace_model.specs.Partial.{may_have_partial, partial_count, partial_of, partial_due}
use Rattle.run_model.specs.declared.step.Move.{Move}
use Rattle.run_model.specs.History.{trace_of}
use Rattle.run_model.specs.Rows.{row_of, rows}
use Rattle.run_model.specs.Run.{IsRun}
use Rattle.device_rows.specs.Ready.{may_end_metadata, may_send_part, next_part, part_with}
use Rattle.device_rows.specs.Ready as ready
use Rattle.run_model.proofs.Legal.{runs_legally}
use Rattle.trace_laws.proofs.Parts.{is_within, part-within}
use Rattle.trace_laws.proofs.Done.{closed-is}
use Rattle.run_rows.proofs.Closed.{part-closed}
use Rattle.run_rows.specs.Entries.{part_entry}
use Rattle.run_rows.proofs.Frames.{by-row, earlier-is}

-- ---- the metadata of earlier frames

pub row-ended : (script : Script) (h : List Move) (n : ℕ) → IsLegal script (trace_of h) → is_metadata_ended n (trace_of h) ≡ not (awaits_metadata (row_of script h n))
row-ended script h n legal =
    let past = trace_of h in
    ap (λ b. b || (has_error_result n past || has_error_request n past)) (part-within script past n 3 legal)
    ∙ by (partial_count n past) (has_error_result n past) (has_error_request n past)
  where
    by : (k : ℕ) (e q : Bool) → (is_within 3 k || (e || q)) ≡ not (nat_lt k 3 && (not e && not q))
    by k e q = grind (arith, nat_tests)

pub earlier-ended : (script : Script) (h : List Move) (n : ℕ) → IsLegal script (trace_of h) → each_earlier n (λ m. is_metadata_ended m (trace_of h)) (trace_of h) ≡ may_end_metadata (rows script h) n
earlier-ended script h n legal =
    earlier-is script h n (λ m. is_metadata_ended m (trace_of h)) (λ row. not (awaits_metadata row)) (λ m sent closed. (closed-is (trace_of h) m sent closed).0) (λ m open_. row-ended script h m legal)

-- ---- the part

may-by : (q e f g : Bool) (k : ℕ) (x : Bool) → ((not q && (not e && not f)) && (nat_le (k + 1) 3 && (not ((k + 1) == 3) || (not g && x)))) ≡ (((nat_lt k 3 && (not e && not q)) && not f) && (not (k == 2) || (not g && x)))
may-by q e f g k x =
    let within : nat_le (k + 1) 3 ≡ nat_lt k 3 = grind (arith, nat_tests) in
    let last : ((k + 1) == 3) ≡ (k == 2) = grind (arith, nat_tests) in
    rw (within, last) (turned q e f (nat_lt k 3) (not (k == 2) || (not g && x)))
  where
    turned : (q e f l y : Bool) → ((not q && (not e && not f)) && (l && y)) ≡ (((l && (not e && not q)) && not f) && y)
    turned true true f true y = refl
    turned true true f false y = refl
    turned true false f true y = refl
    turned true false f false y = refl
    turned false true f true y = refl
    turned false true f false y = refl
    turned false false true true y = refl
    turned false false true false y = refl
    turned false false false l y = and-same l y
      where
        and-same : (l y : Bool) → (l && y) ≡ (((l && true) && true) && y)
        and-same true y = refl
        and-same false y = refl

part-may : (script : Script) (h : List Move) (n : ℕ) → IsLegal script (trace_of h) → may_have_partial script (trace_of h) n (partial_count n (trace_of h) + 1) ≡ may_send_part script.faults (rows script h) (row_of script h n)
part-may script h n legal =
    let past = trace_of h in
    may-by (has_error_request n past) (has_error_result n past) (request_fault script n) (result_fault script n) (partial_count n past) (each_earlier n (λ m. is_metadata_ended m past) past)
    ∙ ap (λ b. ((nat_lt (partial_count n past) 3 && (not (has_error_result n past) && not (has_error_request n past))) && not (request_fault script n)) && (not (partial_count n past == 2) || (not (result_fault script n) && b))) (earlier-ended script h n legal)

part-open : (script : Script) (h : List Move) (n : ℕ) (o : Option ℕ) → IsLegal script (trace_of h) → partial_of script (trace_of h) n (partial_count n (trace_of h) + 1) o ≡ option_map (part_entry n) (part_with script.faults (rows script h) (row_of script h n) o)
part-open script h n None legal = refl
part-open script h n (Some time) legal =
    if-same _ _ _ (part-may script h n legal)
    ∙ sym (map-if (part_entry n) (may_send_part script.faults (rows script h) (row_of script h n)) (partial_count n (trace_of h) + 1, part_at (partial_count n (trace_of h) + 1) (row_of script h n).settings time))

pub part_is : (script : Script) (h : List Move) (n : ℕ) → IsRun script h → partial_due script (trace_of h) n ≡ option_map (part_entry n) (next_part script.faults (rows script h) n)
part_is script h n run =
    let legal = runs_legally script h run in
    by-row script h n (λ row. option_map (part_entry n) (ready.partial_of script.faults (rows script h) row)) (partial_due script (trace_of h) n)
    (λ open_. part-open script h n (shutter_time n (trace_of h)) legal)
    (λ closed. part-closed script (trace_of h) n legal closed)
