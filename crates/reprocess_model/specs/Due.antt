use Rattle.std.specs.Prelude.{ℕ, ◌==◌, Bool, true, ◌&&◌, ◌||◌, not, List, [], Option, Some, None, is_some, if◌then◌else◌, slice_get}
use Rattle.std.specs.List.{list_any}
use Rattle.std.specs.Option.{option_map}
use Rattle.cam_types.specs.declared.stream.StreamSpec.{StreamSpec}
use Rattle.reprocess_model.specs.declared.entry.ReEntry.{ReEntry}
use Rattle.reprocess_model.specs.declared.entry.ReEntry.TheVariants.{Called, BeginFlush, Flushed, Take, Dropped, Error, Failed, Fill, Input}
use Rattle.reprocess_model.specs.declared.entry.ReOut.{ReOut}
use Rattle.reprocess_model.specs.declared.plan.Plan.{Plan}
use Rattle.reprocess_model.specs.declared.plan.ReCommand.{ReCommand}
use Rattle.reprocess_model.specs.declared.plan.ReCommand.TheVariants.{Request, Flush}
use Rattle.reprocess_model.specs.declared.step.ReStepName.{ReStepName}
use Rattle.reprocess_model.specs.declared.step.ReStepName.TheVariants.{TakeNext, Client, DropNext, Fail, ReturnFailed, ReturnFilled, ReturnInput}
use Rattle.reprocess_model.specs.Past.{all_below, call_count, is_taken, least_queued, is_stopping, is_stopped, has_error, has_fill, is_returned, has_input, input_of, output_of, input_holder, output_holder, is_by, least_input, least_output, all_inputs_home}
use Rattle.reprocess_model.specs.Places.{at_place, each_place}
use Rattle.reprocess_model.specs.Plan.{input_picture}
use Rattle.reprocess_model.specs.Reduce.{reduced}
use Rattle.sha2.specs.Sha256.{sha256}

-- Which line is due after a past: of each step at most one. (camera3.h: reprocessing takes input buffers, which come
-- back after their outputs, and flush; the order of steps is our own choice.)

abbrev pub when : Bool → ReEntry → Option ReEntry
when test e = if test then Some e else None

-- ---- the client

-- the line of the next command: a request is called; a flush begins, and is answered once nothing waits and no input is
-- at the device
abbrev pub line_of_command : List ReEntry → Option ReCommand → Option ReEntry
line_of_command past (Some (Request _)) = Some (Called (call_count past))
line_of_command past (Some Flush) =
    if not (is_stopping past) then Some BeginFlush
    else when (not (is_some (least_queued past)) && all_inputs_home past) (Flushed (call_count past))
line_of_command past None = None

abbrev pub client_due : Plan → List ReEntry → Option ReEntry
client_due plan past = line_of_command past (slice_get plan.commands (call_count past))

-- ---- what waits

-- the buffer that is at home for an output that the plan has
abbrev pub out_for : ℕ → Option StreamSpec → List ReEntry → Option ReOut
out_for s (Some _) past =
    option_map (λ b. record { stream = record { 0 = s }; buffer = record { 0 = b } }) (least_output s past)
out_for s None past = None

abbrev pub has_out : ℕ → Option StreamSpec → List ReEntry → Bool
has_out s (Some _) past = is_some (least_output s past)
has_out s None past = true

abbrev pub has_outs : Plan → List ReEntry → Bool
has_outs plan past =
    has_out 0 plan.outputs.a past
    && (has_out 1 plan.outputs.b past && (has_out 2 plan.outputs.c past && has_out 3 plan.outputs.d past))

-- the request's line with the least buffers that are at home
abbrev pub take_line : Plan → List ReEntry → ℕ → ℕ → ReEntry
take_line plan past n i =
    Take (record { 0 = n }) (record { 0 = i })
    (record {
      a = out_for 0 plan.outputs.a past;
      b = out_for 1 plan.outputs.b past;
      c = out_for 2 plan.outputs.c past;
      d = out_for 3 plan.outputs.d past;
    })

abbrev pub take_with : Plan → List ReEntry → Option ℕ → Option ℕ → Option ReEntry
take_with plan past (Some n) (Some i) =
    when (not (is_stopping past) && has_outs plan past) (take_line plan past n i)
take_with plan past _ _ = None

-- the least request that waits is taken while no flush goes on, where an input and each output have a buffer
abbrev pub take_due : Plan → List ReEntry → Option ReEntry
take_due plan past = take_with plan past (least_queued past) (least_input past)

abbrev pub drop_of : List ReEntry → Option ℕ → Option ReEntry
drop_of past (Some n) = when (is_stopping past) (Dropped (record { 0 = n }))
drop_of past None = None

-- and dropped while one goes on
abbrev pub drop_due : List ReEntry → Option ReEntry
drop_due past = drop_of past (least_queued past)

-- ---- what is at the device

abbrev pub is_faulty : Plan → ℕ → Bool
is_faulty plan n = list_any (λ f. f.0 == n) plan.faults

-- request n was taken and shall fail or is stopped, and nothing has come of it
abbrev pub may_fail : Plan → List ReEntry → ℕ → Bool
may_fail plan past n =
    is_taken n past && (not (has_error n past) && (not (has_fill n past) && (not (has_input n past)
    && (is_faulty plan n || is_stopped n past))))

abbrev pub error_due : Plan → List ReEntry → ℕ → Option ReEntry
error_due plan past n = when (may_fail plan past n) (Error (record { 0 = n }))

abbrev pub failed_with : List ReEntry → ℕ → ℕ → Option ℕ → Option ReEntry
failed_with past n s (Some b) =
    when (has_error n past && is_by n (output_holder b past))
    (Failed (record { 0 = n }) (record { 0 = s }) (record { 0 = b }))
failed_with past n s None = None

-- a buffer of a request that has its error comes back
abbrev pub failed_due : List ReEntry → ℕ → ℕ → Option ReEntry
failed_due past n s = failed_with past n s (output_of n s past)

-- output s of each smaller request that was taken came back, or the request has its error
abbrev pub is_next_for : List ReEntry → ℕ → ℕ → Bool
is_next_for past n s = all_below n (λ m. not (is_taken m past) || (is_returned m s past || has_error m past))

-- the digest of the input of request n in the size of output s
abbrev pub digest_to : Plan → ℕ → Option StreamSpec → List ℕ
digest_to plan n (Some spec) = sha256 (reduced plan.input spec (input_picture plan n))
digest_to plan n None = []

abbrev pub digest_of : Plan → ℕ → ℕ → List ℕ
digest_of plan n s = digest_to plan n (at_place plan.outputs s)

abbrev pub may_fill : Plan → List ReEntry → ℕ → ℕ → ℕ → Bool
may_fill plan past n s b =
    is_by n (output_holder b past)
    && (not (has_error n past) && (not (is_faulty plan n) && is_next_for past n s))

abbrev pub fill_with : Plan → List ReEntry → ℕ → ℕ → Option ℕ → Option ReEntry
fill_with plan past n s (Some b) =
    when (may_fill plan past n s b)
    (Fill (record { 0 = n }) (record { 0 = s }) (record { 0 = b }) (digest_of plan n s))
fill_with plan past n s None = None

-- a buffer of a request that doesn't fail comes back with its picture, by request
abbrev pub fill_due : Plan → List ReEntry → ℕ → ℕ → Option ReEntry
fill_due plan past n s = fill_with plan past n s (output_of n s past)

-- each output of request n came back
abbrev pub all_returned : Plan → List ReEntry → ℕ → Bool
all_returned plan past n = each_place plan.outputs (λ s. is_returned n s past)

abbrev pub input_with : Plan → List ReEntry → ℕ → Option ℕ → Option ReEntry
input_with plan past n (Some i) =
    when (is_by n (input_holder i past) && all_returned plan past n) (Input (record { 0 = n }) (record { 0 = i }))
input_with plan past n None = None

-- the input comes back after the outputs
abbrev pub input_due : Plan → List ReEntry → ℕ → Option ReEntry
input_due plan past n = input_with plan past n (input_of n past)

-- ---- steps

-- the line that is due of a step
abbrev pub due : Plan → List ReEntry → ReStepName → Option ReEntry
due plan past TakeNext = take_due plan past
due plan past Client = client_due plan past
due plan past DropNext = drop_due past
due plan past (Fail n) = error_due plan past n.0
due plan past (ReturnFailed n s) = failed_due past n.0 s.0
due plan past (ReturnFilled n s) = fill_due plan past n.0 s.0
due plan past (ReturnInput n) = input_due plan past n.0

-- the step of a line
abbrev pub step_of : ReEntry → ReStepName
step_of (Called _) = Client
step_of BeginFlush = Client
step_of (Flushed _) = Client
step_of (Take _ _ _) = TakeNext
step_of (Dropped _) = DropNext
step_of (Error n) = Fail n
step_of (Failed n s _) = ReturnFailed n s
step_of (Fill n s _ _) = ReturnFilled n s
step_of (Input n _) = ReturnInput n
