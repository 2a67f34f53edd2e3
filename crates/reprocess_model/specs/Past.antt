use Rattle.std.specs.Prelude.{ℕ, zero, suc, ◌==◌, ◌*◌, Bool, true, false, ◌&&◌, ◌||◌, not, List, [], ◌∷◌, Option, Some, None, is_none, count_by, find, if◌then◌else◌}
use Rattle.std.specs.List.{list_any, range_with_len}
use Rattle.std.specs.Option.{option_map}
use Rattle.cam_types.specs.declared.four.Four.{Four}
use Rattle.reprocess_model.specs.declared.entry.ReEntry.{ReEntry}
use Rattle.reprocess_model.specs.declared.entry.ReEntry.TheVariants.{BeginFlush, Flushed, Take, Failed, Fill, Input}
use Rattle.reprocess_model.specs.declared.entry.ReOut.{ReOut}
use Rattle.reprocess_model.specs.Lines.{is_begin_flush, is_call, is_called, takes, leaves, is_error_of, is_fill_of, is_return_of, is_input_of}
use Rattle.reprocess_model.specs.Places.{at_place}

-- What a past says. A past is a list of lines, the newest first.

-- the test passes for each number below n
abbrev pub all_below : ℕ → (ℕ → Bool) → Bool
all_below zero p = true
all_below (suc n) p = p n && all_below n p

-- the least number below n for which the test passes
abbrev pub or_else : Option ℕ → Option ℕ → Option ℕ
or_else (Some k) other = Some k
or_else None other = other

abbrev pub find_below : ℕ → (ℕ → Bool) → Option ℕ
find_below zero p = None
find_below (suc n) p = or_else (find_below n p) (if p n then Some n else None)

-- ---- commands and requests

-- how many commands are answered, which is the place of the next
abbrev pub call_count : List ReEntry → ℕ
call_count past = count_by is_call past

-- how many requests are called: they are numbered from 0 on
abbrev pub request_count : List ReEntry → ℕ
request_count past = count_by is_called past

abbrev pub is_taken : ℕ → List ReEntry → Bool
is_taken n past = list_any (takes n) past

-- request n waits no more: it was taken or dropped
abbrev pub is_gone : ℕ → List ReEntry → Bool
is_gone n past = list_any (leaves n) past

-- the least request that waits
abbrev pub least_queued : List ReEntry → Option ℕ
least_queued past = find_below (request_count past) (λ n. not (is_gone n past))

-- a flush has begun and isn't answered
abbrev pub is_stopping : List ReEntry → Bool
is_stopping [] = false
is_stopping (BeginFlush ∷ past) = true
is_stopping (Flushed _ ∷ past) = false
is_stopping (_ ∷ past) = is_stopping past

-- request n is stopped: a flush began after it was taken
abbrev pub is_stopped : ℕ → List ReEntry → Bool
is_stopped n [] = false
is_stopped n (e ∷ past) = (is_begin_flush e && is_taken n past) || is_stopped n past

-- ---- what stands of a request

abbrev pub has_error : ℕ → List ReEntry → Bool
has_error n past = list_any (is_error_of n) past

abbrev pub has_fill : ℕ → List ReEntry → Bool
has_fill n past = list_any (is_fill_of n) past

-- its buffer for output s came back, filled or not
abbrev pub is_returned : ℕ → ℕ → List ReEntry → Bool
is_returned n s past = list_any (is_return_of n s) past

abbrev pub has_input : ℕ → List ReEntry → Bool
has_input n past = list_any (is_input_of n) past

-- the input buffer that request n was taken with
abbrev pub input_of : ℕ → List ReEntry → Option ℕ
input_of n [] = None
input_of n (Take m i _ ∷ past) = if m.0 == n then Some i.0 else input_of n past
input_of n (_ ∷ past) = input_of n past

-- the buffer that request n was taken with for output s
abbrev pub buffer_at : Four ReOut → ℕ → Option ℕ
buffer_at outputs s = option_map (λ o. o.buffer.0) (at_place outputs s)

abbrev pub output_of : ℕ → ℕ → List ReEntry → Option ℕ
output_of n s [] = None
output_of n s (Take m _ outputs ∷ past) = if m.0 == n then buffer_at outputs s else output_of n s past
output_of n s (_ ∷ past) = output_of n s past

-- ---- where buffers are: at home, or at the device by a request

-- the request at which input buffer i is at the device: from its `take` to its `input`
abbrev pub input_holder : ℕ → List ReEntry → Option ℕ
input_holder i [] = None
input_holder i (Take n j _ ∷ past) = if j.0 == i then Some n.0 else input_holder i past
input_holder i (Input n j ∷ past) = if j.0 == i then None else input_holder i past
input_holder i (_ ∷ past) = input_holder i past

abbrev pub is_buffer : ℕ → Option ReOut → Bool
is_buffer b (Some o) = o.buffer.0 == b
is_buffer b None = false

abbrev pub has_buffer : ℕ → Four ReOut → Bool
has_buffer b outputs =
    is_buffer b outputs.a || (is_buffer b outputs.b || (is_buffer b outputs.c || is_buffer b outputs.d))

-- the request at which output buffer b is at the device: from its `take` to its `fill` or `failed`
abbrev pub output_holder : ℕ → List ReEntry → Option ℕ
output_holder b [] = None
output_holder b (Take n _ outputs ∷ past) = if has_buffer b outputs then Some n.0 else output_holder b past
output_holder b (Failed _ _ c ∷ past) = if c.0 == b then None else output_holder b past
output_holder b (Fill _ _ c _ ∷ past) = if c.0 == b then None else output_holder b past
output_holder b (_ ∷ past) = output_holder b past

abbrev pub is_input_home : List ReEntry → ℕ → Bool
is_input_home past i = is_none (input_holder i past)

abbrev pub is_output_home : List ReEntry → ℕ → Bool
is_output_home past b = is_none (output_holder b past)

-- the request is the one that holds the buffer
abbrev pub is_by : ℕ → Option ℕ → Bool
is_by n (Some m) = m == n
is_by n None = false

-- there are three input buffers, and four buffers for each output, numbered through: those of output s from 4 s on
abbrev pub least_input : List ReEntry → Option ℕ
least_input past = find_below 3 (is_input_home past)

abbrev pub least_output : ℕ → List ReEntry → Option ℕ
least_output s past = find (is_output_home past) (range_with_len (4 * s) 4)

-- no input buffer, and no output buffer, is at the device: three outputs have twelve buffers
abbrev pub all_inputs_home : List ReEntry → Bool
all_inputs_home past = all_below 3 (is_input_home past)

abbrev pub all_outputs_home : List ReEntry → Bool
all_outputs_home past = all_below 12 (is_output_home past)
