-- The logs that can be written: those that reading gives. (docs/FORMATS.md, hal log)
use Rattle.std.specs.Prelude.{ℕ, ◌==◌, ◌^◌, Bool, true, ◌&&◌, ◌||◌, not, List, [], ◌∷◌, ◌++◌, length, take, drop, nat_lt, nat_le, Option, Some, None, codes, bytes_eq}
use Rattle.std.specs.List.{list_all, list_any}
use Rattle.hal_model.specs.Words.{begins, begins_close, begins_configure, begins_flush, inits, opens, templates}
use Rattle.hal_model.specs.declared.event.ErrorName.{ErrorName}
use Rattle.hal_model.specs.declared.event.HalError.{HalError}
use Rattle.hal_model.specs.declared.event.HalError.TheVariants.{NoDevice, Other}
use Rattle.hal_model.specs.declared.event.HalEvent.{HalEvent}
use Rattle.hal_model.specs.declared.event.HalEvent.TheVariants.{OpenOk, OpenError, InitOk, InitError, TemplateBegin, TemplateOk, TemplateNull, ConfigureBegin, ConfigureOk, ConfigureError, RequestBegin, RequestOk, RequestError, Shutter, ErrorRequest, ErrorResult, ErrorBuffer, Results, FlushOk, FlushError, CloseEnd}
use Rattle.hal_model.specs.declared.event.HalFence.{HalFence}
use Rattle.hal_model.specs.declared.event.HalFence.TheVariants as fence
use Rattle.hal_model.specs.declared.event.HalFormat.{HalFormat}
use Rattle.hal_model.specs.declared.event.HalFormat.TheVariants as format
use Rattle.hal_model.specs.declared.event.HalStream.{HalStream}
use Rattle.hal_model.specs.declared.event.HalTarget.{HalTarget}
use Rattle.hal_model.specs.declared.event.Returned.{Returned}
use Rattle.hal_model.specs.declared.event.StreamMax.{StreamMax}

-- ---- what a log is, besides what the types of its numbers say

-- the most streams of a configuration, targets of a request, buffers of a result and partial results
abbrev pub part_limit : ℕ
part_limit = 16

-- a capital letter or a digit
abbrev pub is_letter : ℕ → Bool
is_letter b = (nat_le 48 b && nat_le b 57) || (nat_le 65 b && nat_le b 90)

-- one to fifteen of these
abbrev pub is_error_name : List ℕ → Bool
is_error_name word = list_all is_letter word && (nat_le 1 (length word) && nat_le (length word) 15)

-- fifteen places, with a name that isn't that of the other kind of error, and zeros past it
abbrev pub name_fits : ErrorName → Bool
name_fits name =
    (length name.letters == 15 && nat_le name.count 15)
    && ((is_error_name (take name.count name.letters)
    && not (bytes_eq (take name.count name.letters) (codes "ENODEV")))
    && list_all (λ b. b == 0) (drop name.count name.letters))

abbrev pub error_fits : HalError → Bool
error_fits NoDevice = true
error_fits (Other name) = name_fits name

abbrev pub few : {A : Type 0} → List A → Bool
few list = nat_le (length list) part_limit

-- the lists of an event are short, and its error has a name
abbrev pub is_well_made : HalEvent → Bool
is_well_made (OpenError error) = error_fits error
is_well_made (InitError error) = error_fits error
is_well_made (ConfigureBegin mode streams) = few streams
is_well_made (ConfigureOk most) = few most
is_well_made (ConfigureError error) = error_fits error
is_well_made (RequestBegin n same targets no_handle bad_settings) = few targets
is_well_made (RequestError n error) = error_fits error
is_well_made (Results n k content buffers input) = few buffers
is_well_made (FlushError error) = error_fits error
is_well_made _ = true

-- an end has the begin of its call before it: of a request, that with its number
abbrev pub has_begin : List HalEvent → HalEvent → Bool
has_begin past OpenOk = list_any opens past
has_begin past (OpenError error) = list_any opens past
has_begin past InitOk = list_any inits past
has_begin past (InitError error) = list_any inits past
has_begin past (TemplateOk template) = list_any templates past
has_begin past (TemplateNull template) = list_any templates past
has_begin past (ConfigureOk most) = list_any begins_configure past
has_begin past (ConfigureError error) = list_any begins_configure past
has_begin past (RequestOk n) = list_any (begins n) past
has_begin past (RequestError n error) = list_any (begins n) past
has_begin past FlushOk = list_any begins_flush past
has_begin past (FlushError error) = list_any begins_flush past
has_begin past CloseEnd = list_any begins_close past
has_begin past _ = true

-- each end among the events has its begin, behind some that stand before
abbrev pub have_begins : List HalEvent → List HalEvent → Bool
have_begins past [] = true
have_begins past (event ∷ events) = has_begin past event && have_begins (past ++ event ∷ []) events

-- a device's partial result count
abbrev pub is_count : ℕ → Bool
is_count parts = nat_le 1 parts && nat_le parts part_limit

abbrev pub is_valid : ℕ → List HalEvent → Bool
is_valid parts events = is_count parts && (list_all is_well_made events && have_begins [] events)

-- ---- what the types of its numbers say

abbrev pub is_small : ℕ → Bool
is_small n = nat_lt n (2 ^ 32)

abbrev pub is_small_or_none : Option ℕ → Bool
is_small_or_none None = true
is_small_or_none (Some n) = is_small n

abbrev pub is_format_typed : HalFormat → Bool
is_format_typed (format.Number n) = is_small n
is_format_typed _ = true

abbrev pub is_stream_typed : HalStream → Bool
is_stream_typed s =
    is_small s.stream
    && (is_format_typed s.format && (is_small s.width && (is_small s.height && is_small s.rotation)))

abbrev pub is_max_typed : StreamMax → Bool
is_max_typed m = is_small m.stream && is_small m.max

abbrev pub is_target_typed : HalTarget → Bool
is_target_typed t = is_small t.stream && (is_small t.buffer && is_small_or_none t.fence)

abbrev pub is_release_typed : HalFence → Bool
is_release_typed (fence.Number n) = is_small n
is_release_typed _ = true

abbrev pub is_returned_typed : Returned → Bool
is_returned_typed r = is_small_or_none r.stream && (is_small_or_none r.buffer && is_release_typed r.release)

abbrev pub is_typed : HalEvent → Bool
is_typed (TemplateBegin t) = is_small t
is_typed (TemplateOk t) = is_small t
is_typed (TemplateNull t) = is_small t
is_typed (ConfigureBegin mode streams) = is_small_or_none mode && list_all is_stream_typed streams
is_typed (ConfigureOk most) = list_all is_max_typed most
is_typed (RequestBegin n same targets no_handle bad_settings) = is_small n && list_all is_target_typed targets
is_typed (RequestOk n) = is_small n
is_typed (RequestError n error) = is_small n
is_typed (Shutter n time) = is_small n && nat_lt time (2 ^ 64)
is_typed (ErrorRequest n) = is_small n
is_typed (ErrorResult n) = is_small n
is_typed (ErrorBuffer n s) = is_small n && is_small_or_none s
is_typed (Results n k content buffers input) = is_small n && (is_small k && list_all is_returned_typed buffers)
is_typed _ = true

-- a valid log whose numbers are within their types
abbrev pub fits : ℕ → List HalEvent → Bool
fits parts events = is_valid parts events && list_all is_typed events
