-- What a breach refers to beside the request that it is about: one earlier event. (our own choice)
use Rattle.std.specs.Prelude.{ℕ, ◌==◌, Bool, true, false, ◌&&◌, ◌||◌, not, List, Option, Some, None, find, nat_le, nat_lt, count_by, if◌then◌else◌}
use Rattle.std.specs.List.{list_any}
use Rattle.std.specs.Option.{option_map}
use Rattle.hal_model.specs.declared.event.HalEvent.{HalEvent}
use Rattle.hal_model.specs.declared.event.HalEvent.TheVariants.{InitOk, InitError, TemplateOk, TemplateNull, ConfigureOk, ConfigureError, RequestBegin, RequestOk, RequestError, ErrorRequest, ErrorResult, ErrorBuffer, ErrorDevice, Results, FlushOk, FlushError, CloseBegin, CloseEnd}
use Rattle.hal_model.specs.declared.event.HalTarget.{HalTarget}
use Rattle.hal_model.specs.declared.event.Pack.TheVariants.{Entries}
use Rattle.hal_model.specs.declared.event.Returned.{Returned}
use Rattle.hal_model.specs.declared.rule.Breach.{Breach}
use Rattle.hal_model.specs.declared.rule.Rule.{Rule}
use Rattle.hal_model.specs.declared.rule.Rule.TheVariants as rule
use Rattle.hal_model.specs.Device.{is_said}
use Rattle.hal_model.specs.Rules.{frame_in}
use Rattle.hal_model.specs.Words.{accepts_from, begins, begins_close, begins_configure, begins_flush, begins_request, configures, ends_close, ends_configure, gives_something, inits, is_begin, is_callback, is_error_buffer, is_error_device, is_error_in, is_error_request, is_error_result, is_failed_buffer, is_filled, is_init_ok, is_no_device, is_number, is_open_ok, is_part, is_same_number, is_shutter, templates}
use Rattle.hal_text.specs.declared.clue.Clue.{Clue}
use Rattle.hal_text.specs.declared.clue.Clue.TheVariants.{Session, Frame}
use Rattle.hal_text.specs.declared.clue.FrameClue.{FrameClue}
use Rattle.hal_text.specs.declared.clue.FrameClue.TheVariants as frame
use Rattle.hal_text.specs.declared.clue.SessionClue.{SessionClue}
use Rattle.hal_text.specs.declared.clue.SessionClue.TheVariants as session
use Rattle.hal_text.specs.declared.clue.Which.{Which}
use Rattle.hal_text.specs.declared.clue.Which.TheVariants.{Any, Ok, Failed}

-- ---- which events a clue means

-- the device told that it is dead: so, by ENODEV, or by a template from 1 to 6 that it hasn't
abbrev pub is_last_breath : HalEvent → Bool
is_last_breath ErrorDevice = true
is_last_breath (InitError error) = is_no_device error
is_last_breath (TemplateNull template) = nat_lt 0 template && nat_le template 6
is_last_breath (ConfigureError error) = is_no_device error
is_last_breath (RequestError _ error) = is_no_device error
is_last_breath (FlushError error) = is_no_device error
is_last_breath _ = false

-- a request begins that brings the buffer
abbrev pub brings : ℕ → HalEvent → Bool
brings b (RequestBegin _ _ targets _ _) = list_any (λ t. t.buffer == b) targets
brings b _ = false

abbrev pub is_meant_in_session : SessionClue → HalEvent → Bool
is_meant_in_session session.InitBegin e = inits e
is_meant_in_session session.TemplateBegin e = templates e
is_meant_in_session session.ConfigureBegin e = begins_configure e
is_meant_in_session (session.RequestBegin n) e = begins n e
is_meant_in_session session.FlushBegin e = begins_flush e
is_meant_in_session session.CloseBegin e = begins_close e
is_meant_in_session session.InitOk e = is_init_ok e
is_meant_in_session session.ConfigureOk e = configures e
is_meant_in_session session.CloseEnd e = ends_close e
is_meant_in_session session.DeviceError e = is_error_device e
is_meant_in_session session.Death e = is_last_breath e
is_meant_in_session session.WorkInCall e = begins_request e || begins_configure e
is_meant_in_session session.AnyInCall e = is_begin e
is_meant_in_session (session.AcceptedFrom n) e = accepts_from n e
is_meant_in_session (session.Holder b) e = brings b e

abbrev pub is_which : Which → Returned → Bool
is_which Any r = true
is_which Ok r = is_filled r
is_which Failed r = is_failed_buffer r

-- a buffer of the stream comes back
abbrev pub gives_for : Which → Option ℕ → HalEvent → Bool
gives_for which s (Results _ _ _ buffers _) = list_any (λ r. is_which which r && is_same_number r.stream s) buffers
gives_for which s _ = false

-- a result of frame n; of one with a higher number
abbrev pub is_result_of : ℕ → HalEvent → Bool
is_result_of n (Results m _ _ _ _) = m == n
is_result_of n _ = false

abbrev pub is_result_above : ℕ → HalEvent → Bool
is_result_above n (Results m _ _ _ _) = nat_lt n m
is_result_above n _ = false

-- metadata under the number k
abbrev pub has_part : ℕ → HalEvent → Bool
has_part k (Results _ j Entries _ _) = j == k
has_part k _ = false

abbrev pub is_meant_of : ℕ → FrameClue → HalEvent → Bool
is_meant_of n frame.Shutter e = is_shutter n e
is_meant_of n frame.RequestError e = is_error_request n e
is_meant_of n frame.ResultError e = is_error_result n e
is_meant_of n (frame.BufferError s) e = is_error_buffer n s e
is_meant_of n (frame.Announced s) e = is_error_request n e || is_error_buffer n s e
is_meant_of n frame.Said e = is_said n e
is_meant_of n frame.Named e = is_number n (frame_in e) && not (begins_request e)
is_meant_of n (frame.Part k) e = is_part n k e
is_meant_of n (frame.LaterPart k) e = is_result_above n e && has_part k e
is_meant_of n (frame.Buffer which s) e = is_result_of n e && gives_for which s e
is_meant_of n (frame.LaterBuffer which s) e = is_result_above n e && gives_for which s e
is_meant_of n frame.Good e = gives_something n e
is_meant_of n frame.GoodOrError e = gives_something n e || is_error_in n e

abbrev pub is_meant : Clue → HalEvent → Bool
is_meant (Session clue) e = is_meant_in_session clue e
is_meant (Frame n clue) e = is_meant_of n clue e

-- ---- how far back it is looked for: to the session's begin; to the begin of its request; to the end of a call, behind
-- which a begin is in call

abbrev pub ends_request : HalEvent → Bool
ends_request (RequestOk _) = true
ends_request (RequestError _ _) = true
ends_request _ = false

abbrev pub is_settled : SessionClue → HalEvent → Bool
is_settled session.WorkInCall e = ends_request e || ends_configure e
is_settled session.AnyInCall e = not (is_callback e)
is_settled clue e = false

abbrev pub is_limit : Clue → HalEvent → Bool
is_limit (Session clue) e = is_open_ok e || is_settled clue e
is_limit (Frame n clue) e = is_open_ok e || begins n e

-- ---- which clue a breach has

-- the begin of the call that an event ends
abbrev pub begin_clue : HalEvent → Option Clue
begin_clue InitOk = Some (Session session.InitBegin)
begin_clue (TemplateOk _) = Some (Session session.TemplateBegin)
begin_clue (ConfigureOk _) = Some (Session session.ConfigureBegin)
begin_clue (RequestOk n) = Some (Session (session.RequestBegin n))
begin_clue (RequestError n _) = Some (Session (session.RequestBegin n))
begin_clue FlushOk = Some (Session session.FlushBegin)
begin_clue CloseEnd = Some (Session session.CloseBegin)
begin_clue _ = None

-- the event begins or ends a request's call
abbrev pub is_call_of_request : HalEvent → Bool
is_call_of_request (RequestBegin _ _ _ _ _) = true
is_call_of_request e = ends_request e

-- a close may overlap any call, a request or configure another one of these
abbrev pub overlap_clue : HalEvent → SessionClue
overlap_clue CloseBegin = session.AnyInCall
overlap_clue _ = session.WorkInCall

-- the first buffer that the targets have for the stream
abbrev pub buffer_for : ℕ → List HalTarget → Option ℕ
buffer_for s targets = option_map (λ t. t.buffer) (find (λ t. t.stream == s) targets)

abbrev pub is_in_two : ℕ → List HalTarget → Bool
is_in_two b targets = nat_lt 1 (count_by (λ t. t.buffer == b) targets)

-- an earlier request has the buffer, or the request itself has it twice
abbrev pub holder_of : List HalTarget → Option ℕ → Option SessionClue
holder_of targets (Some b) = if is_in_two b targets then None else Some (session.Holder b)
holder_of targets None = None

abbrev pub holder_clue : HalEvent → Option ℕ → Option SessionClue
holder_clue (RequestBegin _ _ targets _ _) (Some s) = holder_of targets (buffer_for s targets)
holder_clue _ _ = None

abbrev pub session_clue_by : Rule → Option ℕ → Option ℕ → HalEvent → Option SessionClue
session_clue_by rule.InitTwice n s e = Some session.InitBegin
session_clue_by rule.NoSettings n s e = Some session.ConfigureOk
session_clue_by rule.OverlappingCalls n s e = Some (overlap_clue e)
session_clue_by rule.CallAfterClose n s e = Some session.CloseBegin
session_clue_by rule.FrameNumber n s e = option_map session.AcceptedFrom n
session_clue_by rule.HeldBuffer n s e = holder_clue e s
session_clue_by rule.TooManyBuffers n s e = Some session.ConfigureOk
session_clue_by rule.UnknownStream n s e = Some session.ConfigureOk
session_clue_by rule.AcceptedInitTwice n s e = Some session.InitOk
session_clue_by rule.AcceptedDead n s e = Some session.Death
session_clue_by rule.AcceptedNoSettings n s e = Some session.ConfigureOk
session_clue_by rule.AcceptedUnknownStream n s e = Some session.ConfigureOk
session_clue_by rule.CallbackAfterClose n s e = Some session.CloseEnd
session_clue_by rule.CallbackAfterFailure n s e = Some session.DeviceError
session_clue_by _ n s e = None

abbrev pub session_clue : Breach → HalEvent → Option SessionClue
session_clue b e = session_clue_by b.rule b.frame b.stream e

-- the part that a result brings
abbrev pub part_clue : HalEvent → Bool → Option FrameClue
part_clue (Results _ k _ _ _) is_later = Some (if is_later then frame.LaterPart k else frame.Part k)
part_clue _ is_later = None

-- the same error
abbrev pub twice_clue : HalEvent → Option FrameClue
twice_clue (ErrorRequest _) = Some frame.RequestError
twice_clue (ErrorResult _) = Some frame.ResultError
twice_clue (ErrorBuffer _ s) = Some (frame.BufferError s)
twice_clue _ = None

abbrev pub frame_clue_by : Rule → Option ℕ → HalEvent → Option FrameClue
frame_clue_by rule.RefusedAfterCallback s e = Some frame.Said
frame_clue_by rule.UnknownFrame s e = Some frame.Named
frame_clue_by rule.ShutterTwice s e = Some frame.Shutter
frame_clue_by rule.ShutterAfterRequestError s e = Some frame.RequestError
frame_clue_by rule.PartialTwice s e = part_clue e false
frame_clue_by rule.MetadataAfterRequestError s e = Some frame.RequestError
frame_clue_by rule.MetadataOrder s e = part_clue e true
frame_clue_by rule.NotAtDevice s e = Some (frame.Buffer Any s)
frame_clue_by rule.BufferOrder s e = Some (frame.LaterBuffer Ok s)
frame_clue_by rule.FailedBufferOrder s e = Some (frame.LaterBuffer Any s)
frame_clue_by rule.GoodAfterError s e = Some (frame.Announced s)
frame_clue_by rule.ErrorTwice s e = twice_clue e
frame_clue_by rule.ErrorBesideRequestError s e = Some frame.RequestError
frame_clue_by rule.RequestErrorLate s e = Some frame.GoodOrError
frame_clue_by rule.ErrorForGoodBuffer s e = Some (frame.Buffer Ok s)
frame_clue_by rule.FailedWithoutNotice s e = Some (frame.Buffer Failed s)
frame_clue_by rule.NoShutter s e = Some frame.Good
frame_clue_by _ s e = None

abbrev pub frame_clue : Breach → HalEvent → Option FrameClue
frame_clue b e = frame_clue_by b.rule b.stream e

-- of the session, or else of the request that it is about
abbrev pub clue_by : Option SessionClue → Option ℕ → Option FrameClue → Option Clue
clue_by (Some clue) n other = Some (Session clue)
clue_by None (Some n) (Some clue) = Some (Frame n clue)
clue_by None _ _ = None

abbrev pub clue_of : Breach → HalEvent → Option Clue
clue_of b e = clue_by (session_clue b e) b.frame (frame_clue b e)
