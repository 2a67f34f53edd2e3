-- For each rule a short log whose last event breaks it, the newest event first.
use Rattle.std.specs.Prelude.{true, false, List, [], ◌∷◌, Some, None}
use Rattle.hal_model.specs.declared.event.Direction.TheVariants.{Input, Output, Bidirectional}
use Rattle.hal_model.specs.declared.event.HalEvent.{HalEvent}
use Rattle.hal_model.specs.declared.event.HalEvent.TheVariants.{InitBegin, InitOk, ConfigureBegin, ConfigureOk, RequestBegin, RequestOk, RequestError, Shutter, ErrorRequest, ErrorResult, ErrorBuffer, ErrorDevice, Results, FlushBegin, FlushOk, CloseBegin, CloseEnd}
use Rattle.hal_model.specs.declared.event.Pack.TheVariants.{Absent}
use Rattle.hal_model.specs.declared.event.Status.TheVariants.{Filled, Failed, Unknown}
use Rattle.hal_model.specs.declared.rule.Rule.{Rule}
use Rattle.hal_model.specs.declared.rule.Rule.TheVariants.{InitOrder, InitTwice, NoConfiguration, NoOutput, NoSettings, TwoInputs, ConfigureInFlight, OverlappingCalls, CallAfterClose, FrameNumber, HeldBuffer, RepeatedStream, TooManyBuffers, UnknownStream, AcceptedBeforeInit, AcceptedInitTwice, AcceptedDead, AcceptedNoOutput, AcceptedTwoInputs, AcceptedNoSettings, AcceptedUnknownStream, NoMaxBuffers, RefusedRequest, RefusedAfterCallback, UnknownFrame, CallbackAfterClose, CallbackAfterFailure, FailedWithFrames, ShutterTwice, ShutterAfterRequestError, EmptyResult, PartialNumber, PartialTwice, MetadataAfterRequestError, MetadataOrder, NotAtDevice, BufferStatus, BufferOrder, FailedBufferOrder, GoodAfterError, AcquireFence, ReleaseFence, ErrorTwice, ErrorBesideRequestError, RequestErrorLate, ErrorForGoodBuffer, ErrorUnknownStream, FlushLeft, CloseLeft, FailedWithoutNotice, NoShutter}
use Rattle.hal_model.specs.Worked.{asks, asks_same, clean, einval, gives, initialized, metadata, most, one_stream, released, returned, sent, stream, target, two_sent, whole, with_acquire, with_fence}

abbrev pub broken : Rule → List HalEvent
broken InitOrder = ConfigureBegin None (stream 0 Output ∷ []) ∷ []
broken InitTwice = InitBegin ∷ initialized
broken NoConfiguration = asks 0 (target 0 7 ∷ []) ∷ initialized
broken NoOutput = asks 0 [] ∷ one_stream
broken NoSettings = asks_same 0 (target 0 7 ∷ []) ∷ one_stream
broken TwoInputs = ConfigureBegin None (stream 0 Output ∷ stream 1 Input ∷ stream 2 Bidirectional ∷ []) ∷ initialized
broken ConfigureInFlight = ConfigureBegin None (stream 0 Output ∷ []) ∷ sent
broken OverlappingCalls = CloseBegin ∷ FlushBegin ∷ one_stream
broken CallAfterClose = FlushBegin ∷ clean
broken FrameNumber = asks 0 (target 0 8 ∷ []) ∷ sent
broken HeldBuffer = asks 1 (target 0 7 ∷ []) ∷ sent
broken RepeatedStream = asks 0 (target 0 7 ∷ target 0 8 ∷ []) ∷ one_stream
broken TooManyBuffers = asks 2 (target 0 9 ∷ []) ∷ two_sent
broken UnknownStream = asks 0 (target 1 7 ∷ []) ∷ one_stream
broken AcceptedBeforeInit = FlushOk ∷ FlushBegin ∷ []
broken AcceptedInitTwice = InitOk ∷ InitBegin ∷ initialized
broken AcceptedDead = FlushOk ∷ FlushBegin ∷ ErrorDevice ∷ one_stream
broken AcceptedNoOutput = RequestOk 0 ∷ asks 0 [] ∷ one_stream
broken AcceptedTwoInputs =
    ConfigureOk (most 0 2 ∷ most 1 2 ∷ most 2 2 ∷ [])
    ∷ ConfigureBegin None (stream 0 Output ∷ stream 1 Input ∷ stream 2 Bidirectional ∷ []) ∷ initialized
broken AcceptedNoSettings = RequestOk 0 ∷ asks_same 0 (target 0 7 ∷ []) ∷ one_stream
broken AcceptedUnknownStream = RequestOk 0 ∷ asks 0 (target 1 7 ∷ []) ∷ one_stream
broken NoMaxBuffers =
    ConfigureOk (most 0 0 ∷ most 2 1 ∷ []) ∷ ConfigureBegin None (stream 0 Output ∷ stream 1 Output ∷ [])
    ∷ initialized
broken RefusedRequest = RequestError 0 einval ∷ asks 0 (target 0 7 ∷ []) ∷ one_stream
broken RefusedAfterCallback =
    RequestError 0 einval ∷ Shutter 0 1000 ∷ RequestBegin 0 false (target 0 7 ∷ []) true false ∷ one_stream
broken UnknownFrame = Shutter 1 1000 ∷ sent
broken CallbackAfterClose = ErrorResult 0 ∷ clean
broken CallbackAfterFailure = ErrorResult 0 ∷ ErrorDevice ∷ whole
broken FailedWithFrames = ErrorDevice ∷ sent
broken ShutterTwice = Shutter 0 2000 ∷ Shutter 0 1000 ∷ sent
broken ShutterAfterRequestError = Shutter 0 1000 ∷ ErrorRequest 0 ∷ sent
broken EmptyResult = Results 0 0 Absent [] false ∷ sent
broken PartialNumber = metadata 0 2 ∷ sent
broken PartialTwice = metadata 0 1 ∷ metadata 0 1 ∷ sent
broken MetadataAfterRequestError = metadata 0 1 ∷ ErrorRequest 0 ∷ sent
broken MetadataOrder = metadata 0 1 ∷ metadata 1 1 ∷ two_sent
broken NotAtDevice = gives 0 (returned Filled 0 8 ∷ []) ∷ sent
broken BufferStatus = gives 0 (returned Unknown 0 7 ∷ []) ∷ sent
broken BufferOrder = gives 0 (returned Filled 0 7 ∷ []) ∷ gives 1 (returned Filled 0 8 ∷ []) ∷ two_sent
broken FailedBufferOrder =
    gives 0 (returned Filled 0 7 ∷ []) ∷ FlushBegin ∷ gives 1 (returned Failed 0 8 ∷ []) ∷ two_sent
broken GoodAfterError = gives 0 (returned Filled 0 7 ∷ []) ∷ ErrorRequest 0 ∷ sent
broken AcquireFence = gives 0 (with_acquire (returned Filled 0 7) ∷ []) ∷ sent
broken ReleaseFence = gives 0 (released Failed 0 7 8 ∷ []) ∷ RequestOk 0 ∷ asks 0 (with_fence 0 7 9 ∷ []) ∷ one_stream
broken ErrorTwice = ErrorBuffer 0 (Some 0) ∷ ErrorBuffer 0 (Some 0) ∷ sent
broken ErrorBesideRequestError = ErrorResult 0 ∷ ErrorRequest 0 ∷ sent
broken RequestErrorLate = ErrorRequest 0 ∷ gives 0 (returned Filled 0 7 ∷ []) ∷ sent
broken ErrorForGoodBuffer = ErrorBuffer 0 (Some 0) ∷ gives 0 (returned Filled 0 7 ∷ []) ∷ sent
broken ErrorUnknownStream = ErrorBuffer 0 None ∷ sent
broken FlushLeft = FlushOk ∷ FlushBegin ∷ sent
broken CloseLeft = CloseEnd ∷ CloseBegin ∷ gives 0 (returned Filled 0 7 ∷ []) ∷ Shutter 0 1000 ∷ sent
broken FailedWithoutNotice =
    CloseEnd ∷ CloseBegin ∷ gives 0 (returned Failed 0 7 ∷ []) ∷ metadata 0 1 ∷ Shutter 0 1000 ∷ sent
broken NoShutter = CloseEnd ∷ CloseBegin ∷ gives 0 (returned Filled 0 7 ∷ []) ∷ metadata 0 1 ∷ sent
