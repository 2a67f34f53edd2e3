-- For each rule a log next to the one that breaks it, which does not.
use Rattle.std.specs.Prelude.{true, false, List, [], ◌∷◌, Some, None}
use Rattle.hal_model.specs.declared.event.Direction.TheVariants.{Input, Output, Bidirectional}
use Rattle.hal_model.specs.declared.event.HalError.TheVariants.{NoDevice as enodev}
use Rattle.hal_model.specs.declared.event.HalEvent.{HalEvent}
use Rattle.hal_model.specs.declared.event.HalEvent.TheVariants.{OpenBegin, OpenOk, InitBegin, InitError, ConfigureBegin, ConfigureOk, ConfigureError, RequestBegin, RequestOk, RequestError, Shutter, ErrorRequest, ErrorResult, ErrorBuffer, ErrorDevice, Results, FlushBegin, FlushOk, FlushError, CloseBegin, CloseEnd}
use Rattle.hal_model.specs.declared.event.Pack.TheVariants.{Absent, Empty}
use Rattle.hal_model.specs.declared.event.Status.TheVariants.{Filled, Failed}
use Rattle.hal_model.specs.declared.rule.Rule.{Rule}
use Rattle.hal_model.specs.declared.rule.Rule.TheVariants.{InitOrder, InitTwice, NoConfiguration, NoOutput, NoSettings, TwoInputs, ConfigureInFlight, OverlappingCalls, CallAfterClose, FrameNumber, HeldBuffer, RepeatedStream, TooManyBuffers, UnknownStream, AcceptedBeforeInit, AcceptedInitTwice, AcceptedDead, AcceptedNoOutput, AcceptedTwoInputs, AcceptedNoSettings, AcceptedUnknownStream, NoMaxBuffers, RefusedRequest, RefusedAfterCallback, UnknownFrame, CallbackAfterClose, CallbackAfterFailure, FailedWithFrames, ShutterTwice, ShutterAfterRequestError, EmptyResult, PartialNumber, PartialTwice, MetadataAfterRequestError, MetadataOrder, NotAtDevice, BufferStatus, BufferOrder, FailedBufferOrder, GoodAfterError, AcquireFence, ReleaseFence, ErrorTwice, ErrorBesideRequestError, RequestErrorLate, ErrorForGoodBuffer, ErrorUnknownStream, FlushLeft, CloseLeft, FailedWithoutNotice, NoShutter}
use Rattle.hal_model.specs.Worked.{asks, asks_same, clean, einval, enosys, gives, initialized, metadata, most, one_stream, released, returned, sent, stream, target, two_sent, two_streams, whole, with_fence}

abbrev pub kept : Rule → List HalEvent
kept InitOrder = ConfigureBegin None (stream 0 Output ∷ []) ∷ initialized
kept InitTwice = InitBegin ∷ OpenOk ∷ OpenBegin ∷ CloseEnd ∷ CloseBegin ∷ initialized
kept NoConfiguration = asks 0 (target 0 7 ∷ []) ∷ one_stream
kept NoOutput = asks 0 (target 0 7 ∷ []) ∷ one_stream
kept NoSettings = asks_same 1 (target 0 7 ∷ []) ∷ FlushOk ∷ FlushBegin ∷ whole
kept TwoInputs = ConfigureBegin None (stream 0 Output ∷ stream 1 Input ∷ []) ∷ initialized
kept ConfigureInFlight =
    ConfigureBegin None (stream 0 Output ∷ []) ∷ Results 0 1 Empty (returned Filled 0 7 ∷ []) false ∷ sent
kept OverlappingCalls = CloseBegin ∷ FlushOk ∷ FlushBegin ∷ one_stream
kept CallAfterClose = OpenBegin ∷ clean
kept FrameNumber =
    asks 0 (target 0 8 ∷ []) ∷ RequestError 0 einval ∷ RequestBegin 0 false (target 0 7 ∷ []) false true
    ∷ one_stream
kept HeldBuffer =
    asks 1 (target 0 7 ∷ []) ∷ RequestError 0 einval ∷ RequestBegin 0 false (target 0 7 ∷ []) false true
    ∷ one_stream
kept RepeatedStream = asks 0 (target 0 7 ∷ target 1 8 ∷ []) ∷ two_streams
kept TooManyBuffers = asks 2 (target 0 9 ∷ []) ∷ gives 0 (returned Filled 0 7 ∷ []) ∷ two_sent
kept UnknownStream = asks 0 (target 1 7 ∷ []) ∷ two_streams
kept AcceptedBeforeInit = FlushError enosys ∷ FlushBegin ∷ []
kept AcceptedInitTwice = InitError enosys ∷ InitBegin ∷ initialized
kept AcceptedDead = FlushOk ∷ ErrorDevice ∷ FlushBegin ∷ one_stream
kept AcceptedNoOutput = RequestError 0 einval ∷ asks 0 [] ∷ one_stream
kept AcceptedTwoInputs =
    ConfigureError einval ∷ ConfigureBegin None (stream 0 Output ∷ stream 1 Input ∷ stream 2 Bidirectional ∷ [])
    ∷ initialized
kept AcceptedNoSettings = RequestError 0 einval ∷ asks_same 0 (target 0 7 ∷ []) ∷ one_stream
kept AcceptedUnknownStream = RequestError 0 einval ∷ asks 0 (target 1 7 ∷ []) ∷ one_stream
kept NoMaxBuffers =
    ConfigureOk (most 0 1 ∷ most 1 1 ∷ []) ∷ ConfigureBegin None (stream 0 Output ∷ stream 1 Output ∷ [])
    ∷ initialized
kept RefusedRequest = RequestError 0 einval ∷ FlushBegin ∷ asks 0 (target 0 7 ∷ []) ∷ one_stream
kept RefusedAfterCallback =
    RequestError 0 enodev ∷ Shutter 0 1000 ∷ RequestBegin 0 false (target 0 7 ∷ []) true false ∷ one_stream
kept UnknownFrame = ErrorBuffer 0 (Some 0) ∷ whole
kept CallbackAfterClose = CloseEnd ∷ ErrorResult 0 ∷ CloseBegin ∷ whole
kept CallbackAfterFailure = ErrorDevice ∷ ErrorResult 0 ∷ whole
kept FailedWithFrames = ErrorDevice ∷ whole
kept ShutterTwice = Shutter 1 2000 ∷ Shutter 0 1000 ∷ two_sent
kept ShutterAfterRequestError = ErrorRequest 0 ∷ Shutter 0 1000 ∷ sent
kept EmptyResult = Results 0 0 Absent [] true ∷ sent
kept PartialNumber = metadata 0 1 ∷ sent
kept PartialTwice = metadata 0 2 ∷ metadata 0 2 ∷ sent
kept MetadataAfterRequestError = metadata 0 1 ∷ ErrorResult 0 ∷ sent
kept MetadataOrder = metadata 0 1 ∷ metadata 1 1 ∷ ErrorResult 1 ∷ two_sent
kept NotAtDevice = gives 0 (returned Filled 0 7 ∷ []) ∷ sent
kept BufferStatus = gives 0 (returned Failed 0 7 ∷ []) ∷ sent
kept BufferOrder = gives 1 (returned Filled 0 8 ∷ []) ∷ gives 0 (returned Filled 0 7 ∷ []) ∷ two_sent
kept FailedBufferOrder =
    gives 0 (returned Filled 0 7 ∷ []) ∷ FlushError einval ∷ gives 1 (returned Failed 0 8 ∷ []) ∷ FlushBegin
    ∷ two_sent
kept GoodAfterError = gives 0 (returned Failed 0 7 ∷ []) ∷ ErrorRequest 0 ∷ sent
kept AcquireFence = gives 0 (returned Filled 0 7 ∷ []) ∷ sent
kept ReleaseFence = gives 0 (released Failed 0 7 9 ∷ []) ∷ RequestOk 0 ∷ asks 0 (with_fence 0 7 9 ∷ []) ∷ one_stream
kept ErrorTwice = ErrorBuffer 0 (Some 0) ∷ ErrorResult 0 ∷ sent
kept ErrorBesideRequestError = ErrorResult 1 ∷ ErrorRequest 0 ∷ two_sent
kept RequestErrorLate = ErrorRequest 0 ∷ gives 0 (released Filled 0 7 5 ∷ []) ∷ sent
kept ErrorForGoodBuffer = ErrorBuffer 0 (Some 0) ∷ gives 0 (released Filled 0 7 5 ∷ []) ∷ sent
kept ErrorUnknownStream = ErrorBuffer 0 (Some 0) ∷ sent
kept FlushLeft = FlushOk ∷ RequestOk 0 ∷ FlushBegin ∷ asks 0 (target 0 7 ∷ []) ∷ one_stream
kept CloseLeft = CloseEnd ∷ CloseBegin ∷ gives 0 (returned Filled 0 7 ∷ []) ∷ ErrorResult 0 ∷ Shutter 0 1000 ∷ sent
kept FailedWithoutNotice =
    CloseEnd ∷ CloseBegin ∷ gives 0 (returned Failed 0 7 ∷ []) ∷ metadata 0 1 ∷ ErrorBuffer 0 (Some 0)
    ∷ Shutter 0 1000 ∷ sent
kept NoShutter = CloseEnd ∷ CloseBegin ∷ gives 0 (returned Failed 0 7 ∷ []) ∷ ErrorRequest 0 ∷ sent
