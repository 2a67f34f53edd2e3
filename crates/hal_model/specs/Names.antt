-- The names of the rules in a report, whom they bind, and where camera3.h says them.
use Rattle.std.specs.Prelude.{ℕ, List, codes}
use Rattle.hal_model.specs.declared.rule.Rule.{Rule}
use Rattle.hal_model.specs.declared.rule.Rule.TheVariants.{InitOrder, InitTwice, NoConfiguration, NoOutput, NoSettings, TwoInputs, ConfigureInFlight, OverlappingCalls, CallAfterClose, FrameNumber, HeldBuffer, RepeatedStream, TooManyBuffers, UnknownStream, AcceptedBeforeInit, AcceptedInitTwice, AcceptedDead, AcceptedNoOutput, AcceptedTwoInputs, AcceptedNoSettings, AcceptedUnknownStream, NoMaxBuffers, RefusedRequest, RefusedAfterCallback, UnknownFrame, CallbackAfterClose, CallbackAfterFailure, FailedWithFrames, ShutterTwice, ShutterAfterRequestError, EmptyResult, PartialNumber, PartialTwice, MetadataAfterRequestError, MetadataOrder, NotAtDevice, BufferStatus, BufferOrder, FailedBufferOrder, GoodAfterError, AcquireFence, ReleaseFence, ErrorTwice, ErrorBesideRequestError, RequestErrorLate, ErrorForGoodBuffer, ErrorUnknownStream, FlushLeft, CloseLeft, FailedWithoutNotice, NoShutter}
use Rattle.hal_model.specs.declared.rule.Side.{Side}
use Rattle.hal_model.specs.declared.rule.Side.TheVariants.{Framework, Device}

abbrev pub rule_name : Rule → List ℕ
rule_name InitOrder = codes "init-order"
rule_name InitTwice = codes "init-twice"
rule_name NoConfiguration = codes "no-configuration"
rule_name NoOutput = codes "no-output"
rule_name NoSettings = codes "no-settings"
rule_name TwoInputs = codes "two-inputs"
rule_name ConfigureInFlight = codes "configure-in-flight"
rule_name OverlappingCalls = codes "overlapping-calls"
rule_name CallAfterClose = codes "call-after-close"
rule_name FrameNumber = codes "frame-number"
rule_name HeldBuffer = codes "held-buffer"
rule_name RepeatedStream = codes "repeated-stream"
rule_name TooManyBuffers = codes "too-many-buffers"
rule_name UnknownStream = codes "unknown-stream"
rule_name AcceptedBeforeInit = codes "accepted-before-init"
rule_name AcceptedInitTwice = codes "accepted-init-twice"
rule_name AcceptedDead = codes "accepted-dead"
rule_name AcceptedNoOutput = codes "accepted-no-output"
rule_name AcceptedTwoInputs = codes "accepted-two-inputs"
rule_name AcceptedNoSettings = codes "accepted-no-settings"
rule_name AcceptedUnknownStream = codes "accepted-unknown-stream"
rule_name NoMaxBuffers = codes "no-max-buffers"
rule_name RefusedRequest = codes "refused-request"
rule_name RefusedAfterCallback = codes "refused-after-callback"
rule_name UnknownFrame = codes "unknown-frame"
rule_name CallbackAfterClose = codes "callback-after-close"
rule_name CallbackAfterFailure = codes "callback-after-failure"
rule_name FailedWithFrames = codes "failed-with-frames"
rule_name ShutterTwice = codes "shutter-twice"
rule_name ShutterAfterRequestError = codes "shutter-after-request-error"
rule_name EmptyResult = codes "empty-result"
rule_name PartialNumber = codes "partial-number"
rule_name PartialTwice = codes "partial-twice"
rule_name MetadataAfterRequestError = codes "metadata-after-request-error"
rule_name MetadataOrder = codes "metadata-order"
rule_name NotAtDevice = codes "not-at-device"
rule_name BufferStatus = codes "buffer-status"
rule_name BufferOrder = codes "buffer-order"
rule_name FailedBufferOrder = codes "failed-buffer-order"
rule_name GoodAfterError = codes "good-after-error"
rule_name AcquireFence = codes "acquire-fence"
rule_name ReleaseFence = codes "release-fence"
rule_name ErrorTwice = codes "error-twice"
rule_name ErrorBesideRequestError = codes "error-beside-request-error"
rule_name RequestErrorLate = codes "request-error-late"
rule_name ErrorForGoodBuffer = codes "error-for-good-buffer"
rule_name ErrorUnknownStream = codes "error-unknown-stream"
rule_name FlushLeft = codes "flush-left"
rule_name CloseLeft = codes "close-left"
rule_name FailedWithoutNotice = codes "failed-without-notice"
rule_name NoShutter = codes "no-shutter"

abbrev pub side_of : Rule → Side
side_of InitOrder = Framework
side_of InitTwice = Framework
side_of NoConfiguration = Framework
side_of NoOutput = Framework
side_of NoSettings = Framework
side_of TwoInputs = Framework
side_of ConfigureInFlight = Framework
side_of OverlappingCalls = Framework
side_of CallAfterClose = Framework
side_of FrameNumber = Framework
side_of HeldBuffer = Framework
side_of RepeatedStream = Framework
side_of TooManyBuffers = Framework
side_of UnknownStream = Framework
side_of _ = Device

-- the sections of the header, and the comments of its calls, fields and types
abbrev pub section_of : Rule → List ℕ
section_of InitOrder = codes "S2.3, initialize"
section_of InitTwice = codes "initialize"
section_of NoConfiguration = codes "S2.4, configure_streams"
section_of NoOutput = codes "num_output_buffers, configure_streams"
section_of NoSettings = codes "settings"
section_of TwoInputs = codes "configure_streams"
section_of ConfigureInFlight = codes "S2.11, configure_streams, flush"
section_of OverlappingCalls = codes "process_capture_request, S2.12"
section_of CallAfterClose = codes "S2.12"
section_of FrameNumber = codes "frame_number"
section_of HeldBuffer = codes "output_buffers, S2.10"
section_of RepeatedStream = codes "inferred from process_capture_result"
section_of TooManyBuffers = codes "max_buffers"
section_of UnknownStream = codes "configure_streams"
section_of AcceptedBeforeInit = codes "S6"
section_of AcceptedInitTwice = codes "S6"
section_of AcceptedDead = codes "S6"
section_of AcceptedNoOutput = codes "configure_streams, num_output_buffers"
section_of AcceptedTwoInputs = codes "configure_streams"
section_of AcceptedNoSettings = codes "settings"
section_of AcceptedUnknownStream = codes "process_capture_request"
section_of NoMaxBuffers = codes "max_buffers"
section_of RefusedRequest = codes "process_capture_request, camera3_stream_t"
section_of RefusedAfterCallback = codes "process_capture_request"
section_of UnknownFrame = codes "frame_number, S6"
section_of CallbackAfterClose = codes "S2.12"
section_of CallbackAfterFailure = codes "S2.13"
section_of FailedWithFrames = codes "S2.13"
section_of ShutterTwice = codes "S2.9"
section_of ShutterAfterRequestError = codes "flush 2"
section_of EmptyResult = codes "process_capture_result"
section_of PartialNumber = codes "partial_result"
section_of PartialTwice = codes "result"
section_of MetadataAfterRequestError = codes "flush 2, S6"
section_of MetadataOrder = codes "process_capture_result"
section_of NotAtDevice = codes "process_capture_result"
section_of BufferStatus = codes "camera3_buffer_status"
section_of BufferOrder = codes "process_capture_result, flush 3.6"
section_of FailedBufferOrder = codes "process_capture_result, flush 3.6"
section_of GoodAfterError = codes "S6, flush 2"
section_of AcquireFence = codes "output_buffers"
section_of ReleaseFence = codes "S6, flush 2"
section_of ErrorTwice = codes "inferred from S6"
section_of ErrorBesideRequestError = codes "S6"
section_of RequestErrorLate = codes "S6, flush 3.4"
section_of ErrorForGoodBuffer = codes "S6"
section_of ErrorUnknownStream = codes "error_stream"
section_of FlushLeft = codes "flush"
section_of CloseLeft = codes "S2.12, process_capture_result"
section_of FailedWithoutNotice = codes "S6"
section_of NoShutter = codes "S2.9"
