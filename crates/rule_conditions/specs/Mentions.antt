-- Which entries of the past a condition speaks of: the ones that `explain` shows beside it. (our own choice)
use Rattle.std.specs.Prelude.{ℕ, ◌==◌, Bool, true, false, ◌&&◌, ◌||◌, not, List, Option, Some, None, nat_lt}
use Rattle.std.specs.List.{list_any}
use Rattle.cam_types.specs.Four.{four_list}
use Rattle.cam_types.specs.declared.four.Four.{Four}
use Rattle.cam_types.specs.declared.number.FrameNo.{FrameNo}
use Rattle.trace_model.specs.declared.entry.Entry.{Entry}
use Rattle.trace_model.specs.declared.entry.Entry.TheVariants.{Begin, Call, Send, Dropped, Shutter, Partial, Filled, Failed, ErrorRequest, ErrorResult, ErrorBuffer, Release, Signal, Early, Late}
use Rattle.trace_model.specs.declared.entry.Sent.{Sent}
use Rattle.trace_model.specs.Calls.{is_submission, submits}
use Rattle.trace_model.specs.Configuration.{configures}
use Rattle.trace_model.specs.Entry.{is_call, is_early, is_early_with, is_late_with, is_numbering, is_release, is_stop, is_stop_word, names, releases_fence, signals, takes}
use Rattle.trace_model.specs.Filled.{lets_pass}
use Rattle.trace_model.specs.Frames.{has_error_request, has_shutter}
use Rattle.trace_model.specs.Open.{is_metadata_ended, is_open}
use Rattle.trace_model.specs.Place.{Client, Device, is_at, place}
use Rattle.rule_conditions.specs.declared.condition.Condition.{Condition}
use Rattle.rule_conditions.specs.declared.condition.Condition.TheVariants.{SendNextNumber, SendNextItem, SendNothingStops, SendFromPool, SendFenceOfBuffer, SendStreamsOfItem, SendBelowDepth, SendBelowMaxBuffers, SendNothingHoldsBack, SendNotTooFarAhead, SendMark, DropSomethingStops, DropNextNumber, DropFirstOfQueue, ShutterInOrder, ShutterNothingStops, ShutterTime, LastPartInOrder, DeliveryAtDevice, DeliveryBehindFence, DeliveryInOrder, EarlyNextFence, LateOfEarlyBuffer, LateToldOnce, LatePictureOfFrame, RequestErrorHasCause, ResultErrorInOrder, ResultErrorHasCause, ResultErrorBehindSomething, BufferErrorHasCause, BufferErrorBehindSomething, PartErrorOfStoppedRequest, DeviceErrorNothingStops, DeviceErrorAtFault, FailedAtDevice, FailedFence, ReleaseAtClient, ReleaseBehindPicture, ReleaseNextFence, SignalBehindRelease, SignalToldOnce, BeginOfWaitingCommand, BeginWord, BeginToldOnce, CallNextIndex, CallWord, CallBehindBegin, CallReply, CallNoFrameOpen, CallQueueEmpty, CallAllInPool, CallAwaitedFrames}
use Rattle.rule_conditions.specs.declared.mention.Mention.{Mention}
use Rattle.rule_conditions.specs.declared.mention.Mention.TheVariants as about

-- what a condition speaks of: mostly of the frame of the entry that breaks it
abbrev pub mention_of : Condition → Mention
mention_of SendNextNumber = about.Numbers
mention_of SendNextItem = about.Item
mention_of SendNothingStops = about.Stops
mention_of SendFromPool = about.Buffers
mention_of SendFenceOfBuffer = about.Buffers
mention_of SendStreamsOfItem = about.Item
mention_of SendBelowDepth = about.OpenFrames
mention_of SendBelowMaxBuffers = about.StreamsAtDevice
mention_of SendNothingHoldsBack = about.Begins
mention_of SendNotTooFarAhead = about.Calls
mention_of SendMark = about.Settings
mention_of DropSomethingStops = about.Stops
mention_of DropNextNumber = about.Numbers
mention_of DropFirstOfQueue = about.Item
mention_of ShutterInOrder = about.EarlierUnexposed
mention_of ShutterNothingStops = about.Stops
mention_of ShutterTime = about.Shutters
mention_of LastPartInOrder = about.EarlierUnended
mention_of DeliveryAtDevice = about.FrameAndBuffers
mention_of DeliveryBehindFence = about.FrameAndBuffers
mention_of DeliveryInOrder = about.EarlierHolding
mention_of EarlyNextFence = about.EarlyReturns
mention_of LateOfEarlyBuffer = about.EarlyReturns
mention_of LateToldOnce = about.Fence
mention_of LatePictureOfFrame = about.Fence
mention_of RequestErrorHasCause = about.FrameAndStops
mention_of ResultErrorInOrder = about.EarlierUnended
mention_of ResultErrorHasCause = about.FrameAndStops
mention_of ResultErrorBehindSomething = about.FrameAndStops
mention_of BufferErrorHasCause = about.FrameAndStops
mention_of BufferErrorBehindSomething = about.FrameAndStops
mention_of PartErrorOfStoppedRequest = about.FrameAndStops
mention_of DeviceErrorNothingStops = about.Stops
mention_of DeviceErrorAtFault = about.Shutters
mention_of FailedAtDevice = about.FrameAndBuffers
mention_of FailedFence = about.FrameAndBuffers
mention_of ReleaseAtClient = about.Buffers
mention_of ReleaseBehindPicture = about.Buffers
mention_of ReleaseNextFence = about.Releases
mention_of SignalBehindRelease = about.Releases
mention_of SignalToldOnce = about.Fence
mention_of BeginOfWaitingCommand = about.Calls
mention_of BeginWord = about.Calls
mention_of BeginToldOnce = about.Begins
mention_of CallNextIndex = about.Calls
mention_of CallWord = about.Calls
mention_of CallBehindBegin = about.Calls
mention_of CallReply = about.Calls
mention_of CallNoFrameOpen = about.OpenFrames
mention_of CallQueueEmpty = about.Submissions
mention_of CallAllInPool = about.AtClient
mention_of CallAwaitedFrames = about.Begins
mention_of _ = about.Frame

-- ---- what the entry that breaks a condition names: a frame, buffers, an item, a fence

-- the frame of an entry that has one
abbrev pub frame_of : Entry → Option FrameNo
frame_of (Send n _ _ _ _) = Some n
frame_of (Dropped n _ _) = Some n
frame_of (Shutter n _) = Some n
frame_of (Partial n _ _) = Some n
frame_of (Filled n _ _ _ _) = Some n
frame_of (Failed n _ _ _) = Some n
frame_of (Early n _ _ _) = Some n
frame_of (ErrorRequest n) = Some n
frame_of (ErrorResult n) = Some n
frame_of (ErrorBuffer n _) = Some n
frame_of _ = None

abbrev pub is_same_frame : Option FrameNo → Option FrameNo → Bool
is_same_frame (Some n) (Some m) = m.0 == n.0
is_same_frame _ _ = false

-- the entries are of one frame
abbrev pub shares_frame : Entry → Entry → Bool
shares_frame faulty e = is_same_frame (frame_of faulty) (frame_of e)

-- the second entry names a buffer of the first
abbrev pub shares_buffer : Entry → Entry → Bool
shares_buffer (Send _ _ _ _ targets) e = list_any (λ t. names t.buffer.0 e) (four_list targets)
shares_buffer (Filled _ _ b _ _) e = names b.0 e
shares_buffer (Failed _ _ b _) e = names b.0 e
shares_buffer (Early _ _ b _) e = names b.0 e
shares_buffer (Release b _) e = names b.0 e
shares_buffer _ e = false

-- the second entry accepted the request of the first, or takes its item
abbrev pub shares_item : Entry → Entry → Bool
shares_item (Send _ r i _ _) e = submits r.0 e || takes r.0 i e
shares_item (Dropped _ r i) e = submits r.0 e || takes r.0 i e
shares_item _ e = false

-- the second entry releases, gives or signals the fence of the first
abbrev pub shares_fence : Entry → Entry → Bool
shares_fence (Signal f) e = releases_fence f.0 e || signals f.0 e
shares_fence (Late d _) e = is_early_with d.0 e || is_late_with d.0 e
shares_fence _ e = false

-- ---- entries by themselves

-- a flush or a disconnect begins or is answered, or the device fails
abbrev pub is_stop_line : Entry → Bool
is_stop_line (Call _ word _) = is_stop_word word
is_stop_line e = is_stop e

abbrev pub is_begin : Entry → Bool
is_begin (Begin _) = true
is_begin _ = false

abbrev pub is_any_shutter : Entry → Bool
is_any_shutter (Shutter _ _) = true
is_any_shutter _ = false

-- the settings of a send, or a configuration
abbrev pub is_of_settings : Entry → Bool
is_of_settings (Send _ _ _ _ _) = true
is_of_settings e = configures e

-- ---- what the past makes of frames and buffers

unfoldable pub is_open_in : List Entry → ℕ → Bool
is_open_in past n = is_open n past

-- the frame has neither its shutter nor failed whole
unfoldable pub is_unexposed : List Entry → ℕ → Bool
is_unexposed past n = not (has_shutter n past || has_error_request n past)

-- its metadata hasn't ended
unfoldable pub is_unended : List Entry → ℕ → Bool
is_unended past n = not (is_metadata_ended n past)

-- it keeps later buffers of the stream back
unfoldable pub holds_back : List Entry → ℕ → ℕ → Bool
holds_back past s n = not (lets_pass past s n)

unfoldable pub is_with_device : List Entry → ℕ → Bool
is_with_device past b = is_at (place b past) Device

unfoldable pub is_with_client : List Entry → ℕ → Bool
is_with_client past b = is_at (place b past) Client

-- ---- entries by what the past makes of them

-- the entry sends a frame of which the test holds
abbrev pub sends_where : (ℕ → Bool) → Entry → Bool
sends_where p (Send m _ _ _ _) = p m.0
sends_where p _ = false

-- frame m is sent before that of an entry which has to keep the order of frames
abbrev pub is_before : ℕ → Entry → Bool
is_before m (Shutter n _) = nat_lt m n.0
is_before m (Partial n _ _) = nat_lt m n.0
is_before m (ErrorResult n) = nat_lt m n.0
is_before m (Filled n _ _ _ _) = nat_lt m n.0
is_before m (Early n _ _ _) = nat_lt m n.0
is_before m _ = false

-- the second entry sends an earlier frame than that of the first, one of which the test holds
abbrev pub sends_earlier : (ℕ → Bool) → Entry → Entry → Bool
sends_earlier p faulty e = sends_where (λ m. is_before m faulty && p m) e

-- frame m keeps the buffer of a later one back
abbrev pub keeps_back : List Entry → Entry → ℕ → Bool
keeps_back past (Filled _ s _ _ _) m = holds_back past s.0 m
keeps_back past (Early _ s _ _) m = holds_back past s.0 m
keeps_back past _ m = false

-- a buffer that was sent is at the device, for a stream of these targets
abbrev pub fills_one_of : List Entry → Four Sent → Sent → Bool
fills_one_of past targets u =
    list_any (λ t. t.stream.0 == u.stream.0) (four_list targets) && is_with_device past u.buffer.0

-- the entry sends a buffer that is at the device, for a stream of these targets
abbrev pub fills_by : List Entry → Four Sent → Entry → Bool
fills_by past targets (Send _ _ _ _ others) = list_any (fills_one_of past targets) (four_list others)
fills_by past targets _ = false

-- the second entry sends a buffer that is at the device, for a stream that the first sends one for too
abbrev pub fills_stream : List Entry → Entry → Entry → Bool
fills_stream past (Send _ _ _ _ targets) e = fills_by past targets e
fills_stream past _ e = false

-- the entry gave the client a buffer that is there still
abbrev pub is_at_client : List Entry → Entry → Bool
is_at_client past (Filled _ _ b _ _) = is_with_client past b.0
is_at_client past (Early _ _ b _) = is_with_client past b.0
is_at_client past _ = false

-- a condition that the first entry breaks speaks of the second, which stands in the past
abbrev pub is_mentioned : Mention → List Entry → Entry → Entry → Bool
is_mentioned about.Frame past faulty e = shares_frame faulty e
is_mentioned about.FrameAndStops past faulty e = shares_frame faulty e || is_stop_line e
is_mentioned about.FrameAndBuffers past faulty e = shares_frame faulty e || shares_buffer faulty e
is_mentioned about.Buffers past faulty e = shares_buffer faulty e
is_mentioned about.Item past faulty e = shares_item faulty e
is_mentioned about.Fence past faulty e = shares_fence faulty e
is_mentioned about.Numbers past faulty e = is_numbering e
is_mentioned about.Stops past faulty e = is_stop_line e
is_mentioned about.Begins past faulty e = is_begin e
is_mentioned about.Calls past faulty e = is_call e || is_begin e
is_mentioned about.Submissions past faulty e = is_submission e
is_mentioned about.Shutters past faulty e = is_any_shutter e
is_mentioned about.Settings past faulty e = is_of_settings e
is_mentioned about.EarlyReturns past faulty e = is_early e
is_mentioned about.Releases past faulty e = is_release e
is_mentioned about.OpenFrames past faulty e = sends_where (is_open_in past) e
is_mentioned about.StreamsAtDevice past faulty e = fills_stream past faulty e
is_mentioned about.AtClient past faulty e = is_at_client past e
is_mentioned about.EarlierUnexposed past faulty e = sends_earlier (is_unexposed past) faulty e
is_mentioned about.EarlierUnended past faulty e = sends_earlier (is_unended past) faulty e
is_mentioned about.EarlierHolding past faulty e = sends_earlier (keeps_back past faulty) faulty e

abbrev pub mentions : Condition → List Entry → Entry → Entry → Bool
mentions condition past faulty e = is_mentioned (mention_of condition) past faulty e
