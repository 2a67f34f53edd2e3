-- What the log of any list of calls keeps of the header's rules, whatever the framework does.
use Rattle.std.specs.Prelude.{◌≡◌, true, false, Bool, List, [], ◌∷◌}
use Rattle.std.specs.List.{list_any}
use Rattle.cam_types.specs.declared.profile.Profile.{Profile}
use Rattle.cam_types.specs.declared.script.Fault.{Fault}
use Rattle.hal_device_model.specs.Log.{HalCall, log_of, whole_log}
use Rattle.hal_device_model.specs.State.{opened}
use Rattle.hal_model.specs.Rules.{breaks_in_session, keeps, keeps_in_session, keeps_with}
use Rattle.hal_model.specs.declared.event.HalEvent.{HalEvent}
use Rattle.hal_model.specs.declared.rule.Rule.{Rule}
use Rattle.hal_model.specs.declared.rule.Rule.TheVariants.{FrameNumber, UnknownFrame, ShutterTwice, ShutterAfterRequestError, EmptyResult, PartialNumber, PartialTwice, MetadataAfterRequestError, NotAtDevice, BufferStatus, GoodAfterError, AcquireFence, ReleaseFence, ErrorTwice, ErrorBesideRequestError, ErrorUnknownStream, CallbackAfterClose}

-- the rules that are kept
abbrev pub kept_rules : List Rule
kept_rules =
    ShutterTwice ∷ ShutterAfterRequestError ∷ EmptyResult ∷ PartialNumber ∷ PartialTwice ∷ MetadataAfterRequestError
    ∷ NotAtDevice ∷ BufferStatus ∷ GoodAfterError ∷ AcquireFence ∷ ReleaseFence ∷ ErrorTwice ∷ ErrorBesideRequestError
    ∷ ErrorUnknownStream ∷ CallbackAfterClose ∷ []

-- the event breaks one of them; the device's partial result count is 3
abbrev pub breaks_one : HalEvent → List HalEvent → Bool
breaks_one e past = list_any (λ rule. breaks_in_session 3 rule e past) kept_rules

-- no event of the log does
abbrev pub KeepsThem : Profile → List Fault → List HalCall → Type 0
KeepsThem profile faults calls = keeps_with breaks_one (log_of (opened profile faults) calls) ≡ true

-- those of the judge's report that stand nowhere in it, where the framework gives no request a number that isn't above
-- the accepted ones
abbrev pub is_judged : Rule → Bool
is_judged ShutterTwice = true
is_judged ShutterAfterRequestError = true
is_judged EmptyResult = true
is_judged PartialNumber = true
is_judged PartialTwice = true
is_judged MetadataAfterRequestError = true
is_judged NotAtDevice = true
is_judged BufferStatus = true
is_judged GoodAfterError = true
is_judged AcquireFence = true
is_judged ReleaseFence = true
is_judged ErrorTwice = true
is_judged ErrorBesideRequestError = true
is_judged ErrorUnknownStream = true
is_judged CallbackAfterClose = true
is_judged UnknownFrame = true
is_judged _ = false

abbrev pub KeepsJudged : Profile → List Fault → List HalCall → Rule → Type 0
KeepsJudged profile faults calls rule =
    keeps_in_session 3 (log_of (opened profile faults) calls) FrameNumber ≡ true → is_judged rule ≡ true →
    keeps 3 (whole_log (opened profile faults) calls) rule ≡ true
