-- A trace with an entry of nearly each kind, and its hal log; a trace whose device fails, and its hal log.
use Rattle.std.specs.Prelude.{true, false, List, [], ◌∷◌, Some, None}
use Rattle.cam_types.specs.Worked.{shot}
use Rattle.cam_types.specs.declared.item.Item.{Item}
use Rattle.cam_types.specs.declared.partial_result.PartialResult.TheVariants.{Look, Light, Time}
use Rattle.cam_types.specs.declared.reply.Reply.TheVariants.{Ok as Accepted, Submitted, Configured, Refused}
use Rattle.cam_types.specs.declared.script.Command.TheVariants.{Configure, Burst, Flush, Disconnect}
use Rattle.cam_types.specs.declared.script.Script.{Script}
use Rattle.cam_types.specs.declared.script.Word.TheVariants.{Configure as WordConfigure, Burst as WordBurst, Flush as WordFlush, Disconnect as WordDisconnect}
use Rattle.cam_types.specs.declared.stream.Format.TheVariants.{Raw16 as RawFormat, Yuv as YuvFormat}
use Rattle.trace_model.specs.declared.entry.Entry.{Entry}
use Rattle.trace_model.specs.declared.entry.Entry.TheVariants.{Begin, Call, Send, Shutter, Partial, Failed, ErrorRequest, ErrorBuffer, ErrorDevice, Release, Signal, Early, Late}
use Rattle.hal_model.specs.declared.event.Direction.TheVariants.{Output}
use Rattle.hal_model.specs.declared.event.HalEvent.{HalEvent}
use Rattle.hal_model.specs.declared.event.HalEvent.TheVariants.{OpenBegin, OpenOk, InitBegin, InitOk, ConfigureBegin, ConfigureOk, RequestBegin, RequestOk, Shutter as HalShutter, ErrorRequest as HalErrorRequest, ErrorBuffer as HalErrorBuffer, ErrorDevice as HalErrorDevice, FlushBegin, FlushOk, CloseBegin, CloseEnd}
use Rattle.hal_model.specs.declared.event.HalFormat.TheVariants.{Raw16, Yuv}
use Rattle.hal_model.specs.declared.event.Status.TheVariants.{Filled as Okay, Failed as Faulty}
use Rattle.hal_model.specs.Worked.{gives, metadata, released, returned}
use Rattle.trace_model.specs.Worked.{buffer, device_fence, fence, frame, made, one, request, stream, two, with}

-- an item for the first stream, and one for both
abbrev pub item : Item
item = record {
  settings = shot 0 100 10000000 100;
  targets = record { count = 1; list = 0 ∷ 0 ∷ 0 ∷ 0 ∷ 0 ∷ 0 ∷ 0 ∷ 0 ∷ [] };
}

abbrev pub wide_item : Item
wide_item = record {
  settings = shot 0 100 10000000 100;
  targets = record { count = 2; list = 0 ∷ 1 ∷ 0 ∷ 0 ∷ 0 ∷ 0 ∷ 0 ∷ 0 ∷ [] };
}

abbrev pub script : Script
script = record {
  version = 2;
  profile = record { depth = 6; raw = 3; yuv = 4 };
  early = true;
  faults = [];
  picks = [];
  commands =
      Flush
      ∷ Configure
      (record { input = false; format = RawFormat; width = 160; height = 120 }
      ∷ record { input = false; format = YuvFormat; width = 40; height = 30 } ∷ [])
      ∷ Burst (wide_item ∷ item ∷ []) ∷ Flush ∷ Disconnect ∷ [];
}

-- what stands once the first frame is back: a flush is refused before the configuration; frame 0 has an early return
-- and a failed buffer
abbrev pub first_frame : List Entry
first_frame =
    Release (buffer 0) (fence 0) ∷ Late (device_fence 0) []
    ∷ Failed (frame 0) (stream 1) (buffer 5) None ∷ Partial (frame 0) 3 (Time 1000000000)
    ∷ Partial (frame 0) 2 (Light 10000000 100) ∷ ErrorBuffer (frame 0) (stream 1)
    ∷ Early (frame 0) (stream 0) (buffer 0) (device_fence 0) ∷ Partial (frame 0) 1 (Look 0 100)
    ∷ Shutter (frame 0) 1000000000
    ∷ Send (frame 0) (request 0) 0 false
    (two (with 0 0 None) (with 1 5 None))
    ∷ Call 2 WordBurst (Submitted (request 0))
    ∷ Call 1 WordConfigure (Configured (two (made 0 5) (made 5 6)))
    ∷ Begin WordConfigure ∷ Call 0 WordFlush (Refused 3 None None) ∷ Begin WordFlush ∷ []

abbrev pub first_frame_log : List HalEvent
first_frame_log =
    gives 0 (returned Faulty 1 5 ∷ []) ∷ metadata 0 3 ∷ metadata 0 2 ∷ HalErrorBuffer 0 (Some 1)
    ∷ gives 0 (released Okay 0 0 1 ∷ []) ∷ metadata 0 1 ∷ HalShutter 0 1000000000 ∷ RequestOk 0
    ∷ RequestBegin 0 false
    (record { stream = 0; buffer = 0; fence = None } ∷ record { stream = 1; buffer = 5; fence = None } ∷ []) false false
    ∷ ConfigureOk (record { stream = 0; max = 3 } ∷ record { stream = 1; max = 4 } ∷ [])
    ∷ ConfigureBegin None
    (record { stream = 0; format = Raw16; width = 160; height = 120; rotation = 0; direction = Output }
    ∷ record { stream = 1; format = Yuv; width = 40; height = 30; rotation = 0; direction = Output } ∷ [])
    ∷ InitOk ∷ InitBegin ∷ OpenOk ∷ OpenBegin ∷ []

-- then a flush finds frame 1, whose buffer has a fence that nobody signalled, and the client disconnects
abbrev pub flushed : List Entry
flushed =
    Call 4 WordDisconnect Accepted ∷ Begin WordDisconnect ∷ Signal (fence 0) ∷ Call 3 WordFlush Accepted
    ∷ Failed (frame 1) (stream 0) (buffer 0) (Some (fence 0)) ∷ ErrorRequest (frame 1) ∷ Begin WordFlush
    ∷ Send (frame 1) (request 0) 1 true
    (one (with 0 0 (Some (fence 0))))
    ∷ first_frame

abbrev pub flushed_log : List HalEvent
flushed_log =
    CloseEnd ∷ CloseBegin ∷ FlushOk ∷ FlushBegin ∷ FlushOk ∷ gives 1 (released Faulty 0 0 0 ∷ [])
    ∷ HalErrorRequest 1 ∷ FlushBegin ∷ RequestOk 1
    ∷ RequestBegin 1 true (record { stream = 0; buffer = 0; fence = Some 0 } ∷ []) false false ∷ first_frame_log

-- or the device fails, which a disconnect then doesn't flush
abbrev pub failed : List Entry
failed =
    Call 3 WordDisconnect Accepted ∷ Signal (fence 0) ∷ Begin WordDisconnect ∷ ErrorDevice ∷ first_frame

abbrev pub failed_log : List HalEvent
failed_log = CloseEnd ∷ CloseBegin ∷ HalErrorDevice ∷ first_frame_log
