-- A call after an event, by whether that begins or ends it.
use Rattle.std.specs.Prelude.{Bool, true, false, if◌then◌else◌}
use Rattle.hal_rows.specs.declared.device.Call.{Call}

abbrev pub call_after : Bool → Bool → Bool → Bool → Call → Call
call_after begins ends initialized dead c = record {
  out = if begins then true else (if ends then false else c.out);
  initialized = if begins then initialized else c.initialized;
  dead = if begins then dead else c.dead;
}
