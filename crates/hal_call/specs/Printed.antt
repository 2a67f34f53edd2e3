-- The text of the hal log of a legal trace.
use Rattle.std.specs.Prelude.{ℕ, List, reverse, IsTrue}
use Rattle.cam_types.specs.Script.{is_valid}
use Rattle.cam_types.specs.declared.script.Script.{Script}
use Rattle.trace_model.specs.declared.entry.Entry.{Entry}
use Rattle.trace_model.specs.Legal.{IsLegal}
use Rattle.hal_model.specs.Hal.{whole_log}
use Rattle.hal_model.specs.declared.event.HalEvent.{HalEvent}
use Rattle.hal_model.specs.Fits.{is_valid as is_valid_log}
use Rattle.hal_model.specs.Spelling.{text_of}

-- the partial result count of the profile
abbrev pub parts : ℕ
parts = 3

-- the hal log of a trace, the oldest event first
abbrev pub log_of : Script → List Entry → List HalEvent
log_of script entries = reverse (whole_log script (reverse entries))

abbrev pub log_text : Script → List Entry → List ℕ
log_text script entries = text_of parts (log_of script entries)

-- the hal log of a legal trace of a valid script has a text
abbrev pub LogPrints : Script → List Entry → Type 0
LogPrints script entries =
    IsTrue (is_valid script) → IsLegal script (reverse entries) → IsTrue (is_valid_log parts (log_of script entries))
