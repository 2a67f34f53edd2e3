-- What a judge has told of a log. k is the device's partial result count.
use Rattle.std.specs.Prelude.{◌≡◌, ℕ, Bool, List, None, if◌then◌else◌}
use Rattle.hal_model.specs.declared.event.HalEvent.{HalEvent}
use Rattle.hal_model.specs.declared.event.HalEvent.TheVariants.{ErrorBuffer}
use Rattle.hal_model.specs.declared.rule.Breach.{Breach}
use Rattle.hal_model.specs.declared.rule.Fault.{Fault}
use Rattle.hal_model.specs.declared.rule.Rule.{Rule}
use Rattle.hal_model.specs.declared.rule.Side.{Side}
use Rattle.hal_model.specs.Names.{side_of}
use Rattle.hal_model.specs.Rules.{at, frame_in, known, plain_rules, rules}
use Rattle.hal_rows.specs.State.{hal_state}
use Rattle.hal_table.specs.declared.table.HalTable.{HalTable}
use Rattle.hal_table.specs.State.{state_of}

-- the rules that a log is judged by
abbrev pub rules_for : Bool → List Rule
rules_for strict = if strict then rules else plain_rules

-- what is at fault in an error of a buffer is its stream too
abbrev pub named_in : HalEvent → Fault
named_in (ErrorBuffer n s) = at n s
named_in e = record { frame = frame_in e; stream = None }

-- whom a breach binds
abbrev pub side_told : Breach → Side
side_told b = side_of b.rule

-- the table has the state of what is known of the log
abbrev pub IsOf : ℕ → List HalEvent → HalTable → Type 0
IsOf k log t = state_of t ≡ hal_state k (known k log)
