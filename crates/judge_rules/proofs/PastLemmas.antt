-- Definitions by recursion on the past, entry by entry.
use Rattle.std.proofs.Common.{◌≡◌, List, ◌∷◌, refl}
use Rattle.cam_types.specs.declared.reply.Reply.TheVariants.{Ok, Submitted, Configured, Refused}
use Rattle.cam_types.specs.declared.script.Script.{Script}
use Rattle.trace_model.specs.declared.entry.Entry.{Entry}
use Rattle.trace_model.specs.declared.entry.Entry.TheVariants.{Call, Send}
use Rattle.trace_model.specs.Send.{last_settings, repeated_since_call}
use Rattle.judge_rules.specs.Steps.{repeated_after, settings_after}

pub repeated_more : (script : Script) (past : List Entry) (e : Entry) → repeated_since_call script (e ∷ past) ≡ repeated_after (repeated_since_call script past) script past e
repeated_more script past (Call i word reply) = refl
repeated_more script past (Send n r i same targets) = refl
repeated_more script past e = refl

pub settings_more : (script : Script) (past : List Entry) (e : Entry) → last_settings script (e ∷ past) ≡ settings_after (last_settings script past) script past e
settings_more script past (Call i word Ok) = refl
settings_more script past (Call i word (Submitted r)) = refl
settings_more script past (Call i word (Configured each)) = refl
settings_more script past (Call i word (Refused a b c)) = refl
settings_more script past (Send n r i same targets) = refl
settings_more script past e = refl
