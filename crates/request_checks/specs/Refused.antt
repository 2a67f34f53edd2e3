use Rattle.std.specs.Prelude.{None}
use Rattle.cam_types.specs.declared.reply.Reply.{Reply}
use Rattle.cam_types.specs.declared.reply.Reply.TheVariants.{Refused}
use Rattle.request_checks.specs.declared.refusal.ConfigRefused.{ConfigRefused}

-- the reply that a refusal is: its stream is the first number
abbrev pub as_reply : ConfigRefused → Reply
as_reply refused = Refused refused.code refused.stream None
