use Rattle.std.proofs.lemmas.Bool.Decides.{same_from_decides}
use Rattle.cam_types.proofs.Decided.{Decides-reply_eq}
use Rattle.rule_conditions.proofs.client.has_reply.Goals as goal

pub returns-in-Some : goal.returns-in-Some
returns-in-Some c = rw c.in-Some.is (same_from_decides _ _ c.is_reply.ensures (Decides-reply_eq _ c.args.reply))
