use Rattle.run_rows.proofs.Sending.{sent_sound}
use Rattle.run_rows.proofs.rows.sent_rows_are_fresh.Goals as goal

pub returns-clause-sound : goal.returns-clause-sound
returns-clause-sound c = sent_sound
