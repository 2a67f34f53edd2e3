use Rattle.hal_model.proofs.Configured.{configure-line}
use Rattle.hal_model.proofs.written_event.write_configure.Goals as goal

pub returns-clause-text : goal.returns-clause-text
returns-clause-text c = configure-line _ _ _ _ _ _ _ c.in_ok-push_str.ensures.bytes c.in_ok-write_mode.ensures.text c.in_ok-write_list.ensures.text c.in_ok-push_str-2.ensures.bytes
