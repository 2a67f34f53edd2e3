use Rattle.std.proofs.Common.{sym}
use Rattle.shared_camera.proofs.Making.{exposure-made}
use Rattle.shared_camera.proofs.moves.expose.Goals as goal

pub returns-in-Some : goal.returns-in-Some
returns-in-Some c = exposure-made c.in-Some.field-0 c.args.service.now c.shutter.new.self c.shutter.result (sym c.in-Some.ensures) c.shutter.ensures
