use Rattle.std.proofs.Common.{sym}
use Rattle.shared_camera.proofs.Firsts.{chosen-alone}
use Rattle.shared_camera.proofs.Making.{choice-made}
use Rattle.shared_camera.proofs.moves.make_first.Goals as goal

pub make-requires : goal.make-requires
make-requires c =
    let s = c.args.service.now in
    chosen-alone c.args.kinds.now s.script s.history c.in-Some.step c.requires (sym c.in-Some.ensures)

pub returns-in-Some : goal.returns-in-Some
returns-in-Some c = choice-made c.args.kinds.now c.in-Some.step c.args.service.now c.make.new.self c.make.result (sym c.in-Some.ensures) c.make.ensures
