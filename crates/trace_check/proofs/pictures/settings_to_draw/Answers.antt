use Rattle.std.proofs.Common.{◌≡◌, arith}
use Rattle.std.specs.Prelude.{is_none}
use Rattle.cam_types.specs.Metadata.{range_fault}
use Rattle.trace_check.proofs.Dark.{drawn_dark}
use Rattle.trace_check.proofs.pictures.settings_to_draw.Goals as goal

pub returns-else-is_none-clause-picture : goal.returns-else-is_none-clause-picture
returns-else-is_none-clause-picture c =
    let is : c.is_none.result ≡ is_none (range_fault c.args.settings) = grind arith in
    drawn_dark c.args.settings c.is_none.result c.requires is c.if-is_none.false
