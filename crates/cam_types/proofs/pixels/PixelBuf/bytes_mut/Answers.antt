use Rattle.std.proofs.Common.{refl, sym, arith, ◌∙◌}
use Rattle.std.proofs.lemmas.Grind.{common_steps}
use Rattle.cam_types.proofs.OverLemmas.{length-refilled, take-refilled, shown-same}
use Rattle.cam_types.proofs.pixels.PixelBuf.bytes_mut.Goals as goal

pub returns : goal.returns
returns c =
    rw (← c.self.view_is) (
      (refl, λ w. shown-same _ _ _ _ _ (take-refilled c.self.inside.used c.self.inside.block.len c.self.inside.block.items w (sym c.self.inside.block.ok.0) c.self.invariant) (length-refilled c.self.inside.block.len c.self.inside.block.items w (sym c.self.inside.block.ok.0))),
      record { writes_back = tt; value = c.slice_mut.ensures.value ∙ grind (arith, common_steps) },
    )
