use Rattle.std.proofs.Common.{◌+◌, arith, rules}
use Rattle.cam_types.specs.Picture.{chroma_blue, chroma_red}
use Rattle.picture_stages.specs.Cells.{IsBand}
use Rattle.picture_stages.proofs.PlaneLemmas.{wide-both, chroma-both}
use Rattle.picture_stages.proofs.bands.«+fn-write_bands-join_mut+arg2+fn-write_bands-join_mut+arg3+write_bands».Goals as goal

pub join_mut+arg2-write_bands-requires : goal.join_mut+arg2-write_bands-requires
join_mut+arg2-write_bands-requires g t c κs within =
    let all = c.requires.1 in
    let room = c.requires.3 in
    (search rules, (search rules, (c.requires.0, (all.0, (all.1, (c.requires.2, (room.0, (room.1, room.2))))))))

pub join_mut+arg2-returns : goal.join_mut+arg2-returns
join_mut+arg2-returns g t c = let band = c.write_bands.ensures in (band.luma, band.blue, band.red)

pub join_mut+arg3-write_bands-requires : goal.join_mut+arg3-write_bands-requires
join_mut+arg3-write_bands-requires g t c κs within =
    let all = c.requires.1 in
    let room = c.requires.3 in
    (search rules, (search rules, (c.requires.0, (all.0, (all.1, (c.requires.2, (room.0, (room.1, room.2))))))))

pub join_mut+arg3-returns : goal.join_mut+arg3-returns
join_mut+arg3-returns g t c = let band = c.write_bands.ensures in (band.luma, band.blue, band.red)

pub returns : goal.returns
returns g t c =
    let values = c.args.values.now in
    let first = c.args.first in
    let front = c.front_pairs-front.result in
    let before : IsBand values first c.front_luma-1.given.0 c.front_blue-1.given.0 c.front_red-1.given.0 = search rules in
    let behind : IsBand values (first + front) c.back_luma-1.given.0 c.back_blue-1.given.0 c.back_red-1.given.0 = search rules in
    record {
      luma = wide-both values c.front_luma-1.given.0 c.back_luma-1.given.0 first front (omega arith) before.0 behind.0;
      blue = chroma-both chroma_blue values c.front_blue-1.given.0 c.back_blue-1.given.0 first front (omega arith) before.1 behind.1;
      red = chroma-both chroma_red values c.front_red-1.given.0 c.back_red-1.given.0 first front (omega arith) before.2 behind.2;
    }
