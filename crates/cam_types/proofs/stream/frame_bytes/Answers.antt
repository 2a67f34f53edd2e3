use Rattle.cam_types.proofs.PictureLemmas.{length-picture-Raw16, length-picture-Yuv}
use Rattle.cam_types.proofs.stream.frame_bytes.Goals as goal

pub returns-in-Raw16-eq160-eq120-clause-picture : goal.returns-in-Raw16-eq160-eq120-clause-picture
returns-in-Raw16-eq160-eq120-clause-picture c = λ s n. length-picture-Raw16 c.args.spec s n c.in-Raw16-eq160-eq120.is-0

pub returns-in-Yuv-eq160-eq120-clause-picture : goal.returns-in-Yuv-eq160-eq120-clause-picture
returns-in-Yuv-eq160-eq120-clause-picture c =
    λ s n. length-picture-Yuv c.args.spec s n 160 120 c.in-Yuv-eq160-eq120.is-0 c.in-Yuv-eq160-eq120.is-1 c.in-Yuv-eq160-eq120.is-2

pub returns-in-Yuv-eq80-eq60-clause-picture : goal.returns-in-Yuv-eq80-eq60-clause-picture
returns-in-Yuv-eq80-eq60-clause-picture c =
    λ s n. length-picture-Yuv c.args.spec s n 80 60 c.in-Yuv-eq80-eq60.is-0 c.in-Yuv-eq80-eq60.is-1 c.in-Yuv-eq80-eq60.is-2

pub returns-in-Yuv-eq40-eq30-clause-picture : goal.returns-in-Yuv-eq40-eq30-clause-picture
returns-in-Yuv-eq40-eq30-clause-picture c =
    λ s n. length-picture-Yuv c.args.spec s n 40 30 c.in-Yuv-eq40-eq30.is-0 c.in-Yuv-eq40-eq30.is-1 c.in-Yuv-eq40-eq30.is-2
