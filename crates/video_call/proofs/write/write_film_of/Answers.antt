use Rattle.std.proofs.Common.{inl, inr, refl}
use Rattle.video_call.proofs.Written.{film-is}
use Rattle.video_call.proofs.write.write_film_of.Goals as goal

pub returns-in-Ok-write_reel : goal.returns-in-Ok-write_reel
returns-in-Ok-write_reel g c =
    let e = film-is c.args.spec c.args.shots.now c.in-Ok.reel.head.items c.in-Ok.reel.frame_head.items c.in-Ok.ensures.head c.in-Ok.ensures.frame_head in
    inr (inl (refl, (rw e at c.in-Ok-write_reel.ensures.written, c.in-Ok-write_reel.ensures.faults)))

pub returns-in-Err-write_reel : goal.returns-in-Err-write_reel
returns-in-Err-write_reel g c =
    let e = film-is c.args.spec c.args.shots.now c.in-Ok.reel.head.items c.in-Ok.reel.frame_head.items c.in-Ok.ensures.head c.in-Ok.ensures.frame_head in
    inr (inr (refl, (rw e at c.in-Err-write_reel.ensures.failed, c.in-Err-write_reel.ensures.faults)))
