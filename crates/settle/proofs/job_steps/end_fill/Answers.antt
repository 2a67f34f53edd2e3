use Rattle.std.proofs.Common.{ap, sym, ◌∙◌}
use Rattle.cam_types.specs.declared.job.JobView.{JobView}
use Rattle.cam_types.specs.declared.number.FrameNo.{FrameNo}
use Rattle.cam_types.specs.declared.number.StreamIx.{StreamIx}
use Rattle.run_model.specs.declared.step.StepName.TheVariants.{FillDone}
use Rattle.fill_jobs.specs.Held.{held_at}
use Rattle.service_parts.proofs.Moved.{fill-found}
use Rattle.service_core.specs.Answers.{Makes, silent}
use Rattle.settle.proofs.Making.{fill_of, jobs_on, ready_move, run_on, worked_out}
use Rattle.settle.proofs.job_steps.end_fill.Goals as goal

pub unreachable-requires : goal.unreachable-requires
unreachable-requires c =
    let old = c.args.service.now in
    let ready = ready_move old.script old.history (FillDone c.args.frame c.args.stream) c.requires.ready in
    let ends = c.jobs_that_end_are_out.ensures.fill old.script ready.0 old.history c.args.hands.now c.args.frame c.args.stream c.is_a_run.ensures.run c.requires.jobs ready.1 in
    let both = sym ends.1 ∙ (sym c.take_fill.ensures.value ∙ c.in-None.is) in
    absurd (cc)

pub fill_done-requires : goal.fill_done-requires
fill_done-requires c =
    let value = sym c.take_fill.ensures.value ∙ c.in-Some.is in
    let held = fill-found c.args.stream.0 (held_at c.args.frame.0 c.args.hands.now) c.in-Some.job value in
    worked_out c.args.service.now.script c.args.service.now.history c.fill.result c.in-Some.job c.fill.ensures.filled (c.requires.jobs.held c.args.frame.0 c.in-Some.job held.0)

pub returns-clause-made : goal.returns-clause-made
returns-clause-made c =
    let job = c.in-Some.job in
    let of = fill_of c.args.hands.now job c.args.frame c.args.stream (sym c.take_fill.ensures.value ∙ c.in-Some.is) in
    let same = ap (λ (j : JobView). j.fill) c.fill.ensures.filled ∙ of.fill in
    let frame = ap (λ (j : JobView). j.frame) c.fill.ensures.filled ∙ of.frame in
    let made : Makes (silent (FillDone c.fill.result.frame of.target.stream)) c.args.service.now c.fill_done.new.self = rw same at c.fill_done.ensures in
    record {
      move = silent (FillDone c.fill.result.frame of.target.stream);
      of = ap (λ (n : FrameNo). FillDone n of.target.stream) frame ∙ ap (λ (s : StreamIx). FillDone c.args.frame s) of.stream;
      made = made;
    }

pub returns-clause-jobs : goal.returns-clause-jobs
returns-clause-jobs c =
    let old = c.args.service.now in
    let new = c.fill_done.new.self in
    let job = c.in-Some.job in
    let value = sym c.take_fill.ensures.value ∙ c.in-Some.is in
    let of = fill_of c.args.hands.now job c.args.frame c.args.stream value in
    let same = ap (λ (j : JobView). j.fill) c.fill.ensures.filled ∙ of.fill in
    let frame = ap (λ (j : JobView). j.frame) c.fill.ensures.filled ∙ of.frame in
    let m = silent (FillDone c.fill.result.frame of.target.stream) in
    let made : Makes m old new = rw same at c.fill_done.ensures in
    let run = run_on old new m made.left c.is_a_run-in-Some.ensures.run in
    let step = ap (λ (n : FrameNo). FillDone n of.target.stream) frame ∙ ap (λ (s : StreamIx). FillDone c.args.frame s) of.stream in
    rw c.fill.ensures.stays (jobs_on old new m c.take_fill.new.self made.left (c.a_move_gives_a_job_back.ensures.fill old.script m old.history c.args.hands.now c.take_fill.new.self job c.args.frame c.args.stream run c.requires.jobs step value c.in-Some.ensures.taken))
