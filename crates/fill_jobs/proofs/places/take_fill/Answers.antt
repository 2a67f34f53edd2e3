use Rattle.std.proofs.Common.{◌≡◌, ◌∙◌, Option, Some, true, false, refl, ap, sym}
use Rattle.fill_jobs.specs.declared.handed_job.Job.{Job}
use Rattle.fill_jobs.specs.declared.handed_job.Job.TheVariants.{Fill}
use Rattle.fill_jobs.specs.Places.{has_fill}
use Rattle.fill_jobs.proofs.PlaceLemmas.{IsFrameAt, frame_at, frame_none, no_fill_job, fill_job}
use Rattle.fill_jobs.proofs.places.take_fill.Goals as goal

pub returns-in_err-place-clause-value : goal.returns-in_err-place-clause-value
returns-in_err-place-clause-value c =
    let none = frame_none c.args.frame.0 0 c.args.places.now (sym c.in_err-place.ensures.value) in rw (c.from_residual.ensures, none) refl

pub returns-then-not-is_fill_in-clause-value : goal.returns-then-not-is_fill_in-clause-value
returns-then-not-is_fill_in-clause-value c =
    let first = frame_at c.args.frame.0 c.in_ok-place.place c.args.places.now (sym c.in_ok-place.ensures.value) in
    let there = ap (λ (place : Option Job). has_fill c.args.stream.0 place) (first.taken.there c.index-places-place.result) in
    let other : has_fill c.args.stream.0 (Some first.job) ≡ false = sym there ∙ (sym c.is_fill_in.ensures ∙ c.if-not-is_fill_in.true) in
    rw first.held (sym (no_fill_job c.args.stream.0 first.job other (first.taken.fits c.requires)))

first-of : (c : goal.In-Some-Fill) → IsFrameAt c.args.frame.0 c.in_ok-place.place c.args.places.now
first-of c = frame_at c.args.frame.0 c.in_ok-place.place c.args.places.now (sym c.in_ok-place.ensures.value)

taken-is : (c : goal.In-Some-Fill) → (first-of c).job ≡ Fill c.in-Some-Fill.job
taken-is c =
    let first = first-of c in
    let there = first.taken.there c.index-places-place-2.result in
    let value = c.take.ensures.value in
    let is = c.in-Some-Fill.is in
    let field = c.in-Some-Fill.field-0-is in
    cc

pub returns-clause-value : goal.returns-clause-value
returns-clause-value c =
    let first = first-of c in
    let there = ap (λ (place : Option Job). has_fill c.args.stream.0 place) (first.taken.there c.index-places-place.result) in
    let sought : has_fill c.args.stream.0 (Some first.job) ≡ true = sym there ∙ (sym c.is_fill_in.ensures ∙ c.if-not-is_fill_in.false) in
    rw first.held (fill_job c.args.stream.0 first.job c.in-Some-Fill.job (taken-is c) sought)

pub returns-clause-taken : goal.returns-clause-taken
returns-clause-taken c =
    let less = (first-of c).taken.less in
    rw c.take.ensures.after (rw (taken-is c) at less)

pub returns-clause-fit : goal.returns-clause-fit
returns-clause-fit c = rw c.take.ensures.after ((first-of c).taken.left c.requires)
