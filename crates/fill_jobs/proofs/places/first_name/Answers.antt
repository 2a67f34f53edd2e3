use Rattle.std.proofs.Common.{◌≡◌, ◌∙◌, Some, refl, sym}
use Rattle.fill_jobs.proofs.PlaceLemmas.{first_at, none_taken}
use Rattle.fill_jobs.proofs.places.first_name.Goals as goal

pub returns-in_err-place : goal.returns-in_err-place
returns-in_err-place c =
    let none = none_taken 0 c.args.places.now (sym c.in_err-place.ensures.value) in rw (c.from_residual.ensures, none) refl

pub returns : goal.returns
returns c =
    let first = first_at c.in_ok-place.place c.args.places.now (sym c.in_ok-place.ensures.value) in
    let there : c.index-places-place.result ≡ Some first.job = c.index-places-place.is ∙ first.there c.index-places-place.result in
    rw (c.name_in.ensures, there, first.first) refl
