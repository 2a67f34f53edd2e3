use Rattle.std.proofs.Common.{◌≡◌, filter, reverse, take}
use Rattle.trace_model.specs.Entry.{is_call}
use Rattle.video_call.specs.Film.{film}
use Rattle.video_call.proofs.film.film_of.Given as goal

abbrev pub invariant-loop-place : goal.invariant-loop-place
invariant-loop-place l = record {
  calls : l.calls.items ≡ filter is_call (take l.place l.entries);
  shots : l.shots.items ≡ film l.script l.stream.0 (reverse (take l.place l.entries));
}
