use Rattle.std.proofs.Common.{◌≡◌, ◌++◌, take, map}
use Rattle.timeline_json.specs.Timelines.{behind_commas, thread}
use Rattle.timeline_json.proofs.whole.put_threads.Given as goal

abbrev pub invariant-loop-thread : goal.invariant-loop-thread
invariant-loop-thread l = l.out.items ≡ l.initial.out.items ++ behind_commas (map (λ t. thread t.0 t.1.now) (take l.thread-index l.threads))
