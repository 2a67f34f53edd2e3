use Rattle.std.proofs.Common.{◌≡◌, ◌≤◌, ◌==◌, not, filter, take, drop, vec_len}
use Rattle.judge_rows.proofs.fences.leave_out.Given as goal

abbrev pub invariant-loop-place : goal.invariant-loop-place
invariant-loop-place l = record {
  items : take l.kept l.waiting.items ≡ filter (λ n. not (n == l.fence)) (take l.place l.initial.waiting.items);
  rest : drop l.place l.waiting.items ≡ drop l.place l.initial.waiting.items;
  within : l.kept ≤ l.place;
  len : vec_len l.waiting ≡ vec_len l.initial.waiting;
}
