use Rattle.std.proofs.Common.{◌≡◌, ℕ, zero, suc, ◌<◌, List, [], ◌∷◌, Option, None, length, get_or, ◌∙◌, arith}
use Rattle.buffer_pool.specs.declared.parked.Parked.{Parked}
use Rattle.buffer_pool.proofs.slots.end_slots.Goals as goal

free : (slots : List (Option Parked)) (k : ℕ) (x : Option Parked) → k < length slots → x ≡ get_or slots k x → get_or slots k None ≡ None → x ≡ None
free [] k x within at none = absurd (omega arith)
free (slot ∷ slots) zero x within at none = at ∙ none
free (slot ∷ slots) (suc k) x within at none = free slots k x (omega arith) at none

pub end_six-requires : goal.end_six-requires
end_six-requires c = (free c.args.slots 0 _ (omega arith) c.a-1.given.1 (c.requires 0), free c.args.slots 1 _ (omega arith) c.b-1.given.1 (c.requires 1), free c.args.slots 2 _ (omega arith) c.c-1.given.1 (c.requires 2), free c.args.slots 3 _ (omega arith) c.d-1.given.1 (c.requires 3), free c.args.slots 4 _ (omega arith) c.e-1.given.1 (c.requires 4), free c.args.slots 5 _ (omega arith) c.f-1.given.1 (c.requires 5))

pub end_six-requires-2 : goal.end_six-requires-2
end_six-requires-2 c = (free c.args.slots 6 _ (omega arith) c.g-1.given.1 (c.requires 6), free c.args.slots 7 _ (omega arith) c.h-1.given.1 (c.requires 7), free c.args.slots 8 _ (omega arith) c.i-1.given.1 (c.requires 8), free c.args.slots 9 _ (omega arith) c.j-1.given.1 (c.requires 9), free c.args.slots 10 _ (omega arith) c.k-1.given.1 (c.requires 10), free c.args.slots 11 _ (omega arith) c.l-1.given.1 (c.requires 11))

pub end_six-requires-3 : goal.end_six-requires-3
end_six-requires-3 c = (free c.args.slots 12 _ (omega arith) c.m-1.given.1 (c.requires 12), free c.args.slots 13 _ (omega arith) c.n-1.given.1 (c.requires 13), free c.args.slots 14 _ (omega arith) c.o-1.given.1 (c.requires 14), free c.args.slots 15 _ (omega arith) c.p-1.given.1 (c.requires 15), free c.args.slots 16 _ (omega arith) c.q-1.given.1 (c.requires 16), free c.args.slots 17 _ (omega arith) c.r-1.given.1 (c.requires 17))
