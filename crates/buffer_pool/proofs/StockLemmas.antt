-- Blocks that are lent and come back, one after another.
use Rattle.std.proofs.Common.{◌≡◌, ℕ, ◌+◌, ◌-◌, refl, ap, ◌∙◌, arith}
use Rattle.cam_types.specs.declared.stream.Format.{Format}
use Rattle.cam_types.specs.declared.stream.Format.TheVariants.{Raw16, Yuv, Other}
use Rattle.buffer_pool.specs.Blocks.{Counts, Stock, with_lent, with_returned}

counts-same : (a b c d : ℕ) → a ≡ b → c ≡ d → (let k : Counts = record { free = a; lent = c } in k) ≡ record { free = b; lent = d }
counts-same a b c d e f = rw (e, f) refl

abbrev with_raw : Stock → Counts → Stock
with_raw b c = record b { raw = c }

abbrev with_yuv : Stock → Counts → Stock
with_yuv b c = record b { yuv = c }

pub with_lent-more : (format : Format) (n : ℕ) (b : Stock) → with_lent format 1 (with_lent format n b) ≡ with_lent format (n + 1) b
with_lent-more Raw16 n b = ap (λ (c : Counts). with_raw b c) (counts-same (b.raw.free - n - 1) (b.raw.free - (n + 1)) (b.raw.lent + n + 1) (b.raw.lent + (n + 1)) (omega arith) (omega arith))
with_lent-more Yuv n b = ap (λ (c : Counts). with_yuv b c) (counts-same (b.yuv.free - n - 1) (b.yuv.free - (n + 1)) (b.yuv.lent + n + 1) (b.yuv.lent + (n + 1)) (omega arith) (omega arith))
with_lent-more (Other k) n b = refl

pub with_returned-none : (format : Format) (b : Stock) → b ≡ with_returned format 0 b
with_returned-none Raw16 b = ap (λ (c : Counts). with_raw b c) (counts-same b.raw.free (b.raw.free + 0) b.raw.lent (b.raw.lent - 0) (omega arith) (omega arith))
with_returned-none Yuv b = ap (λ (c : Counts). with_yuv b c) (counts-same b.yuv.free (b.yuv.free + 0) b.yuv.lent (b.yuv.lent - 0) (omega arith) (omega arith))
with_returned-none (Other k) b = refl
