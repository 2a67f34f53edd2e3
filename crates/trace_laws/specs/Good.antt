-- What of a frame is good. (docs/CONTRACT.md, Laws)
use Rattle.std.specs.Prelude.{ℕ, Bool, false, ◌==◌}
use Rattle.trace_model.specs.declared.entry.Entry.{Entry}
use Rattle.trace_model.specs.declared.entry.Entry.TheVariants.{Partial, Filled, Early}

-- the entry brings metadata of frame n, a buffer with its picture, or one that comes back before its picture
abbrev pub is_good_of : ℕ → Entry → Bool
is_good_of n (Partial m k part) = m.0 == n
is_good_of n (Filled m s b f digest) = m.0 == n
is_good_of n (Early m s b d) = m.0 == n
is_good_of n _ = false
