use Rattle.std.specs.Prelude.{ℕ, ◌==◌, Bool, ◌&&◌, ◌||◌, Option, None, is_none, if◌then◌else◌}
use Rattle.cam_types.specs.declared.four.Four.{Four}

-- the value at a place, from 0 on
abbrev pub at_place : {T : Type 0} → Four T → ℕ → Option T
at_place f s =
    if s == 0 then f.a else (if s == 1 then f.b else (if s == 2 then f.c else (if s == 3 then f.d else None)))

-- the test passes at each place that has a value
abbrev pub each_place : {T : Type 0} → Four T → (ℕ → Bool) → Bool
each_place f p =
    (is_none f.a || p 0) && ((is_none f.b || p 1) && ((is_none f.c || p 2) && (is_none f.d || p 3)))
