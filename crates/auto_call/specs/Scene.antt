use Rattle.std.specs.Prelude.{ℕ, zero, suc, ◌+◌, nat_le}
use Rattle.cam_types.specs.declared.item.Settings.{Settings}
use Rattle.auto_call.specs.Brightness.{mean, at_step}
use Rattle.auto_call.specs.Search.{Search, start, step_of, narrowed}

-- What a search sees of a scene. (our own choice)

-- the next frame, number n, of a scene with the settings is bright enough for the target
abbrev pub seen : Settings → ℕ → ℕ → Search → Search
seen s target n search = narrowed (nat_le target (mean (at_step s (step_of search)) n)) search

-- the search after so many frames of a scene whose first frame has the number `first`: each frame is captured at the
-- search's step, and its mean is compared with the target
unfoldable pub measured : Settings → ℕ → ℕ → ℕ → Search
measured s target first zero = start
measured s target first (suc frames) = seen s target (first + frames) (measured s target first frames)
