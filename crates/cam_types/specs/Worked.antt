use Rattle.std.specs.Prelude.{ℕ}
use Rattle.cam_types.specs.declared.item.Settings.{Settings}

-- settings from their four numbers
abbrev pub shot : ℕ → ℕ → ℕ → ℕ → Settings
shot pattern level exposure iso = record { pattern = pattern; level = level; exposure = exposure; iso = iso }
