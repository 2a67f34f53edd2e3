-- What goes through the whole picture (our own choice): lines that take a step at each place. 86 is `V`.
use Rattle.std.specs.Prelude.{ℕ, ◌+◌, ◌-◌, ◌*◌, Bool, List, ◌∷◌, ◌++◌, codes, decimal, min, if◌then◌else◌}
use Rattle.std.specs.List.{flat_map}
use Rattle.timeline_model.specs.declared.chart.Group.{Group}
use Rattle.timeline_model.specs.declared.chart.Kind.{Kind}
use Rattle.timeline_svg.specs.Places.{shift}

-- where the line of the level has its ground
abbrev pub ground_y : Kind → ℕ
ground_y kind = 120 + shift kind

-- how many items wait, or requests are live, two pixels each, up to twenty
abbrev pub level_y : Kind → ℕ → ℕ
level_y kind level = ground_y kind - 2 * min level 20

abbrev pub level_step : Kind → Group → List ℕ
level_step kind g = 86 ∷ (decimal (level_y kind g.level) ++ codes "h10")

-- down to the picture's bottom while something stops
abbrev pub band_y : ℕ → Bool → ℕ
band_y bottom stopping = if stopping then bottom else 16

abbrev pub band_step : ℕ → Group → List ℕ
band_step bottom g = 86 ∷ (decimal (band_y bottom g.stopping) ++ codes "h10")

unfoldable pub bands_text : ℕ → List Group → List ℕ
bands_text bottom groups =
    codes "<path class='u' d='M100 16" ++ (flat_map (band_step bottom) groups ++ codes "V16z'/>\n")

unfoldable pub level_text : Kind → List Group → List ℕ
level_text kind groups =
    codes "<path class='q' d='M100 "
    ++ (decimal (ground_y kind)
    ++ (flat_map (level_step kind) groups ++ (codes "V" ++ (decimal (ground_y kind) ++ codes "z'/>\n"))))
