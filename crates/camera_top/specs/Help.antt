-- What `help` writes, and the line for words that have no form. (docs/FORMATS.md)
use Rattle.std.specs.Prelude.{ℕ, List, ◌++◌, codes}

abbrev pub usage_line : List ℕ
usage_line = codes "usage: camera play | run --workers N | check | gen SEED COUNT | convert | arbiter | auto | logical | reprocess | help\n"

-- what `help` writes
abbrev pub help_text : List ℕ
help_text = codes "camera: plays, runs and judges HAL3 camera scripts\n" ++ usage_line
