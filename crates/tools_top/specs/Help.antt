-- What `help` writes, and the line for words that ask for no tool. (docs/FORMATS.md)
use Rattle.std.specs.Prelude.{ℕ, List, ◌++◌, codes}

abbrev pub usage_line : List ℕ
usage_line = codes "usage: camera hal [--plain] [--strict] | hal-of | candidates | explain | "
    ++ codes "timeline [--perfetto] | video STREAM | picture FRAME STREAM | help\n"

-- what `help` writes
abbrev pub help_text : List ℕ
help_text = codes "camera: judges logs of camera HALs, explains verdicts and shows runs\n" ++ usage_line
