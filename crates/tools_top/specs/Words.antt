-- Which tools read the source, and how much of it. (docs/FORMATS.md, Limits)
use Rattle.std.specs.Prelude.{ℕ, Option, Some, None}
use Rattle.tools_top.specs.declared.tool.Tool.{Tool}
use Rattle.tools_top.specs.declared.tool.Tool.TheVariants.{Candidates, Explain, Hal, HalOf, Picture, Timeline, Video}

-- the most bytes of an input that the tool takes, where it reads one: a script's, a hal log's, and a trace's behind its
-- script
abbrev pub limit_of : Option Tool → Option ℕ
limit_of (Some (Hal _ _)) = Some 134217728
limit_of (Some HalOf) = Some 134217728
limit_of (Some Candidates) = Some 65536
limit_of (Some Explain) = Some 134217728
limit_of (Some (Timeline _)) = Some 134217728
limit_of (Some (Video _)) = Some 65536
limit_of (Some (Picture _ _)) = Some 65536
limit_of _ = None
