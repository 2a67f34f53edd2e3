-- What is shown of an entry's line in the trace. (docs/FORMATS.md, Trace text)
use Rattle.std.specs.Prelude.{ℕ, List}
use Rattle.timeline_model.specs.Lines.{front_of}
use Rattle.trace_model.specs.declared.entry.Entry.{Entry}
use Rattle.trace_model.specs.declared.entry.Entry.TheVariants.{Partial, Filled, Late}
use Rattle.trace_text.specs.Spelling.{line_of}

-- digests and packed metadata stand at the ends of their lines, and are cut; no number before them is
abbrev pub shown_length : Entry → ℕ
shown_length (Partial _ _ _) = 40
shown_length (Filled _ _ _ _ _) = 40
shown_length (Late _ _) = 40
shown_length _ = 160

abbrev pub shown_line : Entry → List ℕ
shown_line e = front_of (shown_length e) (line_of e)
