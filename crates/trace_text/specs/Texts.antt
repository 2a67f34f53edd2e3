-- A trace behind a first line. (docs/FORMATS.md, trace text)
use Rattle.std.specs.Prelude.{ℕ, List, [], ◌∷◌, ◌++◌, codes}
use Rattle.std.specs.List.{flat_map}
use Rattle.text_parts.specs.Lines.{line_text}
use Rattle.trace_model.specs.declared.entry.Entry.{Entry}
use Rattle.trace_text.specs.Spelling.{line_of}

-- a trace with this first line
abbrev pub text_behind : List ℕ → List Entry → List ℕ
text_behind first trace = first ++ (flat_map line_of trace ++ line_text (codes "end" ∷ []))
