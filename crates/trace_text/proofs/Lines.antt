-- The whole text of a trace, by its parts.
use Rattle.std.proofs.Common.{◌≡◌, ℕ, List, [], ◌++◌, codes, ap, append_assoc}
use Rattle.std.specs.List.{flat_map}
use Rattle.trace_model.specs.declared.entry.Entry.{Entry}
use Rattle.trace_text.specs.Spelling.{line_of}
use Rattle.trace_text.specs.Texts.{text_behind}

-- the whole text
pub spelled : (first : List ℕ) (trace : List Entry) → (first ++ flat_map line_of trace) ++ codes "end\n" ≡ text_behind first trace
spelled first trace = append_assoc first (flat_map line_of trace) (codes "end\n")

-- the first line, and what comes after it
pub opened-spelled : (first : List ℕ) (trace : List Entry) (none : List ℕ) → none ≡ [] → (none ++ first) ++ (flat_map line_of trace ++ codes "end\n") ≡ text_behind first trace
opened-spelled first trace none e = ap (λ (l : List ℕ). (l ++ first) ++ (flat_map line_of trace ++ codes "end\n")) e
