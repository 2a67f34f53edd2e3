-- What is allowed in place of an entry, in words. (our own choice; docs/FORMATS.md, What explain writes)
use Rattle.std.specs.Prelude.{ℕ, Bool, true, false, List, [], ◌∷◌, ◌++◌, length, nat_lt, take, codes, decimal, if◌then◌else◌}
use Rattle.std.specs.List.{flat_map}
use Rattle.trace_text.specs.Spelling.{line_of}
use Rattle.wrong_words.specs.Lines.{most_lines}
use Rattle.allowed_entries.specs.declared.entry.AllowedEntry.{AllowedEntry}
use Rattle.allowed_entries.specs.declared.entry.AllowedEntry.TheVariants as known

-- the mark of a send, whose buffers are free
abbrev pub mark_text : Bool → List ℕ
mark_text true = codes " same ..\n"
mark_text false = codes " new ..\n"

-- a number behind what tells of which it is
unfoldable pub numbered : List ℕ → ℕ → List ℕ
numbered label n = label ++ decimal n

-- `send N rR.I M ..`
unfoldable pub send_text : ℕ → ℕ → ℕ → Bool → List ℕ
send_text n r i same =
    numbered (codes "send ") n ++ (numbered (codes " r") r ++ (numbered (codes ".") i ++ mark_text same))

-- `buffer N S bB ok - ..`
unfoldable pub filled_text : ℕ → ℕ → ℕ → List ℕ
filled_text n s b =
    numbered (codes "buffer ") n ++ (numbered (codes " ") s ++ (numbered (codes " b") b ++ codes " ok - ..\n"))

-- `filled dK ..`
unfoldable pub late_text : ℕ → List ℕ
late_text d = numbered (codes "filled d") d ++ codes " ..\n"

-- an entry's line, with `..` for what isn't told
abbrev pub allowed_text : AllowedEntry → List ℕ
allowed_text (known.Whole e) = line_of e
allowed_text (known.Send n r i same) = send_text n.0 r.0 i same
allowed_text (known.Filled n s b) = filled_text n.0 s.0 b.0
allowed_text (known.Late d) = late_text d.0

unfoldable pub allowed_line : AllowedEntry → List ℕ
allowed_line a = codes "    " ++ allowed_text a

-- `..` where more are allowed than are shown
abbrev pub more_mark : List AllowedEntry → List ℕ
more_mark all = if nat_lt most_lines (length all) then codes "    ..\n" else []

-- the first eight
unfoldable pub allowed_lines : List AllowedEntry → List ℕ
allowed_lines all = codes "Allowed here:\n" ++ (flat_map allowed_line (take most_lines all) ++ more_mark all)

-- behind their heading, or that there is none
abbrev pub allowed_part : List AllowedEntry → List ℕ
allowed_part [] = codes "Nothing is allowed here.\n"
allowed_part (a ∷ all) = allowed_lines (a ∷ all)
