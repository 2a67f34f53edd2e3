-- What `explain` says of picks that choose nothing. (our own choice; docs/FORMATS.md, What explain writes)
use Rattle.std.specs.Prelude.{ℕ, ◌-◌, List, [], ◌++◌, Option, Some, None, codes, decimal, if◌then◌else◌, length, nat_lt}
use Rattle.cam_types.specs.declared.script.Script.{Script}
use Rattle.wrong_words.specs.Places.{pick_number}

-- the number of a line, where there is one
unfoldable pub line_head : Option ℕ → List ℕ
line_head None = codes "    "
line_head (Some n) = codes "    line " ++ (decimal n ++ codes "  ")

-- so many picks of all
unfoldable pub picks_left : ℕ → ℕ → List ℕ
picks_left first all = decimal (all - first) ++ (codes " of " ++ decimal all)

-- and the first of them
unfoldable pub picks_from : ℕ → List ℕ
picks_from first = codes ", from pick " ++ (decimal first ++ codes " on\n")

-- the line in which the first of them stands, and what it is told of them
unfoldable pub unused_line : Script → List ℕ → ℕ → List ℕ
unused_line script part first =
    line_head (pick_number part first) ++ (picks_left first (length script.picks) ++ picks_from first)

unfoldable pub heading : List ℕ
heading = codes "Picks that play never uses, since its run is over before:\n"

-- Pick j chooses move j. So where the script's played run has fewer moves than there are picks, the rest do nothing.
abbrev pub picks_part : Script → List ℕ → ℕ → List ℕ
picks_part script part moves =
    if nat_lt moves (length script.picks) then heading ++ unused_line script part moves else []
