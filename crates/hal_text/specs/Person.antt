-- The report of a hal log for a person. (docs/FORMATS.md, The report of a hal log for a person)
use Rattle.std.specs.Prelude.{ℕ, ◌-◌, ◌==◌, Bool, true, false, ◌&&◌, List, [], ◌∷◌, ◌++◌, length, take, reverse, nat_lt, Option, Some, None, slice_get, if◌then◌else◌, codes, decimal}
use Rattle.std.specs.List.{flat_map}
use Rattle.std.specs.Option.{option_map}
use Rattle.hal_model.specs.Names.{rule_name, section_of, side_of}
use Rattle.hal_model.specs.declared.event.HalEvent.{HalEvent}
use Rattle.hal_model.specs.declared.rule.Breach.{Breach}
use Rattle.hal_model.specs.declared.rule.Rule.{Rule}
use Rattle.hal_text.specs.Clues.{begin_clue, clue_of, is_call_of_request, is_limit, is_meant}
use Rattle.hal_text.specs.Sentences.{sentence_of}
use Rattle.hal_text.specs.Sum.{is_same_rule, sum_text}
use Rattle.hal_text.specs.declared.clue.Clue.{Clue}
use Rattle.hal_text.specs.declared.clue.Clue.TheVariants.{Session}
use Rattle.hal_text.specs.declared.clue.SessionClue.TheVariants as session
use Rattle.hal_text.specs.Plain.{side_text}
use Rattle.hal_model.specs.Spelling.{event_line}
use Rattle.hal_text.specs.declared.log.HalLog.{HalLog}

-- so many breaches, and so many open requests, are told of; the others are counted
abbrev pub told_limit : ℕ
told_limit = 100

-- ---- what is looked up: places in the log, counted from 0

-- of the newest event that the clue means, before one that limits it; the events are the newest first
abbrev pub newest : Clue → List HalEvent → Option ℕ
newest clue [] = None
newest clue (e ∷ past) =
    if is_meant clue e then Some (length past) else (if is_limit clue e then None else newest clue past)

abbrev pub newest_by : Option Clue → List HalEvent → Option ℕ
newest_by None past = None
newest_by (Some clue) past = newest clue past

-- what stands before a place, the newest first
abbrev pub before : HalLog → ℕ → List HalEvent
before log place = reverse (take place log.events)

-- the begin of a request
abbrev pub begin_of : ℕ → Clue
begin_of n = Session (session.RequestBegin n)

-- where the request begins that the breach is about; a call of the request itself names it
abbrev pub request_place : HalLog → Breach → HalEvent → Option ℕ
request_place log b e =
    if is_call_of_request e then None else newest_by (option_map begin_of b.frame) (before log b.line)

-- what else the breach refers to
abbrev pub clue_place : HalLog → Breach → HalEvent → Option ℕ
clue_place log b e = newest_by (clue_of b e) (before log b.line)

-- where the call begins that the event at the place ends
abbrev pub call_place : HalLog → ℕ → HalEvent → Option ℕ
call_place log place e = newest_by (begin_clue e) (before log place)

-- ---- texts; 10 is LF

-- `line N: EVENT`, of the event at a place; each event has its line
unfoldable pub line_of : Option ℕ → Option HalEvent → List ℕ
line_of (Some line) (Some e) = codes "line " ++ (decimal line ++ (codes ": " ++ event_line e))
line_of _ _ = []

abbrev pub place_text : HalLog → ℕ → List ℕ
place_text log place = line_of (slice_get log.lines place) (slice_get log.events place)

-- the same behind some words, where there is a place
unfoldable pub found_text : List ℕ → HalLog → Option ℕ → List ℕ
found_text words log None = []
found_text words log (Some place) = words ++ place_text log place

abbrev pub stream_part : Option ℕ → List ℕ
stream_part None = []
stream_part (Some s) = codes ", stream " ++ decimal s

-- where the request begins ends the line
unfoldable pub since_text : HalLog → Option ℕ → List ℕ
since_text log None = 10 ∷ []
since_text log (Some place) = codes ", since " ++ place_text log place

-- `frame N, stream S, since line N: EVENT`
unfoldable pub about_text : HalLog → Option ℕ → Option ℕ → Option ℕ → List ℕ
about_text log (Some n) s begin = codes "    frame " ++ (decimal n ++ (stream_part s ++ since_text log begin))
about_text log None (Some s) begin = codes "    stream " ++ (decimal s ++ 10 ∷ [])
about_text log None None begin = []

unfoldable pub detail_text : HalLog → Breach → HalEvent → List ℕ
detail_text log b e =
    about_text log b.frame b.stream (request_place log b e) ++ found_text (codes "      see ") log (clue_place log b e)

-- the event, and where its call begins
unfoldable pub event_text : HalLog → ℕ → HalEvent → List ℕ
event_text log place e = place_text log place ++ found_text (codes "  since ") log (call_place log place e)

-- `RULE (SIDE; camera3.h: SECTION): SENTENCE`
unfoldable pub rule_head : List ℕ → List ℕ → List ℕ
rule_head name side = codes "  " ++ (name ++ (codes " (" ++ side))

unfoldable pub rule_tail : List ℕ → List ℕ → List ℕ
rule_tail section sentence = codes "; camera3.h: " ++ (section ++ (codes "): " ++ (sentence ++ 10 ∷ [])))

abbrev pub rule_text : Rule → List ℕ
rule_text rule = rule_head (rule_name rule) (side_text (side_of rule)) ++ rule_tail (section_of rule) (sentence_of rule)

-- the breach before is of the same event; and of the same rule
abbrev pub is_same_event : Option Breach → Breach → Bool
is_same_event None b = false
is_same_event (Some a) b = a.line == b.line

abbrev pub is_same_heading : Option Breach → Breach → Bool
is_same_heading None b = false
is_same_heading (Some a) b = (a.line == b.line) && is_same_rule a.rule b.rule

-- the event once, each rule that it breaks once, and what each breach is about
unfoldable pub told_text : HalLog → Option Breach → Breach → HalEvent → List ℕ
told_text log last b e =
    (if is_same_event last b then [] else event_text log b.line e)
    ++ ((if is_same_heading last b then [] else rule_text b.rule) ++ detail_text log b e)

abbrev pub breach_text : HalLog → Option Breach → Breach → Option HalEvent → List ℕ
breach_text log last b None = []
breach_text log last b (Some e) = told_text log last b e

abbrev pub breaches_text : HalLog → Option Breach → List Breach → List ℕ
breaches_text log last [] = []
breaches_text log last (b ∷ bs) =
    breach_text log last b (slice_get log.events b.line) ++ breaches_text log (Some b) bs

-- how many more there are than are told of
unfoldable pub more_text : ℕ → List ℕ
more_text count =
    if nat_lt told_limit count
    then codes "and " ++ (decimal (count - told_limit) ++ codes " more, which hal --plain lists\n") else []

-- a request that is open, and where it begins
abbrev pub open_line : HalLog → ℕ → List ℕ
open_line log n = about_text log (Some n) None (newest (begin_of n) (reverse log.events))

unfoldable pub open_lines : HalLog → List ℕ → List ℕ
open_lines log outstanding =
    codes "open at the end of the log:\n"
    ++ (flat_map (open_line log) (take told_limit outstanding) ++ more_text (length outstanding))

abbrev pub open_text : HalLog → List ℕ → List ℕ
open_text log [] = []
open_text log outstanding = open_lines log outstanding

-- the report: the breaches, what is open at the end, and one line of sum
unfoldable pub person_text : HalLog → List Breach → List ℕ → List ℕ
person_text log breaches outstanding =
    breaches_text log None (take told_limit breaches)
    ++ (more_text (length breaches) ++ (open_text log outstanding ++ sum_text log.events breaches))
