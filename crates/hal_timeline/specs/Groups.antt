-- What is drawn of each event of a log, which has the newest event first. k is the device's partial result count.
use Rattle.std.specs.Prelude.{ℕ, ◌==◌, Bool, true, false, ◌&&◌, not, List, [], ◌∷◌, ◌++◌, Option, Some, None, filter, length, slice_get}
use Rattle.hal_model.specs.Rules.{breaches_in, known, plain_rules}
use Rattle.hal_model.specs.Words.{frames, is_live}
use Rattle.hal_model.specs.declared.event.HalEvent.{HalEvent}
use Rattle.hal_model.specs.declared.rule.Breach.{Breach}
use Rattle.hal_model.specs.Spelling.{event_line}
use Rattle.timeline_model.specs.Lines.{front_of}
use Rattle.timeline_model.specs.declared.chart.Group.{Group}
use Rattle.hal_timeline.specs.Pieces.{pieces_of}
use Rattle.hal_timeline.specs.Walks.{calls, is_stopping, standing}

-- how many requests are live, by what was heard
abbrev pub live_among : ℕ → List HalEvent → ℕ
live_among k heard = length (filter (λ n. is_live k n heard) (frames heard))

abbrev pub live_count : ℕ → List HalEvent → ℕ
live_count k log = live_among k (known k log)

-- the number of the line of the event at a place
abbrev pub or_none : Option ℕ → ℕ
or_none (Some line) = line
or_none None = 0

abbrev pub number_at : List ℕ → ℕ → ℕ
number_at lines place = or_none (slice_get lines place)

-- the front of its line, in the one spelling
unfoldable pub shown_event : HalEvent → List ℕ
shown_event e = front_of 160 (event_line e)

abbrev pub is_some_breach : List Breach → Bool
is_some_breach [] = false
is_some_breach (b ∷ bs) = true

abbrev pub is_same_bool : Bool → Bool → Bool
is_same_bool true b = b
is_same_bool false b = not b

-- the event breaks a rule
abbrev pub is_broken : ℕ → HalEvent → List HalEvent → Bool
is_broken k e past = is_some_breach (breaches_in k e past plain_rules)

-- another level, or another band
abbrev pub is_changed : ℕ → ℕ → Bool → Bool → Bool
is_changed level next stopping then_stopping = not ((level == next) && is_same_bool stopping then_stopping)

abbrev pub group_of : ℕ → List ℕ → HalEvent → List HalEvent → Group
group_of k lines e past = record {
  place = length past;
  line = number_at lines (length past);
  title = shown_event e;
  pieces = pieces_of e (standing past);
  level = live_count k (e ∷ past);
  stopping = is_stopping (calls (e ∷ past));
  counted = is_changed (live_count k past) (live_count k (e ∷ past)) (is_stopping (calls past)) (is_stopping (calls (e ∷ past)));
  broken = is_broken k e past;
}

-- one for each event, the first one first
abbrev pub all_groups : ℕ → List ℕ → List HalEvent → List Group
all_groups k lines [] = []
all_groups k lines (e ∷ past) = all_groups k lines past ++ group_of k lines e past ∷ []
