use Rattle.std.specs.Prelude.{◌≡◌, ◌↔◌, ℕ, false, ◌&&◌, not, List, ◌∷◌, Some, None, count_by, length, nat_lt, if◌then◌else◌, IsTrue}
use Rattle.std.specs.List.{list_all}
use Rattle.cam_types.specs.declared.reply.Reply.{Reply}
use Rattle.cam_types.specs.declared.script.Script.{Script}
use Rattle.trace_model.specs.declared.entry.Entry.{Entry}
use Rattle.trace_model.specs.Complete.{IsComplete}
use Rattle.trace_model.specs.Frames.{is_sent, settings_in, settings_of}
use Rattle.trace_model.specs.Legal.{IsLegal}
use Rattle.trace_model.specs.Numbers.{call_count, next_number}
use Rattle.logical_call.specs.Courses.{content_of, item_of, items, reply_of}
use Rattle.logical_call.specs.Orderless.{AreTwins, is_orderless, without_faults}
use Rattle.logical_call.specs.declared.pair.PairEnd.TheVariants.{Ok, Drop}
use Rattle.logical_call.specs.Pairs.{frame_of, is_dropped, is_ended, is_whole, pair_end}
use Rattle.logical_call.specs.declared.pair.Side.{Side}
use Rattle.logical_call.specs.Sides.{AreLegal, first_part, have_ended, is_end, is_pair_of, paired, pairs, second_part}
use Rattle.logical_call.specs.Taken.{Name, gives_number, name_of, reply_in, taken_in}

-- What is the same in all legal runs of a script of which no reply depends on the order of steps.

-- ---- of one past

-- each call that stands has the script's reply
abbrev pub RepliesAreTheScripts : Script → List Entry → Type 0
RepliesAreTheScripts script past =
    IsTrue (is_orderless script) → IsLegal script past →
    (i : ℕ) → reply_in i past ≡ (if nat_lt i (call_count past) then reply_of script i else None)

-- each number that was given away names the script's item
abbrev pub ItemsAreTheScripts : Script → List Entry → Type 0
ItemsAreTheScripts script past =
    IsTrue (is_orderless script) → IsLegal script past →
    (n : ℕ) → taken_in n past ≡ (if nat_lt n (next_number past) then name_of (item_of script n) else None)

-- each number below the next was given away once, and no other
abbrev pub NumbersAreGivenOnce : Script → List Entry → Type 0
NumbersAreGivenOnce script past =
    IsLegal script past →
    (n : ℕ) → count_by (gives_number n) past ≡ (if nat_lt n (next_number past) then 1 else 0)

-- a complete run gives as many numbers away as the script has items
abbrev pub EachItemHasANumber : Script → List Entry → Type 0
EachItemHasANumber script past =
    IsTrue (is_orderless script) → IsComplete script past → next_number past ≡ length (items script)

-- and each of these frames ended
abbrev pub EachFrameEnds : Script → List Entry → Type 0
EachFrameEnds script past =
    IsTrue (is_orderless script) → IsComplete script past →
    (n : ℕ) → IsTrue (nat_lt n (length (items script))) → IsTrue (is_ended n past)

-- each frame that was sent has the settings of the script's item
abbrev pub SettingsAreTheScripts : Script → List Entry → Type 0
SettingsAreTheScripts script past =
    IsTrue (is_orderless script) → IsLegal script past →
    (n : ℕ) → IsTrue (is_sent n past) → settings_of script past n ≡ settings_in (content_of (item_of script n))

-- ---- of two pasts of twin scripts

-- a script and the one without its faults are twins, and the one is orderless where the other is
abbrev pub FaultsAside : Script → Type 0
FaultsAside script =
    AreTwins script (without_faults script)
    × (IsTrue (is_orderless script) → IsTrue (is_orderless (without_faults script)))

-- a call has one reply in both
abbrev pub RepliesAgree : Script → Script → List Entry → List Entry → Type 0
RepliesAgree one two past other =
    AreTwins one two → IsTrue (is_orderless one) → IsTrue (is_orderless two) → IsLegal one past → IsLegal two other →
    (i : ℕ) (p q : Reply) → reply_in i past ≡ Some p → reply_in i other ≡ Some q → p ≡ q

-- a number has one item in both
abbrev pub ItemsAgree : Script → Script → List Entry → List Entry → Type 0
ItemsAgree one two past other =
    AreTwins one two → IsTrue (is_orderless one) → IsTrue (is_orderless two) → IsLegal one past → IsLegal two other →
    (n : ℕ) (p q : Name) → taken_in n past ≡ Some p → taken_in n other ≡ Some q → p ≡ q

-- complete runs give the same numbers away, each of them once in each, and each of their frames ended in both
pub record SameFrames (past other : List Entry) : Type 0 where
  pub numbers : next_number past ≡ next_number other
  pub once : (n : ℕ) → count_by (gives_number n) past ≡ count_by (gives_number n) other
  pub ended : (n : ℕ) → IsTrue (nat_lt n (next_number past)) → IsTrue (is_ended n past && is_ended n other)

abbrev pub FramesAgree : Script → Script → List Entry → List Entry → Type 0
FramesAgree one two past other =
    AreTwins one two → IsTrue (is_orderless one) → IsTrue (is_orderless two) → IsComplete one past →
    IsComplete two other → SameFrames past other

-- ---- ends

-- a frame that ended stays so
abbrev pub EndsStay : Script → List Entry → Type 0
EndsStay script past =
    (e : Entry) (n : ℕ) → IsLegal script (e ∷ past) → IsTrue (is_ended n past) → IsTrue (is_ended n (e ∷ past))

-- a frame is sent or dropped, not both
abbrev pub DropsAreNotSent : Script → List Entry → Type 0
DropsAreNotSent script past =
    (n : ℕ) → IsLegal script past → IsTrue (is_dropped n past) → is_sent n past ≡ false

-- an entry ends one frame at most
abbrev pub OneFrameEnds : Script → List Entry → Type 0
OneFrameEnds script past =
    (e : Entry) (n : ℕ) → IsLegal script (e ∷ past) → is_ended n past ≡ false → IsTrue (is_ended n (e ∷ past)) →
    frame_of past e ≡ Some n

-- what a frame that ended ended as stays so
abbrev pub HowItEndedStays : Script → List Entry → Type 0
HowItEndedStays script past =
    (e : Entry) (n : ℕ) → IsLegal script (e ∷ past) → IsTrue (is_ended n past) →
    (is_whole n (e ∷ past) ≡ is_whole n past) × (is_dropped n (e ∷ past) ≡ is_dropped n past)

-- a pair ends well exactly where both captured the frame whole, and by a drop exactly where both dropped it
pub record PairsEnd (past other : List Entry) (n : ℕ) : Type 0 where
  pub whole : (pair_end n past other ≡ Ok) ↔ IsTrue (is_whole n past && is_whole n other)
  pub drop : (pair_end n past other ≡ Drop) ↔ IsTrue (is_dropped n past && is_dropped n other)

abbrev pub PairsEndSo : Script → Script → List Entry → List Entry → Type 0
PairsEndSo one two past other = IsLegal one past → IsLegal two other → (n : ℕ) → PairsEnd past other n

-- ---- of two cameras side by side

-- each frame that has ended in both has one pair, and no other frame has one
abbrev pub PairsAreOfEndedFrames : Script → Script → List Side → Type 0
PairsAreOfEndedFrames one two sides =
    AreLegal one two sides →
    (n : ℕ) → count_by (is_pair_of n) (pairs sides) ≡ (if have_ended n sides then 1 else 0)

-- a pair stands directly after what ended its frame in the second of the two
abbrev pub PairsFollow : Script → Script → List Side → Type 0
PairsFollow one two sides =
    (side : Side) (n : ℕ) → AreLegal one two (side ∷ sides) →
    IsTrue (have_ended n (side ∷ sides) && not (have_ended n sides)) →
    paired side sides
    ≡ Some (record { frame = record { 0 = n }; end = pair_end n (first_part (side ∷ sides)) (second_part (side ∷ sides)) })

-- what a pair says holds of all that the two did, whatever they did after it
abbrev pub PairsSayHowTheyEnded : Script → Script → List Side → Type 0
PairsSayHowTheyEnded one two sides =
    AreLegal one two sides →
    IsTrue (list_all (λ p. is_end (pair_end p.frame.0 (first_part sides) (second_part sides)) p.end) (pairs sides))

-- two complete runs have one pair for each item of the script
abbrev pub EachItemHasAPair : Script → Script → List Side → Type 0
EachItemHasAPair one two sides =
    AreTwins one two → IsTrue (is_orderless one) → IsTrue (is_orderless two) → IsComplete one (first_part sides) →
    IsComplete two (second_part sides) →
    (n : ℕ) → count_by (is_pair_of n) (pairs sides) ≡ (if nat_lt n (length (items one)) then 1 else 0)
