-- Which kind of word the places of a line ask for: the tables of docs/FORMATS.md, Script text and Trace text.
use Rattle.std.specs.Prelude.{ℕ, ◌+◌, ◌==◌, Bool, ◌||◌, not, List, [], ◌∷◌, Option, None, bytes_eq, codes, find, if◌then◌else◌, unwrap_or}
use Rattle.std.specs.List.{slice_get}
use Rattle.text_parts.specs.Words.{loose_words, strict_words}
use Rattle.wrong_words.specs.Kinds.{fits}
use Rattle.wrong_words.specs.declared.word_kind.WordKind.{WordKind}
use Rattle.wrong_words.specs.declared.word_kind.WordKind.TheVariants.{Any, Number, Byte, Count, ProfileNumber, Time, PartNumber, Item, Spec, Buffer, Fence, FenceOrNone, DeviceFence, ItemName, Reply, Target, Bytes, Digest}

-- the kinds of the first three places, and of all behind them
abbrev pub by_place : WordKind → WordKind → WordKind → WordKind → ℕ → WordKind
by_place first second third rest place =
    if place == 1 then first else (if place == 2 then second else (if place == 3 then third else rest))

-- items stand behind the word
abbrev pub is_item_word : List ℕ → Bool
is_item_word first =
    bytes_eq first (codes "once") || (bytes_eq first (codes "burst") || bytes_eq first (codes "repeat"))

-- the kind at a place behind the first word of a script's line, from 1 on
unfoldable pub script_kind : List ℕ → ℕ → WordKind
script_kind first place =
    if bytes_eq first (codes "fault") then by_place Any Number Byte Byte place
    else (if bytes_eq first (codes "pick") then Number
    else (if bytes_eq first (codes "device") then ProfileNumber
    else (if bytes_eq first (codes "configure") then Spec
    else (if is_item_word first then Item
    else (if bytes_eq first (codes "await") then Count
    else Any)))))

-- of the word at place 4, which says how a call or a buffer ended, and of what stands behind it: one kind where it
-- isn't the long word, else that of place 5 and that of all behind it
abbrev pub by_how : List ℕ → List ℕ → WordKind → WordKind → WordKind → ℕ → WordKind
by_how how long short next rest place =
    if place == 4 then Any else (if not (bytes_eq how long) then short else (if place == 5 then next else rest))

-- behind the `ok` or `refused` of a call
abbrev pub call_kind : List ℕ → ℕ → WordKind
call_kind how place = by_how how (codes "refused") Reply Byte Number place

-- behind the `ok` or `error` of a buffer
abbrev pub buffer_kind : List ℕ → ℕ → WordKind
buffer_kind how place = by_how how (codes "ok") FenceOrNone Any Digest place

-- the kind at a place behind the first word of a trace's line, from 1 on, by the first word and the one at place 4
unfoldable pub trace_kind : List ℕ → List ℕ → ℕ → WordKind
trace_kind first how place =
    if bytes_eq first (codes "trace") then by_place Any ProfileNumber ProfileNumber ProfileNumber place
    else (if bytes_eq first (codes "call") then by_place Number Any Any (call_kind how place) place
    else (if bytes_eq first (codes "send") then by_place Number ItemName Any Target place
    else (if bytes_eq first (codes "drop") then by_place Number ItemName Any Any place
    else (if bytes_eq first (codes "shutter") then by_place Number Time Any Any place
    else (if bytes_eq first (codes "partial") then by_place Number PartNumber Bytes Any place
    else (if bytes_eq first (codes "buffer") then by_place Number Byte Buffer (buffer_kind how place) place
    else (if bytes_eq first (codes "early") then by_place Number Byte Buffer DeviceFence place
    else (if bytes_eq first (codes "filled") then by_place DeviceFence Digest Any Any place
    else (if bytes_eq first (codes "error") then by_place Any Number Byte Any place
    else (if bytes_eq first (codes "release") then by_place Buffer Fence Any Any place
    else (if bytes_eq first (codes "signal") then by_place Fence Any Any Any place
    else Any)))))))))))

-- ---- the word that is wrong

-- words with the kinds that their places ask for
abbrev pub asked : (ℕ → WordKind) → ℕ → List (List ℕ) → List (WordKind × List ℕ)
asked kind place [] = []
asked kind place (word ∷ words) = (kind place, word) ∷ asked kind (place + 1) words

-- the first of them that isn't of its kind, with that kind
abbrev pub first_wrong : (ℕ → WordKind) → ℕ → List (List ℕ) → Option (WordKind × List ℕ)
first_wrong kind place words = find (λ a. not (fits a.0 a.1)) (asked kind place words)

abbrev pub script_wrong : List (List ℕ) → Option (WordKind × List ℕ)
script_wrong [] = None
script_wrong (first ∷ words) = first_wrong (script_kind first) 1 words

-- that of a script's line
unfoldable pub wrong_in_script : List ℕ → Option (WordKind × List ℕ)
wrong_in_script line = script_wrong (loose_words line)

-- the word at the place, which is empty where there is none
abbrev pub word_at : ℕ → List (List ℕ) → List ℕ
word_at place words = unwrap_or (slice_get words place) []

abbrev pub trace_wrong : List (List ℕ) → Option (WordKind × List ℕ)
trace_wrong [] = None
trace_wrong (first ∷ words) = first_wrong (trace_kind first (word_at 3 words)) 1 words

-- that of a trace's line
unfoldable pub wrong_in_trace : List ℕ → Option (WordKind × List ℕ)
wrong_in_trace line = trace_wrong (strict_words line)
