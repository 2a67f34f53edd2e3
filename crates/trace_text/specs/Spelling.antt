-- The one spelling of a trace: our own choice. (docs/FORMATS.md, trace text)
use Rattle.std.specs.Prelude.{ℕ, ◌+◌, Bool, true, false, List, [], ◌∷◌, ◌++◌, Option, Some, None, map, option_to_list, codes, decimal}
use Rattle.std.specs.List.{flat_map}
use Rattle.text_parts.specs.CommandWords.{word_text}
use Rattle.cam_types.specs.Four.{four_list}
use Rattle.cam_types.specs.Profile.{is_profile}
use Rattle.cam_types.specs.declared.number.FenceNo.{FenceNo}
use Rattle.cam_types.specs.declared.partial_result.PartialResult.{PartialResult}
use Rattle.cam_types.specs.declared.profile.Profile.{Profile}
use Rattle.cam_types.specs.declared.reply.Made.{Made}
use Rattle.cam_types.specs.declared.reply.Reply.{Reply}
use Rattle.cam_types.specs.declared.reply.Reply.TheVariants.{Ok, Submitted, Configured, Refused}
use Rattle.hex.specs.Hex.{encode_lower}
use Rattle.metadata.specs.Parts.{part_entries}
use Rattle.metadata.specs.Spelling.{bytes_of}
use Rattle.text_parts.specs.Lines.{line_text}
use Rattle.trace_model.specs.declared.entry.Entry.{Entry}
use Rattle.trace_model.specs.declared.entry.Entry.TheVariants.{Begin, Call, Send, Dropped, Shutter, Partial, Filled, Failed, ErrorRequest, ErrorResult, ErrorBuffer, ErrorDevice, Release, Signal, Early, Late}
use Rattle.trace_model.specs.declared.entry.Sent.{Sent}

-- words, each behind a space (32)
abbrev pub behind_spaces : List (List ℕ) → List ℕ
behind_spaces words = flat_map (λ word. 32 ∷ word) words

-- ---- words; 43 is `+`, 46 `.`, 58 `:`, 98 `b`, 100 `d`, 102 `f` and 114 `r`

-- `bB`
abbrev pub buffer_text : ℕ → List ℕ
buffer_text b = 98 ∷ decimal b

-- `fK`
abbrev pub fence_number : ℕ → List ℕ
fence_number k = 102 ∷ decimal k

-- `dK`, a fence that the device signals
abbrev pub device_fence : ℕ → List ℕ
device_fence k = 100 ∷ decimal k

-- a fence, or `-` where there is none
abbrev pub fence_text : Option FenceNo → List ℕ
fence_text None = codes "-"
fence_text (Some f) = fence_number f.0

-- `rR`
abbrev pub request_text : ℕ → List ℕ
request_text r = 114 ∷ decimal r

-- `rR.I`
abbrev pub item_text : ℕ → ℕ → List ℕ
item_text r i = request_text r ++ 46 ∷ decimal i

abbrev pub mark_text : Bool → List ℕ
mark_text true = codes "same"
mark_text false = codes "new"

-- `S:bB:F`
abbrev pub sent_text : Sent → List ℕ
sent_text t = decimal t.stream.0 ++ 58 ∷ (buffer_text t.buffer.0 ++ 58 ∷ fence_text t.fence)

-- `S:bB+C`
abbrev pub made_text : ℕ → Made → List ℕ
made_text s m = decimal s ++ 58 ∷ (buffer_text m.first.0 ++ 43 ∷ decimal m.count)

-- one for each stream, from number s on
abbrev pub made_words : ℕ → List Made → List (List ℕ)
made_words s [] = []
made_words s (m ∷ ms) = made_text s m ∷ made_words (s + 1) ms

-- ---- lines

abbrev pub reply_words : Reply → List (List ℕ)
reply_words Ok = codes "ok" ∷ []
reply_words (Submitted r) = codes "ok" ∷ request_text r.0 ∷ []
reply_words (Configured made) = codes "ok" ∷ made_words 0 (four_list made)
reply_words (Refused code first second) =
    codes "refused" ∷ decimal code ∷ map decimal (option_to_list first ++ option_to_list second)

-- the packed metadata of a part, two digits for each byte
abbrev pub part_text : PartialResult → List ℕ
part_text part = encode_lower (bytes_of (part_entries part))

-- ` N S bB`
abbrev pub place_text : ℕ → ℕ → ℕ → List ℕ
place_text n s b = behind_spaces (decimal n ∷ decimal s ∷ buffer_text b ∷ [])

-- the words of an entry's line
abbrev pub entry_words : Entry → List (List ℕ)
entry_words (Begin word) = codes "begin" ∷ word_text word ∷ []
entry_words (Call index word reply) = codes "call" ∷ decimal index ∷ word_text word ∷ codes "=" ∷ reply_words reply
entry_words (Send n r i same targets) =
    codes "send" ∷ decimal n.0 ∷ item_text r.0 i ∷ mark_text same ∷ map sent_text (four_list targets)
entry_words (Dropped n r i) = codes "drop" ∷ decimal n.0 ∷ item_text r.0 i ∷ []
entry_words (Shutter n time) = codes "shutter" ∷ decimal n.0 ∷ decimal time ∷ []
entry_words (Partial n k part) = codes "partial" ∷ decimal n.0 ∷ decimal k ∷ part_text part ∷ []
entry_words (Filled n s b f digest) =
    codes "buffer" ∷ decimal n.0 ∷ decimal s.0 ∷ buffer_text b.0 ∷ codes "ok" ∷ codes "-" ∷ encode_lower digest ∷ []
entry_words (Failed n s b f) =
    codes "buffer" ∷ decimal n.0 ∷ decimal s.0 ∷ buffer_text b.0 ∷ codes "error" ∷ fence_text f ∷ []
entry_words (ErrorRequest n) = codes "error" ∷ codes "request" ∷ decimal n.0 ∷ []
entry_words (ErrorResult n) = codes "error" ∷ codes "result" ∷ decimal n.0 ∷ []
entry_words (ErrorBuffer n s) = codes "error" ∷ codes "buffer" ∷ decimal n.0 ∷ decimal s.0 ∷ []
entry_words ErrorDevice = codes "error" ∷ codes "device" ∷ []
entry_words (Release b f) = codes "release" ∷ buffer_text b.0 ∷ fence_number f.0 ∷ []
entry_words (Signal f) = codes "signal" ∷ fence_number f.0 ∷ []
entry_words (Early n s b f) = codes "early" ∷ decimal n.0 ∷ decimal s.0 ∷ buffer_text b.0 ∷ device_fence f.0 ∷ []
entry_words (Late f digest) = codes "filled" ∷ device_fence f.0 ∷ encode_lower digest ∷ []

-- the line of an entry, with its end
unfoldable pub line_of : Entry → List ℕ
line_of entry = line_text (entry_words entry)

-- ---- the first line

-- `trace 1`, or `trace 2 DEPTH RAW YUV` where a profile is named
abbrev pub first_words : Option Profile → List (List ℕ)
first_words None = codes "trace" ∷ codes "1" ∷ []
first_words (Some p) = codes "trace" ∷ codes "2" ∷ decimal p.depth ∷ decimal p.raw ∷ decimal p.yuv ∷ []

-- a trace may have the first line: each number of a profile is from 1 to 16
abbrev pub first_line_fits : Option Profile → Bool
first_line_fits None = true
first_line_fits (Some p) = is_profile p

unfoldable pub first_line_of : Option Profile → List ℕ
first_line_of profile = line_text (first_words profile)

-- ---- a whole trace

-- the first line, the lines of the entries in order, the oldest first, and `end`
unfoldable pub spelling : Option Profile → List Entry → List ℕ
spelling profile trace = first_line_of profile ++ (flat_map line_of trace ++ line_text (codes "end" ∷ []))
