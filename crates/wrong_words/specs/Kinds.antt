-- What may stand at the places of a line, and which words are of a kind. (docs/FORMATS.md, Script text and Trace text)
use Rattle.std.specs.Prelude.{ℕ, ◌==◌, ◌%◌, ◌^◌, Bool, true, false, ◌&&◌, ◌||◌, List, [], ◌∷◌, Option, Some, None, bytes_eq, codes, is_some, length, nat_le}
use Rattle.std.specs.List.{list_all}
use Rattle.script_text.specs.Lines.{awaited}
use Rattle.script_text.specs.Values.{item_of, side_of, spec_of}
use Rattle.text_parts.specs.Cuts.{cut_at, in_two}
use Rattle.text_parts.specs.Numbers.{number_below, number_within}
use Rattle.wrong_words.specs.declared.word_kind.WordKind.{WordKind}
use Rattle.wrong_words.specs.declared.word_kind.WordKind.TheVariants.{Any, Number, Byte, Count, ProfileNumber, Time, PartNumber, Item, Spec, Buffer, Fence, FenceOrNone, DeviceFence, ItemName, Reply, Target, Bytes, Digest}

-- ---- words of a trace

-- a letter and a number
abbrev pub is_lettered : ℕ → List ℕ → Bool
is_lettered letter [] = false
is_lettered letter (b ∷ number) = (b == letter) && is_some (number_below (2 ^ 32) number)

-- what stands before the first such byte, and what stands behind it, pass the test
abbrev pub both_pass : (List ℕ → List ℕ → Bool) → Option (List ℕ × List ℕ) → Bool
both_pass test None = false
both_pass test (Some cut) = test cut.0 cut.1

abbrev pub is_small : List ℕ → Bool
is_small word = is_some (number_below (2 ^ 32) word)

abbrev pub is_byte : List ℕ → Bool
is_byte word = is_some (number_below (2 ^ 8) word)

-- `rR.I`: 114 is `r`, and 46 is `.`
abbrev pub is_item_name : List ℕ → Bool
is_item_name word = both_pass (λ request place. is_lettered 114 request && is_small place) (cut_at 46 word)

-- `bB+C`: 98 is `b`, and 43 is `+`
abbrev pub is_buffers : List ℕ → Bool
is_buffers word = both_pass (λ first count. is_lettered 98 first && is_small count) (cut_at 43 word)

-- `S:bB+C`: 58 is `:`
abbrev pub is_made : List ℕ → Bool
is_made word = both_pass (λ stream buffers. is_byte stream && is_buffers buffers) (cut_at 58 word)

-- `rR` or `S:bB+C`
abbrev pub is_reply : List ℕ → Bool
is_reply word = is_lettered 114 word || is_made word

-- `fF` or `-`: 102 is `f`
abbrev pub is_fence_or_none : List ℕ → Bool
is_fence_or_none word = bytes_eq word (codes "-") || is_lettered 102 word

-- `bB:F`
abbrev pub is_buffer_with_fence : List ℕ → Bool
is_buffer_with_fence word = both_pass (λ buffer fence. is_lettered 98 buffer && is_fence_or_none fence) (cut_at 58 word)

-- `S:bB:F`
abbrev pub is_target : List ℕ → Bool
is_target word = both_pass (λ stream buffer. is_byte stream && is_buffer_with_fence buffer) (cut_at 58 word)

-- `0` (48) to `9` (57), and `a` (97) to `f` (102)
abbrev pub is_hex_digit : ℕ → Bool
is_hex_digit b = (nat_le 48 b && nat_le b 57) || (nat_le 97 b && nat_le b 102)

abbrev pub is_bytes : List ℕ → Bool
is_bytes word = (length word % 2 == 0) && list_all is_hex_digit word

abbrev pub is_digest : List ℕ → Bool
is_digest word = (length word == 64) && list_all is_hex_digit word

-- ---- words of a script

-- `WxH`: 120 is `x`
abbrev pub are_sides : List ℕ → Bool
are_sides word = both_pass (λ width height. is_some (side_of width) && is_some (side_of height)) (in_two 120 word)

-- ---- all kinds

-- the word is of the kind
unfoldable pub fits : WordKind → List ℕ → Bool
fits Any word = true
fits Number word = is_small word
fits Byte word = is_byte word
fits Count word = is_some (awaited word)
fits ProfileNumber word = is_some (number_within 1 16 word)
fits Time word = is_some (number_below (2 ^ 64) word)
fits PartNumber word = is_some (number_within 1 3 word)
fits Item word = is_some (item_of word)
fits Spec word = is_some (spec_of word)
fits Buffer word = is_lettered 98 word
fits Fence word = is_lettered 102 word
fits FenceOrNone word = is_fence_or_none word
fits DeviceFence word = is_lettered 100 word
fits ItemName word = is_item_name word
fits Reply word = is_reply word
fits Target word = is_target word
fits Bytes word = is_bytes word
fits Digest word = is_digest word
