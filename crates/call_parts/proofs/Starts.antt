-- How the lines before the trace are counted, from the first on.
use Rattle.std.proofs.Common.{◌≡◌, ◌+◌, ℕ, List, ◌∷◌, Option, Some, None, true, false, cond, length, option_map, refl, ap, ◌∙◌, arith}
use Rattle.std.specs.Str.Lines.{strip_carriage_return}
use Rattle.text_parts.specs.Cuts.{parts_at}
use Rattle.text_parts.proofs.Cuts.{parts_some}
use Rattle.call_parts.specs.Parts.{bytes_before, is_trace_line}

-- a line that an LF ends
ended_line : (line after : List ℕ)
    → bytes_before (line ∷ parts_at 10 after) ≡ cond (is_trace_line (strip_carriage_return line)) (Some 0) (option_map (λ n. length line + 1 + n) (bytes_before (parts_at 10 after)))
ended_line line after = let some = parts_some 10 after in rw some.2 refl

added : (start more : ℕ) (found : Option ℕ) → option_map (λ n. start + n) (option_map (λ n. more + n) found) ≡ option_map (λ n. start + more + n) found
added start more None = refl
added start more (Some n) = ap Some (omega arith)

-- where it is the trace's first
pub found_here : (input rest line after : List ℕ) (start : ℕ) → bytes_before (parts_at 10 input) ≡ option_map (λ n. start + n) (bytes_before (parts_at 10 rest))
    → parts_at 10 rest ≡ line ∷ parts_at 10 after → is_trace_line (strip_carriage_return line) ≡ true → bytes_before (parts_at 10 input) ≡ Some start
found_here input rest line after start so cut here =
    so ∙ (ap (λ ps. option_map (λ n. start + n) (bytes_before ps)) cut
    ∙ (ap (option_map (λ n. start + n)) (ended_line line after ∙ ap (λ b. cond b (Some 0) (option_map (λ n. length line + 1 + n) (bytes_before (parts_at 10 after)))) here)
    ∙ ap Some (omega arith)))

-- where it isn't
pub found_later : (input rest line after : List ℕ) (start : ℕ) → bytes_before (parts_at 10 input) ≡ option_map (λ n. start + n) (bytes_before (parts_at 10 rest))
    → parts_at 10 rest ≡ line ∷ parts_at 10 after → is_trace_line (strip_carriage_return line) ≡ false
    → bytes_before (parts_at 10 input) ≡ option_map (λ n. start + (length line + 1) + n) (bytes_before (parts_at 10 after))
found_later input rest line after start so cut here =
    so ∙ (ap (λ ps. option_map (λ n. start + n) (bytes_before ps)) cut
    ∙ (ap (option_map (λ n. start + n)) (ended_line line after ∙ ap (λ b. cond b (Some 0) (option_map (λ n. length line + 1 + n) (bytes_before (parts_at 10 after)))) here)
    ∙ added start (length line + 1) (bytes_before (parts_at 10 after))))
