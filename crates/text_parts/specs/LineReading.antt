-- The lines of a text that is read: which are ignored, and how a refusal names its line. (docs/FORMATS.md, script text)
use Rattle.std.specs.Prelude.{ℕ, ◌==◌, Bool, false, ◌&&◌, List, [], ◌∷◌, nat_le, Result, Ok, Err}
use Rattle.text_parts.specs.declared.cause.Cause.{Cause}
use Rattle.text_parts.specs.declared.cause.TextRefused.{TextRefused}
use Rattle.text_parts.specs.declared.cause.TextRefused.TheVariants.{Bad}

-- a word that begins a comment: 35 is `#`
abbrev pub is_comment : List ℕ → Bool
is_comment [] = false
is_comment (b ∷ bs) = b == 35

-- a byte from space to `~`
abbrev pub is_printable : ℕ → Bool
is_printable b = nat_le 32 b && nat_le b 126

-- a refusal names its line
abbrev pub at_line : {A B : Type 0} → ℕ → Result A Cause → (A → Result B TextRefused) → Result B TextRefused
at_line n (Ok x) f = f x
at_line n (Err cause) f = Err (Bad n cause)

-- the most bytes of a text
abbrev pub text_limit : ℕ
text_limit = 65536
