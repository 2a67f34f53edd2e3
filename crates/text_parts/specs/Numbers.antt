-- How a number is spelled. (our own choice)
use Rattle.std.specs.Prelude.{ℕ, ◌==◌, Bool, false, ◌&&◌, not, List, [], ◌∷◌, Option, Some, None, nat_lt, nat_le, if◌then◌else◌}
use Rattle.std.specs.Char.{is_ascii_digit}
use Rattle.std.specs.Str.{all_ascii_digits}
use Rattle.std.specs.Str.Parse.{digits_value}

-- decimal digits, without sign and leading zeros (48 is `0`)
abbrev pub is_number : List ℕ → Bool
is_number [] = false
is_number (d ∷ []) = is_ascii_digit d
is_number (d ∷ e ∷ ds) = not (d == 48) && all_ascii_digits (d ∷ e ∷ ds)

-- the number that a word spells, where it is below the limit
unfoldable pub number_below : ℕ → List ℕ → Option ℕ
number_below limit word =
    if is_number word && nat_lt (digits_value 10 word) limit then Some (digits_value 10 word) else None

-- the number that a word spells, where it is one from the least to the greatest
unfoldable pub number_within : ℕ → ℕ → List ℕ → Option ℕ
number_within least greatest word =
    if is_number word && (nat_le least (digits_value 10 word) && nat_le (digits_value 10 word) greatest)
    then Some (digits_value 10 word) else None
