use Rattle.std.specs.Prelude.{ℕ, ◌==◌, Bool, true, false, ◌&&◌, ◌||◌, not, List, [], ◌∷◌, Option, is_none, nat_lt, if◌then◌else◌}
use Rattle.std.specs.List.{list_all}
use Rattle.reprocess_model.specs.declared.entry.ReEntry.{ReEntry}
use Rattle.reprocess_model.specs.declared.entry.ReEntry.TheVariants.{Take, Failed, Fill, Input}
use Rattle.reprocess_model.specs.Lines.{drops, is_input_of}
use Rattle.reprocess_model.specs.Past.{has_buffer}

-- What the laws speak of.

-- a line takes input buffer i, or gives it back
abbrev pub takes_input : ℕ → ReEntry → Bool
takes_input i (Take _ j _) = j.0 == i
takes_input i _ = false

abbrev pub returns_input : ℕ → ReEntry → Bool
returns_input i (Input _ j) = j.0 == i
returns_input i _ = false

-- a line takes output buffer b, or gives it back
abbrev pub takes_output : ℕ → ReEntry → Bool
takes_output b (Take _ _ outputs) = has_buffer b outputs
takes_output b _ = false

abbrev pub returns_output : ℕ → ReEntry → Bool
returns_output b (Failed _ _ c) = c.0 == b
returns_output b (Fill _ _ c _) = c.0 == b
returns_output b _ = false

-- one where a request holds a buffer
abbrev pub one_held : Option ℕ → ℕ
one_held holder = if is_none holder then 0 else 1

-- a line ends request n: its input comes back, or it is dropped
abbrev pub ends : ℕ → ReEntry → Bool
ends n e = is_input_of n e || drops n e

-- a line fills no output s of request n or one after it
abbrev pub is_fill_before : ℕ → ℕ → ReEntry → Bool
is_fill_before n s (Fill m t _ _) = not (t.0 == s) || nat_lt m.0 n
is_fill_before n s _ = true

-- each filled output is of a greater request than those of its stream before it
abbrev pub fills_rise : List ReEntry → Bool
fills_rise [] = true
fills_rise (Fill n s _ _ ∷ past) = list_all (is_fill_before n.0 s.0) past && fills_rise past
fills_rise (_ ∷ past) = fills_rise past
