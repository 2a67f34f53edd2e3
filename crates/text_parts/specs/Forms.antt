-- The forms of the command line. (docs/FORMATS.md, words)
use Rattle.std.specs.Prelude.{ℕ, ◌-◌, ◌^◌, Bool, true, ◌&&◌, List, [], ◌∷◌, Option, Some, None, codes, nat_eq, nat_le, if◌then◌else◌}
use Rattle.std.specs.Borrow.{Bor}
use Rattle.std.specs.Cmp.Lexicographic.{pointwise}
use Rattle.text_parts.specs.Numbers.{number_within}
use Rattle.text_parts.specs.declared.form.Form.{Form}
use Rattle.text_parts.specs.declared.form.Form.TheVariants.{Play, Run, Check, Gen, Convert, Arbiter, Auto, Logical, Reprocess, Help}

-- the second value, where the first is there
infixl 10 ◌>>=◌
abbrev pub ◌>>=◌ : {A B : Type 0} → Option A → (A → Option B) → Option B
None >>= f = None
Some a >>= f = f a

-- the texts are the same
abbrev pub is_text : List ℕ → List ℕ → Bool
is_text text other = pointwise nat_eq text other

-- `play`, `check`, `convert`, `arbiter`, `auto`, `logical`, `reprocess` and `help`
abbrev pub alone : List ℕ → Option Form
alone word =
    if is_text word (codes "play") then Some Play
    else (if is_text word (codes "check") then Some Check
    else (if is_text word (codes "convert") then Some Convert
    else (if is_text word (codes "arbiter") then Some Arbiter
    else (if is_text word (codes "auto") then Some Auto
    else (if is_text word (codes "logical") then Some Logical
    else (if is_text word (codes "reprocess") then Some Reprocess
    else (if is_text word (codes "help") then Some Help else None)))))))

-- 1 to 8 workers
abbrev pub run_of : List ℕ → Option Form
run_of workers = number_within 1 8 workers >>= λ n. Some (Run n)

-- a seed of 64 bits, and at most 200 commands
abbrev pub gen_of : List ℕ → List ℕ → Option Form
gen_of seed count = number_within 0 (2 ^ 64 - 1) seed >>= λ s. number_within 0 200 count >>= λ n. Some (Gen s n)

-- `run --workers N` and `gen SEED COUNT`
abbrev pub of_three : List ℕ → List ℕ → List ℕ → Option Form
of_three first second third =
    if is_text first (codes "run") && is_text second (codes "--workers") then run_of third
    else (if is_text first (codes "gen") then gen_of second third else None)

-- the form that the words have, if they have one
abbrev pub form_of : List (Bor (List ℕ)) → Option Form
form_of (word ∷ []) = alone word.now
form_of (first ∷ second ∷ third ∷ []) = of_three first.now second.now third.now
form_of _ = None

-- a run has 1 to 8 workers, and a script is generated of at most 200 commands
abbrev pub is_in_range : Form → Bool
is_in_range (Run workers) = nat_le 1 workers && nat_le workers 8
is_in_range (Gen seed count) = nat_le count 200
is_in_range form = true
