-- The last line of the report for a person: the sum. (docs/FORMATS.md, The report of a hal log for a person)
use Rattle.std.specs.Prelude.{ℕ, ◌==◌, Bool, true, false, List, [], ◌∷◌, ◌++◌, length, filter, count_by, nat_eq, if◌then◌else◌, codes, decimal}
use Rattle.std.specs.Cmp.Lexicographic.{pointwise}
use Rattle.std.specs.List.{flat_map, list_any}
use Rattle.hal_model.specs.Names.{rule_name, side_of}
use Rattle.hal_model.specs.declared.event.HalEvent.{HalEvent}
use Rattle.hal_model.specs.declared.event.HalEvent.TheVariants.{RequestOk}
use Rattle.hal_model.specs.declared.rule.Breach.{Breach}
use Rattle.hal_model.specs.declared.rule.Rule.{Rule}
use Rattle.hal_model.specs.declared.rule.Side.{Side}
use Rattle.hal_model.specs.declared.rule.Side.TheVariants.{Framework, Device}
use Rattle.hal_text.specs.Plain.{side_text}

-- rules of one name are one
abbrev pub is_same_rule : Rule → Rule → Bool
is_same_rule a b = pointwise nat_eq (rule_name a) (rule_name b)

abbrev pub is_same_side : Side → Side → Bool
is_same_side Framework Framework = true
is_same_side Device Device = true
is_same_side _ _ = false

abbrev pub other_side : Side → Side
other_side Framework = Device
other_side Device = Framework

-- a request that the device accepted is one
abbrev pub is_accepted : HalEvent → Bool
is_accepted (RequestOk _) = true
is_accepted _ = false

-- `1 breach`, `2 breaches`; 32 is a space
unfoldable pub counted : ℕ → List ℕ → List ℕ → List ℕ
counted n one many = decimal n ++ 32 ∷ (if n == 1 then one else many)

-- those whose rule binds the side
abbrev pub by_side : Side → List Breach → List Breach
by_side side breaches = filter (λ b. is_same_side side (side_of b.rule)) breaches

-- the rules of breaches, each behind those before it, where it isn't among them
abbrev pub with_rule : List Rule → Rule → List Rule
with_rule rules rule = if list_any (is_same_rule rule) rules then rules else rules ++ rule ∷ []

abbrev pub rules_behind : List Rule → List Breach → List Rule
rules_behind rules [] = rules
rules_behind rules (b ∷ bs) = rules_behind (with_rule rules b.rule) bs

-- `NAME, NAME`
unfoldable pub names_text : List Rule → List ℕ
names_text [] = []
names_text (rule ∷ more) = rule_name rule ++ flat_map (λ r. codes ", " ++ rule_name r) more

-- `N breaches by the SIDE (NAME, NAME)`
unfoldable pub side_sum : Side → List Breach → List ℕ
side_sum side [] = codes "none by the " ++ side_text side
side_sum side breaches =
    counted (length breaches) (codes "breach") (codes "breaches")
    ++ (codes " by the " ++ (side_text side ++ (codes " (" ++ (names_text (rules_behind [] breaches) ++ codes ")"))))

-- `; the first is the SIDE's`
unfoldable pub whose_first : Side → List ℕ
whose_first side = codes "; the first is the " ++ (side_text side ++ codes "'s")

-- the side that the first breach binds, and the other one
unfoldable pub sides_sum : Side → List Breach → List ℕ
sides_sum side breaches =
    side_sum side (by_side side breaches)
    ++ (codes ", " ++ (side_sum (other_side side) (by_side (other_side side) breaches) ++ whose_first side))

abbrev pub breaches_sum : List Breach → List ℕ
breaches_sum [] = codes "no breach"
breaches_sum (b ∷ bs) = sides_sum (side_of b.rule) (b ∷ bs)

-- `N requests, ..`; 10 is LF
unfoldable pub sum_text : List HalEvent → List Breach → List ℕ
sum_text events breaches =
    counted (count_by is_accepted events) (codes "request") (codes "requests")
    ++ (codes ", " ++ (breaches_sum breaches ++ 10 ∷ []))
