-- Lists of entries: ascending by tag, each tag at most once.
use Rattle.std.specs.Prelude.{◌≡◌, ℕ, ◌+◌, ◌<◌, ◌≤◌, ◌^◌, ◌==◌, if◌then◌else◌, Bool, true, ◌&&◌, ◌||◌, not, nat_lt, nat_le, is_some, List, [], ◌∷◌, length, filter, Option, Some, None}
use Rattle.std.specs.List.{AllByRecursion}
use Rattle.metadata.specs.declared.entry.Entry.{Entry}
use Rattle.metadata.specs.declared.refused.AddRefused.{AddRefused}
use Rattle.metadata.specs.declared.refused.AddRefused.TheVariants.{Count, Repeated, Full}
use Rattle.metadata.specs.declared.values.Values.{Values}
use Rattle.metadata.specs.Values.{count_of, payload, ValuesFit}
use Rattle.metadata.specs.Spelling.{data_of, data_area}

-- the values under a tag
abbrev pub values_at : ℕ → List Entry → Option Values
values_at tag [] = None
values_at tag (e ∷ es) = if e.tag == tag then Some e.values else values_at tag es

-- the list with an entry more, before the first of a greater tag
abbrev pub with_entry : Entry → List Entry → List Entry
with_entry e [] = e ∷ []
with_entry e (x ∷ xs) = if nat_lt e.tag x.tag then e ∷ x ∷ xs else x ∷ with_entry e xs

-- the list without a tag
abbrev pub without : ℕ → List Entry → List Entry
without tag es = filter (λ e. not (e.tag == tag)) es

-- The refusal of adding values under a tag, the first that is due. (Want of memory comes last.)
abbrev pub add_refusal : ℕ → Values → List Entry → Option AddRefused
add_refusal tag values es =
    if (count_of values == 0) || nat_lt 1024 (count_of values) then Some Count
    else (if is_some (values_at tag es) then Some Repeated
    else (if nat_lt 64 (length es + 1) || nat_lt 4096 (length (data_area es) + length (data_of (payload values)))
    then Some Full
    else None))

-- each tag is at least so much, and above the tag before it
abbrev pub ascends_from : ℕ → List Entry → Bool
ascends_from least [] = true
ascends_from least (e ∷ es) = nat_le least e.tag && ascends_from (e.tag + 1) es

pub record IsEntry (e : Entry) : Type 0 where
  pub tag : e.tag < 2 ^ 32
  pub some : 0 < count_of e.values
  pub few : count_of e.values ≤ 1024

-- what a list has that is made by adding and erasing
pub record IsPacked (es : List Entry) : Type 0 where
  pub ascending : ascends_from 0 es ≡ true
  pub entries : length es ≤ 64
  pub area : length (data_area es) ≤ 4096
  pub each : AllByRecursion IsEntry es

-- each number is one of its type
abbrev pub NumbersFit : List Entry → Type 0
NumbersFit es = AllByRecursion (λ e. ValuesFit e.values) es
