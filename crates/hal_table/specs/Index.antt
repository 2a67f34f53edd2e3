-- The rows of the live requests as they are kept: by their numbers, that which was begun last first, beside what is
-- asked of all of them.
use Rattle.std.specs.Prelude.{◌≡◌, ℕ, ◌==◌, ◌+◌, ◌-◌, ◌^◌, Bool, true, false, ◌&&◌, ◌||◌, not, List, Option, Some, None, count_by, nat_eq, sum_by, if◌then◌else◌}
use Rattle.std.specs.List.{list_all}
use Rattle.std.specs.Option.{unwrap_or}
use Rattle.std.specs.Map.{lookup, remove_entry, set_value, values_of}
use Rattle.std.specs.BTreeSet.{BTreeSet, contains}
use Rattle.std.specs.Ordering.{nat_cmp}
use Rattle.hal_model.specs.declared.event.HalEvent.{HalEvent}
use Rattle.hal_model.specs.declared.event.HalEvent.TheVariants.{CloseBegin, CloseEnd, ConfigureBegin, FlushBegin, FlushOk, RequestError, RequestOk, Results}
use Rattle.hal_rows.specs.declared.row.Row.{Row}
use Rattle.hal_rows.specs.declared.row.TargetRow.{TargetRow}
use Rattle.hal_rows.specs.Judged.{is_holding, is_holding_for, of_found}
use Rattle.hal_rows.specs.Row.{has_number, is_row_complete, is_row_in_call, is_row_live}
use Rattle.hal_model.specs.Framework.{is_empty}
use Rattle.hal_table.specs.declared.held.Held.{Held}
use Rattle.hal_table.specs.declared.index.Index.{Index}

-- the number that is counted for n
abbrev pub count_in : List (ℕ × ℕ) → ℕ → ℕ
count_in counts n = unwrap_or (lookup (nat_eq n) counts) 0

-- how many targets of the rows pass the test
abbrev pub held_by : (TargetRow → Bool) → List Row → ℕ
held_by test each = sum_by (λ r. count_by test r.targets) each

-- the targets that are held are counted too, or are counted no more
abbrev pub IsAdded : List TargetRow → Held → Held → Type 0
IsAdded targets old new =
    ((b : ℕ) → count_in new.buffers.entries b ≡ count_in old.buffers.entries b + count_by (is_holding b) targets)
    × ((s : ℕ) → count_in new.streams.entries s ≡ count_in old.streams.entries s + count_by (is_holding_for s) targets)

abbrev pub IsTaken : List TargetRow → Held → Held → Type 0
IsTaken targets old new =
    ((b : ℕ) → count_in new.buffers.entries b ≡ count_in old.buffers.entries b - count_by (is_holding b) targets)
    × ((s : ℕ) → count_in new.streams.entries s ≡ count_in old.streams.entries s - count_by (is_holding_for s) targets)

-- each row stands under its request's number
abbrev pub are_keyed : List (ℕ × Row) → Bool
are_keyed entries = list_all (λ e. e.1.frame == e.0) entries

-- the counts are those of the rows
abbrev pub IsCounted : List (ℕ × Row) → Held → Type 0
IsCounted entries held =
    ((b : ℕ) → count_in held.buffers.entries b ≡ held_by (is_holding b) (values_of entries))
    × ((s : ℕ) → count_in held.streams.entries s ≡ held_by (is_holding_for s) (values_of entries))

-- the counts are those of these targets of request n, and of the rows of the others
abbrev pub IsCountedWith : ℕ → List TargetRow → List (ℕ × Row) → Held → Type 0
IsCountedWith n targets entries held =
    (others : Held) × IsCounted (remove_entry (nat_eq n) entries) others × IsAdded targets others held

-- the numbers are those of the requests in call
abbrev pub IsCalled : List (ℕ × Row) → BTreeSet ℕ → Type 0
IsCalled entries called =
    (n : ℕ) → contains nat_cmp called n ≡ of_found is_row_in_call (lookup (nat_eq n) entries)

-- what is kept beside the rows is of these rows
pub record IsKept (index : Index) : Type 0 where
  pub keyed : are_keyed index.rows.entries ≡ true
  pub room : index.rows.cap ≡ 2 ^ 64 - 1
  pub called : IsCalled index.rows.entries index.called
  pub counted : IsCounted index.rows.entries index.held

-- and each row is that of a live request
pub record IsIndexed (index : Index) : Type 0 where
  pub kept : IsKept index
  pub live : list_all is_row_live (values_of index.rows.entries) ≡ true

-- the event ends a request's call
abbrev pub ends_call : HalEvent → Bool
ends_call (RequestOk _) = true
ends_call (RequestError _ _) = true
ends_call _ = false

-- something is noted in the row of request n alone
abbrev pub at_row : ℕ → (Row → Row) → Row → Row
at_row n f r = if r.frame == n then f r else r

-- the row isn't that of a live request
abbrev pub is_gone : Option Row → Bool
is_gone (Some r) = not (is_row_live r)
is_gone None = false

-- without the row of request n, where that isn't live
abbrev pub without_gone : ℕ → List (ℕ × Row) → List (ℕ × Row)
without_gone n entries = if is_gone (lookup (nat_eq n) entries) then remove_entry (nat_eq n) entries else entries

-- with something noted in the row of request n
abbrev pub set_found : (Row → Row) → ℕ → List (ℕ × Row) → Option Row → List (ℕ × Row)
set_found f n entries (Some r) = set_value (nat_eq n) entries (f r)
set_found f n entries None = entries

abbrev pub with_row : (Row → Row) → ℕ → List (ℕ × Row) → List (ℕ × Row)
with_row f n entries = set_found f n entries (lookup (nat_eq n) entries)

-- the event gives buffers back
abbrev pub gives_buffers : HalEvent → Bool
gives_buffers (Results _ _ _ buffers _) = not (is_empty buffers)
gives_buffers _ = false

-- an event that names no request, and may change rows; whether it changes the row
abbrev pub may_touch : HalEvent → Bool
may_touch (ConfigureBegin _ _) = true
may_touch FlushBegin = true
may_touch FlushOk = true
may_touch CloseBegin = true
may_touch CloseEnd = true
may_touch _ = false

abbrev pub is_touched : HalEvent → Row → Bool
is_touched (ConfigureBegin _ _) r = not r.entered
is_touched CloseBegin r = not r.entered
is_touched FlushBegin r = not r.entered || (if r.accepted then not r.before_flush else r.before_flush)
is_touched FlushOk r = r.before_flush && (not r.flushed || is_row_complete r)
is_touched CloseEnd r = is_row_complete r
is_touched _ r = false

-- something is noted in the rows of these requests
abbrev pub at_rows : List ℕ → (Row → Row) → Row → Row
at_rows ns f r = if has_number r.frame ns then f r else r
