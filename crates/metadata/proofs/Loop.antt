-- Reading entries one after the other, as a loop does.
use Rattle.std.proofs.Common.{◌≡◌, ℕ, suc, ◌+◌, ◌-◌, ◌<◌, ◌≤◌, List, [], ◌∷◌, ◌++◌, length, take, drop, Option, Some, Result, Ok, Err, refl, ap, sym, ◌∙◌, append_assoc, arith}
use Rattle.std.specs.Prelude.{◌≢◌}
use Rattle.std.proofs.lemmas.List.{append-nil}
use Rattle.metadata.specs.declared.entry.Entry.{Entry}
use Rattle.metadata.specs.declared.refused.PackedRefused.{PackedRefused}
use Rattle.metadata.specs.declared.refused.PackedRefused.TheVariants.{Overlap, NoMemory}
use Rattle.metadata.specs.Values.{pieces}
use Rattle.metadata.specs.Reading.{◌>>=◌, entry_of, entries_of}

-- what was read before, and what is still read
abbrev pub with_front : List Entry → Result (List Entry) PackedRefused → Result (List Entry) PackedRefused
with_front front read = read >>= λ es. Ok (front ++ es)

-- the entries in so many times 16 bytes
abbrev pub read_from : ℕ → List ℕ → List ℕ → ℕ → Option ℕ → Result (List Entry) PackedRefused
read_from count slots area tiled last = entries_of (pieces 16 (λ slot. slot) count slots) area tiled last

regroup : (front : List Entry) (e : Entry) (read : Result (List Entry) PackedRefused) → with_front front (read >>= λ es. Ok (e ∷ es)) ≡ with_front (front ++ e ∷ []) read
regroup front e (Ok es) = ap Ok (simp append_assoc)
regroup front e (Err f) = refl

pub goes_on : (front : List Entry) (count i : ℕ) (slots slot after area : List ℕ) (tiled : ℕ) (last : Option ℕ) (e : Entry) (end : ℕ) (total : Result (List Entry) PackedRefused) → i < count
    → slot ≡ take 16 slots → after ≡ drop 16 slots → entry_of slot area tiled last ≡ Ok (e, end) → with_front front (read_from (count - i) slots area tiled last) ≡ total
    → with_front (front ++ e ∷ []) (read_from (count - (i + 1)) after area end (Some e.tag)) ≡ total
unfolding entries_of
goes_on front count i slots slot after area tiled last e end total lt slot-is after-is h so_far =
    let k : count - i ≡ suc (count - (i + 1)) = omega arith in
    let read : entry_of (take 16 slots) area tiled last ≡ Ok (e, end) = rw (← slot-is) h in
    let one : with_front front (read_from (count - i) slots area tiled last) ≡ with_front (front ++ e ∷ []) (read_from (count - (i + 1)) (drop 16 slots) area end (Some e.tag)) =
    rw (k, read) (regroup front e (read_from (count - (i + 1)) (drop 16 slots) area end (Some e.tag))) in
    rw after-is (sym one ∙ so_far)

pub ends : (f : PackedRefused) (front : List Entry) (count i : ℕ) (slots slot area : List ℕ) (tiled : ℕ) (last : Option ℕ) (total : Result (List Entry) PackedRefused) → i < count
    → slot ≡ take 16 slots → (f ≢ NoMemory → entry_of slot area tiled last ≡ Err f) → with_front front (read_from (count - i) slots area tiled last) ≡ total → f ≢ NoMemory → total ≡ Err f
unfolding entries_of
ends f front count i slots slot area tiled last total lt slot-is h so_far ne =
    let k : count - i ≡ suc (count - (i + 1)) = omega arith in
    let refused : entry_of (take 16 slots) area tiled last ≡ Err f = rw (← slot-is) (h ne) in
    let one : with_front front (read_from (count - i) slots area tiled last) ≡ Err f = rw (k, refused) refl in
    sym so_far ∙ one

pub is_done : (front : List Entry) (count i : ℕ) (slots area : List ℕ) (tiled : ℕ) (last : Option ℕ) (total : Result (List Entry) PackedRefused) → count ≤ i → length area ≡ tiled
    → with_front front (read_from (count - i) slots area tiled last) ≡ total → total ≡ Ok front
unfolding entries_of
is_done front count i slots area tiled last total le whole so_far =
    let k : count - i ≡ 0 = omega arith in
    let one : with_front front (read_from (count - i) slots area tiled last) ≡ Ok front = rw k (rw whole (grind (arith, append-nil front))) in
    sym so_far ∙ one

pub is_left : (front : List Entry) (count i : ℕ) (slots area : List ℕ) (tiled : ℕ) (last : Option ℕ) (total : Result (List Entry) PackedRefused) → count ≤ i → length area ≢ tiled
    → with_front front (read_from (count - i) slots area tiled last) ≡ total → total ≡ Err Overlap
unfolding entries_of
is_left front count i slots area tiled last total le ne so_far =
    let k : count - i ≡ 0 = omega arith in
    let one : with_front front (read_from (count - i) slots area tiled last) ≡ Err Overlap = rw k (grind arith) in
    sym so_far ∙ one
