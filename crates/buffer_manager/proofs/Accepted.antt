-- The streams of an accepted configuration, one after another.
use Rattle.std.proofs.Common.{◌≡◌, ℕ, zero, suc, ◌+◌, ◌*◌, ◌<◌, ◌≤◌, ◌&&◌, ◌||◌, Bool, true, false, not, nat_lt, if◌then◌else◌, List, [], ◌∷◌, ◌++◌, Option, Some, None, refl, sym, ◌∙◌, ap, arith, length, take, get_or, inl, inr}
use Rattle.std.specs.Prelude.{count_by, slice_get}
use Rattle.std.specs.List.{list_any, position_from}
use Rattle.std.proofs.lemmas.Bool.{cases_Bool, false≢true}
use Rattle.std.proofs.lemmas.Bool.Decides.{nat_tests}
use Rattle.std.proofs.lemmas.List.{length-replicate, length-take-le, replicate-append-replicate}
use Rattle.std.proofs.lemmas.List.Sums.{count_by_more_yes, sum_by-cons}
use Rattle.std.proofs.lemmas.Option.{slice_get-get_or}
use Rattle.cam_types.specs.Picture.{is_offered, is_size_of}
use Rattle.cam_types.specs.Profile.{is_profile, pool_size}
use Rattle.cam_types.specs.Refusals.{at_place, is_raw, is_yuv, or_else, refused, specs_refusal, where_true}
use Rattle.cam_types.specs.declared.number.DeviceFenceNo.{DeviceFenceNo}
use Rattle.cam_types.specs.declared.number.FenceNo.{FenceNo}
use Rattle.cam_types.specs.declared.profile.Profile.{Profile}
use Rattle.cam_types.specs.declared.reply.Made.{Made}
use Rattle.cam_types.specs.declared.reply.Reply.{Reply}
use Rattle.cam_types.specs.declared.stream.StreamSpec.{StreamSpec}
use Rattle.trace_model.specs.Place.{Pool}
use Rattle.trace_model.specs.Reply.{made_for}
use Rattle.state_facts.specs.Homes.{count_in}
use Rattle.buffer_manager.specs.Managed.{Managed, has_room_for, opened, with_stream}
use Rattle.buffer_manager.proofs.Opens.{size-few}

-- ---- what an accepted configuration has

none-left : (a b : Option Reply) → or_else a b ≡ None → b ≡ None
none-left (Some r) b h = absurd (cc)
none-left None b h = h

none-first : (a b : Option Reply) → or_else a b ≡ None → a ≡ None
none-first (Some r) b h = h
none-first None b h = refl

not-true : (b : Bool) (r : Reply) → where_true b r ≡ None → b ≡ false
not-true true r h = absurd (cc)
not-true false r h = refl

not-here : (code i : ℕ) (b : Bool) (rest : Option ℕ) → at_place code (if b then Some i else rest) ≡ None → (b ≡ false) × (at_place code rest ≡ None)
not-here code i true rest h = absurd (cc)
not-here code i false rest h = (refl, h)

nowhere : {T : Type 0} (p : T → Bool) (code i : ℕ) (xs : List T) → at_place code (position_from p i xs) ≡ None → (k : ℕ) (x : T) → slice_get xs k ≡ Some x → p x ≡ false
nowhere p code i [] h k x at = absurd (cc)
nowhere p code i (y ∷ xs) h zero x at =
    let same : y ≡ x = cc in
    ap p (sym same) ∙ (not-here code i (p y) (position_from p (i + 1) xs) h).0
nowhere p code i (y ∷ xs) h (suc k) x at = nowhere p code (i + 1) xs (not-here code i (p y) (position_from p (i + 1) xs) h).1 k x at

pub record IsAccepted (specs : List StreamSpec) : Type 0 where
  pub few : length specs ≤ 4
  pub offered : (k : ℕ) (spec : StreamSpec) → slice_get specs k ≡ Some spec → is_offered spec ≡ true
  pub raw : count_by (λ (s : StreamSpec). is_raw s.format) specs ≤ 1
  pub yuv : count_by (λ (s : StreamSpec). is_yuv s.format) specs ≤ 3

pub accepted : (specs : List StreamSpec) → specs_refusal specs ≡ None → IsAccepted specs
accepted specs h =
    let raw = where_true (nat_lt 1 (count_by (λ (s : StreamSpec). is_raw s.format) specs)) (refused 26) in
    let yuv = where_true (nat_lt 3 (count_by (λ (s : StreamSpec). is_yuv s.format) specs)) (refused 27) in
    let sizes = at_place 25 (position_from (λ (s : StreamSpec). not (is_size_of s.format s.width s.height)) 0 specs) in
    let formats = at_place 24 (position_from (λ (s : StreamSpec). not (is_raw s.format) && not (is_yuv s.format)) 0 specs) in
    let input = where_true (list_any (λ (s : StreamSpec). s.input) specs) (refused 23) in
    let many = where_true (nat_lt 4 (length specs)) (refused 22) in
    let h1 = none-left (where_true (not (list_any (λ (s : StreamSpec). not s.input) specs)) (refused 21)) (or_else many (or_else input (or_else formats (or_else sizes (or_else raw yuv))))) h in
    let h2 = none-left many (or_else input (or_else formats (or_else sizes (or_else raw yuv)))) h1 in
    let h3 = none-left input (or_else formats (or_else sizes (or_else raw yuv))) h2 in
    let h4 = none-left formats (or_else sizes (or_else raw yuv)) h3 in
    let h5 = none-left sizes (or_else raw yuv) h4 in
    let h6 = none-left raw yuv h5 in record {
      few = at-most (length specs) 4 (not-true (nat_lt 4 (length specs)) (refused 22) (none-first many (or_else input (or_else formats (or_else sizes (or_else raw yuv)))) h1));
      offered = λ k spec at. not-not (is_offered spec) (nowhere (λ (s : StreamSpec). not (is_size_of s.format s.width s.height)) 25 0 specs (none-first sizes (or_else raw yuv) h4) k spec at);
      raw = at-most (count_by (λ (s : StreamSpec). is_raw s.format) specs) 1 (not-true (nat_lt 1 (count_by (λ (s : StreamSpec). is_raw s.format) specs)) (refused 26) (none-first raw yuv h5));
      yuv = at-most (count_by (λ (s : StreamSpec). is_yuv s.format) specs) 3 (not-true (nat_lt 3 (count_by (λ (s : StreamSpec). is_yuv s.format) specs)) (refused 27) h6);
    }
  where
    at-most : (n k : ℕ) → nat_lt k n ≡ false → n ≤ k
    at-most n k h = grind (arith, nat_tests, h)

    not-not : (b : Bool) → not b ≡ false → b ≡ true
    not-not true h = refl
    not-not false h = absurd (false≢true (sym h))

-- ---- the room that is left

count-cons : (p : StreamSpec → Bool) (x : StreamSpec) (xs : List StreamSpec) → count_by p (x ∷ xs) ≡ (if p x then 1 else 0) + count_by p xs
count-cons p x xs = sum_by-cons (λ (s : StreamSpec). if p s then 1 else 0) x xs

count-take : (p : StreamSpec → Bool) (k : ℕ) (xs : List StreamSpec) → count_by p (take k xs) ≤ count_by p xs
count-take p zero xs = omega arith
count-take p (suc k) [] = omega arith
count-take p (suc k) (x ∷ xs) =
    let rest = count-take p k xs in
    let one = count-cons p x (take k xs) in
    let all = count-cons p x xs in
    omega (arith, rest, one, all)

left-for : (p : StreamSpec → Bool) (xs : List StreamSpec) (i n : ℕ) (d : StreamSpec) → i < length xs → count_by p xs ≤ n → (not (p (get_or xs i d)) || nat_lt (count_by p (take i xs)) n) ≡ true
left-for p xs i n d less few = elim (cases_Bool (p (get_or xs i d))) [
  | inl yes' ↦ (
      let more = count_by_more_yes p xs i d less yes' in
      let all = count-take p (i + 1) xs in
      let room : nat_lt (count_by p (take i xs)) n ≡ true = grind (arith, nat_tests, more, all, few) in
      rw (yes', room) refl
      )
  | inr no' ↦ rw no' refl
]

pub room-for : (specs : List StreamSpec) (i : ℕ) (d : StreamSpec) → IsAccepted specs → i < length specs → has_room_for (take i specs) (get_or specs i d) ≡ true
room-for specs i d ok less =
    let few = ok.few in
    let long = length-take-le i specs (omega (arith, less)) in
    let one : nat_lt (length (take i specs)) 4 ≡ true = grind (arith, nat_tests, few, long, less) in
    rw (one, left-for (λ (s : StreamSpec). is_raw s.format) specs i 1 d less ok.raw, left-for (λ (s : StreamSpec). is_yuv s.format) specs i 3 d less ok.yuv) refl

pub offered-at : (specs : List StreamSpec) (i : ℕ) (d : StreamSpec) → IsAccepted specs → i < length specs → is_offered (get_or specs i d) ≡ true
offered-at specs i d ok less = ok.offered i (get_or specs i d) (slice_get-get_or specs i d less)

-- ---- one more stream

count-in-cons : (m : Made) (ms : List Made) → count_in (m ∷ ms) ≡ m.count + count_in ms
count-in-cons m ms = sum_by-cons (λ (m : Made). m.count) m ms

pub few-made : (p : Profile) (a : ℕ) (specs : List StreamSpec) → is_profile p ≡ true → count_in (made_for p a specs) ≤ 18 * length specs
few-made p a [] valid = omega arith
few-made p a (spec ∷ specs) valid =
    let one = count-in-cons (record { first = record { 0 = a }; count = pool_size p spec.format }) (made_for p (a + pool_size p spec.format) specs) in
    let rest = few-made p (a + pool_size p spec.format) specs valid in
    let few = size-few p spec.format valid in
    omega (arith, one, rest, few)

made-more : (p : Profile) (a : ℕ) (specs : List StreamSpec) (spec : StreamSpec) → made_for p a (specs ++ spec ∷ []) ≡ made_for p a specs ++ record { first = record { 0 = a + count_in (made_for p a specs) }; count = pool_size p spec.format } ∷ []
made-more p a [] spec =
    let same : a ≡ a + 0 = omega arith in
    ap (λ k. record { first = record { 0 = k }; count = pool_size p spec.format } ∷ []) same
made-more p a (x ∷ specs) spec =
    let one = count-in-cons (record { first = record { 0 = a }; count = pool_size p x.format }) (made_for p (a + pool_size p x.format) specs) in
    let same : a + pool_size p x.format + count_in (made_for p (a + pool_size p x.format) specs) ≡ a + count_in (made_for p a (x ∷ specs)) = omega (arith, one) in
    ap (λ (ms : List Made). record { first = record { 0 = a }; count = pool_size p x.format } ∷ ms) (made-more p (a + pool_size p x.format) specs spec ∙ ap (λ k. made_for p (a + pool_size p x.format) specs ++ record { first = record { 0 = k }; count = pool_size p spec.format } ∷ []) same)

count-push : (ms : List Made) (m : Made) → count_in (ms ++ m ∷ []) ≡ count_in ms + m.count
count-push [] m = (let one = count-in-cons m [] in omega (arith, one))
count-push (x ∷ ms) m =
    let one = count-in-cons x (ms ++ m ∷ []) in
    let two = count-in-cons x ms in
    let rest = count-push ms m in
    omega (arith, one, two, rest)

pub opened-more : (specs : List StreamSpec) (spec : StreamSpec) (m : Managed) → with_stream spec (opened specs m) ≡ opened (specs ++ spec ∷ []) m
opened-more specs spec m =
    let ms = made_for m.profile m.first specs in
    let n = pool_size m.profile spec.format in
    let one : Made = record { first = record { 0 = m.first + count_in (made_for m.profile m.first specs) }; count = pool_size m.profile spec.format } in
    let more = made-more m.profile m.first specs spec in
    let count : count_in (made_for m.profile m.first (specs ++ spec ∷ [])) ≡ count_in (made_for m.profile m.first specs) + pool_size m.profile spec.format = ap (λ (x : List Made). count_in x) more ∙ count-push (made_for m.profile m.first specs) (record { first = record { 0 = m.first + count_in (made_for m.profile m.first specs) }; count = pool_size m.profile spec.format }) in
    rw (count, more, length-replicate (count_in (made_for m.profile m.first specs)) Pool, replicate-append-replicate (count_in (made_for m.profile m.first specs)) (pool_size m.profile spec.format) Pool, replicate-append-replicate {A = Option FenceNo} (count_in (made_for m.profile m.first specs)) (pool_size m.profile spec.format) None, replicate-append-replicate {A = Option DeviceFenceNo} (count_in (made_for m.profile m.first specs)) (pool_size m.profile spec.format) None, replicate-append-replicate {A = Option (List ℕ)} (count_in (made_for m.profile m.first specs)) (pool_size m.profile spec.format) None) refl
