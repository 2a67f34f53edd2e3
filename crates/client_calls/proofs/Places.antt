-- Four places that are filled from the first on, and the list of what is there.
use Rattle.std.proofs.Common.{◌≡◌, ℕ, ◌+◌, ◌≤◌, true, Option, Some, None, refl, arith, length, slice_get, option_to_list, length-append}
use Rattle.std.proofs.lemmas.Bool.{false≢true}
use Rattle.std.proofs.lemmas.Option.{slice_get_past}
use Rattle.std.specs.Prelude.{IsTrue}
use Rattle.cam_types.proofs.Fours.{four-few}
use Rattle.cam_types.specs.Four.{four_list}
use Rattle.cam_types.specs.declared.four.Four.{Four}
use Rattle.trace_model.specs.Printable.{is_filled}

-- ---- the value at each place

at_0 : {T : Type 0} (a b c d : Option T) → is_filled (record { a = a; b = b; c = c; d = d }) ≡ true → slice_get (four_list (record { a = a; b = b; c = c; d = d })) 0 ≡ a
at_0 (Some a) b c d h = refl
at_0 None (Some b) c d h = absurd (false≢true h)
at_0 None None (Some c) d h = absurd (false≢true h)
at_0 None None None (Some d) h = absurd (false≢true h)
at_0 None None None None h = refl

at_1 : {T : Type 0} (a b c d : Option T) → is_filled (record { a = a; b = b; c = c; d = d }) ≡ true → slice_get (four_list (record { a = a; b = b; c = c; d = d })) 1 ≡ b
at_1 (Some a) (Some b) c d h = refl
at_1 None (Some b) c d h = absurd (false≢true h)
at_1 (Some a) None (Some c) d h = absurd (false≢true h)
at_1 (Some a) None None (Some d) h = absurd (false≢true h)
at_1 None None (Some c) d h = absurd (false≢true h)
at_1 None None None (Some d) h = absurd (false≢true h)
at_1 (Some a) None None None h = refl
at_1 None None None None h = refl

at_2 : {T : Type 0} (a b c d : Option T) → is_filled (record { a = a; b = b; c = c; d = d }) ≡ true → slice_get (four_list (record { a = a; b = b; c = c; d = d })) 2 ≡ c
at_2 (Some a) (Some b) (Some c) d h = refl
at_2 (Some a) (Some b) None (Some d) h = absurd (false≢true h)
at_2 (Some a) (Some b) None None h = refl
at_2 (Some a) None (Some c) d h = absurd (false≢true h)
at_2 (Some a) None None (Some d) h = absurd (false≢true h)
at_2 (Some a) None None None h = refl
at_2 None (Some b) c d h = absurd (false≢true h)
at_2 None None (Some c) d h = absurd (false≢true h)
at_2 None None None (Some d) h = absurd (false≢true h)
at_2 None None None None h = refl

at_3 : {T : Type 0} (a b c d : Option T) → is_filled (record { a = a; b = b; c = c; d = d }) ≡ true → slice_get (four_list (record { a = a; b = b; c = c; d = d })) 3 ≡ d
at_3 (Some a) (Some b) (Some c) (Some d) h = refl
at_3 (Some a) (Some b) (Some c) None h = refl
at_3 (Some a) (Some b) None (Some d) h = absurd (false≢true h)
at_3 (Some a) (Some b) None None h = refl
at_3 (Some a) None (Some c) d h = absurd (false≢true h)
at_3 (Some a) None None (Some d) h = absurd (false≢true h)
at_3 (Some a) None None None h = refl
at_3 None (Some b) c d h = absurd (false≢true h)
at_3 None None (Some c) d h = absurd (false≢true h)
at_3 None None None (Some d) h = absurd (false≢true h)
at_3 None None None None h = refl

pub first_place : {T : Type 0} (f : Four T) → IsTrue (is_filled f) → slice_get (four_list f) 0 ≡ f.a
first_place f h = at_0 f.a f.b f.c f.d h

pub second_place : {T : Type 0} (f : Four T) → IsTrue (is_filled f) → slice_get (four_list f) 1 ≡ f.b
second_place f h = at_1 f.a f.b f.c f.d h

pub third_place : {T : Type 0} (f : Four T) → IsTrue (is_filled f) → slice_get (four_list f) 2 ≡ f.c
third_place f h = at_2 f.a f.b f.c f.d h

pub fourth_place : {T : Type 0} (f : Four T) → IsTrue (is_filled f) → slice_get (four_list f) 3 ≡ f.d
fourth_place f h = at_3 f.a f.b f.c f.d h

pub no_place : {T : Type 0} (f : Four T) (i : ℕ) → 4 ≤ i → slice_get (four_list f) i ≡ None
no_place f i l = let few = four-few f in slice_get_past (four_list f) i (omega arith)

-- how many are there
pub length_four : {T : Type 0} (f : Four T) → length (four_list f) ≡ length (option_to_list f.a) + length (option_to_list f.b) + length (option_to_list f.c) + length (option_to_list f.d)
length_four f =
    rw (length-append (option_to_list f.a) _, length-append (option_to_list f.b) _, length-append (option_to_list f.c) _) (omega arith)
