-- Plans whose streams stand from the first place on.
use Rattle.std.proofs.Common.{◌≡◌, Bool, true, false, ◌&&◌, ◌||◌, is_none, is_some, List, ◌++◌, map, Option, Some, None, refl, option_to_list}
use Rattle.std.specs.Prelude.{slice_get}
use Rattle.std.specs.Option.{option_map}
use Rattle.std.proofs.lemmas.Bool.{false≢true}
use Rattle.cam_types.specs.declared.stream.StreamSpec.{StreamSpec}
use Rattle.device_core.specs.Stored.{spec_of}
use Rattle.request_checks.specs.declared.plan.PlanStream.{PlanStream}

abbrev pub packed : Option PlanStream → Option PlanStream → Option PlanStream → Option PlanStream → Bool
packed a b c d = ((is_some a || is_none b) && (is_some b || is_none c)) && (is_some c || is_none d)

-- such a plan has one of five shapes
pub shapes : (P : Option PlanStream → Option PlanStream → Option PlanStream → Option PlanStream → Type 0) → P None None None None → ((w : PlanStream) → P (Some w) None None None) → ((w x : PlanStream) → P (Some w) (Some x) None None) → ((w x y : PlanStream) → P (Some w) (Some x) (Some y) None) → ((w x y z : PlanStream) → P (Some w) (Some x) (Some y) (Some z)) → (a b c d : Option PlanStream) → packed a b c d ≡ true → P a b c d
shapes P p0 p1 p2 p3 p4 None None None None h = p0
shapes P p0 p1 p2 p3 p4 (Some w) None None None h = p1 w
shapes P p0 p1 p2 p3 p4 (Some w) (Some x) None None h = p2 w x
shapes P p0 p1 p2 p3 p4 (Some w) (Some x) (Some y) None h = p3 w x y
shapes P p0 p1 p2 p3 p4 (Some w) (Some x) (Some y) (Some z) h = p4 w x y z
shapes P p0 p1 p2 p3 p4 None None None (Some z) h = absurd (false≢true h)
shapes P p0 p1 p2 p3 p4 None None (Some y) None h = absurd (false≢true h)
shapes P p0 p1 p2 p3 p4 None None (Some y) (Some z) h = absurd (false≢true h)
shapes P p0 p1 p2 p3 p4 None (Some x) None None h = absurd (false≢true h)
shapes P p0 p1 p2 p3 p4 None (Some x) None (Some z) h = absurd (false≢true h)
shapes P p0 p1 p2 p3 p4 None (Some x) (Some y) None h = absurd (false≢true h)
shapes P p0 p1 p2 p3 p4 None (Some x) (Some y) (Some z) h = absurd (false≢true h)
shapes P p0 p1 p2 p3 p4 (Some w) None None (Some z) h = absurd (false≢true h)
shapes P p0 p1 p2 p3 p4 (Some w) None (Some y) None h = absurd (false≢true h)
shapes P p0 p1 p2 p3 p4 (Some w) None (Some y) (Some z) h = absurd (false≢true h)
shapes P p0 p1 p2 p3 p4 (Some w) (Some x) None (Some z) h = absurd (false≢true h)

abbrev pub specs_in : Option PlanStream → Option PlanStream → Option PlanStream → Option PlanStream → List StreamSpec
specs_in a b c d = map spec_of (option_to_list a ++ (option_to_list b ++ (option_to_list c ++ option_to_list d)))

-- the stream at each place
pub spec_0 : (a b c d : Option PlanStream) → packed a b c d ≡ true → slice_get (specs_in a b c d) 0 ≡ option_map spec_of a
spec_0 a b c d h = shapes (λ a' b' c' d'. slice_get (specs_in a' b' c' d') 0 ≡ option_map spec_of a') refl (λ w. refl) (λ w x. refl) (λ w x y. refl) (λ w x y z. refl) a b c d h

pub spec_1 : (a b c d : Option PlanStream) → packed a b c d ≡ true → slice_get (specs_in a b c d) 1 ≡ option_map spec_of b
spec_1 a b c d h = shapes (λ a' b' c' d'. slice_get (specs_in a' b' c' d') 1 ≡ option_map spec_of b') refl (λ w. refl) (λ w x. refl) (λ w x y. refl) (λ w x y z. refl) a b c d h

pub spec_2 : (a b c d : Option PlanStream) → packed a b c d ≡ true → slice_get (specs_in a b c d) 2 ≡ option_map spec_of c
spec_2 a b c d h = shapes (λ a' b' c' d'. slice_get (specs_in a' b' c' d') 2 ≡ option_map spec_of c') refl (λ w. refl) (λ w x. refl) (λ w x y. refl) (λ w x y z. refl) a b c d h

pub spec_3 : (a b c d : Option PlanStream) → packed a b c d ≡ true → slice_get (specs_in a b c d) 3 ≡ option_map spec_of d
spec_3 a b c d h = shapes (λ a' b' c' d'. slice_get (specs_in a' b' c' d') 3 ≡ option_map spec_of d') refl (λ w. refl) (λ w x. refl) (λ w x y. refl) (λ w x y z. refl) a b c d h
