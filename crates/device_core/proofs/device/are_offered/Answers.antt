use Rattle.std.proofs.Common.{◌≡◌, Bool, true, false, ◌&&◌, List, Option, Some, None, ◌++◌, map, refl, sym, ap, ◌∙◌}
use Rattle.std.specs.List.{list_all}
use Rattle.std.specs.Prelude.{option_to_list}
use Rattle.cam_types.specs.Picture.{is_offered}
use Rattle.cam_types.specs.declared.four.Four.{Four}
use Rattle.device_core.specs.Stored.{spec_of}
use Rattle.request_checks.specs.declared.plan.PlanStream.{PlanStream}
use Rattle.device_core.proofs.device.are_offered.Goals as goal

abbrev all : List PlanStream → Bool
all streams = list_all is_offered (map spec_of streams)

abbrev one : Option PlanStream → Bool
one stream = all (option_to_list stream)

both : (b c : Bool) → (b && c) ≡ ((b && true) && c)
both true c = refl
both false c = refl

one-more : (stream : Option PlanStream) (others : List PlanStream) (rest : Bool) → all others ≡ rest → all (option_to_list stream ++ others) ≡ (one stream && rest)
one-more None others rest is = is
one-more (Some s) others rest is = ap (λ (b : Bool). is_offered (spec_of s) && b) is ∙ both (is_offered (spec_of s)) rest

abbrev all-of : Four PlanStream → Bool
all-of f = all (option_to_list f.a ++ (option_to_list f.b ++ (option_to_list f.c ++ option_to_list f.d)))

-- of the streams of a plan, one by one
each : (f : Four PlanStream) → all-of f ≡ (one f.a && (one f.b && (one f.c && one f.d)))
each f = one-more f.a _ _ (one-more f.b _ _ (one-more f.c (option_to_list f.d) (one f.d) refl))

not-a : (f : Four PlanStream) → one f.a ≡ false → false ≡ all-of f
not-a f a = sym (each f ∙ rw a refl)

not-b : (f : Four PlanStream) → one f.a ≡ true → one f.b ≡ false → false ≡ all-of f
not-b f a b = sym (each f ∙ rw (a, b) refl)

not-c : (f : Four PlanStream) → one f.a ≡ true → one f.b ≡ true → one f.c ≡ false → false ≡ all-of f
not-c f a b c = sym (each f ∙ rw (a, b, c) refl)

as-d : (f : Four PlanStream) (d : Bool) → one f.a ≡ true → one f.b ≡ true → one f.c ≡ true → d ≡ one f.d → d ≡ all-of f
as-d f d a b c is = is ∙ sym (each f ∙ rw (a, b, c) refl)

pub returns-else-is_offered_at : goal.returns-else-is_offered_at
returns-else-is_offered_at c =
    c.if-is_offered_at.false ∙ not-a c.args.plan.streams (sym c.is_offered_at.ensures ∙ c.if-is_offered_at.false)

pub returns-else-is_offered_at-2 : goal.returns-else-is_offered_at-2
returns-else-is_offered_at-2 c =
    c.if-is_offered_at-2.false ∙ not-b c.args.plan.streams (sym c.is_offered_at.ensures ∙ c.if-is_offered_at.true) (sym c.is_offered_at-then-is_offered_at.ensures ∙ c.if-is_offered_at-2.false)

pub returns-else-is_offered_at-3 : goal.returns-else-is_offered_at-3
returns-else-is_offered_at-3 c =
    c.if-is_offered_at-3.false ∙ not-c c.args.plan.streams (sym c.is_offered_at.ensures ∙ c.if-is_offered_at.true) (sym c.is_offered_at-then-is_offered_at.ensures ∙ c.if-is_offered_at-2.true) (sym c.is_offered_at-then-is_offered_at-2.ensures ∙ c.if-is_offered_at-3.false)

pub returns-then-is_offered_at-3 : goal.returns-then-is_offered_at-3
returns-then-is_offered_at-3 c =
    as-d c.args.plan.streams c.is_offered_at-then-is_offered_at-3.result (sym c.is_offered_at.ensures ∙ c.if-is_offered_at.true) (sym c.is_offered_at-then-is_offered_at.ensures ∙ c.if-is_offered_at-2.true) (sym c.is_offered_at-then-is_offered_at-2.ensures ∙ c.if-is_offered_at-3.true) c.is_offered_at-then-is_offered_at-3.ensures
