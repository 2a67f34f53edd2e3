-- The targets of each place, one after the other.
use Rattle.std.proofs.Common.{◌≡◌, ◌∙◌, ◌++◌, Bool, true, List, ap, map, option_to_list, sym, append_assoc}
use Rattle.std.specs.List.{list_all}
use Rattle.std.proofs.lemmas.Bool.{and_parts}
use Rattle.std.proofs.lemmas.List.{map-append}
use Rattle.std.proofs.lemmas.List.Folds.{list_all-append}
use Rattle.hal_model.specs.Hal.{target}
use Rattle.trace_model.specs.declared.entry.Sent.{Sent}
use Rattle.hal_call.specs.Fences.{is_small_fence}
use Rattle.hal_call.proofs.request.targets_of.Goals as goal

abbrev is_small : Sent → Bool
is_small t = is_small_fence t.fence

both : {X : Type 0} (p : X → Bool) (xs ys : List X) → list_all p (xs ++ ys) ≡ true → (list_all p xs ≡ true) × (list_all p ys ≡ true)
both p xs ys h = and_parts (list_all p xs) (list_all p ys) (sym (list_all-append p xs ys) ∙ h)

four : {X Y : Type 0} (f : X → Y) (a b c d : List X) → ((map f a ++ map f b) ++ map f c) ++ map f d ≡ map f (a ++ (b ++ (c ++ d)))
four f a b c d =
    append_assoc (map f a ++ map f b) (map f c) (map f d)
    ∙ (append_assoc (map f a) (map f b) (map f c ++ map f d)
    ∙ sym (
    map-append f a (b ++ (c ++ d))
    ∙ ap (λ rest. map f a ++ rest) (map-append f b (c ++ d) ∙ ap (λ rest. map f b ++ rest) (map-append f c d))
    ))

pub add_target-requires : goal.add_target-requires
add_target-requires c =
    let t = c.args.targets.now in
    (both is_small (option_to_list t.a) (option_to_list t.b ++ (option_to_list t.c ++ option_to_list t.d)) c.requires).0

pub add_target-requires-2 : goal.add_target-requires-2
add_target-requires-2 c =
    let t = c.args.targets.now in
    let after = (both is_small (option_to_list t.a) (option_to_list t.b ++ (option_to_list t.c ++ option_to_list t.d)) c.requires).1 in
    (both is_small (option_to_list t.b) (option_to_list t.c ++ option_to_list t.d) after).0

pub add_target-requires-3 : goal.add_target-requires-3
add_target-requires-3 c =
    let t = c.args.targets.now in
    let after = (both is_small (option_to_list t.a) (option_to_list t.b ++ (option_to_list t.c ++ option_to_list t.d)) c.requires).1 in
    let last = (both is_small (option_to_list t.b) (option_to_list t.c ++ option_to_list t.d) after).1 in
    (both is_small (option_to_list t.c) (option_to_list t.d) last).0

pub add_target-requires-4 : goal.add_target-requires-4
add_target-requires-4 c =
    let t = c.args.targets.now in
    let after = (both is_small (option_to_list t.a) (option_to_list t.b ++ (option_to_list t.c ++ option_to_list t.d)) c.requires).1 in
    let last = (both is_small (option_to_list t.b) (option_to_list t.c ++ option_to_list t.d) after).1 in
    (both is_small (option_to_list t.c) (option_to_list t.d) last).1

pub returns : goal.returns
returns c =
    let t = c.args.targets.now in
    rw (c.in_ok-add_target-4.ensures, c.in_ok-add_target-3.ensures, c.in_ok-add_target-2.ensures, c.in_ok-add_target.ensures, c.new-list.ensures) (four target (option_to_list t.a) (option_to_list t.b) (option_to_list t.c) (option_to_list t.d))
