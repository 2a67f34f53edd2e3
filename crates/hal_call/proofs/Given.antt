-- Each fence that an entry of a legal trace names was given away before, and so has a small number.
use Rattle.std.proofs.Common.{◌≡◌, ℕ, ◌==◌, ◌+◌, ◌*◌, ◌^◌, ◌<◌, ◌≤◌, Bool, true, List, [], ◌∷◌, Option, Some, None, refl, arith, nat_lt, reverse}
use Rattle.std.specs.List.{list_all}
use Rattle.std.proofs.lemmas.Bool.{and_from, and_parts}
use Rattle.std.proofs.lemmas.Bool.Decides.{nat_tests}
use Rattle.std.proofs.lemmas.List.{reverse-append, reverse-reverse}
use Rattle.std.proofs.lemmas.List.Folds.{list_all-append}
use Rattle.cam_types.specs.Four.{four_list}
use Rattle.cam_types.specs.Script.{is_valid}
use Rattle.cam_types.specs.declared.number.DeviceFenceNo.{DeviceFenceNo}
use Rattle.cam_types.specs.declared.number.FenceNo.{FenceNo}
use Rattle.cam_types.specs.declared.script.Script.{Script}
use Rattle.trace_model.specs.declared.entry.Entry.{Entry}
use Rattle.trace_model.specs.declared.entry.Entry.TheVariants.{Send, Failed, Early}
use Rattle.trace_model.specs.Legal.{IsLegal}
use Rattle.trace_model.specs.Numbers.{next_early, next_fence}
use Rattle.trace_laws.proofs.EarlyLemmas.{earlies_bounded}
use Rattle.trace_laws.proofs.FenceLemmas.{fences_bounded}
use Rattle.trace_laws.proofs.Shapes.{early-is}
use Rattle.trace_laws.proofs.ValidLemmas.{few-frames, valid}
use Rattle.basic_lemmas.proofs.Lists.{all-where, all-reversed}
use Rattle.state_facts.proofs.Fences.{are-given, is_given}
use Rattle.hal_call.specs.Fences.{is_fitting, is_small, is_small_fence}
use Rattle.basic_lemmas.proofs.Tests.{own-number}

below : (f n : ℕ) → nat_lt f n ≡ true → n ≤ 262656 → nat_lt (2 * f + 1) (2 ^ 32) ≡ true
below f n h l = let less : f < n = grind (arith, nat_tests, h) in let small : 2 * f + 1 < 2 ^ 32 = omega (arith, less, l) in grind (arith, nat_tests, small)

-- the fences of the client that were given away are small
given_small : (script : Script) (past : List Entry) (f : Option FenceNo) → is_valid script ≡ true → IsLegal script past → is_given past f ≡ true → is_small_fence f ≡ true
given_small script past None fits legal h = refl
given_small script past (Some f) fits legal h =
    let few = few-frames script (valid script fits) in
    let bound = fences_bounded script past legal in
    below f.0 (next_fence past) h (omega (arith, few, bound))

early_small : (script : Script) (past : List Entry) (d : DeviceFenceNo) → is_valid script ≡ true → IsLegal script past → d.0 ≡ next_early past → is_small d.0 ≡ true
early_small script past d fits legal number =
    let few = few-frames script (valid script fits) in
    let bound = earlies_bounded script past legal in
    let l : d.0 ≤ 262656 = omega (arith, few, bound, number) in
    let small : 2 * d.0 + 1 < 2 ^ 32 = omega (arith, l) in
    grind (arith, nat_tests, small)

-- the entry's own fences are those of its frame, or of its buffer, after it
entry_fits : (script : Script) (past : List Entry) (e : Entry) → is_valid script ≡ true → IsLegal script (e ∷ past) → is_fitting e ≡ true
entry_fits script past (Send n r i same targets) fits legal =
    let given = (are-given script (Send n r i same targets ∷ past) legal).targets n.0 in
    let own : list_all (λ t. is_given (Send n r i same targets ∷ past) t.fence) (four_list targets) ≡ true = rw (own-number n.0) at given in
    all-where (λ t. is_given (Send n r i same targets ∷ past) t.fence) (λ t. is_small_fence t.fence) (four_list targets) (λ t h. given_small script (Send n r i same targets ∷ past) t.fence fits legal h) own
entry_fits script past (Failed n s b f) fits legal =
    let given = (are-given script (Failed n s b f ∷ past) legal).fences b.0 in
    let own : is_given (Failed n s b f ∷ past) f ≡ true = rw (own-number b.0) at given in
    given_small script (Failed n s b f ∷ past) f fits legal own
entry_fits script past (Early n s b d) fits legal = early_small script past d fits legal.1 ((early-is script past n s b d legal.0).4)
entry_fits script past e fits legal = refl

all_fit : (script : Script) (past : List Entry) → is_valid script ≡ true → IsLegal script past → list_all is_fitting past ≡ true
all_fit script [] fits legal = refl
all_fit script (e ∷ past) fits legal =
    and_from (is_fitting e) (list_all is_fitting past) (entry_fits script past e fits legal) (all_fit script past fits legal.1)

pub fences_fit : (script : Script) (entries : List Entry) → is_valid script ≡ true → IsLegal script (reverse entries) → list_all is_fitting entries ≡ true
fences_fit script entries fits legal = rw (reverse-reverse entries) at (all-reversed is_fitting (reverse entries) (all_fit script (reverse entries) fits legal))
