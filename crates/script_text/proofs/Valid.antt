-- What is read fits: each number is in its range.
use Rattle.std.proofs.Common.{◌≡◌, ℕ, zero, suc, ◌-◌, ◌^◌, Bool, true, eqb, ltb, leb, List, [], ◌∷◌, ◌++◌, length, drop, replicate, Option, None, Some, refl, sym, ap, ◌∙◌, arith}
use Rattle.std.specs.List.{list_all}
use Rattle.std.proofs.lemmas.Bool.{and_from, leb-true, eq-eqb}
use Rattle.std.proofs.lemmas.Bool.Decides.{nat_tests}
use Rattle.std.proofs.lemmas.List.{length-append, length-replicate, drop_at}
use Rattle.std.proofs.lemmas.List.Folds.{list_all-append}
use Rattle.cam_types.specs.declared.item.Item.{Item}
use Rattle.cam_types.specs.declared.item.Settings.{Settings}
use Rattle.cam_types.specs.declared.item.Targets.{Targets}
use Rattle.cam_types.specs.declared.stream.Format.{Format}
use Rattle.cam_types.specs.declared.stream.StreamSpec.{StreamSpec}
use Rattle.script_text.proofs.Fitting.{settings_fit, targets_fit, item_fits, format_fits, spec_fits}
use Rattle.text_parts.proofs.Spelled.{number-below}
use Rattle.text_parts.specs.Numbers.{number_below}
use Rattle.text_parts.specs.Cuts.{parts_at}
use Rattle.text_parts.specs.Values.{◌>>=◌, all_of, four_numbers}
use Rattle.script_text.specs.Values.{format_of, side_of, stream_of, spec_of, settings_of, targets, joined_targets, targets_of, item_of}
use Rattle.script_text.specs.Within.{targets_within, item_within, within}

format-fits : (word : List ℕ) (f : Format) → format_of word ≡ Some f → format_fits f ≡ true
unfolding format_of
format-fits word f h = grind (arith, nat_tests, number-below)

side-fits : (word : List ℕ) (n : ℕ) → side_of word ≡ Some n → (ltb 0 n ≡ true) × (ltb n (2 ^ 16) ≡ true)
unfolding side_of
side-fits word n h = grind (arith, nat_tests, number-below)

stream-fits : (b : Bool) (word : List ℕ) (s : StreamSpec) → stream_of b word ≡ Some s → spec_fits s ≡ true
unfolding stream_of
stream-fits b word s h = grind (arith, nat_tests, format-fits, side-fits)

pub spec-fits : (word : List ℕ) (s : StreamSpec) → spec_of word ≡ Some s → spec_fits s ≡ true
unfolding spec_of
spec-fits word s h = grind (arith, stream-fits)

four-fit : (word : List ℕ) (s : Settings) → four_numbers word ≡ Some s → settings_fit s ≡ true
unfolding four_numbers
four-fit word s h = grind (arith, nat_tests, number-below)

settings-fit : (word : List ℕ) (s : Settings) → settings_of word ≡ Some s → settings_fit s ≡ true
unfolding settings_of
settings-fit word s h = grind (arith, nat_tests, four-fit)

-- a list of values, each of which fits
all-fit-step : {A : Type 0} (o : Option A) (os : Option (List A)) (fits : A → Bool) → ((x : A) → o ≡ Some x → fits x ≡ true) → ((ys : List A) → os ≡ Some ys → list_all fits ys ≡ true) → (xs : List A) → (o >>= λ x. os >>= λ ys. Some (x ∷ ys)) ≡ Some xs → list_all fits xs ≡ true
all-fit-step None os fits first more xs h = absurd (cc)
all-fit-step (Some x) None fits first more xs h = absurd (cc)
all-fit-step (Some x) (Some ys) fits first more xs h = let e : x ∷ ys ≡ xs = cc in ap (list_all fits) (sym e) ∙ and_from _ _ (first x refl) (more ys refl)

pub all-fit : {A : Type 0} (read : List ℕ → Option A) (fits : A → Bool) → ((word : List ℕ) (x : A) → read word ≡ Some x → fits x ≡ true) → (words : List (List ℕ)) (xs : List A) → all_of read words ≡ Some xs → list_all fits xs ≡ true
all-fit read fits each [] xs h = let e : [] ≡ xs = cc in ap (list_all fits) (sym e)
all-fit read fits each (word ∷ words) xs h = all-fit-step (read word) (all_of read words) fits (each word) (all-fit read fits each words) xs h

abbrev pub is_byte : ℕ → Bool
is_byte n = ltb n (2 ^ 8)

abbrev pub is_u32 : ℕ → Bool
is_u32 n = ltb n (2 ^ 32)

zeros-are-bytes : (n : ℕ) → list_all is_byte (replicate n 0) ≡ true
zeros-are-bytes zero = refl
zeros-are-bytes (suc n) = zeros-are-bytes n

zeros-are-zero : (n : ℕ) → list_all (λ s. eqb s 0) (replicate n 0) ≡ true
zeros-are-zero zero = refl
zeros-are-zero (suc n) = zeros-are-zero n

made-targets : (ns : List ℕ) → list_all is_byte ns ≡ true → leb (length ns) 8 ≡ true → targets_fit (targets ns) ≡ true
made-targets ns h l =
    let short = leb-true (length ns) 8 l in
    let long : length (ns ++ replicate (8 - length ns) 0) ≡ 8 = omega (arith, length-append ns (replicate (8 - length ns) 0), length-replicate {A = ℕ} (8 - length ns) 0) in
    let rest : drop (length ns) (ns ++ replicate (8 - length ns) 0) ≡ replicate (8 - length ns) 0 = drop_at ns (replicate (8 - length ns) 0) (length ns) refl in
    let bytes : list_all is_byte (ns ++ replicate (8 - length ns) 0) ≡ true = rw (list_all-append is_byte ns (replicate (8 - length ns) 0)) (and_from _ _ h (zeros-are-bytes (8 - length ns))) in
    and_from _ _ l (and_from _ _ (eq-eqb _ _ long) (and_from _ _ bytes (ap (list_all (λ s. eqb s 0)) rest ∙ zeros-are-zero (8 - length ns))))

joined-step : (o : Option (List ℕ)) (t : Targets) → ((ns : List ℕ) → o ≡ Some ns → list_all is_byte ns ≡ true) → (o >>= λ ns. Some (targets ns)) ≡ Some t → targets_within t ≡ true → targets_fit t ≡ true
joined-step None t each h within = absurd (cc)
joined-step (Some ns) t each h within = let e : targets ns ≡ t = cc in ap targets_fit (sym e) ∙ made-targets ns (each ns refl) (ap targets_within e ∙ within)

joined-fit : (word : List ℕ) (t : Targets) → joined_targets word ≡ Some t → targets_within t ≡ true → targets_fit t ≡ true
unfolding joined_targets
joined-fit word t h within = joined-step (all_of (number_below (2 ^ 8)) (parts_at 43 word)) t (all-fit (number_below (2 ^ 8)) is_byte (number-below (2 ^ 8)) (parts_at 43 word)) h within

targets-fit : (word : List ℕ) (t : Targets) → targets_of word ≡ Some t → targets_within t ≡ true → targets_fit t ≡ true
unfolding targets_of
targets-fit word t h within = grind (arith, joined-fit, made-targets [] refl refl)

pub item-fits : (word : List ℕ) (i : Item) → item_of word ≡ Some i → item_within i ≡ true → item_fits i ≡ true
unfolding item_of
item-fits word i h within = grind (arith, settings-fit, targets-fit)
