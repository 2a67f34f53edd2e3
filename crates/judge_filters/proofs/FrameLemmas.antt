-- What holds of the frames of a past, as a test of its entries.
use Rattle.std.proofs.Common.{◌≡◌, ℕ, ◌+◌, Bool, true, false, ◌&&◌, ◌==◌, List, [], ◌∷◌, Option, refl, ap, arith, length, filter, not, ◌||◌, ◌<◌, nat_lt, count_by, find, inl, inr}
use Rattle.std.specs.List.{list_all, list_any}
use Rattle.std.proofs.lemmas.Grind.{common_steps}
use Rattle.std.proofs.lemmas.Bool.{cases_Bool}
use Rattle.std.proofs.lemmas.Bool.Decides.{nat_tests}
use Rattle.trace_model.specs.declared.entry.Entry.{Entry}
use Rattle.trace_model.specs.declared.entry.Entry.TheVariants.{Send, Early}
use Rattle.trace_model.specs.Frames.{frames, each_earlier}
use Rattle.trace_model.specs.Open.{early_fences}
use Rattle.judge_filters.specs.Past.{at_send, at_earlier, on_send, on_early, frame_in}

pub frames_all : (p : ℕ → Bool) (past : List Entry) → list_all p (frames past) ≡ list_all (at_send p) past
frames_all p [] = refl
frames_all p (Send n r i same targets ∷ past) = ap (λ (b : Bool). p n.0 && b) (frames_all p past)
frames_all p (e ∷ past) = frames_all p past

pub frames_count : (p : ℕ → Bool) (past : List Entry) → length (filter p (frames past)) ≡ count_by (on_send p) past
frames_count p [] = refl
frames_count p (Send n r i same targets ∷ past) =
    let ih = frames_count p past in
    elim (cases_Bool (p n.0)) [
      | inl yes' ↦ grind (arith, common_steps)
      | inr no' ↦ grind (arith, common_steps)
    ]
frames_count p (e ∷ past) = frames_count p past

pub frames_find : (p : ℕ → Bool) (past : List Entry) → find p (frames past) ≡ frame_in (find (on_send p) past)
frames_find p [] = refl
frames_find p (Send n r i same targets ∷ past) =
    elim (cases_Bool (p n.0)) [
      | inl yes' ↦ rw yes' refl
      | inr no' ↦ rw no' (frames_find p past)
    ]
frames_find p (e ∷ past) = frames_find p past

pub earlier_all : (n : ℕ) (p : ℕ → Bool) (past : List Entry) → each_earlier n p past ≡ list_all (at_earlier n p) past
earlier_all n p [] = refl
earlier_all n p (Send m r i same targets ∷ past) = ap (λ (b : Bool). (not (nat_lt m.0 n) || p m.0) && b) (earlier_all n p past)
earlier_all n p (e ∷ past) = earlier_all n p past

-- a test that is asked of smaller numbers alone, at a smaller one
pub or_below : (m n : ℕ) (b r : Bool) → m < n → r ≡ b → r ≡ (not (nat_lt m n) || b)
or_below m n b r l e = grind (arith, nat_tests)

-- the device fences of early returns, by the entries that give them
pub fences_any : (n s : ℕ) (p : ℕ → Bool) (past : List Entry) → list_any p (early_fences n s past) ≡ list_any (on_early n s p) past
fences_any n s p [] = refl
fences_any n s p (Early m t b d ∷ past) =
    let ih = fences_any n s p past in
    elim (cases_Bool ((m.0 == n) && (t.0 == s))) [
      | inl yes' ↦ rw (yes', ih) refl
      | inr no' ↦ rw (no', ih) refl
    ]
fences_any n s p (e ∷ past) = fences_any n s p past
