-- What requests brought back, as tests of their rows.
use Rattle.std.proofs.Common.{◌≡◌, ℕ, ◌==◌, Bool, true, false, ◌&&◌, ◌||◌, not, List, refl, sym, ap, ◌∙◌, map}
use Rattle.std.specs.List.{list_any}
use Rattle.std.proofs.lemmas.Bool.{and_parts, and_from}
use Rattle.basic_lemmas.proofs.Lists.{any-mapped, any-where, any-agree}
use Rattle.hal_model.specs.declared.event.HalEvent.{HalEvent}
use Rattle.hal_model.specs.declared.event.HalEvent.TheVariants.{Results}
use Rattle.hal_model.specs.declared.event.Pack.TheVariants.{Entries, Empty, Absent}
use Rattle.hal_model.specs.declared.event.Returned.{Returned}
use Rattle.hal_model.specs.Callbacks.{has_sound_part, is_back_filled, is_back_orderly, is_not_filled}
use Rattle.hal_model.specs.Words.{gives, is_any, is_filled, is_part, targets_of}
use Rattle.hal_rows.specs.declared.row.TargetRow.{TargetRow}
use Rattle.hal_rows.specs.Row.{is_orderly_in, note_target, target_row}
use Rattle.hal_rows.specs.State.{has_filled, has_orderly, has_other, has_sound}
use Rattle.hal_rows.proofs.Later.{IsOfRow, is_given}
use Rattle.basic_lemmas.proofs.Tests.{or-right}

no-part : (n k : ℕ) (e : HalEvent) → is_given n e ≡ false → is_part n k e ≡ false
no-part n k (Results m j Entries buffers input) h = rw h refl
no-part n k (Results m j Empty buffers input) h = refl
no-part n k (Results m j Absent buffers input) h = refl
no-part n k _ h = refl

nothing-given : (q : Returned → Bool) (n b : ℕ) (e : HalEvent) → is_given n e ≡ false → gives q n b e ≡ false
nothing-given q n b (Results m j pack buffers input) h = rw h refl
nothing-given q n b _ h = refl

pub sound-own : (k : ℕ) → IsOfRow k (has_sound_part k) has_sound
sound-own k = record {
  reads = λ m past begun. refl;
  grows = λ f e r h. or-right (is_part r.frame k e && not (r.result_error || r.failed)) r.sound h;
  rests = λ f e r none. rw (no-part r.frame k e none) refl;
}

-- a mark of a target, set where something of it comes back
set-any : (s : ℕ) (mark : TargetRow → Bool) (f : Bool) (n : ℕ) (e : HalEvent) → ((t : TargetRow) → mark t ≡ true → mark (note_target n f e t) ≡ true) → (ts : List TargetRow) → list_any (λ t. (t.target.stream == s) && mark t) ts ≡ true → list_any (λ t. (t.target.stream == s) && mark t) (map (note_target n f e) ts) ≡ true
set-any s mark f n e grows ts h =
    any-mapped (λ t. (t.target.stream == s) && mark t) (note_target n f e) ts
    ∙ any-where (λ t. (t.target.stream == s) && mark t) (λ t. (t.target.stream == s) && mark (note_target n f e t)) ts
    (λ t g. (let parts = and_parts (t.target.stream == s) (mark t) g in and_from (t.target.stream == s) (mark (note_target n f e t)) parts.0 (grows t parts.1))) h

same-any : (s : ℕ) (mark : TargetRow → Bool) (f : Bool) (n : ℕ) (e : HalEvent) → ((t : TargetRow) → mark (note_target n f e t) ≡ mark t) → (ts : List TargetRow) → list_any (λ t. (t.target.stream == s) && mark t) (map (note_target n f e) ts) ≡ list_any (λ t. (t.target.stream == s) && mark t) ts
same-any s mark f n e same ts =
    any-mapped (λ t. (t.target.stream == s) && mark t) (note_target n f e) ts
    ∙ any-agree (λ t. (t.target.stream == s) && mark (note_target n f e t)) (λ t. (t.target.stream == s) && mark t) ts (λ t. ap (λ c. (t.target.stream == s) && c) (same t))

pub filled-own : (k s : ℕ) → IsOfRow k (is_back_filled s) (has_filled s)
filled-own k s = record {
  reads = λ m past begun. sym (any-mapped (λ t. (t.target.stream == s) && t.filled) (target_row m past) (targets_of m past));
  grows = λ f e r h. set-any s (λ t. t.filled) f r.frame e (λ t g. or-right (gives is_filled r.frame t.target.buffer e) t.filled g) r.targets h;
  rests = λ f e r none. same-any s (λ t. t.filled) f r.frame e (λ t. rw (nothing-given is_filled r.frame t.target.buffer e none) refl) r.targets;
}

pub orderly-own : (k s : ℕ) → IsOfRow k (is_back_orderly is_any s) (has_orderly s)
orderly-own k s = record {
  reads = λ m past begun. sym (any-mapped (λ t. (t.target.stream == s) && t.orderly) (target_row m past) (targets_of m past));
  grows = λ f e r h. set-any s (λ t. t.orderly) f r.frame e (λ t g. or-right (gives (λ b. is_any b && is_orderly_in f b) r.frame t.target.buffer e) t.orderly g) r.targets h;
  rests = λ f e r none. same-any s (λ t. t.orderly) f r.frame e (λ t. rw (nothing-given (λ b. is_any b && is_orderly_in f b) r.frame t.target.buffer e none) refl) r.targets;
}

pub other-own : (k s : ℕ) → IsOfRow k (is_back_orderly is_not_filled s) (has_other s)
other-own k s = record {
  reads = λ m past begun. sym (any-mapped (λ t. (t.target.stream == s) && t.other) (target_row m past) (targets_of m past));
  grows = λ f e r h. set-any s (λ t. t.other) f r.frame e (λ t g. or-right (gives (λ b. is_not_filled b && is_orderly_in f b) r.frame t.target.buffer e) t.other g) r.targets h;
  rests = λ f e r none. same-any s (λ t. t.other) f r.frame e (λ t. rw (nothing-given (λ b. is_not_filled b && is_orderly_in f b) r.frame t.target.buffer e none) refl) r.targets;
}
