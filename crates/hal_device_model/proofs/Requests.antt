-- The row of a request that is accepted fits the log.
use Rattle.std.proofs.Common.{◌≡◌, ℕ, ◌==◌, Bool, true, false, if◌then◌else◌, List, [], ◌∷◌, ◌++◌, Option, Some, None, option_to_list, refl, sym, ap, ◌∙◌, inl, inr, ◌⊎◌}
use Rattle.std.specs.List.{find, list_any}
use Rattle.std.specs.Option.{option_map}
use Rattle.std.proofs.lemmas.Bool.{cases_Bool, eqb-true, false≢true}
use Rattle.cam_types.specs.Four.{four_list}
use Rattle.cam_types.specs.declared.item.Settings.{Settings}
use Rattle.cam_types.specs.declared.row.TargetView.{TargetView}
use Rattle.device_rows.specs.Rows.{target_at}
use Rattle.hal_device_model.specs.Calls.{fresh_row, fresh_target, is_again, names_twice, placed, placed_at}
use Rattle.hal_device_model.proofs.Fits.{RowFits, in_place, is_target}
use Rattle.hal_model.specs.declared.event.HalEvent.{HalEvent}
use Rattle.hal_model.specs.declared.event.HalEvent.TheVariants.{RequestBegin, RequestOk}
use Rattle.hal_model.specs.declared.event.HalTarget.{HalTarget}
use Rattle.basic_lemmas.proofs.Lists.{found-passes}
use Rattle.basic_lemmas.proofs.Tests.{own-number, or-first, or-second}

-- ---- the target of a stream is that of the request

-- the target that the row has for stream s
pub record Came (s : ℕ) (targets : List HalTarget) (t : TargetView) : Type 0 where
  pub given : HalTarget
  pub found : find (λ h. h.stream == s) targets ≡ Some given
  pub is : t ≡ fresh_target s given

came-at : (k s : ℕ) (targets : List HalTarget) (o : Option HalTarget) (t : TargetView) → find (λ h. h.stream == k) targets ≡ o → option_map (fresh_target k) o ≡ Some t → (t.stream.0 == s) ≡ true → Came s targets t
came-at k s targets None t at h here = absurd (cc)
came-at k s targets (Some given) t at h here =
    let is : fresh_target k given ≡ t = cc in
    let ks : k ≡ s = eqb-true k s (ap (λ (x : TargetView). x.stream.0 == s) is ∙ here) in
    record {
      given = given;
      found = ap (λ (i : ℕ). find (λ h. h.stream == i) targets) (sym ks) ∙ at;
      is = sym is ∙ ap (λ (i : ℕ). fresh_target i given) ks;
    }

found-first : (p : TargetView → Bool) (o : Option TargetView) (rest : List TargetView) (t : TargetView) → find p (option_to_list o ++ rest) ≡ Some t → (o ≡ Some t) ⊎ (find p rest ≡ Some t)
found-first p None rest t h = inr h
found-first p (Some x) rest t h = by (p x) h
  where
    by : (b : Bool) → (if b then Some x else find p rest) ≡ Some t → (Some x ≡ Some t) ⊎ (find p rest ≡ Some t)
    by true g = inl g
    by false g = inr g

found-last : (p : TargetView → Bool) (o : Option TargetView) (t : TargetView) → find p (option_to_list o) ≡ Some t → o ≡ Some t
found-last p None t h = absurd (cc)
found-last p (Some x) t h = by (p x) h
  where
    by : (b : Bool) → (if b then Some x else None) ≡ Some t → Some x ≡ Some t
    by true g = g
    by false g = absurd (cc)

pub came : (n s : ℕ) (settings : Settings) (targets : List HalTarget) (t : TargetView) → target_at s (fresh_row n settings targets) ≡ Some t → Came s targets t
came n s settings targets t h =
    let p = λ (x : TargetView). x.stream.0 == s in
    let here : (t.stream.0 == s) ≡ true = found-passes p (four_list (placed targets)) t h in
    let at = λ (k : ℕ) (g : placed_at k targets ≡ Some t). came-at k s targets (find (λ x. x.stream == k) targets) t refl g here in
    elim (found-first p (placed_at 0 targets) (option_to_list (placed_at 1 targets) ++ (option_to_list (placed_at 2 targets) ++ option_to_list (placed_at 3 targets))) t h) [
      | inl a ↦ at 0 a
      | inr r ↦ elim (found-first p (placed_at 1 targets) (option_to_list (placed_at 2 targets) ++ option_to_list (placed_at 3 targets)) t r) [
        | inl b ↦ at 1 b
        | inr q ↦ elim (found-first p (placed_at 2 targets) (option_to_list (placed_at 3 targets)) t q) [
          | inl c ↦ at 2 c
          | inr d ↦ at 3 (found-last p (placed_at 3 targets) t d)
        ]
      ]
    ]

-- ---- no two targets have one buffer

-- a target behind has another buffer
behind : (x y : HalTarget) (s : ℕ) (targets : List HalTarget) → list_any (is_again x) targets ≡ false → find (λ h. h.stream == s) targets ≡ Some y → x.buffer ≡ y.buffer → ⊥
behind x y s [] no' at same = absurd (cc)
behind x y s (z ∷ targets) no' at same =
    elim (cases_Bool (z.stream == s)) [
      | inl here ↦ (
          let at' = rw here at at in
          let is : z ≡ y = cc in
          let again : (z.buffer == x.buffer) ≡ false = or-second (z.stream == x.stream) (z.buffer == x.buffer) (or-first (is_again x z) (list_any (is_again x) targets) no') in
          let own : (z.buffer == x.buffer) ≡ true = ap (λ (b : ℕ). b == x.buffer) (ap (λ (h : HalTarget). h.buffer) is ∙ sym same) ∙ own-number x.buffer in
          false≢true (sym again ∙ own)
          )
      | inr other ↦ (
          let at' = rw other at at in
          behind x y s targets (or-second (is_again x z) (list_any (is_again x) targets) no') at' same
          )
    ]

pub one_buffer : (s u : ℕ) (g h : HalTarget) (targets : List HalTarget) → names_twice targets ≡ false → find (λ x. x.stream == s) targets ≡ Some g → find (λ x. x.stream == u) targets ≡ Some h → g.buffer ≡ h.buffer → s ≡ u
one_buffer s u g h [] once at at' same = absurd (cc)
one_buffer s u g h (x ∷ targets) once at at' same =
    let none = or-first (list_any (is_again x) targets) (names_twice targets) once in
    let rest = or-second (list_any (is_again x) targets) (names_twice targets) once in
    by (x.stream == s) (x.stream == u) refl refl none (λ k l. one_buffer s u g h targets rest k l same) at at'
  where
    by : (a b : Bool) → (x.stream == s) ≡ a → (x.stream == u) ≡ b → list_any (is_again x) targets ≡ false → (find (λ y. y.stream == s) targets ≡ Some g → find (λ y. y.stream == u) targets ≡ Some h → s ≡ u) → (if a then Some x else find (λ y. y.stream == s) targets) ≡ Some g → (if b then Some x else find (λ y. y.stream == u) targets) ≡ Some h → s ≡ u
    by true true p q none ih k l = sym (eqb-true x.stream s p) ∙ eqb-true x.stream u q
    by true false p q none ih k l =
        let is : x ≡ g = cc in
        absurd (behind x h u targets none l (ap (λ (y : HalTarget). y.buffer) is ∙ same))
    by false true p q none ih k l =
        let is : x ≡ h = cc in
        absurd (behind x g s targets none k (ap (λ (y : HalTarget). y.buffer) is ∙ sym same))
    by false false p q none ih k l = ih k l

-- ---- the row

named-in : (s b : ℕ) (g : HalTarget) (targets : List HalTarget) → find (λ h. h.stream == s) targets ≡ Some g → g.buffer ≡ b → list_any (is_target s b) targets ≡ true
named-in s b g [] at same = absurd (cc)
named-in s b g (x ∷ targets) at same =
    elim (cases_Bool (x.stream == s)) [
      | inl here ↦ (
          let at' = rw here at at in
          let is : x ≡ g = cc in
          let own : (x.buffer == b) ≡ true = ap (λ (k : ℕ). k == b) (ap (λ (h : HalTarget). h.buffer) is ∙ same) ∙ own-number b in
          rw (here, own) refl
          )
      | inr other ↦ (
          let at' = rw other at at in
          rw other (named-in s b g targets at' same)
          )
    ]

in-own-place : (k : ℕ) (o : Option HalTarget) → in_place k (option_map (fresh_target k) o) ≡ true
in-own-place k (Some h) = own-number k
in-own-place k None = refl

pub fits_fresh : (n : ℕ) (same : Bool) (settings : Settings) (targets : List HalTarget) (past : List HalEvent) → names_twice targets ≡ false → RowFits n (RequestOk n ∷ RequestBegin n same targets false false ∷ past) (fresh_row n settings targets)
fits_fresh n same settings targets past once = record {
  shutter = λ x. rw (own-number n) refl;
  failed = λ x. rw (own-number n) refl;
  result = λ x. rw (own-number n) refl;
  parts = λ j l. rw (own-number n) refl;
  named = λ r s t at. (let w = came n s settings targets t at in rw (own-number n) (named-in s t.buffer.0 w.given targets w.found (ap (λ (x : TargetView). x.buffer.0) (sym w.is))));
  back = λ s t at out. rw (own-number n) refl;
  notice = λ s t at out. rw (own-number n) refl;
  apart = λ s u t v at at' is. (
      let w = came n s settings targets t at in
      let w' = came n u settings targets v at' in
      one_buffer s u w.given w'.given targets once w.found w'.found (ap (λ (x : TargetView). x.buffer.0) (sym w.is) ∙ (is ∙ ap (λ (x : TargetView). x.buffer.0) w'.is))
      );
  place = rw (in-own-place 0 (find (λ t. t.stream == 0) targets), in-own-place 1 (find (λ t. t.stream == 1) targets), in-own-place 2 (find (λ t. t.stream == 2) targets), in-own-place 3 (find (λ t. t.stream == 3) targets)) refl;
}
