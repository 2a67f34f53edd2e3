-- Where the input buffers are after a line.
use Rattle.std.proofs.Common.{◌≡◌, ℕ, zero, suc, ◌<◌, true, List, [], ◌∷◌, Option, Some, None, inl, inr, refl, sym, ◌∙◌, arith, get_or, length, set, subst}
use Rattle.std.proofs.lemmas.Bool.{cases_eq, eq-eqb, ne_eqb, false≢true}
use Rattle.std.proofs.lemmas.Grind.{common_steps}
use Rattle.std.proofs.lemmas.List.{get_or_default}
use Rattle.cam_types.specs.Shown.{Shown}
use Rattle.cam_types.specs.declared.four.Four.{Four}
use Rattle.cam_types.specs.declared.number.FrameNo.{FrameNo}
use Rattle.cam_types.specs.declared.stream.StreamSpec.{StreamSpec}
use Rattle.reprocess_model.specs.declared.entry.InputId.{InputId}
use Rattle.reprocess_model.specs.declared.entry.ReEntry.{ReEntry}
use Rattle.reprocess_model.specs.declared.entry.ReOut.{ReOut}
use Rattle.reprocess_model.specs.declared.entry.ReEntry.TheVariants.{Input, Take}
use Rattle.reprocess_model.specs.declared.plan.Plan.{Plan}
use Rattle.reprocess_model.specs.Past.{input_holder}
use Rattle.reprocess_core.specs.declared.input.Place.{Place}
use Rattle.reprocess_core.specs.declared.input.Place.TheVariants.{Home, Out}
use Rattle.reprocess_core.specs.Inputs.{AreHome, ArePlaces, HasRoom, IsHomeWith, IsPlace, IsTicket, is_home, is_out}
use Rattle.reprocess_core.specs.Tickets.{TicketView}

-- what stands at a place, by any default
pub at-place : (xs : List (Option Place)) (i : ℕ) (r : Option Place) → r ≡ get_or xs i r → i < length xs → get_or xs i None ≡ r
at-place xs i r is less = sym (is ∙ get_or_default xs i r None less)

-- ---- at the start

home-at : (spec : StreamSpec) (x y z : Option Place) → IsHomeWith spec x → IsHomeWith spec y → IsHomeWith spec z → (i : ℕ) → i < 3 → IsHomeWith spec (get_or (x ∷ y ∷ z ∷ []) i None)
home-at spec x y z hx hy hz zero l = hx
home-at spec x y z hx hy hz (suc zero) l = hy
home-at spec x y z hx hy hz (suc (suc zero)) l = hz
home-at spec x y z hx hy hz (suc (suc (suc i))) l = absurd (omega arith)

pub three-home : (spec : StreamSpec) (x y z : Option Place) → IsHomeWith spec x → IsHomeWith spec y → IsHomeWith spec z → AreHome spec (x ∷ y ∷ z ∷ [])
three-home spec x y z hx hy hz = record { three = refl; each = home-at spec x y z hx hy hz }

home-first : (plan : Plan) (p : Option Place) → IsHomeWith plan.input p → IsPlace plan None p
home-first plan (Some (Home pixels)) room = room
home-first plan (Some (Out ticket)) room = absurd room
home-first plan None room = absurd room

-- three buffers at home are where a run without lines has them
pub first-places : (plan : Plan) (xs : List (Option Place)) → AreHome plan.input xs → ArePlaces plan [] xs
first-places plan xs home = record { three = home.three; each = λ i low. home-first plan (get_or xs i None) (home.each i low) }

-- ---- where a buffer is

pub home-place : (plan : Plan) (o : Option ℕ) (p : Option Place) → o ≡ None → IsPlace plan o p → (is_home p ≡ true) × IsHomeWith plan.input p
home-place plan None (Some (Home pixels)) h is = (refl, is)
home-place plan None (Some (Out ticket)) h is = absurd is
home-place plan None None h is = absurd is
home-place plan (Some n) p h is = absurd (cc)

pub out-place : (plan : Plan) (n : ℕ) (o : Option ℕ) (p : Option Place) → o ≡ Some n → IsPlace plan o p → is_out p ≡ true
out-place plan n (Some m) (Some (Out ticket)) h is = refl
out-place plan n (Some m) (Some (Home pixels)) h is = absurd is
out-place plan n (Some m) None h is = absurd is
out-place plan n None p h is = absurd (cc)

pub ticket-place : (plan : Plan) (n : ℕ) (o : Option ℕ) (p : Option Place) (ticket : TicketView) → o ≡ Some n → IsPlace plan o p → p ≡ Some (Out ticket) → IsTicket plan n ticket
ticket-place plan n o p ticket h is at =
    let is' : IsPlace plan (Some n) (Some (Out ticket)) = subst (λ (x : Option ℕ). IsPlace plan x (Some (Out ticket))) h (subst (λ (x : Option Place). IsPlace plan o x) at is) in
    is'

-- one place is taken and filled again
module _ (xs : List (Option Place)) (i : ℕ) (p : Option Place) where
  pub filled-here : i < length xs → get_or (set (set xs i None) i p) i None ≡ p
  filled-here less = grind (arith, common_steps)

  pub filled-other : (k : ℕ) → (k ≡ i → ⊥) → get_or (set (set xs i None) i p) k None ≡ get_or xs k None
  filled-other k other = grind (arith, common_steps, other)

  pub filled-long : length (set (set xs i None) i p) ≡ length xs
  filled-long = grind (arith, common_steps)

-- one holder changes, with its place
changed : (plan : Plan) (e : ReEntry) (past : List ReEntry) (xs : List (Option Place)) (i : ℕ) (p : Option Place) → ArePlaces plan past xs → i < 3 → IsPlace plan (input_holder i (e ∷ past)) p → ((k : ℕ) → (k ≡ i → ⊥) → input_holder k (e ∷ past) ≡ input_holder k past) → ArePlaces plan (e ∷ past) (set (set xs i None) i p)
changed plan e past xs i p are low here others =
    let three = are.three in
    record {
      three = filled-long xs i p ∙ three;
      each = λ k l. elim (cases_eq k i) [
        | inl same ↦ subst (λ (j : ℕ). IsPlace plan (input_holder j (e ∷ past)) (get_or (set (set xs i None) i p) j None)) (sym same)
            (subst (λ (x : Option Place). IsPlace plan (input_holder i (e ∷ past)) x) (sym (filled-here xs i p (omega (arith, three, low)))) here)
        | inr other ↦ subst (λ (x : Option Place). IsPlace plan (input_holder k (e ∷ past)) x) (sym (filled-other xs i p k other))
            (subst (λ (o : Option ℕ). IsPlace plan o (get_or xs k None)) (sym (others k other)) (are.each k l))
      ];
    }

pub taken-places : (plan : Plan) (past : List ReEntry) (xs : List (Option Place)) (n : FrameNo) (i : InputId) (outs : Four ReOut) (ticket : TicketView) → ArePlaces plan past xs → i.0 < 3 → IsTicket plan n.0 ticket → ArePlaces plan (Take n i outs ∷ past) (set (set xs i.0 None) i.0 (Some (Out ticket)))
taken-places plan past xs n i outs ticket are low is =
    let held : input_holder i.0 (Take n i outs ∷ past) ≡ Some n.0 = rw (eq-eqb i.0 i.0 refl) refl in
    changed plan (Take n i outs) past xs i.0 (Some (Out ticket)) are low (subst (λ (o : Option ℕ). IsPlace plan o (Some (Out ticket))) (sym held) is)
    (λ k other. rw (ne_eqb i.0 k (λ same. other (sym same))) refl)

pub returned-places : (plan : Plan) (past : List ReEntry) (xs : List (Option Place)) (n : FrameNo) (i : InputId) (pixels : Shown) → ArePlaces plan past xs → i.0 < 3 → HasRoom plan.input pixels → ArePlaces plan (Input n i ∷ past) (set (set xs i.0 None) i.0 (Some (Home pixels)))
returned-places plan past xs n i pixels are low room =
    let free : input_holder i.0 (Input n i ∷ past) ≡ None = rw (eq-eqb i.0 i.0 refl) refl in
    changed plan (Input n i) past xs i.0 (Some (Home pixels)) are low (subst (λ (o : Option ℕ). IsPlace plan o (Some (Home pixels))) (sym free) room)
    (λ k other. rw (ne_eqb i.0 k (λ same. other (sym same))) refl)

pub filled-places : (plan : Plan) (past : List ReEntry) (xs : List (Option Place)) (e : ReEntry) → ((k : ℕ) → input_holder k (e ∷ past) ≡ input_holder k past) → ArePlaces plan past xs → ArePlaces plan (e ∷ past) xs
filled-places plan past xs e same are = record {
  three = are.three;
  each = λ k l. subst (λ (o : Option ℕ). IsPlace plan o (get_or xs k None)) (sym (same k)) (are.each k l);
}
