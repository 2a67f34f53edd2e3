-- What a frame ended as stays so.
use Rattle.std.proofs.Common.{◌≡◌, ℕ, ◌==◌, Bool, true, false, ◌&&◌, ◌||◌, not, List, [], ◌∷◌, ◌++◌, Option, Some, None, refl, sym, ap, ◌∙◌, arith, inl, inr, find, nat_lt, if◌then◌else◌}
use Rattle.std.specs.List.{list_all}
use Rattle.std.specs.Option.{option_to_list}
use Rattle.std.proofs.lemmas.Bool.{and_from, and_parts, both_ways, cases_Bool, eqb-true, false≢true, ltb-true, ne_eqb}
use Rattle.cam_types.specs.declared.number.BufferId.{BufferId}
use Rattle.cam_types.specs.declared.number.FenceNo.{FenceNo}
use Rattle.cam_types.specs.declared.number.FrameNo.{FrameNo}
use Rattle.cam_types.specs.declared.number.StreamIx.{StreamIx}
use Rattle.cam_types.specs.declared.partial_result.PartialResult.{PartialResult}
use Rattle.cam_types.specs.declared.script.Script.{Script}
use Rattle.trace_model.specs.declared.entry.Entry.{Entry}
use Rattle.trace_model.specs.declared.entry.Entry.TheVariants.{Send, Dropped, Partial, Filled}
use Rattle.trace_model.specs.declared.entry.Sent.{Sent}
use Rattle.trace_model.specs.Filled.{filled_due}
use Rattle.trace_model.specs.Frames.{has_error_request, is_sent, targets_of}
use Rattle.trace_model.specs.Legal.{IsLegal}
use Rattle.trace_model.specs.Numbers.{next_number}
use Rattle.trace_model.specs.Open.{all_settled, has_error_result, has_part, is_metadata_ended, is_open, is_returned, is_settled}
use Rattle.trace_model.specs.Partial.{partial_due}
use Rattle.basic_lemmas.proofs.Lists.{all-where}
use Rattle.trace_laws.proofs.Once.{out-not-returned, settled-returned}
use Rattle.trace_laws.proofs.Returns.{filled-back}
use Rattle.trace_laws.proofs.BufferSends.{out-sent, send-number}
use Rattle.trace_laws.proofs.Parts.{part-first, part-is}
use Rattle.trace_laws.proofs.Shutters.{shutter-sent}
use Rattle.logical_call.specs.declared.pair.PairEnd.{PairEnd}
use Rattle.logical_call.specs.declared.pair.PairEnd.TheVariants.{Ok, Error, Drop}
use Rattle.logical_call.specs.declared.pair.Paired.{Paired}
use Rattle.logical_call.specs.declared.pair.Side.{Side}
use Rattle.logical_call.specs.declared.pair.Side.TheVariants.{First, Second}
use Rattle.logical_call.specs.Laws.{HowItEndedStays, PairsSayHowTheyEnded}
use Rattle.logical_call.specs.Pairs.{is_dropped, is_ended, pair_end}
use Rattle.logical_call.specs.Sides.{AreLegal, first_part, frame_by, have_ended, is_end, paired_of, pairs, second_part}
use Rattle.logical_call.proofs.Frames.{drops_not_sent}
use Rattle.logical_call.proofs.Sides.{ended-below, tail-legal, both-stay}

-- ---- a frame that was sent and ended

-- its metadata ended and its buffers are settled
done-parts : (d s m a : Bool) → d ≡ false → (d || (s && not (s && not (m && a)))) ≡ true → (m ≡ true) × (a ≡ true)
done-parts true s m a no' h = absurd (false≢true (sym no'))
done-parts false true true true no' h = (refl, refl)
done-parts false true true false no' h = absurd (false≢true h)
done-parts false true false a no' h = absurd (false≢true h)
done-parts false false m a no' h = absurd (false≢true h)

not-dropped : (script : Script) (past : List Entry) (n : ℕ) → IsLegal script past → is_sent n past ≡ true → is_dropped n past ≡ false
not-dropped script past n legal sent = elim (cases_Bool (is_dropped n past)) [
  | inl dropped ↦ absurd (both_ways (is_sent n past) (drops_not_sent script past n legal dropped) sent)
  | inr no' ↦ no'
]

sent-done : (script : Script) (past : List Entry) (n : ℕ) → IsLegal script past → is_sent n past ≡ true → is_ended n past ≡ true → (is_metadata_ended n past ≡ true) × (all_settled n past ≡ true)
sent-done script past n legal sent ended =
    done-parts (is_dropped n past) (is_sent n past) (is_metadata_ended n past) (all_settled n past) (not-dropped script past n legal sent) ended

ended-none : (p r q : Bool) → p ≡ false → r ≡ false → q ≡ false → (p || (r || q)) ≡ true → false ≡ true
ended-none p r q a b c h = rw (a, b, c) at h

-- no part of it comes
no-part : (script : Script) (past : List Entry) (n : FrameNo) (k : ℕ) (part : PartialResult) → IsLegal script past → partial_due script past n.0 ≡ Some (Partial n k part) → is_ended n.0 past ≡ true → (k == 3) ≡ false
no-part script past n k part legal may ended = elim (cases_Bool (k == 3)) [
  | inl last ↦ (
      let is = part-is script past n k part may in
      let sent = shutter-sent script past n.0 legal is.shutter in
      let first = part-first script past n k part legal may in
      let first' : has_part n.0 3 past ≡ false = rw (eqb-true k 3 last) at first in
      absurd (false≢true (ended-none (has_part n.0 3 past) (has_error_result n.0 past) (has_error_request n.0 past) first' is.no_result is.no_request (sent-done script past n.0 legal sent ended).0))
      )
  | inr other ↦ other
]

settled-target : (n s : ℕ) (past : List Entry) (t : Sent) (ts : List Sent) → list_all (λ u. is_settled n u.stream.0 past) ts ≡ true → find (λ u. u.stream.0 == s) ts ≡ Some t → is_settled n s past ≡ true
settled-target n s past t [] all at = absurd (cc)
settled-target n s past t (u ∷ ts) all at =
    let parts = and_parts (is_settled n u.stream.0 past) (list_all (λ v. is_settled n v.stream.0 past) ts) all in
    elim (cases_Bool (u.stream.0 == s)) [
      | inl here ↦ rw (eqb-true u.stream.0 s here) at parts.0
      | inr other ↦ (let at' = rw other at at in settled-target n s past t ts parts.1 at')
    ]

-- and no picture
no-picture : (script : Script) (past : List Entry) (n : FrameNo) (s : StreamIx) (b : BufferId) (f : Option FenceNo) (d : List ℕ) → IsLegal script past → filled_due script past n.0 s.0 ≡ Some (Filled n s b f d) → is_ended n.0 past ≡ true → false ≡ true
no-picture script past n s b f d legal may ended =
    let back = filled-back script past n s b f d may in
    let sent = out-sent past n.0 s.0 b.0 back.out in
    let all = (sent-done script past n.0 legal sent ended).1 in
    let settled = settled-target n.0 s.0 past back.target (targets_of n.0 past) all back.found in
    absurd (both_ways (is_returned n.0 s.0 past) (out-not-returned script past n.0 s.0 b.0 legal back.out) (settled-returned n.0 s.0 past settled))

other-number : (n k m : ℕ) → nat_lt n k ≡ true → m ≡ k → (m == n) ≡ false
other-number n k m less at = let less' = ltb-true n k less in ne_eqb m n (λ same. absurd (omega (arith, less', at, same)))

pub how_it_ended_stays : (script : Script) (past : List Entry) → HowItEndedStays script past
how_it_ended_stays script past (Send m r i same targets) n legal ended =
    let less = ended-below script past n legal.1 ended in
    let other = other-number n (next_number past) m.0 less (send-number script past m.0 r.0 i same targets legal.0) in
    (rw other refl, refl)
how_it_ended_stays script past (Dropped m r i) n legal ended = (
  refl,
  elim (cases_Bool (m.0 == n)) [
    | inl here ↦ (
        let now : is_dropped n (Dropped m r i ∷ past) ≡ true = rw here refl in
        let unsent = drops_not_sent script (Dropped m r i ∷ past) n legal now in
        let before : is_dropped n past ≡ true = alone (is_dropped n past) (is_sent n past) (not (is_open n past)) unsent ended in
        now ∙ sym before
        )
    | inr other ↦ rw other refl
  ],
)
  where
    alone : (d s o : Bool) → s ≡ false → (d || (s && o)) ≡ true → d ≡ true
    alone true s o no' h = refl
    alone false false o no' h = absurd (false≢true h)
    alone false true o no' h = absurd (false≢true (sym no'))
how_it_ended_stays script past (Partial m k part) n legal ended = (
  elim (cases_Bool (m.0 == n)) [
    | inl here ↦ (
        let ended' : is_ended m.0 past ≡ true = rw (eqb-true m.0 n here) ended in
        let other = no-part script past m k part legal.1 legal.0 ended' in
        rw (here, other) refl
        )
    | inr other ↦ rw other refl
  ],
  refl,
)
how_it_ended_stays script past (Filled m s b f d) n legal ended = (
  elim (cases_Bool (m.0 == n)) [
    | inl here ↦ (
        let ended' : is_ended m.0 past ≡ true = rw (eqb-true m.0 n here) ended in
        absurd (false≢true (no-picture script past m s b f d legal.1 legal.0 ended'))
        )
    | inr other ↦ rw other refl
  ],
  refl,
)
how_it_ended_stays script past e n legal ended = (refl, refl)

-- ---- pairs

same-end : (a b c d e f g h : Bool) → a ≡ b → c ≡ d → e ≡ f → g ≡ h → ◌≡◌ {A = PairEnd} (if a && c then Ok else (if e && g then Drop else Error)) (if b && d then Ok else (if f && h then Drop else Error))
same-end a b c d e f g h p q r s = rw (p, q, r, s) refl

end-stays : (one two : Script) (side : Side) (sides : List Side) (n : ℕ) → AreLegal one two (side ∷ sides) → have_ended n sides ≡ true → pair_end n (first_part (side ∷ sides)) (second_part (side ∷ sides)) ≡ pair_end n (first_part sides) (second_part sides)
end-stays one two (First e) sides n legal h =
    let both = and_parts (is_ended n (first_part sides)) (is_ended n (second_part sides)) h in
    let stays = how_it_ended_stays one (first_part sides) e n legal.0 both.0 in
    same-end _ _ _ _ _ _ _ _ stays.0 refl stays.1 refl
end-stays one two (Second e) sides n legal h =
    let both = and_parts (is_ended n (first_part sides)) (is_ended n (second_part sides)) h in
    let stays = how_it_ended_stays two (second_part sides) e n legal.1 both.1 in
    same-end _ _ _ _ _ _ _ _ refl stays.0 refl stays.1

is-same-end : (p : PairEnd) → is_end p p ≡ true
is-same-end Ok = refl
is-same-end Error = refl
is-same-end Drop = refl

abbrev pub says_so : List Side → Paired → Bool
says_so sides p = have_ended p.frame.0 sides && is_end (pair_end p.frame.0 (first_part sides) (second_part sides)) p.end

all-with : {X : Type 0} (p : X → Bool) (o : Option X) (xs : List X) → ((x : X) → o ≡ Some x → p x ≡ true) → list_all p xs ≡ true → list_all p (option_to_list o ++ xs) ≡ true
all-with p (Some x) xs h all = and_from (p x) (list_all p xs) (h x refl) all
all-with p None xs h all = all

of-same : (P : Paired → Type 0) (q p : Paired) → q ≡ p → P q → P p
of-same P q p same it = rw same at it

new-says : (side : Side) (sides : List Side) (o : Option ℕ) (p : Paired) → paired_of side sides o ≡ Some p → says_so (side ∷ sides) p ≡ true
new-says side sides None p h = absurd (cc)
new-says side sides (Some n) p h =
    elim (cases_Bool (have_ended n (side ∷ sides) && not (have_ended n sides))) [
      | inl now ↦ (
          let h' = rw now at h in
          let q : Paired = record { frame = record { 0 = n }; end = pair_end n (first_part (side ∷ sides)) (second_part (side ∷ sides)) } in
          let same : q ≡ p = cc in
          let it : says_so (side ∷ sides) q ≡ true = and_from (have_ended n (side ∷ sides)) _ (and_parts (have_ended n (side ∷ sides)) (not (have_ended n sides)) now).0 (is-same-end (pair_end n (first_part (side ∷ sides)) (second_part (side ∷ sides)))) in
          of-same (λ (x : Paired). says_so (side ∷ sides) x ≡ true) q p same it
          )
      | inr no' ↦ (let h' = rw no' at h in absurd (cc))
    ]

still-says : (one two : Script) (side : Side) (sides : List Side) (p : Paired) → AreLegal one two (side ∷ sides) → says_so sides p ≡ true → says_so (side ∷ sides) p ≡ true
still-says one two side sides p legal h =
    let parts = and_parts (have_ended p.frame.0 sides) (is_end (pair_end p.frame.0 (first_part sides) (second_part sides)) p.end) h in
    let same = end-stays one two side sides p.frame.0 legal parts.0 in
    and_from _ _ (both-stay one two side sides p.frame.0 legal parts.0) (ap (λ (q : PairEnd). is_end q p.end) same ∙ parts.1)

all-say : (one two : Script) (sides : List Side) → AreLegal one two sides → list_all (says_so sides) (pairs sides) ≡ true
all-say one two [] legal = refl
all-say one two (side ∷ sides) legal =
    let ih = all-say one two sides (tail-legal one two side sides legal) in
    let old = all-where (says_so sides) (says_so (side ∷ sides)) (pairs sides) (λ p h. still-says one two side sides p legal h) ih in
    all-with (says_so (side ∷ sides)) (paired_of side sides (frame_by side sides)) (pairs sides) (λ p h. new-says side sides (frame_by side sides) p h) old

pub pairs_say : (one two : Script) (sides : List Side) → PairsSayHowTheyEnded one two sides
pairs_say one two sides legal =
    all-where (says_so sides) (λ p. is_end (pair_end p.frame.0 (first_part sides) (second_part sides)) p.end) (pairs sides)
    (λ p h. (and_parts (have_ended p.frame.0 sides) (is_end (pair_end p.frame.0 (first_part sides) (second_part sides)) p.end) h).1) (all-say one two sides legal)
