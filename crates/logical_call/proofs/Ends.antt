-- An entry ends one frame at most, and how a pair ends.
use Rattle.std.proofs.Common.{◌≡◌, ℕ, ◌==◌, Bool, true, false, ◌&&◌, ◌||◌, not, List, [], ◌∷◌, Option, Some, refl, sym, ap, ◌∙◌, inl, inr, if◌then◌else◌}
use Rattle.std.specs.List.{list_all}
use Rattle.std.proofs.lemmas.Bool.{and_parts, both_ways, cases_Bool, eqb-true, false≢true}
use Rattle.cam_types.specs.declared.script.Script.{Script}
use Rattle.trace_model.specs.declared.entry.Entry.{Entry}
use Rattle.trace_model.specs.declared.entry.Entry.TheVariants.{Send, Dropped, Partial, Filled, Failed, ErrorRequest, ErrorResult, Early, Late}
use Rattle.trace_model.specs.declared.entry.Sent.{Sent}
use Rattle.trace_model.specs.Entry.{is_error_request, is_error_result, is_part}
use Rattle.trace_model.specs.Frames.{is_sent, targets_of}
use Rattle.trace_model.specs.Legal.{IsLegal}
use Rattle.trace_model.specs.Open.{all_settled, is_metadata_ended, is_open, is_settled}
use Rattle.trace_laws.proofs.Shapes.{late-is}
use Rattle.trace_laws.proofs.Frames.{unsent-next}
use Rattle.trace_laws.proofs.Settled.{not-its, settled-early, settled-signalled}
use Rattle.trace_laws.proofs.Told.{none-of, part-tells, request-tells, result-tells}
use Rattle.logical_call.specs.declared.pair.PairEnd.{PairEnd}
use Rattle.logical_call.specs.declared.pair.PairEnd.TheVariants.{Ok, Error, Drop}
use Rattle.logical_call.specs.Laws.{OneFrameEnds, PairsEndSo}
use Rattle.logical_call.specs.Pairs.{is_dropped, is_ended, is_whole}
use Rattle.logical_call.proofs.Frames.{drops_not_sent}
use Rattle.basic_lemmas.proofs.Tests.{or-first}

-- ---- one frame

changed : (past : List Entry) (e : Entry) (n : ℕ) → is_ended n past ≡ false → is_ended n (e ∷ past) ≡ true → is_ended n (e ∷ past) ≡ is_ended n past → false ≡ true
changed past e n before now same = absurd (both_ways (is_ended n past) before (sym same ∙ now))

-- an entry that is of one frame ends no other
of-one : (past : List Entry) (e : Entry) (m n : ℕ) → is_ended n past ≡ false → is_ended n (e ∷ past) ≡ true → ((m == n) ≡ false → is_ended n (e ∷ past) ≡ is_ended n past) → ◌≡◌ {A = Option ℕ} (Some m) (Some n)
of-one past e m n before now others =
    elim (cases_Bool (m == n)) [
      | inl here ↦ ap Some (eqb-true m n here)
      | inr other ↦ absurd (false≢true (changed past e n before now (others other)))
    ]

all-agree : (p q : Sent → Bool) (ts : List Sent) → ((t : Sent) → p t ≡ q t) → list_all p ts ≡ list_all q ts
all-agree p q [] same = refl
all-agree p q (t ∷ ts) same = rw (same t, all-agree p q ts same) refl

-- where the buffers of a frame are settled as before, it ended as before
by-settled : (past : List Entry) (n : ℕ) (a b : Bool) → a ≡ b → (is_dropped n past || (is_sent n past && not (is_sent n past && not (is_metadata_ended n past && a)))) ≡ (is_dropped n past || (is_sent n past && not (is_sent n past && not (is_metadata_ended n past && b))))
by-settled past n a b same = rw same refl

-- a frame that is sent is open
fresh : (script : Script) (past : List Entry) (n : ℕ) → IsLegal script past → is_sent n past ≡ false → is_metadata_ended n past ≡ false
fresh script past n legal unsent =
    let part = none-of script past n (is_part n 3) legal unsent (λ e h. part-tells n 3 e h) in
    let result = none-of script past n (is_error_result n) legal unsent (λ e h. result-tells n e h) in
    let request = none-of script past n (is_error_request n) legal unsent (λ e h. request-tells n e h) in
    rw (part, result, request) refl

opened : (d s m a : Bool) → m ≡ false → (d || (s && not (s && not (m && a)))) ≡ true → d ≡ true
opened true s m a none h = refl
opened false false m a none h = absurd (false≢true h)
opened false true false a none h = absurd (false≢true h)
opened false true true a none h = absurd (false≢true (sym none))

pub one_ends : (script : Script) (past : List Entry) → OneFrameEnds script past
one_ends script past (Dropped m r i) n legal before now = of-one past (Dropped m r i) m.0 n before now (λ other. rw other refl)
one_ends script past (Partial m k part) n legal before now = of-one past (Partial m k part) m.0 n before now (λ other. rw other refl)
one_ends script past (Filled m s b f d) n legal before now = of-one past (Filled m s b f d) m.0 n before now (λ other. rw other refl)
one_ends script past (Failed m s b f) n legal before now = of-one past (Failed m s b f) m.0 n before now (λ other. rw other refl)
one_ends script past (ErrorRequest m) n legal before now = of-one past (ErrorRequest m) m.0 n before now (λ other. rw other refl)
one_ends script past (ErrorResult m) n legal before now = of-one past (ErrorResult m) m.0 n before now (λ other. rw other refl)
one_ends script past (Late d x) n legal before now =
    let is = late-is script past d x legal.0 in
    let early = is.4 in
    let same = of-one past (Late d x) is.0.0 n before now
    (λ other.
    by-settled past n _ _ (all-agree (λ (t : Sent). is_settled n t.stream.0 (Late d x ∷ past)) (λ t. is_settled n t.stream.0 past) (targets_of n past)
    (λ t. settled-signalled d x past n t.stream.0 ∙ ap (λ h. h || is_settled n t.stream.0 past) (not-its script past d.0 is.0 is.1 is.2 is.3 n t.stream.0 legal.1 early other)))) in
    rw early same
one_ends script past (Early m s b d) n legal before now =
    absurd (false≢true (changed past (Early m s b d) n before now
    (by-settled past n _ _ (all-agree (λ (t : Sent). is_settled n t.stream.0 (Early m s b d ∷ past)) (λ t. is_settled n t.stream.0 past) (targets_of n past)
    (λ t. settled-early script past m s b d n t.stream.0 legal.1 legal.0)))))
one_ends script past (Send m r i same targets) n legal before now =
    elim (cases_Bool (m.0 == n)) [
      | inl here ↦ (
          let at = eqb-true m.0 n here in
          let unsent : is_sent n past ≡ false = rw at at (unsent-next script past m.0 r.0 i same targets legal.1 legal.0) in
          let ended = fresh script past n legal.1 unsent in
          let dropped = opened (is_dropped n past) (is_sent n (Send m r i same targets ∷ past)) (is_metadata_ended n past) (all_settled n (Send m r i same targets ∷ past)) ended now in
          absurd (both_ways (is_dropped n past) (or-first (is_dropped n past) (is_sent n past && not (is_open n past)) before) dropped)
          )
      | inr other ↦ (let kept : is_ended n (Send m r i same targets ∷ past) ≡ is_ended n past = rw other refl in absurd (false≢true (changed past (Send m r i same targets) n before now kept)))
    ]
one_ends script past e n legal before now = absurd (false≢true (changed past e n before now refl))

-- ---- pairs

not-whole : (script : Script) (past : List Entry) (n : ℕ) → IsLegal script past → is_dropped n past ≡ true → is_whole n past ≡ false
not-whole script past n legal dropped =
    let unsent = drops_not_sent script past n legal dropped in
    rw (none-of script past n (is_part n 3) legal unsent (λ e h. part-tells n 3 e h)) refl

ok-of : (w d : Bool) → (if w then Ok else (if d then Drop else Error)) ≡ Ok → w ≡ true
ok-of true d h = refl
ok-of false true h = absurd (cc)
ok-of false false h = absurd (cc)

ok-from : (w d : Bool) → w ≡ true → ◌≡◌ {A = PairEnd} (if w then Ok else (if d then Drop else Error)) Ok
ok-from w d h = rw h refl

drop-of : (w d : Bool) → (if w then Ok else (if d then Drop else Error)) ≡ Drop → d ≡ true
drop-of true d h = absurd (cc)
drop-of false true h = refl
drop-of false false h = absurd (cc)

drop-from : (w d : Bool) → w ≡ false → d ≡ true → ◌≡◌ {A = PairEnd} (if w then Ok else (if d then Drop else Error)) Drop
drop-from w d h k = rw (h, k) refl

pub pairs_end : (one two : Script) (past other : List Entry) → PairsEndSo one two past other
pairs_end one two past other legal legal' n =
    let w = is_whole n past && is_whole n other in
    let d = is_dropped n past && is_dropped n other in
    record {
      whole = (λ h. ok-of w d h, λ h. ok-from w d h);
      drop = (λ h. drop-of w d h, λ h. drop-from w d (rw (not-whole one past n legal (and_parts (is_dropped n past) (is_dropped n other) h).0) refl) h);
    }
