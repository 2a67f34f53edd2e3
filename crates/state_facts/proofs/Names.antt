-- The requests that sends and drops name were accepted before.
use Rattle.std.proofs.Common.{◌≡◌, ℕ, ◌==◌, ◌<◌, ◌≤◌, Bool, true, false, not, List, [], ◌∷◌, refl, sym, ◌∙◌, arith, nat_lt}
use Rattle.std.specs.List.{list_any}
use Rattle.std.proofs.lemmas.Bool.{and_parts, eqb-true, false≢true, ltb-true, ne_eqb}
use Rattle.cam_types.specs.declared.reply.Reply.TheVariants.{Submitted}
use Rattle.cam_types.specs.declared.script.Script.{Script}
use Rattle.trace_model.specs.declared.entry.Entry.{Entry}
use Rattle.trace_model.specs.declared.entry.Entry.TheVariants.{Call, Send, Dropped}
use Rattle.trace_model.specs.Calls.{is_repeating, is_submission, request_count}
use Rattle.trace_model.specs.Entry.{sends_for, takes}
use Rattle.trace_model.specs.Legal.{IsLegal}
use Rattle.trace_model.specs.Queue.{is_taken, queued, sent_for, submitted}
use Rattle.cam_types.specs.declared.request.WaitingItem.{WaitingItem}
use Rattle.trace_laws.proofs.FrameLemmas.{drop-of, takes_it}
use Rattle.trace_laws.proofs.Submitted.{is_settled, settled}
use Rattle.basic_lemmas.proofs.Counts.{none-counted, count-cons}
use Rattle.basic_lemmas.proofs.Lists.{any-less, one-kept}
use Rattle.state_facts.proofs.Accepted.{send-accepted}

-- the entry sends or drops an item of request r
abbrev pub names_request : ℕ → Entry → Bool
names_request r (Send _ q _ _ _) = q.0 == r
names_request r (Dropped _ q _) = q.0 == r
names_request r _ = false

taken-name : (r : ℕ) (e : Entry) (w : WaitingItem) → takes_it e w ≡ true → names_request r e ≡ true → w.request.0 ≡ r
taken-name r (Send n q j same targets) w it named = sym (eqb-true q.0 w.request.0 (and_parts (q.0 == w.request.0) (j == w.index) it).0) ∙ eqb-true q.0 r named
taken-name r (Dropped n q j) w it named = sym (eqb-true q.0 w.request.0 (and_parts (q.0 == w.request.0) (j == w.index) it).0) ∙ eqb-true q.0 r named
taken-name r _ w it named = absurd (false≢true it)

queue-name : (script : Script) (past : List Entry) (e : Entry) (r : ℕ) → IsLegal script past → list_any (takes_it e) (queued script past) ≡ true → names_request r e ≡ true → r < request_count past
queue-name script past e r legal any named =
    one-kept (r < request_count past) (λ w. not (is_taken past w)) (is_settled script past) (takes_it e) (submitted script past)
    (λ w settled' it.
    let less = ltb-true w.request.0 (request_count past) (and_parts (nat_lt w.request.0 (request_count past)) (not (is_repeating script past w.request.0)) settled').0 in
    let at = taken-name r e w it named in
    omega (arith, less, at))
    (settled script past legal) any

-- a number that wasn't given is named by no send and no drop
pub unnamed : (script : Script) (past : List Entry) (r : ℕ) → IsLegal script past → request_count past ≤ r → list_any (names_request r) past ≡ false
unnamed script [] r legal above = refl
unnamed script (Call i w (Submitted q) ∷ past) r legal above =
    let more = count-cons is_submission (Call i w (Submitted q)) past in
    unnamed script past r legal.1 (omega (arith, above, more))
unnamed script (Send n q i same targets ∷ past) r legal above =
    let below = send-accepted script past n q i same targets legal.1 legal.0 in
    rw (ne_eqb q.0 r (λ at. absurd (omega (arith, below, above, at)))) (unnamed script past r legal.1 above)
unnamed script (Dropped n q i ∷ past) r legal above =
    let own : (q.0 == q.0) ≡ true = grind arith in
    let below = queue-name script past (Dropped n q i) q.0 legal.1 (drop-of script past n q i legal.0) own in
    rw (ne_eqb q.0 r (λ at. absurd (omega (arith, below, above, at)))) (unnamed script past r legal.1 above)
unnamed script (e ∷ past) r legal above = unnamed script past r legal.1 above

taker-names : (r i : ℕ) (e : Entry) → takes r i e ≡ true → names_request r e ≡ true
taker-names r i (Send n q j same targets) h = (and_parts (q.0 == r) (j == i) h).0
taker-names r i (Dropped n q j) h = (and_parts (q.0 == r) (j == i) h).0
taker-names r i _ h = absurd (false≢true h)

sender-names : (r : ℕ) (e : Entry) → sends_for r e ≡ true → names_request r e ≡ true
sender-names r (Send n q j same targets) h = h
sender-names r _ h = absurd (false≢true h)

pub untaken : (script : Script) (past : List Entry) (w : WaitingItem) → IsLegal script past → request_count past ≤ w.request.0 → is_taken past w ≡ false
untaken script past w legal above = any-less (names_request w.request.0) (takes w.request.0 w.index) past (taker-names w.request.0 w.index) (unnamed script past w.request.0 legal above)

pub unsent : (script : Script) (past : List Entry) (r : ℕ) → IsLegal script past → request_count past ≤ r → sent_for r past ≡ 0
unsent script past r legal above = none-counted (sends_for r) past (any-less (names_request r) (sends_for r) past (sender-names r) (unnamed script past r legal above))
