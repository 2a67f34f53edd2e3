-- The last holders leave, by camera.
use Rattle.std.proofs.Common.{◌≡◌, ℕ, zero, suc, ◌+◌, ◌*◌, ◌<◌, ◌≤◌, ◌==◌, Bool, true, false, List, [], ◌∷◌, ◌++◌, Option, Some, None, length, drop, reverse, count_by, if◌then◌else◌, refl, ap, sym, ◌∙◌, subst, arith, inl, inr, append_assoc}
use Rattle.std.specs.Prelude.{is_some}
use Rattle.std.specs.Option.{option_map}
use Rattle.std.specs.List.{flat_map, list_all, range_with_len}
use Rattle.std.proofs.lemmas.Bool.{and_parts, cases_eq, cases_lt, eq-eqb, ne_eqb}
use Rattle.std.proofs.lemmas.Bool.Decides.{nat_tests}
use Rattle.std.proofs.lemmas.Grind.{flat_map-append}
use Rattle.std.proofs.lemmas.List.{append-nil, reverse-append, length-append}
use mathlib.Core.List.{IsPrefix}
use Rattle.basic_lemmas.proofs.Ranges.{range-more}
use Rattle.arbiter_call.proofs.Fair.{Sound, held-is, leave-ends, sound-ended, sound-first, sound-log}
use Rattle.arbiter_call.proofs.SessionLists.{at-its, at-its-camera, named, passed-over}
use Rattle.arbiter_call.specs.Answers.{added, after, answer_to, closed, ended, log_after, log_of}
use Rattle.arbiter_call.specs.Arbitration.{Arbitration}
use Rattle.arbiter_call.specs.Laws.{IsOver, KeepsLaws, begins, ends}
use Rattle.arbiter_call.specs.Log.{held, holder, session_of}
use Rattle.arbiter_call.specs.Ranges.{is_client, is_line}
use Rattle.arbiter_call.specs.declared.answer.Answer.{Answer}
use Rattle.arbiter_call.specs.declared.answer.Answer.TheVariants.{Left}
use Rattle.arbiter_call.specs.declared.answer.LogLine.{LogLine}
use Rattle.arbiter_call.specs.declared.answer.LogLine.TheVariants.{Leave}
use Rattle.arbiter_call.specs.declared.line.ArbiterLine.{ArbiterLine}
use Rattle.arbiter_call.specs.declared.line.ArbiterLine.TheVariants as ask
use Rattle.arbiter_call.specs.declared.session.ClientId.{ClientId}
use Rattle.arbiter_call.specs.declared.session.Session.{Session}

-- the log once the cameras below a number are left
abbrev pub closed_to : ℕ → List LogLine → List LogLine
closed_to n past = reverse (flat_map (λ c. ended Leave (session_of c past)) (range_with_len 0 n)) ++ past

one-back : (session : Option Session) → reverse (ended Leave session) ≡ ended Leave session
one-back None = refl
one-back (Some s) = refl

-- one camera more
pub closed-next : (n : ℕ) (past : List LogLine) → closed_to (n + 1) past ≡ ended Leave (session_of n past) ++ closed_to n past
closed-next n past =
    let f = λ (c : ℕ). ended Leave (session_of c past) in
    let xs = flat_map f (range_with_len 0 n) in
    let range : range_with_len 0 (n + 1) ≡ range_with_len 0 n ++ n ∷ [] = let e : 0 + n ≡ n = omega arith in range-more 0 n 1 ∙ ap (λ (k : ℕ). range_with_len 0 n ++ k ∷ []) e in
    let last : flat_map f (n ∷ []) ≡ f n = append-nil (f n) in
    rw (range, flat_map-append f (range_with_len 0 n) (n ∷ []), last, reverse-append xs (f n), one-back (session_of n past)) (append_assoc (f n) (reverse xs) past)

closed-suc : (n : ℕ) (past : List LogLine) → closed_to (suc n) past ≡ ended Leave (session_of n past) ++ closed_to n past
closed-suc n past = let e : suc n ≡ n + 1 = omega arith in ap (λ (k : ℕ). closed_to k past) e ∙ closed-next n past

-- a line more doesn't touch the others
untouched-by : (c n : ℕ) (past more : List LogLine) (session : Option Session) → session ≡ session_of n past → (c ≡ n → ⊥) → session_of c (ended Leave session ++ more) ≡ session_of c more
untouched-by c n past more None e other = refl
untouched-by c n past more (Some s) e other =
    let at = at-its-camera n past s (sym e) in
    passed-over c (Leave s) more (ne_eqb s.camera.0 c (λ same. other (sym same ∙ at)))

untouched : (n c : ℕ) (past : List LogLine) → n ≤ c → session_of c (closed_to n past) ≡ session_of c past
untouched zero c past low = refl
untouched (suc n) c past low =
    ap (session_of c) (closed-suc n past)
    ∙ (untouched-by c n past (closed_to n past) (session_of n past) refl (λ same. absurd (omega (arith, low, same))) ∙ untouched n c past (omega (arith, low)))

-- a camera that is left has no session
left-by : (n : ℕ) (past more : List LogLine) (session : Option Session) → session ≡ session_of n past → session_of n more ≡ session_of n past → session_of n (ended Leave session ++ more) ≡ None
left-by n past more None e same = same ∙ sym e
left-by n past more (Some s) e same = named n (Leave s) more (eq-eqb s.camera.0 n (at-its-camera n past s (sym e)))

vacant : (n c : ℕ) (past : List LogLine) → c < n → session_of c (closed_to n past) ≡ None
vacant zero c past low = absurd (omega (arith, low))
vacant (suc n) c past low =
    let last = left-by n past (closed_to n past) (session_of n past) refl (untouched n n past (omega arith)) in
    let cut = ap (session_of c) (closed-suc n past) in
    elim (cases_eq c n) [
      | inl here ↦ cut ∙ subst (λ (d : ℕ). session_of d (ended Leave (session_of n past) ++ closed_to n past) ≡ None) (sym here) last
      | inr other ↦ cut ∙ (untouched-by c n past (closed_to n past) (session_of n past) refl other ∙ vacant n c past (omega (arith, low, other)))
    ]

-- the leaves end their sessions
sound-left : (cameras n : ℕ) (past more : List LogLine) (session : Option Session) → session ≡ session_of n past → session_of n more ≡ session_of n past → Sound cameras more → Sound cameras (ended Leave session ++ more)
sound-left cameras n past more None e same sound = sound
sound-left cameras n past more (Some s) e same sound =
    let at = at-its-camera n past s (sym e) in
    sound-ended cameras more s (Leave s) (leave-ends s) sound (at-its more n s at (same ∙ sym e))

sound-closed : (cameras n : ℕ) (past : List LogLine) → Sound cameras past → Sound cameras (closed_to n past)
sound-closed cameras zero past sound = sound
sound-closed cameras (suc n) past sound =
    let left = sound-left cameras n past (closed_to n past) (session_of n past) refl (untouched n n past (omega arith)) (sound-closed cameras n past sound) in
    subst (λ (p : List LogLine). Sound cameras p) (sym (closed-suc n past)) left

-- no session is left at all
nobody : (cameras : ℕ) (past : List LogLine) (c : ℕ) → Sound cameras past → session_of c (closed cameras past) ≡ None
nobody cameras past c sound =
    elim (cases_lt c cameras) [
      | inl low ↦ vacant cameras c past low
      | inr high ↦ untouched cameras c past high ∙ beyond (session_of c past) refl high
    ]
  where
    beyond : (session : Option Session) → session_of c past ≡ session → cameras ≤ c → session_of c past ≡ None
    beyond None e high = e
    beyond (Some s) e high =
        let fits = sound.valid c s e in
        let at = at-its-camera c past s e in
        let low : s.camera.0 < cameras = grind (arith, nat_tests, fits) in
        absurd (omega (arith, at, low, high))

pub laws-made : (cameras : ℕ) (lines : List ArbiterLine) → list_all (is_line cameras) lines ≡ true → KeepsLaws (log_after cameras [] lines)
laws-made cameras lines h = let sound = sound-log cameras [] lines h (sound-first cameras) in sound.laws

pub laws-closed : (cameras : ℕ) (lines : List ArbiterLine) → list_all (is_line cameras) lines ≡ true → KeepsLaws (log_of cameras lines) × IsOver (log_of cameras lines)
laws-closed cameras lines h =
    let before = sound-log cameras [] lines h (sound-first cameras) in
    let sound = sound-closed cameras cameras (log_after cameras [] lines) before in
    (sound.laws, λ c. over c (nobody cameras (log_after cameras [] lines) c before) (sound.fair.cameras c))
  where
    over : (c : ℕ) → session_of c (log_of cameras lines) ≡ None → count_by (begins c) (log_of cameras lines) ≡ count_by (ends c) (log_of cameras lines) + (if is_some (session_of c (log_of cameras lines)) then 1 else 0) → (session_of c (log_of cameras lines) ≡ None) × (count_by (begins c) (log_of cameras lines) ≡ count_by (ends c) (log_of cameras lines))
    over c none count = (none, let k = rw none at count in omega (arith, k))

-- ---- a camera is left

held-session : (k : ClientId) (session : Option Session) → option_map (λ s. s.client) session ≡ Some k → (s : Session) × (session ≡ Some s) × (s.client ≡ k)
held-session k None h = absurd (cc)
held-session k (Some s) h = (s, refl, cc)

-- by the client that holds it
pub vacated : (cameras c : ℕ) (past : List LogLine) (k : ClientId) → Sound cameras past → holder c past ≡ Some k → after cameras past (ask.Leave k) ≡ ended Leave (session_of c past) ++ past
vacated cameras c past k sound h =
    let it = held-session k (session_of c past) h in
    let that = held-is cameras past c it.0 sound it.1 in
    let mine : held cameras k.0 past ≡ Some c = subst (λ (j : ClientId). held cameras j.0 past ≡ Some c) it.2 that in
    rw mine refl

pub client-valid : (cameras c : ℕ) (past : List LogLine) (k : ClientId) → Sound cameras past → holder c past ≡ Some k → is_client k.0 ≡ true
client-valid cameras c past k sound h =
    let it = held-session k (session_of c past) h in
    let fits = and_parts (is_client it.0.client.0) _ (sound.valid c it.0 it.1) in
    subst (λ (j : ClientId). is_client j.0 ≡ true) it.2 fits.0

-- ---- lengths

few-ended : (line : Session → LogLine) (session : Option Session) → length (ended line session) ≤ 1
few-ended line None = omega arith
few-ended line (Some s) = omega arith

-- and a camera that is left one
pub left-few : (session : Option Session) (past : List LogLine) → length (ended Leave session ++ past) ≤ length past + 1
left-few session past =
    let few = few-ended Leave session in
    let both = length-append (ended Leave session) past in
    omega (arith, few, both)

-- the log begins with what it was
pub begins-after : (cameras : ℕ) (past : List LogLine) (line : ArbiterLine) → IsPrefix (reverse past) (reverse (after cameras past line))
begins-after cameras past line =
    let more = added past line (answer_to cameras past line) in (reverse more, sym (reverse-append more past))

-- ---- one camera after the other

-- what stands after the cameras below a number are left
pub record IsLeft (before after : Arbitration) (n : ℕ) : Type 0 where
  pub cameras : after.cameras ≡ before.cameras
  pub past : after.past ≡ closed_to n before.past
  pub few : length after.past ≤ length before.past + n

pub left-more : (before between after : Arbitration) (n : ℕ) → IsLeft before between n → after ≡ record between { past = ended Leave (session_of n between.past) ++ between.past } → IsLeft before after (n + 1)
left-more before between after n was is =
    let past : after.past ≡ ended Leave (session_of n between.past) ++ between.past = ap (λ (a : Arbitration). a.past) is in
    let same : session_of n between.past ≡ session_of n before.past = ap (session_of n) was.past ∙ untouched n n before.past (omega arith) in
    let few = left-few (session_of n between.past) between.past in
    let long = ap length past in
    let few' = was.few in
    record {
      cameras = ap (λ (a : Arbitration). a.cameras) is ∙ was.cameras;
      past = past ∙ (ap (λ (session : Option Session). ended Leave session ++ between.past) same ∙ (ap (λ (p : List LogLine). ended Leave (session_of n before.past) ++ p) was.past ∙ sym (closed-next n before.past)));
      few = omega (arith, long, few, few');
    }

-- ---- one line after the other

-- what stands after the lines before a place
pub record IsAnswered (cameras : ℕ) (lines : List ArbiterLine) (place : ℕ) (arbiter : Arbitration) : Type 0 where
  pub count : arbiter.cameras ≡ cameras
  pub log : log_after cameras arbiter.past (drop place lines) ≡ log_after cameras [] lines
  pub few : length arbiter.past ≤ 2 * place
