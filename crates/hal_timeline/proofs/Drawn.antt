-- What is drawn of an event, piece by piece.
use Rattle.std.proofs.Common.{◌≡◌, ◌∙◌, ℕ, suc, ◌+◌, ◌<◌, Bool, true, false, List, [], ◌∷◌, ◌++◌, refl, sym, ap, arith, get_or, length, length-append, nat_lt, reverse, take}
use Rattle.std.proofs.Math.Seq.{take-suc}
use Rattle.std.proofs.lemmas.Grind.{common_steps}
use Rattle.std.proofs.lemmas.List.{reverse-append}
use Rattle.std.proofs.lemmas.Bool.Decides.{nat_tests}
use Rattle.hal_model.specs.declared.event.HalEvent.{HalEvent}
use Rattle.hal_model.specs.declared.rule.Breach.{Breach}
use Rattle.timeline_model.specs.declared.chart.Group.{Group}
use Rattle.timeline_model.specs.declared.chart.Piece.{Piece}
use Rattle.hal_timeline.specs.Groups.{all_groups, group_of, is_broken, is_changed, is_some_breach, live_count, number_at, shown_event}
use Rattle.hal_timeline.specs.Pieces.{pieces_of}
use Rattle.hal_timeline.specs.Walks.{Standing, calls, is_stopping, standing}

-- there are more breaches than before where the event has some
pub more_told : (old new more : List Breach) (a b : ℕ) → a ≡ length old → b ≡ length new → new ≡ old ++ more → nat_lt a b ≡ is_some_breach more
more_told old new [] a b before after told =
    let long = ap length told in
    let sum = length-append old [] in
    grind (arith, nat_tests)
more_told old new (x ∷ xs) a b before after told =
    let long = ap length told in
    let sum = length-append old (x ∷ xs) in
    grind (arith, nat_tests)

pub stops_same : (s : Standing) (past : List HalEvent) → s ≡ standing past → is_stopping s.calls ≡ is_stopping (calls past)
stops_same s past e = ap (λ (z : Standing). is_stopping z.calls) e

pub changed_same : (a a' b b' : ℕ) (s s' t t' : Bool) → a ≡ a' → b ≡ b' → s ≡ s' → t ≡ t' → is_changed a b s t ≡ is_changed a' b' s' t'
changed_same a a' b b' s s' t t' p q r u = rw (p, q, r, u) refl

pub group_same : (k : ℕ) (lines : List ℕ) (e : HalEvent) (past : List HalEvent) (place line level : ℕ) (title : List ℕ) (pieces : List Piece) (stopping counted broken : Bool) → place ≡ length past → line ≡ number_at lines (length past) → title ≡ shown_event e → pieces ≡ pieces_of e (standing past) → level ≡ live_count k (e ∷ past) → stopping ≡ is_stopping (calls (e ∷ past)) → counted ≡ is_changed (live_count k past) (live_count k (e ∷ past)) (is_stopping (calls past)) (is_stopping (calls (e ∷ past))) → broken ≡ is_broken k e past → ◌≡◌ {A = Group} record { place = place; line = line; title = title; pieces = pieces; level = level; stopping = stopping; counted = counted; broken = broken } (group_of k lines e past)
group_same k lines e past place line level title pieces stopping counted broken p l t q v s c b = rw (p, l, t, q, v, s, c, b) refl

-- ---- one event more

pub turned_item : (es : List HalEvent) (i : ℕ) (e : HalEvent) → i < length es → e ≡ get_or es i e → reverse (take (i + 1) es) ≡ e ∷ reverse (take i es)
turned_item es i e l item =
    let n : i + 1 ≡ suc i = omega arith in
    (rw (n, take-suc es i e l) (reverse-append (take i es) (get_or es i e ∷ []))) ∙ ap (λ (x : HalEvent). x ∷ reverse (take i es)) (sym item)

pub drawn_more : (k : ℕ) (lines : List ℕ) (past longer : List HalEvent) (e : HalEvent) (group : Group) (old new : List Group) → longer ≡ e ∷ past → group ≡ group_of k lines e past → old ≡ all_groups k lines past → new ≡ old ++ group ∷ [] → new ≡ all_groups k lines longer
drawn_more k lines past longer e group old new more drawn before pushed =
    pushed ∙ (ap (λ (groups : List Group). groups ++ group ∷ []) before
    ∙ (ap (λ (g : Group). all_groups k lines past ++ g ∷ []) drawn ∙ ap (all_groups k lines) (sym more)))
