-- The places of breaches in a log.
use Rattle.std.proofs.Common.{◌≡◌, ℕ, ◌+◌, ◌<◌, Bool, true, List, [], ◌∷◌, ◌∙◌, length, nat_lt, map, refl, arith, inl, inr}
use Rattle.std.specs.List.{list_all}
use Rattle.std.proofs.lemmas.Bool.{and_from, cases_Bool}
use Rattle.std.proofs.lemmas.Bool.Decides.{nat_tests}
use Rattle.std.proofs.lemmas.List.Folds.{list_all-append}
use Rattle.basic_lemmas.proofs.Lists.{all-where}
use Rattle.hal_model.specs.Rules.{breaches_in, breaches_of, breaks, faults, known, ordered, report_by}
use Rattle.hal_model.specs.declared.event.HalEvent.{HalEvent}
use Rattle.hal_model.specs.declared.rule.Breach.{Breach}
use Rattle.hal_model.specs.declared.rule.Fault.{Fault}
use Rattle.hal_model.specs.declared.rule.Rule.{Rule}
use Rattle.hal_text.specs.Plain.{has_line}

abbrev pub is_at_below : ℕ → Breach → Bool
is_at_below n b = nat_lt b.line n

told_below : (line n : ℕ) (rule : Rule) (xs : List Fault) → nat_lt line n ≡ true → list_all (is_at_below n) (map (λ (x : Fault). record { line = line; rule = rule; frame = x.frame; stream = x.stream }) xs) ≡ true
told_below line n rule [] h = refl
told_below line n rule (x ∷ xs) h = and_from (nat_lt line n) _ h (told_below line n rule xs h)

rule_below : (k n : ℕ) (e : HalEvent) (past : List HalEvent) (rule : Rule) → nat_lt (length past) n ≡ true → list_all (is_at_below n) (breaches_of k e past rule) ≡ true
rule_below k n e past rule h =
    elim (cases_Bool (breaks k rule e past)) [
      | inl yes' ↦ rw yes' (told_below (length past) n rule (ordered (faults k rule e (known k past))) h)
      | inr no' ↦ rw no' refl
    ]

event_below : (k n : ℕ) (e : HalEvent) (past : List HalEvent) (some : List Rule) → nat_lt (length past) n ≡ true → list_all (is_at_below n) (breaches_in k e past some) ≡ true
event_below k n e past [] h = refl
event_below k n e past (rule ∷ more) h =
    rw (list_all-append, rule_below k n e past rule h, event_below k n e past more h) refl

below_more : (b : Breach) (n m : ℕ) → m ≡ 1 + n → is_at_below n b ≡ true → is_at_below m b ≡ true
below_more b n m more h = let less : b.line < n = grind (arith, nat_tests, h) in grind (arith, nat_tests, less, more)

below_last : (n m : ℕ) → m ≡ 1 + n → nat_lt n m ≡ true
below_last n m more = grind (arith, nat_tests, more)

report_below : (some : List Rule) (k : ℕ) (log : List HalEvent) → list_all (is_at_below (length log)) (report_by some k log) ≡ true
report_below some k [] = refl
report_below some k (e ∷ past) =
    let n = length (e ∷ past) in
    let more : n ≡ 1 + length past = omega arith in
    let earlier = all-where (is_at_below (length past)) (is_at_below n) (report_by some k past) (λ b h. below_more b (length past) n more h) (report_below some k past) in
    let own = event_below k n e past some (below_last (length past) n more) in
    list_all-append (is_at_below n) (report_by some k past) (breaches_in k e past some) ∙ and_from _ _ earlier own

pub report_has_lines : (some : List Rule) (k : ℕ) (log : List HalEvent) (lines : List ℕ) → length lines ≡ length log → list_all (has_line lines) (report_by some k log) ≡ true
report_has_lines some k log lines same = all-where (is_at_below (length log)) (has_line lines) (report_by some k log) (λ b h. rw same h) (report_below some k log)
