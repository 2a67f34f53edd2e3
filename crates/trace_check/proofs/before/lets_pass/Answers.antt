use Rattle.std.proofs.Common.{◌≡◌, ◌==◌, ◌∙◌, ℕ, ◌||◌, not, Bool, true, false, Option, option_to_list, refl, sym}
use Rattle.std.specs.List.{list_all}
use Rattle.std.specs.Prelude.{option_map}
use Rattle.cam_types.specs.declared.four.Four.{Four}
use Rattle.judge_rows.proofs.TargetLemmas.{all_four}
use Rattle.judge_rows.specs.Views.{as_target, as_targets}
use Rattle.judge_rows.specs.declared.target.OpenTarget.{OpenTarget}
use Rattle.state_facts.specs.Row.{Target}
use Rattle.trace_check.proofs.before.lets_pass.Goals as goal

abbrev passes : ℕ → Target → Bool
passes s t = not (t.sent.stream.0 == s) || (t.returned || t.announced)

abbrev one : ℕ → Option OpenTarget → Bool
one s target = list_all (passes s) (option_to_list (option_map as_target target))

not-a : (s : ℕ) (f : Four OpenTarget) (error : Bool) → error ≡ false → one s f.a ≡ false → false ≡ (error || list_all (passes s) (as_targets f))
not-a s f error none a = rw (none, all_four (passes s) f, a) refl

not-b : (s : ℕ) (f : Four OpenTarget) (error : Bool) → error ≡ false → one s f.a ≡ true → one s f.b ≡ false → false ≡ (error || list_all (passes s) (as_targets f))
not-b s f error none a b = rw (none, all_four (passes s) f, a, b) refl

not-c : (s : ℕ) (f : Four OpenTarget) (error : Bool) → error ≡ false → one s f.a ≡ true → one s f.b ≡ true → one s f.c ≡ false → false ≡ (error || list_all (passes s) (as_targets f))
not-c s f error none a b c = rw (none, all_four (passes s) f, a, b, c) refl

as-d : (s : ℕ) (f : Four OpenTarget) (error d : Bool) → error ≡ false → one s f.a ≡ true → one s f.b ≡ true → one s f.c ≡ true → d ≡ one s f.d → d ≡ (error || list_all (passes s) (as_targets f))
as-d s f error d none a b c is = rw (none, all_four (passes s) f, a, b, c) is

pub returns-else-target_passes : goal.returns-else-target_passes
returns-else-target_passes c =
    c.if-target_passes.false ∙ not-a c.args.stream.0 c.args.row.now.targets c.args.row.now.request_error c.if-row.false (sym c.target_passes.ensures ∙ c.if-target_passes.false)

pub returns-else-target_passes-2 : goal.returns-else-target_passes-2
returns-else-target_passes-2 c =
    c.if-target_passes-2.false ∙ not-b c.args.stream.0 c.args.row.now.targets c.args.row.now.request_error c.if-row.false (sym c.target_passes.ensures ∙ c.if-target_passes.true) (sym c.target_passes-then-target_passes.ensures ∙ c.if-target_passes-2.false)

pub returns-else-target_passes-3 : goal.returns-else-target_passes-3
returns-else-target_passes-3 c =
    c.if-target_passes-3.false ∙ not-c c.args.stream.0 c.args.row.now.targets c.args.row.now.request_error c.if-row.false (sym c.target_passes.ensures ∙ c.if-target_passes.true) (sym c.target_passes-then-target_passes.ensures ∙ c.if-target_passes-2.true) (sym c.target_passes-then-target_passes-2.ensures ∙ c.if-target_passes-3.false)

pub returns-then-target_passes-3 : goal.returns-then-target_passes-3
returns-then-target_passes-3 c =
    as-d c.args.stream.0 c.args.row.now.targets c.args.row.now.request_error c.target_passes-then-target_passes-3.result c.if-row.false (sym c.target_passes.ensures ∙ c.if-target_passes.true) (sym c.target_passes-then-target_passes.ensures ∙ c.if-target_passes-2.true) (sym c.target_passes-then-target_passes-2.ensures ∙ c.if-target_passes-3.true) c.target_passes-then-target_passes-3.ensures
