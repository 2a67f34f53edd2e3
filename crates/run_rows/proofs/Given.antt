-- The acquire fence of each target was released.
use Rattle.std.proofs.Common.{◌≡◌, true, List, Option, Some, None, refl, sym, ap, ◌∙◌, map}
use Rattle.std.specs.List.{list_all}
use Rattle.cam_types.specs.declared.number.FenceNo.{FenceNo}
use Rattle.cam_types.specs.declared.row.TargetView.{TargetView}
use Rattle.cam_types.specs.declared.script.Script.{Script}
use Rattle.trace_model.specs.declared.entry.Entry.{Entry}
use Rattle.trace_model.specs.declared.entry.Sent.{Sent}
use Rattle.trace_model.specs.Frames.{targets_of}
use Rattle.trace_model.specs.Numbers.{next_fence}
use Rattle.run_model.specs.declared.step.Move.{Move}
use Rattle.run_model.specs.History.{trace_of}
use Rattle.run_model.specs.Rows.{rows, target_view}
use Rattle.run_model.specs.Run.{IsRun}
use Rattle.basic_lemmas.proofs.Lists.{all-mapped, all-where}
use Rattle.run_model.proofs.Legal.{runs_legally}
use Rattle.state_facts.proofs.Fences.{are-given, is_given}
use Rattle.device_rows.specs.Kept.{is_made}
use Rattle.run_rows.specs.Kept.{has_given_fences}
use Rattle.run_rows.proofs.Counted.{each-row}
use Rattle.run_rows.proofs.Fours.{row-targets}

same-test : (past : List Entry) (f : Option FenceNo) → is_given past f ≡ is_made (next_fence past) f
same-test past None = refl
same-test past (Some f) = refl

given-views : (past : List Entry) (g : Sent → TargetView) (ts : List Sent) → ((t : Sent) → (g t).fence ≡ t.fence) → list_all (λ t. is_given past t.fence) ts ≡ true → list_all (λ v. is_made (next_fence past) v.fence) (map g ts) ≡ true
given-views past g ts own all =
    all-mapped (λ (v : TargetView). is_made (next_fence past) v.fence) g ts
    ∙ all-where (λ t. is_given past t.fence) (λ t. is_made (next_fence past) (g t).fence) ts (λ t h. ap (λ (f : Option FenceNo). is_made (next_fence past) f) (own t) ∙ (sym (same-test past t.fence) ∙ h)) all

pub fences_is : (script : Script) (h : List Move) → IsRun script h → list_all (has_given_fences (next_fence (trace_of h))) (rows script h) ≡ true
fences_is script h run =
    let past = trace_of h in
    each-row script h (has_given_fences (next_fence past))
    (λ n open_. ap (λ (vs : List TargetView). list_all (λ v. is_made (next_fence past) v.fence) vs) (row-targets script h n) ∙ given-views past (target_view h n) (targets_of n past) (λ t. refl) ((are-given script past (runs_legally script h run)).targets n))
