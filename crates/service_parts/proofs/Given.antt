-- Each fence with which a buffer came home was released.
use Rattle.std.proofs.Common.{◌≡◌, ℕ, true, List, Option, Some, None, refl, sym, ap, ◌∙◌, length}
use Rattle.std.specs.List.{list_all}
use Rattle.cam_types.specs.declared.number.FenceNo.{FenceNo}
use Rattle.cam_types.specs.declared.script.Script.{Script}
use Rattle.trace_model.specs.declared.entry.Entry.{Entry}
use Rattle.trace_model.specs.Fence.{fence_of}
use Rattle.trace_model.specs.Legal.{IsLegal}
use Rattle.trace_model.specs.Numbers.{next_fence}
use Rattle.basic_lemmas.proofs.Lists.{all-always, all-mapped}
use Rattle.state_facts.proofs.Fences.{are-given, is_given}
use Rattle.device_rows.specs.Kept.{is_made}
use Rattle.state_facts.specs.Homes.{homes, numbers}
use Rattle.state_facts.proofs.BufferReadings.{fences_are}

same-test : (past : List Entry) (f : Option FenceNo) → is_made (next_fence past) f ≡ is_given past f
same-test past None = refl
same-test past (Some f) = refl

pub fences_given : (script : Script) (past : List Entry) → IsLegal script past → list_all (is_made (length (homes past).signalled)) (homes past).fences ≡ true
fences_given script past legal =
    ap (λ (n : ℕ). list_all (is_made n) (homes past).fences) (sym (fences_are past))
    ∙ (all-mapped (is_made (next_fence past)) (λ (b : ℕ). fence_of b past) (numbers past)
    ∙ all-always (λ (b : ℕ). is_made (next_fence past) (fence_of b past)) (numbers past) (λ b. same-test past (fence_of b past) ∙ (are-given script past legal).fences b))
