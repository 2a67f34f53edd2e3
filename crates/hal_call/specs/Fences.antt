use Rattle.std.specs.Prelude.{ℕ, ◌*◌, ◌+◌, ◌^◌, Bool, true, List, Option, Some, None, nat_lt, reverse, IsTrue}
use Rattle.std.specs.List.{list_all}
use Rattle.cam_types.specs.Four.{four_list}
use Rattle.cam_types.specs.Script.{is_valid}
use Rattle.cam_types.specs.declared.number.FenceNo.{FenceNo}
use Rattle.cam_types.specs.declared.script.Script.{Script}
use Rattle.trace_model.specs.declared.entry.Entry.{Entry}
use Rattle.trace_model.specs.declared.entry.Entry.TheVariants.{Send, Failed, Early}
use Rattle.trace_model.specs.Legal.{IsLegal}

-- A hal log has two numbers for each number of a fence, an even one where the client made it and an odd one where the
-- device did. Both fit 32 bits where the fence is a small one.

abbrev pub is_small : ℕ → Bool
is_small f = nat_lt (2 * f + 1) (2 ^ 32)

abbrev pub is_small_fence : Option FenceNo → Bool
is_small_fence (Some f) = is_small f.0
is_small_fence None = true

-- each fence that the entry's events name is a small one
abbrev pub is_fitting : Entry → Bool
is_fitting (Send _ _ _ _ targets) = list_all (λ t. is_small_fence t.fence) (four_list targets)
is_fitting (Failed _ _ _ fence) = is_small_fence fence
is_fitting (Early _ _ _ fence) = is_small fence.0
is_fitting _ = true

-- so is every entry of a legal trace of a valid script
abbrev pub FencesFit : Script → List Entry → Type 0
FencesFit script entries =
    IsTrue (is_valid script) → IsLegal script (reverse entries) → IsTrue (list_all is_fitting entries)
