-- A buffer that a picture was drawn into.
use Rattle.std.proofs.Common.{◌≡◌, ℕ, List, sym, ap, ◌∙◌}
use Rattle.cam_types.specs.Picture.{picture, picture_of, readout}
use Rattle.cam_types.specs.Shown.{Shown}
use Rattle.cam_types.specs.declared.item.Settings.{Settings}
use Rattle.cam_types.specs.declared.job.FillTarget.{FillTarget}
use Rattle.cam_types.specs.declared.stream.StreamSpec.{StreamSpec}
use Rattle.cam_types.proofs.PictureLemmas.{picture-of-readout}
use Rattle.fill_jobs.specs.Buffers.{IsFillOf, IsFilledOf, drawn}
use Rattle.sha2.specs.Sha256.{sha256}

-- what is drawn of the frame's readout is the frame's picture
pub drawn-is : (spec : StreamSpec) (settings : Settings) (n : ℕ) (values : List ℕ) → values ≡ readout settings n → picture_of spec.format spec.width spec.height values ≡ picture spec settings n
drawn-is spec settings n values is =
    ap (λ (v : List ℕ). picture_of spec.format spec.width spec.height v) is ∙ sym (picture-of-readout spec settings n)

pub filled-of : (settings : Settings) (n : ℕ) (target : FillTarget) (values : List ℕ) (before after : Shown) (digest : List ℕ) → IsFillOf settings n target values before → after ≡ drawn target.spec values before → digest ≡ sha256 (picture_of target.spec.format target.spec.width target.spec.height values) → IsFilledOf settings n target values after digest
filled-of settings n target values before after digest job is sum =
    let drawn = drawn-is target.spec settings n values job.exposed in
    record {
      range = job.range;
      offered = job.offered;
      exposed = job.exposed;
      drawn = record {
        id = ap (λ (s : Shown). s.id) is ∙ job.whole.id;
        bytes = ap (λ (s : Shown). s.bytes) is ∙ drawn;
        block = ap (λ (s : Shown). s.block) is ∙ job.whole.block;
        digested = sum ∙ ap (λ (v : List ℕ). sha256 v) drawn;
      };
    }
