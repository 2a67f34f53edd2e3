-- The name is written behind the words that open the list of events.
use Rattle.std.proofs.Common.{◌≡◌, ℕ, List, ◌++◌, append_assoc, ap, ◌∙◌, codes}
use Rattle.std.proofs.lemmas.Result.{on_ok_weaker}
use Rattle.serde_json.specs.Written.{compact_text}
use Rattle.timeline_json.specs.Timelines.{camera_data, camera_text}
use Rattle.timeline_json.proofs.whole.put_camera.Goals as goal

pub returns : goal.returns
unfolding camera_text
returns c =
    let opening : List ℕ = codes ",\"traceEvents\":[" in
    let name : List ℕ = compact_text camera_data in
    let written = rw c.in_ok-event.ensures at c.put_value.ensures in
    on_ok_weaker c.put_value.result
    (λ (e : c.put_value.new.out.items ≡ c.put.new.out.items ++ name). e ∙ (ap (λ (l : List ℕ). l ++ name) c.in_ok-put.ensures ∙ append_assoc c.args.out.now.items opening name))
    written
