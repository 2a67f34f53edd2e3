-- What is written with a front.
use Rattle.std.proofs.Common.{◌≡◌, ℕ, ◌+◌, ◌<◌, List, ◌++◌, ◌∙◌, arith, inl, inr, length, take}
use Rattle.std.proofs.KnownBytes.{Appends-trans}
use Rattle.std.proofs.Math.Seq.{take-append-add}
use Rattle.std.proofs.lemmas.List.{length-append, take-append-le}
use Rattle.io_edge.specs.States.{Breaks, SinkState, Writes}
use Rattle.call_parts.specs.Answers.{Answers}

-- the front is there, and the text behind it is answered
pub behind : (front text : List ℕ) (status : ℕ) (before mid after : SinkState) → Writes before mid front → mid.faults ≡ before.faults → Answers 0 text status mid after → Answers 0 (front ++ text) status before after
behind front text status before mid after wrote same (inl h) =
    inl (h.0, (Appends-trans before.written mid.written after.written front text wrote h.1.0, h.1.1 ∙ same))
behind front text status before mid after wrote same (inr h) =
    let broken = h.1.0 in
    let count = broken.0 in
    let both = length-append front text in
    let longer : length front + count < length (front ++ text) = omega (arith, both, broken.1) in
    let some = Appends-trans before.written mid.written after.written front (take count text) wrote broken.2 in
    let written : Writes before after (take (length front + count) (front ++ text)) = rw (take-append-add front text count) some in
    inr (h.0, ((length front + count, longer, written), rw same at h.1.1))

-- the front broke
pub front_broken : (front text : List ℕ) (before after : SinkState) → Breaks before after front → Breaks before after (front ++ text)
front_broken front text before after broken =
    let count = broken.0 in
    let both = length-append front text in
    let longer : count < length (front ++ text) = omega (arith, both, broken.1) in
    let written : Writes before after (take count (front ++ text)) = rw (take-append-le count front text (omega (arith, broken.1))) broken.2 in
    (count, longer, written)
