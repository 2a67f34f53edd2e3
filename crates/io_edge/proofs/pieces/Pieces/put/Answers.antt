use Rattle.std.proofs.Common.{◌≡◌, ◌∙◌, ◌+◌, ◌++◌, arith, rules, ap, sym, append_assoc, length-drop, take, drop, List, ℕ, take-append-drop}
use Rattle.std.proofs.lemmas.List.{take_rest}
use Rattle.std.proofs.Math.Seq.{take-add}
use Rattle.io_edge.proofs.Gathering.{after, broken, longer, shorter}
use Rattle.io_edge.proofs.pieces.Pieces.put.Goals as goal
use Rattle.basic_lemmas.proofs.Options.{on-err}

pub returns-in_err-make_room-clause-failed : goal.returns-in_err-make_room-clause-failed
returns-in_err-make_room-clause-failed g c =
    let all = c.args.bytes.now in
    let done = c.loop-done.done in
    let first = g.K.Sink.state c.args.sink.now in
    let last = g.K.Sink.state c.make_room.new.sink in
    let fault = broken _ _ last _ _ c.loop-done.invariant.so_far c.in_err-make_room.ensures.failed in
    on-err _ _ (shorter first last _ _ (drop done all) fault (append_assoc c.args.self.now (take done all) (drop done all) ∙ ap (λ (l : List ℕ). c.args.self.now ++ l) (take-append-drop done all)))

pub loop-done-preserved : goal.loop-done-preserved
loop-done-preserved g c =
    let all = c.args.bytes.now in
    let done = c.loop-done.done in
    let count = c.gather-done.result in
    let rest = take_rest all done in
    let bound = rw rest at c.gather-done.ensures.count in
    let gathered : c.gather-done.new.self ≡ c.make_room.new.self ++ take count (drop done all) = rw rest at c.gather-done.ensures.gathered in
    let room = after _ _ _ _ _ _ c.loop-done.invariant.so_far c.in_ok-make_room.ensures.text in
    let text : (c.args.self.now ++ take done all) ++ take count (drop done all) ≡ c.args.self.now ++ take (done + count) all = append_assoc c.args.self.now (take done all) (take count (drop done all)) ∙ ap (λ (l : List ℕ). c.args.self.now ++ l) (sym (take-add done count all)) in
    record {
      within = omega (arith, bound, length-drop done all);
      so_far = longer _ _ _ _ _ _ _ room gathered text;
      uncounted = search rules;
    }
