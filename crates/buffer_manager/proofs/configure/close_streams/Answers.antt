use Rattle.std.proofs.Common.{◌≡◌, refl, ap, ◌∙◌, arith, length}
use Rattle.std.specs.List.{list_all}
use Rattle.std.proofs.lemmas.List.{nil_from_length}
use Rattle.cam_types.specs.declared.stream.StreamSpec.{StreamSpec}
use Rattle.buffer_pool.specs.Fences.{made}
use Rattle.buffer_pool.specs.Opened.{is_whole}
use Rattle.buffer_manager.proofs.Closes.{back-one, closable-front, closable-last, counted-none, same-total}
use Rattle.buffer_manager.proofs.configure.close_streams.Goals as goal

pub loop-stream-init : goal.loop-stream-init
loop-stream-init c = record { closable = c.requires.closable; counted = c.requires.counted; total = record { raw = refl; yuv = refl }; fences = refl; capacity = refl }

pub close_in-requires-clause-waiters : goal.close_in-requires-clause-waiters
close_in-requires-clause-waiters c =
    let one = closable-last (made c.args.fences.now) c.loop-stream.streams.items c.pop.new.self.items c.in-Some.stream c.in-Some.ensures.items c.loop-stream.invariant.closable in
    rw c.loop-stream.invariant.fences one.waiters

pub close_in-requires-clause-home : goal.close_in-requires-clause-home
close_in-requires-clause-home c = (closable-last (made c.args.fences.now) c.loop-stream.streams.items c.pop.new.self.items c.in-Some.stream c.in-Some.ensures.items c.loop-stream.invariant.closable).home

pub close_in-requires-clause-whole : goal.close_in-requires-clause-whole
close_in-requires-clause-whole c =
    let one = closable-last (made c.args.fences.now) c.loop-stream.streams.items c.pop.new.self.items c.in-Some.stream c.in-Some.ensures.items c.loop-stream.invariant.closable in
    ap (λ (spec : StreamSpec). list_all (is_whole spec.format) c.in-Some.stream.pool.home) one.spec ∙ one.whole

pub close_in-requires-clause-lent : goal.close_in-requires-clause-lent
close_in-requires-clause-lent c = (back-one (made c.args.fences.now) c.loop-stream.streams.items c.pop.new.self.items c.in-Some.stream c.loop-stream.blocks c.in-Some.ensures.items c.loop-stream.invariant.closable c.loop-stream.invariant.counted).lent

pub loop-stream-preserved : goal.loop-stream-preserved
loop-stream-preserved c =
    let back = back-one (made c.args.fences.now) c.loop-stream.streams.items c.pop.new.self.items c.in-Some.stream c.loop-stream.blocks c.in-Some.ensures.items c.loop-stream.invariant.closable c.loop-stream.invariant.counted in
    record {
      closable = closable-front (made c.args.fences.now) c.loop-stream.streams.items c.pop.new.self.items c.in-Some.stream c.in-Some.ensures.items c.loop-stream.invariant.closable;
      counted = rw c.close_in.ensures.blocks back.counted;
      total = rw c.close_in.ensures.blocks (same-total c.args.blocks.now c.loop-stream.blocks _ c.loop-stream.invariant.total back.total);
      fences = c.close_in.ensures.fences ∙ c.loop-stream.invariant.fences;
      capacity = c.pop.ensures.capacity ∙ c.loop-stream.invariant.capacity;
    }

pub returns-clause-capacity : goal.returns-clause-capacity
returns-clause-capacity c = c.pop.ensures.capacity ∙ c.loop-stream.invariant.capacity

pub returns-clause-counted : goal.returns-clause-counted
returns-clause-counted c =
    let none = c.in_default.ensures.cases.0 in
    let empty : length c.loop-stream.streams.items ≡ 0 = omega (arith, none) in
    counted-none c.loop-stream.streams.items c.loop-stream.blocks (nil_from_length c.loop-stream.streams.items empty) c.loop-stream.invariant.counted

pub returns-clause-total : goal.returns-clause-total
returns-clause-total c = c.loop-stream.invariant.total

pub returns-clause-fences : goal.returns-clause-fences
returns-clause-fences c = c.loop-stream.invariant.fences
