use Rattle.std.proofs.Common.{ℕ, refl, ap, ◌∙◌, arith}
use Rattle.std.proofs.lemmas.Grind.{common_steps}
use Rattle.turn_lock.specs.declared.seat.Seat.{Seat}
use Rattle.turn_lock.specs.declared.turnstile.Turnstile.{Turnstile}
use Rattle.turn_lock.specs.declared.view.View.{View}
use Rattle.turn_lock.specs.Lending.{IsDone, IsReady}
use Rattle.turn_lock.specs.Seats.{view}
use Rattle.turn_lock.specs.Turns.{Looks}
use Rattle.turn_lock.proofs.Beginnings.{begins_itself, begins_through}
use Rattle.shared_camera.specs.Cameras.{script_of}
use Rattle.shared_camera.proofs.loops.work.Goals as goal

module _ {S F E J : Type 0} (fixed : S → F) (turnstile : Turnstile S F E J) (v : View F E J) (old new : Seat S F E J) (done : IsDone fixed turnstile v old) where
  -- a seat that has looked is idle as before
  looked : (count : ℕ) → IsReady fixed turnstile new → Looks (view old) count (view new) → IsDone fixed turnstile v new
  looked count ready look =
      ((ready, ap (λ (w : View F E J). w.jobs) look.is ∙ done.0.1), (ap (λ (w : View F E J). w.number) look.is ∙ done.1.0, ap (λ (w : View F E J). w.others) look.is ∙ done.1.1, ap (λ (w : View F E J). w.made) look.is ∙ done.1.2))

  -- and so is one whose turns are done
  again : IsDone fixed turnstile (view old) new → IsDone fixed turnstile v new
  again next = (next.0, (next.1.0 ∙ done.1.0, next.1.1 ∙ done.1.1, next.1.2 ∙ done.1.2))

pub loop-init : goal.loop-init
loop-init g c = record { done = (c.requires, (refl, refl, refl)); begins = begins_itself (view c.args.seat.now).seen }

pub moves-moves-requires : goal.moves-moves-requires
moves-moves-requires g c = c.loop.invariant.done.0.0

pub is_over-requires : goal.is_over-requires
is_over-requires g c =
    let look = c.moves-moves.ensures in
    (looked script_of c.args.shared.now.turnstile (view c.args.seat.now) c.loop.seat c.moves-moves.new.seat c.loop.invariant.done c.moves-moves.result look.seat look.look).0

pub loop-preserved-in-Watch : goal.loop-preserved-in-Watch
loop-preserved-in-Watch g c =
    let i = c.loop.invariant in
    let look = c.moves-moves.ensures in
    record {
      done = looked script_of c.args.shared.now.turnstile (view c.args.seat.now) c.loop.seat c.moves-moves.new.seat i.done c.moves-moves.result look.seat look.look;
      begins = begins_through _ _ _ i.begins look.look.begins;
    }

pub loop-preserved-then-turn : goal.loop-preserved-then-turn
loop-preserved-then-turn g c =
    let i = c.loop.invariant in
    let look = c.moves-moves.ensures in
    let idle = looked script_of c.args.shared.now.turnstile (view c.args.seat.now) c.loop.seat c.moves-moves.new.seat i.done c.moves-moves.result look.seat look.look in
    record {
      done = again script_of c.args.shared.now.turnstile (view c.args.seat.now) c.moves-moves.new.seat c.turn.new.seat idle c.turn.ensures.done;
      begins = begins_through _ _ _ (begins_through _ _ _ i.begins look.look.begins) c.turn.ensures.begins;
    }

pub loop-preserved-in-Look-2 : goal.loop-preserved-in-Look-2
loop-preserved-in-Look-2 g c =
    let i = c.loop.invariant in
    let look = c.moves-moves.ensures in
    let idle = looked script_of c.args.shared.now.turnstile (view c.args.seat.now) c.loop.seat c.moves-moves.new.seat i.done c.moves-moves.result look.seat look.look in
    record {
      done = again script_of c.args.shared.now.turnstile (view c.args.seat.now) c.moves-moves.new.seat c.turn.new.seat idle c.turn.ensures.done;
      begins = begins_through _ _ _ (begins_through _ _ _ i.begins look.look.begins) c.turn.ensures.begins;
    }

pub loop-preserved : goal.loop-preserved
loop-preserved g c =
    let i = c.loop.invariant in
    let look = c.moves-moves.ensures in
    let idle = looked script_of c.args.shared.now.turnstile (view c.args.seat.now) c.loop.seat c.moves-moves.new.seat i.done c.moves-moves.result look.seat look.look in
    record {
      done = again script_of c.args.shared.now.turnstile (view c.args.seat.now) c.moves-moves.new.seat c.is_over.new.seat idle c.is_over.ensures.done;
      begins = begins_through _ _ _ (begins_through _ _ _ i.begins look.look.begins) c.is_over.ensures.begins;
    }

pub returns-clause-begins : goal.returns-clause-begins
returns-clause-begins c = grind (arith, common_steps)
