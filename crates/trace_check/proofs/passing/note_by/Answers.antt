use Rattle.std.proofs.Common.{◌≡◌, ◌∷◌, reverse, subst, sym}
use Rattle.std.specs.Prelude.{OnOk}
use Rattle.std.specs.declared.result.Result.{Result}
use Rattle.std.specs.declared.result.Result.TheVariants.{Ok, Err}
use Rattle.state_facts.specs.States.{state_after}
use Rattle.judge_rows.specs.Judged.{CanNote, Judged}
use Rattle.trace_check.specs.Held.{held}
use Rattle.trace_check.proofs.Holding.{can_note, held_more}
use Rattle.trace_check.proofs.passing.note_by.Goals as goal

pub note-requires : goal.note-requires
note-requires c = subst (λ (t : Judged). CanNote c.args.script.now c.args.entry.now t) (sym c.requires.held) (can_note c.args.script.now (reverse c.args.entries.now) c.args.entry.now c.requires.typed c.requires.valid c.requires.legal c.requires.allowed)

on-ok : {T E : Type 0} (r : Result T E) (P Q : Type 0) → (P → Q) → OnOk r P → OnOk r Q
on-ok (Ok x) P Q f h = f h
on-ok (Err e) P Q f h = h

pub returns : goal.returns
returns c =
    let t : Judged = c.args.tables.now in
    on-ok c.note.result (c.note.new.self ≡ record t { state = state_after c.args.script.now c.args.entry.now t.state }) (c.note.new.self ≡ held c.args.script.now (c.args.entry.now ∷ reverse c.args.entries.now)) (λ step. held_more c.args.script.now (reverse c.args.entries.now) c.args.entry.now t c.note.new.self c.requires.legal c.requires.allowed c.requires.held step) c.note.ensures
