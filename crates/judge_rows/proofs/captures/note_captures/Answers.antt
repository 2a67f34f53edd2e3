use Rattle.std.proofs.Common.{◌∙◌, sym, ap, length}
use Rattle.client_calls.specs.Captures.{Captures}
use Rattle.judge_rows.proofs.captures.note_captures.Goals as goal

pub returns-in-Send-clause-turns : goal.returns-in-Send-clause-turns
returns-in-Send-clause-turns c =
    let can = rw c.in-Send.is at c.requires.can in
    let sent = c.send.ensures c.args.script.now c.in-Send.request c.in-Send.item c.in-Send.same c.in-Send.targets c.in-Send.frame can.1 in
    rw c.in-Send.is (ap (λ (z : Captures). z.turns) sent)

pub returns-in-Send-clause-kinds : goal.returns-in-Send-clause-kinds
returns-in-Send-clause-kinds c =
    let can = rw c.in-Send.is at c.requires.can in
    let sent = c.send.ensures c.args.script.now c.in-Send.request c.in-Send.item c.in-Send.same c.in-Send.targets c.in-Send.frame can.1 in
    ap (λ (z : Captures). length z.kinds) sent ∙ (c.requires.kinds ∙ sym (ap (λ (z : Captures). z.turns.requests) sent))

pub returns-in-Send-clause-room : goal.returns-in-Send-clause-room
returns-in-Send-clause-room c =
    let can = rw c.in-Send.is at c.requires.can in
    let sent = c.send.ensures c.args.script.now c.in-Send.request c.in-Send.item c.in-Send.same c.in-Send.targets c.in-Send.frame can.1 in
    ap (λ (z : Captures). z.room) sent

pub returns-in-Dropped-clause-turns : goal.returns-in-Dropped-clause-turns
returns-in-Dropped-clause-turns c =
    let can = rw c.in-Dropped.is at c.requires.can in
    let dropped = c.drop_first.ensures c.args.script.now c.in-Dropped.request c.in-Dropped.item c.in-Dropped.frame can.1 in
    rw c.in-Dropped.is (ap (λ (z : Captures). z.turns) dropped)

pub returns-in-Dropped-clause-kinds : goal.returns-in-Dropped-clause-kinds
returns-in-Dropped-clause-kinds c =
    let can = rw c.in-Dropped.is at c.requires.can in
    let dropped = c.drop_first.ensures c.args.script.now c.in-Dropped.request c.in-Dropped.item c.in-Dropped.frame can.1 in
    ap (λ (z : Captures). length z.kinds) dropped ∙ (c.requires.kinds ∙ sym (ap (λ (z : Captures). z.turns.requests) dropped))

pub returns-in-Dropped-clause-room : goal.returns-in-Dropped-clause-room
returns-in-Dropped-clause-room c =
    let can = rw c.in-Dropped.is at c.requires.can in
    let dropped = c.drop_first.ensures c.args.script.now c.in-Dropped.request c.in-Dropped.item c.in-Dropped.frame can.1 in
    ap (λ (z : Captures). z.room) dropped
