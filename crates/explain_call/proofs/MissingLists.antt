-- Lists that come of up to four values, and of one number more.
use Rattle.std.proofs.Common.{◌≡◌, ℕ, ◌+◌, ◌-◌, ◌<◌, ◌++◌, ◌∙◌, Bool, List, ◌∷◌, zero, suc, ap, arith, filter, option_to_list, refl, sym}
use Rattle.std.specs.List.{flat_map, range_with_len}
use Rattle.std.proofs.lemmas.Grind.{common_steps, flat_map-append}
use Rattle.std.proofs.lemmas.List.Elements.{filter-append}
use Rattle.cam_types.specs.Four.{four_list}
use Rattle.cam_types.specs.declared.four.Four.{Four}
use Rattle.cam_types.specs.declared.request.WaitingItem.{WaitingItem}
use Rattle.cam_types.specs.declared.script.Script.{Script}
use Rattle.trace_model.specs.Queue.{puts, submitted}
use Rattle.trace_model.specs.declared.entry.Entry.{Entry}
use Rattle.explain_call.specs.Missing.{waiting_line}

pub four_flat : {T A : Type 0} (f : T → List A) (four : Four T) → flat_map f (four_list four) ≡ flat_map f (option_to_list four.a) ++ (flat_map f (option_to_list four.b) ++ (flat_map f (option_to_list four.c) ++ flat_map f (option_to_list four.d)))
four_flat f four = grind (arith, common_steps)

pub range_next : {A : Type 0} (f : ℕ → List A) (n k : ℕ) → 0 < k → flat_map f (range_with_len n k) ≡ f n ++ flat_map f (range_with_len (n + 1) (k - 1))
range_next f n zero l = absurd (omega arith)
range_next f n (suc k) l = let e : suc k - 1 ≡ k = omega arith in rw e refl

-- what an entry more puts into the queue, each of it that is kept
pub waits_more : (kept : WaitingItem → Bool) (script : Script) (past : List Entry) (e : Entry) (text grown : List ℕ) → text ≡ flat_map waiting_line (filter kept (submitted script past)) → grown ≡ text ++ flat_map waiting_line (filter kept (puts script e)) → grown ≡ flat_map waiting_line (filter kept (submitted script (e ∷ past)))
waits_more kept script past e text grown so_far more =
    let own = filter kept (puts script e) in
    let whole = filter-append kept (submitted script past) (puts script e) in
    more
    ∙ (ap (λ l. l ++ flat_map waiting_line own) so_far
    ∙ (sym (flat_map-append waiting_line (filter kept (submitted script past)) own) ∙ ap (λ items. flat_map waiting_line items) (sym whole)))
