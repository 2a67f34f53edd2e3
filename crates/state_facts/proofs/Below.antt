-- The buffers of the configuration have numbers below the next one.
use Rattle.std.proofs.Common.{◌≡◌, ℕ, ◌+◌, true, List, [], ◌∷◌, Option, Some, None, refl, arith, nat_le, sum_by}
use Rattle.std.specs.List.{list_all}
use Rattle.std.proofs.lemmas.Bool.{false≢true, le-leb}
use Rattle.std.proofs.lemmas.List.Sums.{sum_by-cons}
use Rattle.cam_types.specs.Four.{four_list, four_of}
use Rattle.cam_types.specs.declared.reply.Made.{Made}
use Rattle.cam_types.specs.declared.reply.Reply.{Reply}
use Rattle.cam_types.specs.declared.reply.Reply.TheVariants.{Ok, Submitted, Configured, Refused}
use Rattle.cam_types.specs.declared.script.Command.{Command}
use Rattle.cam_types.specs.declared.script.Command.TheVariants.{Configure}
use Rattle.cam_types.specs.declared.profile.Profile.{Profile}
use Rattle.cam_types.specs.declared.script.Script.{Script}
use Rattle.cam_types.specs.declared.stream.StreamSpec.{StreamSpec}
use Rattle.trace_model.specs.declared.entry.Entry.{Entry}
use Rattle.trace_model.specs.declared.entry.Entry.TheVariants.{Call}
use Rattle.trace_model.specs.Calls.{word_of}
use Rattle.trace_model.specs.Configuration.{made, made_by, made_count}
use Rattle.cam_types.specs.Profile.{max_buffers}
use Rattle.trace_model.specs.Legal.{IsLegal}
use Rattle.trace_model.specs.Numbers.{call_count}
use Rattle.trace_model.specs.Reply.{acceptance, made_for, refusal, reply_with}
use Rattle.trace_laws.proofs.Calls.{by-call}
use Rattle.trace_laws.proofs.Refusals.{refuses, refusal-refuses}

abbrev are_below : ℕ → List Made → Type 0
are_below n ms = list_all (λ m. nat_le (m.first.0 + m.count) n) ms ≡ true

four_below : (p : Profile) (k n : ℕ) (specs : List StreamSpec) → n ≡ sum_by (λ m. m.count) (four_list (four_of (made_for p k specs))) + k → are_below n (four_list (four_of (made_for p k specs)))
four_below p k n [] at = refl
four_below p k n (a ∷ []) at = rw (le-leb (k + (max_buffers p a.format + 2)) n (omega (arith, at))) refl
four_below p k n (a ∷ b ∷ []) at = rw (le-leb (k + (max_buffers p a.format + 2)) n (omega (arith, at)), le-leb (k + (max_buffers p a.format + 2) + (max_buffers p b.format + 2)) n (omega (arith, at))) refl
four_below p k n (a ∷ b ∷ c ∷ []) at =
    rw (
      le-leb (k + (max_buffers p a.format + 2)) n (omega (arith, at)),
      le-leb (k + (max_buffers p a.format + 2) + (max_buffers p b.format + 2)) n (omega (arith, at)),
      le-leb (k + (max_buffers p a.format + 2) + (max_buffers p b.format + 2) + (max_buffers p c.format + 2)) n (omega (arith, at)),
    ) refl
four_below p k n (a ∷ b ∷ c ∷ d ∷ specs) at =
    rw (
      le-leb (k + (max_buffers p a.format + 2)) n (omega (arith, at)),
      le-leb (k + (max_buffers p a.format + 2) + (max_buffers p b.format + 2)) n (omega (arith, at)),
      le-leb (k + (max_buffers p a.format + 2) + (max_buffers p b.format + 2) + (max_buffers p c.format + 2)) n (omega (arith, at)),
      le-leb (k + (max_buffers p a.format + 2) + (max_buffers p b.format + 2) + (max_buffers p c.format + 2) + (max_buffers p d.format + 2)) n (omega (arith, at)),
    ) refl

call_below : (script : Script) (past : List Entry) (i : ℕ) (c : Command) (e : Option Reply) → refuses e ≡ true → are_below (made_count past) (made past) → are_below (made_count (Call i (word_of c) (reply_with e (acceptance script past c)) ∷ past)) (made (Call i (word_of c) (reply_with e (acceptance script past c)) ∷ past))
call_below script past i c (Some (Refused code first second)) h before = before
call_below script past i c (Some Ok) h before = absurd (false≢true h)
call_below script past i c (Some (Submitted r)) h before = absurd (false≢true h)
call_below script past i c (Some (Configured each)) h before = absurd (false≢true h)
call_below script past i (Configure specs) None h before =
    let e = Call i (word_of (Configure specs)) (acceptance script past (Configure specs)) in
    four_below script.profile (made_count past) (made_count (e ∷ past)) specs (sum_by-cons made_by e past)
call_below script past i c None h before = before

pub made-below : (script : Script) (past : List Entry) → IsLegal script past → list_all (λ m. nat_le (m.first.0 + m.count) (made_count past)) (made past) ≡ true
made-below script [] legal = refl
made-below script (Call i w r ∷ past) legal =
    by-call (λ e. are_below (made_count (e ∷ past)) (made (e ∷ past))) script past i w r legal.0
    (λ c at. call_below script past (call_count past) c (refusal script past c) (refusal-refuses script past c) (made-below script past legal.1))
made-below script (e ∷ past) legal = made-below script past legal.1
