-- What the calls of a past decide is read from them alone.
use Rattle.std.proofs.Common.{◌≡◌, ℕ, ◌==◌, Bool, List, [], ◌∷◌, ◌++◌, refl, sym, ap, ◌∙◌, filter, reverse, inl, inr, if◌then◌else◌}
use Rattle.std.proofs.lemmas.Bool.{cases_Bool}
use Rattle.std.proofs.lemmas.List.{append-nil, reverse-append}
use Rattle.std.proofs.lemmas.List.Elements.{filter-append}
use Rattle.cam_types.specs.declared.script.Script.{Script}
use Rattle.cam_types.specs.declared.reply.Reply.TheVariants.{Ok, Submitted, Configured, Refused}
use Rattle.trace_model.specs.declared.entry.Entry.{Entry}
use Rattle.trace_model.specs.declared.entry.Entry.TheVariants.{Call}
use Rattle.trace_model.specs.Calls.{command_at, command_of}
use Rattle.trace_model.specs.Configuration.{streams}
use Rattle.trace_model.specs.Entry.{is_call}

-- one more element at the front is one more at the end of the reversed list
last-filtered : {X : Type 0} (p : X → Bool) (x : X) (xs : List X) → reverse (filter p (x ∷ xs)) ≡ reverse (filter p xs) ++ filter p (x ∷ [])
last-filtered p x xs = elim (cases_Bool (p x)) [
  | inl is ↦ rw is (reverse-append (x ∷ []) (filter p xs))
  | inr is ↦ rw is (sym (append-nil (reverse (filter p xs))))
]

pub reverse-filter : {X : Type 0} (p : X → Bool) (xs : List X) → reverse (filter p xs) ≡ filter p (reverse xs)
reverse-filter p [] = refl
reverse-filter p (x ∷ xs) =
    last-filtered p x xs
    ∙ (ap (λ ys. ys ++ filter p (x ∷ [])) (reverse-filter p xs)
    ∙ (sym (filter-append p (reverse xs) (x ∷ [])) ∙ ap (λ ys. filter p ys) (sym (reverse-append (x ∷ []) xs))))

pub streams-by : (script : Script) (past : List Entry) → streams script (filter is_call past) ≡ streams script past
streams-by script [] = refl
streams-by script (Call i w (Configured each) ∷ past) = refl
streams-by script (Call i w Ok ∷ past) = streams-by script past
streams-by script (Call i w (Submitted r) ∷ past) = streams-by script past
streams-by script (Call i w (Refused code a b) ∷ past) = streams-by script past
streams-by script (e ∷ past) = streams-by script past

pub command-by : (script : Script) (past : List Entry) (r : ℕ) → command_of script (filter is_call past) r ≡ command_of script past r
command-by script [] r = refl
command-by script (Call i w (Configured each) ∷ past) r = command-by script past r
command-by script (Call i w Ok ∷ past) r = command-by script past r
command-by script (Call i w (Submitted q) ∷ past) r = ap (λ c. if q.0 == r then command_at script i else c) (command-by script past r)
command-by script (Call i w (Refused code a b) ∷ past) r = command-by script past r
command-by script (e ∷ past) r = command-by script past r

-- ---- the same, of the entries in the order of the trace

pub streams_of_calls : (script : Script) (entries calls : List Entry) → calls ≡ filter is_call entries → streams script (reverse calls) ≡ streams script (reverse entries)
streams_of_calls script entries calls are =
    ap (λ cs. streams script (reverse cs)) are
    ∙ (ap (λ past. streams script past) (reverse-filter is_call entries) ∙ streams-by script (reverse entries))

pub command_of_calls : (script : Script) (entries calls : List Entry) (r : ℕ) → calls ≡ filter is_call entries → command_of script (reverse calls) r ≡ command_of script (reverse entries) r
command_of_calls script entries calls r are =
    ap (λ cs. command_of script (reverse cs) r) are
    ∙ (ap (λ past. command_of script past r) (reverse-filter is_call entries) ∙ command-by script (reverse entries) r)
