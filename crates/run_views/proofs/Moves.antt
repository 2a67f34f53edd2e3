-- What is told of a move, and of the moves so far.
use Rattle.std.proofs.Common.{◌≡◌, ℕ, ◌%◌, true, List, [], ◌∷◌, ◌++◌, Option, Some, None, refl, sym, ap, ◌∙◌, append_assoc, append-nil, codes, length, option_to_list, reverse, slice_get, subst, IfSome, IsTrue}
use Rattle.std.proofs.lemmas.Bool.{and_parts}
use Rattle.std.specs.List.{flat_map, list_all}
use Rattle.call_parts.specs.Answers.{Answers}
use Rattle.cam_types.specs.declared.script.Script.{Script}
use Rattle.io_edge.specs.States.{SinkState}
use Rattle.run_model.specs.History.{trace_of, with_entry}
use Rattle.run_model.specs.Played.{candidates, pick_at}
use Rattle.run_model.specs.declared.step.Move.{Move}
use Rattle.run_model.specs.declared.step.StepName.{StepName}
use Rattle.run_model.specs.State.{State}
use Rattle.service_core.specs.Answers.{after}
use Rattle.text_parts.specs.Lines.{line_text}
use Rattle.trace_model.specs.Printable.{is_printable}
use Rattle.trace_model.specs.declared.entry.Entry.{Entry}
use Rattle.trace_text.specs.Spelling.{line_of}
use Rattle.run_views.specs.Listing.{candidates_line, list_line, move_text, run_text, told}
use Rattle.run_views.specs.Told.{IsTold, TellsMore, TellsMoves}
use Rattle.run_views.specs.declared.teller.Teller.{Teller}
use Rattle.run_views.proofs.Lists.{added}

-- nothing is told while no move is made
pub none_made : (past now : State) (o : Teller) (s : SinkState) → now ≡ past → TellsMoves past now o o s s
none_made past now o s same first text h = rw same h

-- the text of one move is told behind those before it
pub one_made : (past now : State) (m : Move) (old new : Teller) (s t : SinkState) → now ≡ after m past → TellsMore (move_text past.script past.history m) old new s t → TellsMoves past now old new s t
one_made past now m old new s t left more first text h =
    let all = more first (text ++ told past.script past.history) h in
    let longer : (text ++ told past.script past.history) ++ move_text past.script past.history m ≡ text ++ told now.script now.history = append_assoc text (told past.script past.history) (move_text past.script past.history m) ∙ ap (λ (x : State). text ++ told x.script x.history) (sym left) in
    subst (λ (l : List ℕ). IsTold new first t l) longer all

-- moves behind moves
pub more_made : (a b c : State) (o m n : Teller) (s t u : SinkState) → TellsMoves a b o m s t → TellsMoves b c m n t u → TellsMoves a c o n s u
more_made a b c o m n s t u one two first text h = two first text (one first text h)

-- what stands in the trace behind the entries so far is the move's entry
pub made_entry : (past now : State) (m : Move) (o : Option Entry) (n : ℕ) → now ≡ after m past → n ≡ length (reverse (trace_of past.history)) → o ≡ slice_get (reverse (trace_of now.history)) n → o ≡ m.entry
made_entry past now m o n left long at = at ∙ rw (left, long) (added m.entry (trace_of past.history))

printable_first : (o : Option Entry) (past : List Entry) → list_all is_printable (with_entry o past) ≡ true → IfSome o (λ e. IsTrue (is_printable e))
printable_first None past all = tt
printable_first (Some e) past all = (and_parts (is_printable e) (list_all is_printable past) all).0

-- it has a line where all entries have
pub made_line : (past now : State) (m : Move) (o : Option Entry) → now ≡ after m past → o ≡ m.entry → list_all is_printable (trace_of now.history) ≡ true → IfSome o (λ e. IsTrue (is_printable e))
made_line past now m o left is lines =
    rw is (printable_first m.entry (trace_of past.history) (rw left at lines))

-- the line of an entry, if there is one
pub some_line : (o : Option Entry) (e : Entry) → o ≡ Some e → line_of e ≡ flat_map line_of (option_to_list o)
some_line o e is = rw is (sym (append-nil (line_of e)))

pub no_line : (o : Option Entry) → o ≡ None → [] ≡ flat_map line_of (option_to_list o)
no_line o is = rw is refl

-- the candidates that were read are those of the definition, and so is the number of the one that is chosen
pub line_read : (script : Script) (h : List Move) (xs : List StepName) (pick : ℕ) → xs ≡ candidates script h → pick ≡ pick_at script (length h) % length xs → list_line pick xs ≡ candidates_line script h
line_read script h xs pick same number =
    let place : pick ≡ pick_at script (length h) % length (candidates script h) = number ∙ ap (λ (ys : List StepName). pick_at script (length h) % length ys) same in
    rw (place, same) refl

-- ---- the whole text

pub told_behind : (front : List ℕ) (script : Script) (h : List Move) → h ≡ [] → [] ++ front ≡ front ++ told script h
told_behind front script h none = rw none (sym (append-nil front))

pub whole_text : (script : Script) (h : List Move) → (line_text (codes "candidates" ∷ codes "1" ∷ []) ++ told script h) ++ codes "end\n" ≡ run_text script h
whole_text script h = append_assoc (codes "candidates 1\n") (told script h) (codes "end\n")

-- it is answered where all of it is
pub whole_answered : (script : Script) (now : State) (status : ℕ) (first last : SinkState) → now.script ≡ script → Answers 0 ((codes "candidates 1\n" ++ told now.script now.history) ++ codes "end\n") status first last → Answers 0 (run_text script now.history) status first last
whole_answered script now status first last same h =
    subst (λ (l : List ℕ). Answers 0 l status first last) (whole_text now.script now.history ∙ ap (λ (s : Script). run_text s now.history) same) h
