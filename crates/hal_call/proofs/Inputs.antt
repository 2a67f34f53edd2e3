-- Which inputs have a hal log.
use Rattle.std.proofs.Common.{◌≡◌, ℕ, ◌≤◌, nat_lt, arith, Bool, true, false, not, List, Option, Some, None, Result, Ok, Err, refl, sym, ◌∙◌, length, reverse, if◌then◌else◌}
use Rattle.std.proofs.lemmas.Bool.{false≢true}
use Rattle.std.proofs.lemmas.Bool.Decides.{nat_tests}
use Rattle.cam_types.specs.declared.script.Script.{Script}
use Rattle.script_text.specs.Grammar.{script_of}
use Rattle.trace_model.specs.declared.entry.Entry.{Entry}
use Rattle.trace_model.specs.declared.list.TraceList.{TraceList}
use Rattle.trace_model.specs.Complete.{IsComplete, is_all_called, is_all_signalled, is_queue_empty}
use Rattle.trace_model.specs.Legal.{IsLegal}
use Rattle.trace_model.specs.Open.{is_quiet}
use Rattle.trace_model.specs.Place.{all_in_pool}
use Rattle.trace_reader.specs.Grammar.{trace_of}
use Rattle.trace_model.specs.Verdict.{IsVerdict, first_missing}
use Rattle.trace_model.specs.declared.verdict.MissingPart.{MissingPart}
use Rattle.trace_model.specs.declared.verdict.MissingPart.TheVariants.{Calls, Open, Queued, Pool, Signal}
use Rattle.trace_model.specs.declared.verdict.Verdict.{Verdict}
use Rattle.trace_model.specs.declared.verdict.Verdict.TheVariants.{Legal, Incomplete}
use Rattle.call_parts.specs.Parts.{first_line, script_part, trace_part}
use Rattle.call_parts.specs.Profiles.{profile_of}
use Rattle.hal_call.specs.Shown.{HasNoLog, is_illegal}

abbrev pub OneVerdict : Type 0
OneVerdict = (script : Script) (trace : List Entry) (v w : Verdict) → IsVerdict script trace v → IsVerdict script trace w → v ≡ w

clash : {A E : Type 0} (r : Result A E) (x : A) (e : E) → r ≡ Ok x → r ≡ Err e → ⊥
clash r x e ok err = let both : Ok x ≡ Err e = sym ok ∙ err in absurd (cc)

same : {A E : Type 0} (r : Result A E) (x y : A) → r ≡ Ok x → r ≡ Ok y → x ≡ y
same r x y one two = let both : Result.Ok x ≡ Ok y = sym one ∙ two in cc

pub no_profile : (input : List ℕ) (script : Script) (trace : TraceList) → script_of (script_part input) ≡ Ok script → trace_of (first_line input) (trace_part input) ≡ Ok trace → (profile_of trace ≡ script.profile → ⊥) → HasNoLog input
no_profile input script trace meaning read differs s t is =
    let one = same (script_of (script_part input)) s script is.meaning meaning in
    let two = same (trace_of (first_line input) (trace_part input)) t trace is.read read in
    let agrees : profile_of trace ≡ script.profile = rw (one, two) at is.agreeing in
    differs agrees

-- ---- verdicts

missing_or : (b : Bool) (x : MissingPart) (o : Option MissingPart) → (if not b then Some x else o) ≡ None → (b ≡ true) × (o ≡ None)
missing_or true x o h = (refl, h)
missing_or false x o h = absurd (cc)

complete : (script : Script) (past : List Entry) → IsLegal script past → first_missing script past ≡ None → IsComplete script past
complete script past legal h =
    let a = missing_or (is_all_called script past) Calls _ h in
    let b = missing_or (is_quiet past) Open _ a.1 in
    let c = missing_or (is_queue_empty script past) Queued _ b.1 in
    let d = missing_or (all_in_pool past) Pool _ c.1 in
    let e = missing_or (is_all_signalled past) Signal _ d.1 in
    record { legal = legal; calls = a.0; open_frames = b.0; queue = c.0; pool = d.0; signals = e.0 }

-- a legal trace has a verdict that says so
legal_verdict : (script : Script) (trace : List Entry) (o : Option MissingPart) → IsLegal script (reverse trace) → first_missing script (reverse trace) ≡ o → (v : Verdict) × (IsVerdict script trace v) × (is_illegal v ≡ false)
legal_verdict script trace None legal h = (Legal, complete script (reverse trace) legal h, refl)
legal_verdict script trace (Some part) legal h = (Incomplete part, record { legal = legal; missing = h }, refl)

pub no_legal : OneVerdict → (input : List ℕ) (script : Script) (trace : TraceList) (v : Verdict) → script_of (script_part input) ≡ Ok script → trace_of (first_line input) (trace_part input) ≡ Ok trace → IsVerdict script trace.entries v → is_illegal v ≡ true → HasNoLog input
no_legal law input script trace v meaning read bad illegal s t is =
    let one = same (script_of (script_part input)) s script is.meaning meaning in
    let two = same (trace_of (first_line input) (trace_part input)) t trace is.read read in
    let legal : IsLegal script (reverse trace.entries) = rw (one, two) at is.legal in
    let other = legal_verdict script trace.entries (first_missing script (reverse trace.entries)) legal refl in
    let alike : v ≡ other.0 = law script trace.entries v other.0 bad other.1 in
    let no' : is_illegal other.0 ≡ true = rw alike at illegal in
    false≢true (sym other.2 ∙ no')

-- ---- the log

pub is_short : (input : List ℕ) → length input ≤ 134217728 → nat_lt 134217728 (length input) ≡ false
is_short input l = grind (arith, nat_tests, l)
