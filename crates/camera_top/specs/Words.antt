-- Which forms read the source, and how much of it. (docs/FORMATS.md, Limits)
use Rattle.std.specs.Prelude.{ℕ, Bool, true, false, Option, Some, None}
use Rattle.text_parts.specs.declared.form.Form.{Form}
use Rattle.text_parts.specs.declared.form.Form.TheVariants.{Play, Run, Check, Convert, Gen, Help, Arbiter, Auto, Logical, Reprocess}

-- the most bytes of an input that the form's command takes, where it reads one: a script's, and a trace's behind its script
abbrev pub limit_of : Option Form → Option ℕ
limit_of (Some Play) = Some 65536
limit_of (Some (Run _)) = Some 65536
limit_of (Some Check) = Some 134217728
limit_of (Some Convert) = Some 134217728
limit_of (Some Arbiter) = Some 65536
limit_of (Some Auto) = Some 65536
limit_of (Some Logical) = Some 65536
limit_of (Some Reprocess) = Some 65536
limit_of _ = None

-- the form reads the source, and the rest is done on the thread that read it
abbrev pub reads_alone : Form → Bool
reads_alone (Run _) = false
reads_alone (Gen _ _) = false
reads_alone Help = false
reads_alone _ = true
