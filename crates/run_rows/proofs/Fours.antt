-- The targets of a row are those that its frame was sent with.
use Rattle.std.proofs.Common.{◌≡◌, ℕ, ◌==◌, Bool, true, false, ◌&&◌, ◌||◌, List, ◌++◌, Option, Some, None, refl, sym, ap, ◌∙◌, find, map, option_to_list}
use Rattle.std.specs.List.{list_all, list_any}
use Rattle.std.specs.Option.{option_map}
use Rattle.std.proofs.lemmas.Bool.{eqb-true}
use Rattle.cam_types.specs.Four.{four_list, four_of}
use Rattle.cam_types.specs.declared.four.Four.{Four}
use Rattle.cam_types.specs.declared.row.TargetView.{TargetView}
use Rattle.cam_types.specs.declared.script.Script.{Script}
use Rattle.trace_model.specs.declared.entry.Entry.{Entry}
use Rattle.trace_model.specs.declared.entry.Entry.TheVariants.{Send}
use Rattle.trace_model.specs.declared.entry.Sent.{Sent}
use Rattle.trace_model.specs.Frames.{send_of, target_of, targets_in, targets_of}
use Rattle.trace_model.specs.Open.{has_error_buffer}
use Rattle.run_model.specs.declared.step.Move.{Move}
use Rattle.run_model.specs.History.{trace_of}
use Rattle.run_model.specs.Rows.{row_of, target_state, target_view}
use Rattle.device_rows.specs.Rows.{target_at}
use Rattle.basic_lemmas.proofs.Lists.{find-mapped, found-passes}

-- ---- some and all of four

abbrev pub some_of : {X : Type 0} → (X → Bool) → Option X → Bool
some_of p None = false
some_of p (Some x) = p x

abbrev pub each_of : {X : Type 0} → (X → Bool) → Option X → Bool
each_of p None = true
each_of p (Some x) = p x

any-step : {X : Type 0} (p : X → Bool) (o : Option X) (xs : List X) → list_any p (option_to_list o ++ xs) ≡ (some_of p o || list_any p xs)
any-step p None xs = refl
any-step p (Some x) xs = refl

all-step : {X : Type 0} (p : X → Bool) (o : Option X) (xs : List X) → list_all p (option_to_list o ++ xs) ≡ (each_of p o && list_all p xs)
all-step p None xs = refl
all-step p (Some x) xs = refl

any-last : {X : Type 0} (p : X → Bool) (o : Option X) → list_any p (option_to_list o) ≡ some_of p o
any-last p None = refl
any-last p (Some x) = or_false (p x)
  where
    or_false : (b : Bool) → (b || false) ≡ b
    or_false true = refl
    or_false false = refl

all-last : {X : Type 0} (p : X → Bool) (o : Option X) → list_all p (option_to_list o) ≡ each_of p o
all-last p None = refl
all-last p (Some x) = and_true (p x)
  where
    and_true : (b : Bool) → (b && true) ≡ b
    and_true true = refl
    and_true false = refl

pub any-four : {X : Type 0} (p : X → Bool) (f : Four X) → list_any p (four_list f) ≡ (some_of p f.a || (some_of p f.b || (some_of p f.c || some_of p f.d)))
any-four p f = rw (any-step p f.a (option_to_list f.b ++ (option_to_list f.c ++ option_to_list f.d)), any-step p f.b (option_to_list f.c ++ option_to_list f.d), any-step p f.c (option_to_list f.d), any-last p f.d) refl

pub all-four : {X : Type 0} (p : X → Bool) (f : Four X) → list_all p (four_list f) ≡ (each_of p f.a && (each_of p f.b && (each_of p f.c && each_of p f.d)))
all-four p f = rw (all-step p f.a (option_to_list f.b ++ (option_to_list f.c ++ option_to_list f.d)), all-step p f.b (option_to_list f.c ++ option_to_list f.d), all-step p f.c (option_to_list f.d), all-last p f.d) refl

-- ---- four of a list of four

four-back : {X Y : Type 0} (f : X → Y) (a b c d : Option X) → four_list (four_of (map f (option_to_list a ++ (option_to_list b ++ (option_to_list c ++ option_to_list d))))) ≡ map f (option_to_list a ++ (option_to_list b ++ (option_to_list c ++ option_to_list d)))
four-back f (Some a) (Some b) (Some c) (Some d) = refl
four-back f (Some a) (Some b) (Some c) None = refl
four-back f (Some a) (Some b) None (Some d) = refl
four-back f (Some a) (Some b) None None = refl
four-back f (Some a) None (Some c) (Some d) = refl
four-back f (Some a) None (Some c) None = refl
four-back f (Some a) None None (Some d) = refl
four-back f (Some a) None None None = refl
four-back f None (Some b) (Some c) (Some d) = refl
four-back f None (Some b) (Some c) None = refl
four-back f None (Some b) None (Some d) = refl
four-back f None (Some b) None None = refl
four-back f None None (Some c) (Some d) = refl
four-back f None None (Some c) None = refl
four-back f None None None (Some d) = refl
four-back f None None None None = refl

targets-back : {Y : Type 0} (f : Sent → Y) (o : Option Entry) → four_list (four_of (map f (targets_in o))) ≡ map f (targets_in o)
targets-back f (Some (Send n r i same targets)) = four-back f targets.a targets.b targets.c targets.d
targets-back f None = refl
targets-back f (Some _) = refl

pub row-targets : (script : Script) (h : List Move) (n : ℕ) → four_list (row_of script h n).targets ≡ map (target_view h n) (targets_of n (trace_of h))
row-targets script h n = targets-back (target_view h n) (send_of n (trace_of h))

-- ---- the target of a stream

-- what a history says of the buffer of frame n for stream s
abbrev pub view_at : List Move → ℕ → ℕ → Sent → TargetView
view_at h n s t = record { stream = record { 0 = s }; buffer = t.buffer; fence = t.fence; announced = has_error_buffer n s (trace_of h); state = target_state h n s }

view-at-is : (h : List Move) (n s : ℕ) (t : Sent) → t.stream.0 ≡ s → target_view h n t ≡ view_at h n s t
view-at-is h n s t same = ap (λ (i : ℕ). view_at h n i t) same

pub target-at : (script : Script) (h : List Move) (n s : ℕ) → target_at s (row_of script h n) ≡ option_map (target_view h n) (target_of n s (trace_of h))
target-at script h n s =
    ap (λ (ts : List TargetView). find (λ (t : TargetView). t.stream.0 == s) ts) (row-targets script h n)
    ∙ find-mapped (λ (t : TargetView). t.stream.0 == s) (target_view h n) (targets_of n (trace_of h))

pub by-target : {X : Type 0} (script : Script) (h : List Move) (n s : ℕ) (f : Option TargetView → X) (x : Option Sent → X) → (target_of n s (trace_of h) ≡ None → x None ≡ f None) → ((t : Sent) → target_of n s (trace_of h) ≡ Some t → x (Some t) ≡ f (Some (view_at h n s t))) → x (target_of n s (trace_of h)) ≡ f (target_at s (row_of script h n))
by-target script h n s f x none some = by-found (target_of n s (trace_of h)) refl ∙ ap f (sym (target-at script h n s))
  where
    by-found : (o : Option Sent) → target_of n s (trace_of h) ≡ o → x o ≡ f (option_map (target_view h n) o)
    by-found None at = none at
    by-found (Some t) at =
        let same : t.stream.0 ≡ s = eqb-true t.stream.0 s (found-passes {X = Sent} (λ u. u.stream.0 == s) (targets_of n (trace_of h)) t at) in
        some t at ∙ ap (λ (v : TargetView). f (Some v)) (sym (view-at-is h n s t same))

pub view-found : (script : Script) (h : List Move) (n s : ℕ) (t : Sent) → target_of n s (trace_of h) ≡ Some t → target_at s (row_of script h n) ≡ Some (view_at h n s t)
view-found script h n s t at =
    let same : t.stream.0 ≡ s = eqb-true t.stream.0 s (found-passes {X = Sent} (λ u. u.stream.0 == s) (targets_of n (trace_of h)) t at) in
    target-at script h n s ∙ (ap (λ (o : Option Sent). option_map (target_view h n) o) at ∙ ap Some (view-at-is h n s t same))

pub no-view : (script : Script) (h : List Move) (n s : ℕ) → target_of n s (trace_of h) ≡ None → target_at s (row_of script h n) ≡ None
no-view script h n s at = target-at script h n s ∙ ap (λ (o : Option Sent). option_map (target_view h n) o) at
