-- A step that is ready is one of the candidates, where it names what the trace has.
use Rattle.std.proofs.Common.{◌≡◌, ◌≤◌, ◌<◌, ◌⊎◌, ℕ, zero, suc, ◌==◌, ◌+◌, Bool, true, false, ◌&&◌, ◌||◌, List, [], ◌∷◌, ◌++◌, refl, sym, ◌∙◌, arith, inl, inr, filter, length, map, nat_lt, reverse}
use Rattle.std.specs.List.{flat_map, list_any, range_with_len}
use Rattle.std.proofs.lemmas.Bool.{and_parts, cases_Bool, eqb-true, false≢true, ltb-true, or_left, or_right}
use Rattle.std.proofs.lemmas.Bool.Decides.{nat_tests}
use Rattle.std.proofs.lemmas.List.Folds.{list_any-append}
use Rattle.std.proofs.lemmas.List.Sorted.{IsPermutation-reverse, list_any-IsPermutation}
use Rattle.cam_types.specs.declared.number.FrameNo.{FrameNo}
use Rattle.cam_types.specs.declared.number.StreamIx.{StreamIx}
use Rattle.cam_types.specs.declared.script.Script.{Script}
use Rattle.trace_model.specs.declared.entry.Entry.{Entry}
use Rattle.trace_model.specs.declared.entry.Sent.{Sent}
use Rattle.trace_model.specs.Configuration.{made_count}
use Rattle.trace_model.specs.Frames.{frames, has_target, is_sent, targets_of}
use Rattle.trace_model.specs.Numbers.{next_fence}
use Rattle.state_facts.proofs.OpenRows.{frame-among}
use Rattle.run_model.specs.declared.step.Move.{Move}
use Rattle.run_model.specs.declared.step.StepName.{StepName}
use Rattle.run_model.specs.declared.step.StepName.TheVariants.{Send, Release, Signal, Client, DropQueued, Fail, ReturnFailed, Shutter, SensorDone, Partial, TakeFill, FillDone, Deliver, Early, Finish}
use Rattle.run_model.specs.History.{trace_of}
use Rattle.run_model.specs.Played.{candidates, for_frames, for_numbers, for_targets, steps}
use Rattle.run_model.specs.Ready.{is_ready}
use Rattle.basic_lemmas.proofs.Lists.{any-where, any-mapped, any-at}

-- the step's buffer, fence, frame or target is one of the trace's
abbrev pub is_named : List Entry → StepName → Bool
is_named past (Release b) = nat_lt b.0 (made_count past)
is_named past (Signal f) = nat_lt f.0 (next_fence past)
is_named past (Fail n) = is_sent n.0 past
is_named past (ReturnFailed n s) = is_sent n.0 past && has_target n.0 s.0 past
is_named past (SensorDone n) = is_sent n.0 past
is_named past (Partial n) = is_sent n.0 past
is_named past (TakeFill n s) = is_sent n.0 past && has_target n.0 s.0 past
is_named past (FillDone n s) = is_sent n.0 past && has_target n.0 s.0 past
is_named past (Deliver n s) = is_sent n.0 past && has_target n.0 s.0 past
is_named past (Early n s) = is_sent n.0 past && has_target n.0 s.0 past
is_named past (Finish n s) = is_sent n.0 past && has_target n.0 s.0 past
is_named past _ = true

any_range : (q : ℕ → Bool) (a n b : ℕ) → a ≤ b → b < a + n → q b ≡ true → list_any q (range_with_len a n) ≡ true
any_range q a zero b low high h = absurd (omega (arith, low, high))
any_range q a (suc n) b low high h =
    elim (cases_Bool (a == b)) [
      | inl here ↦ or_left (q a) (list_any q (range_with_len (a + 1) n)) (rw (eqb-true a b here) h)
      | inr other ↦ or_right (q a) (list_any q (range_with_len (a + 1) n)) (any_range q (a + 1) n b (above a b low other) (omega (arith, high)) h)
    ]
  where
    above : (a b : ℕ) → a ≤ b → (a == b) ≡ false → a + 1 ≤ b
    above a b low other = grind (arith, nat_tests, low, other)

any_flat : {X : Type 0} (p : StepName → Bool) (f : X → List StepName) (xs : List X) → list_any p (flat_map f xs) ≡ list_any (λ x. list_any p (f x)) xs
any_flat p f [] = refl
any_flat p f (x ∷ xs) = list_any-append p (f x) (flat_map f xs) ∙ rw (any_flat p f xs) refl

any_reversed : (p : ℕ → Bool) (xs : List ℕ) → list_any p (reverse xs) ≡ list_any p xs
any_reversed p xs = sym (list_any-IsPermutation p xs (reverse xs) (IsPermutation-reverse xs))

in_numbers : (p : StepName → Bool) (step : ℕ → StepName) (n b : ℕ) → nat_lt b n ≡ true → p (step b) ≡ true → list_any p (for_numbers step n) ≡ true
in_numbers p step n b less h = any-mapped p step (range_with_len 0 n) ∙ any_range (λ x. p (step x)) 0 n b (omega arith) (let l = ltb-true b n less in omega (arith, l)) h

in_frames : (p : StepName → Bool) (step : FrameNo → StepName) (past : List Entry) (n : FrameNo) → is_sent n.0 past ≡ true → p (step n) ≡ true → list_any p (for_frames step past) ≡ true
in_frames p step past n sent h =
    let q : ℕ → Bool = λ m. p (step (record { 0 = m })) in
    any-mapped p (λ m. step (record { 0 = m })) (reverse (frames past)) ∙ (any_reversed q (frames past) ∙ any-at q (frames past) n.0 (frame-among n.0 past ∙ sent) h)

same_stream : (t s : StreamIx) → t.0 ≡ s.0 → t ≡ s
same_stream t s h = let k : ◌≡◌ {A = StreamIx} (record { 0 = t.0 }) (record { 0 = s.0 }) = rw h refl in k

in_targets : (p : StepName → Bool) (step : FrameNo → StreamIx → StepName) (past : List Entry) (n : FrameNo) (s : StreamIx) → (is_sent n.0 past && has_target n.0 s.0 past) ≡ true → p (step n s) ≡ true → list_any p (for_targets step past) ≡ true
in_targets p step past n s named h =
    let parts = and_parts (is_sent n.0 past) (has_target n.0 s.0 past) named in
    let each : ℕ → List StepName = λ m. map (λ t. step (record { 0 = m }) t.stream) (targets_of m past) in
    let q : ℕ → Bool = λ m. list_any p (each m) in
    let own : q n.0 ≡ true = any-mapped p (λ (t : Sent). step n t.stream) (targets_of n.0 past) ∙ any-where (λ t. t.stream.0 == s.0) (λ t. p (step n t.stream)) (targets_of n.0 past) (λ t at. rw (same_stream t.stream s (eqb-true t.stream.0 s.0 at)) h) parts.1 in
    any_flat p each (reverse (frames past)) ∙ (any_reversed q (frames past) ∙ any-at q (frames past) n.0 (frame-among n.0 past ∙ parts.0) own)

any_steps : (p : StepName → Bool) (past : List Entry) → list_any p (steps past) ≡ (p Send || (list_any p (for_numbers (λ b. Release (record { 0 = b })) (made_count past)) || (list_any p (for_numbers (λ f. Signal (record { 0 = f })) (next_fence past)) || (p Client || (p DropQueued || (list_any p (for_frames Fail past) || (list_any p (for_targets ReturnFailed past) || (p Shutter || (list_any p (for_frames SensorDone past) || (list_any p (for_frames Partial past) || (list_any p (for_targets TakeFill past) || (list_any p (for_targets FillDone past) || (list_any p (for_targets Deliver past) || (list_any p (for_targets Early past) || list_any p (for_targets Finish past)))))))))))))))
any_steps p past =
    let k = for_targets Finish past in
    let j = for_targets Early past in
    let i = for_targets Deliver past in
    let h = for_targets FillDone past in
    let g = for_targets TakeFill past in
    let f = for_frames Partial past in
    let e = for_frames SensorDone past in
    let d = for_targets ReturnFailed past in
    let c = for_frames Fail past in
    let b = for_numbers (λ f. Signal (record { 0 = f })) (next_fence past) in
    let a = for_numbers (λ b. Release (record { 0 = b })) (made_count past) in
    rw (
      list_any-append p a (b ++ ((Client ∷ (DropQueued ∷ [])) ++ (c ++ (d ++ ((Shutter ∷ []) ++ (e ++ (f ++ (g ++ (h ++ (i ++ (j ++ k))))))))))),
      list_any-append p b ((Client ∷ (DropQueued ∷ [])) ++ (c ++ (d ++ ((Shutter ∷ []) ++ (e ++ (f ++ (g ++ (h ++ (i ++ (j ++ k)))))))))),
      list_any-append p c (d ++ ((Shutter ∷ []) ++ (e ++ (f ++ (g ++ (h ++ (i ++ (j ++ k)))))))),
      list_any-append p d ((Shutter ∷ []) ++ (e ++ (f ++ (g ++ (h ++ (i ++ (j ++ k))))))),
      list_any-append p e (f ++ (g ++ (h ++ (i ++ (j ++ k))))),
      list_any-append p f (g ++ (h ++ (i ++ (j ++ k)))),
      list_any-append p g (h ++ (i ++ (j ++ k))),
      list_any-append p h (i ++ (j ++ k)),
      list_any-append p i (j ++ k),
      list_any-append p j (k),
    ) refl

-- one of fifteen
pick : (a b c d e f g h i j k l m n o : Bool) → (a ≡ true) ⊎ ((b ≡ true) ⊎ ((c ≡ true) ⊎ ((d ≡ true) ⊎ ((e ≡ true) ⊎ ((f ≡ true) ⊎ ((g ≡ true) ⊎ ((h ≡ true) ⊎ ((i ≡ true) ⊎ ((j ≡ true) ⊎ ((k ≡ true) ⊎ ((l ≡ true) ⊎ ((m ≡ true) ⊎ ((n ≡ true) ⊎ (o ≡ true)))))))))))))) → (a || (b || (c || (d || (e || (f || (g || (h || (i || (j || (k || (l || (m || (n || o)))))))))))))) ≡ true
pick true b c d e f g h i j k l m n o x = refl
pick false true c d e f g h i j k l m n o x = refl
pick false false true d e f g h i j k l m n o x = refl
pick false false false true e f g h i j k l m n o x = refl
pick false false false false true f g h i j k l m n o x = refl
pick false false false false false true g h i j k l m n o x = refl
pick false false false false false false true h i j k l m n o x = refl
pick false false false false false false false true i j k l m n o x = refl
pick false false false false false false false false true j k l m n o x = refl
pick false false false false false false false false false true k l m n o x = refl
pick false false false false false false false false false false true l m n o x = refl
pick false false false false false false false false false false false true m n o x = refl
pick false false false false false false false false false false false false true n o x = refl
pick false false false false false false false false false false false false false true o x = refl
pick false false false false false false false false false false false false false false true x = refl
pick false false false false false false false false false false false false false false false x = none x
  where
    step_on : (q : Type 0) → (false ≡ true) ⊎ q → q
    step_on q (inl w) = absurd (false≢true w)
    step_on q (inr y) = y

    none : (false ≡ true) ⊎ ((false ≡ true) ⊎ ((false ≡ true) ⊎ ((false ≡ true) ⊎ ((false ≡ true) ⊎ ((false ≡ true) ⊎ ((false ≡ true) ⊎ ((false ≡ true) ⊎ ((false ≡ true) ⊎ ((false ≡ true) ⊎ ((false ≡ true) ⊎ ((false ≡ true) ⊎ ((false ≡ true) ⊎ ((false ≡ true) ⊎ (false ≡ true)))))))))))))) → false ≡ true
    none x = step_on _ (step_on _ (step_on _ (step_on _ (step_on _ (step_on _ (step_on _ (step_on _ (step_on _ (step_on _ (step_on _ (step_on _ (step_on _ (step_on _ x)))))))))))))

pick_steps : (p : StepName → Bool) (past : List Entry) → (p Send ≡ true) ⊎ ((list_any p (for_numbers (λ b. Release (record { 0 = b })) (made_count past)) ≡ true) ⊎ ((list_any p (for_numbers (λ f. Signal (record { 0 = f })) (next_fence past)) ≡ true) ⊎ ((p Client ≡ true) ⊎ ((p DropQueued ≡ true) ⊎ ((list_any p (for_frames Fail past) ≡ true) ⊎ ((list_any p (for_targets ReturnFailed past) ≡ true) ⊎ ((p Shutter ≡ true) ⊎ ((list_any p (for_frames SensorDone past) ≡ true) ⊎ ((list_any p (for_frames Partial past) ≡ true) ⊎ ((list_any p (for_targets TakeFill past) ≡ true) ⊎ ((list_any p (for_targets FillDone past) ≡ true) ⊎ ((list_any p (for_targets Deliver past) ≡ true) ⊎ ((list_any p (for_targets Early past) ≡ true) ⊎ (list_any p (for_targets Finish past) ≡ true)))))))))))))) → list_any p (steps past) ≡ true
pick_steps p past one = any_steps p past ∙ pick (p Send) (list_any p (for_numbers (λ b. Release (record { 0 = b })) (made_count past))) (list_any p (for_numbers (λ f. Signal (record { 0 = f })) (next_fence past))) (p Client) (p DropQueued) (list_any p (for_frames Fail past)) (list_any p (for_targets ReturnFailed past)) (p Shutter) (list_any p (for_frames SensorDone past)) (list_any p (for_frames Partial past)) (list_any p (for_targets TakeFill past)) (list_any p (for_targets FillDone past)) (list_any p (for_targets Deliver past)) (list_any p (for_targets Early past)) (list_any p (for_targets Finish past)) one

among_steps : (p : StepName → Bool) (past : List Entry) (step : StepName) → is_named past step ≡ true → p step ≡ true → list_any p (steps past) ≡ true
among_steps p past Send named h = pick_steps p past (inl h)
among_steps p past (Release b) named h = pick_steps p past (inr (inl (in_numbers p (λ x. Release (record { 0 = x })) (made_count past) b.0 named h)))
among_steps p past (Signal f) named h = pick_steps p past (inr (inr (inl (in_numbers p (λ x. Signal (record { 0 = x })) (next_fence past) f.0 named h))))
among_steps p past Client named h = pick_steps p past (inr (inr (inr (inl h))))
among_steps p past DropQueued named h = pick_steps p past (inr (inr (inr (inr (inl h)))))
among_steps p past (Fail n) named h = pick_steps p past (inr (inr (inr (inr (inr (inl (in_frames p Fail past n named h)))))))
among_steps p past (ReturnFailed n s) named h = pick_steps p past (inr (inr (inr (inr (inr (inr (inl (in_targets p ReturnFailed past n s named h))))))))
among_steps p past Shutter named h = pick_steps p past (inr (inr (inr (inr (inr (inr (inr (inl h))))))))
among_steps p past (SensorDone n) named h = pick_steps p past (inr (inr (inr (inr (inr (inr (inr (inr (inl (in_frames p SensorDone past n named h))))))))))
among_steps p past (Partial n) named h = pick_steps p past (inr (inr (inr (inr (inr (inr (inr (inr (inr (inl (in_frames p Partial past n named h)))))))))))
among_steps p past (TakeFill n s) named h = pick_steps p past (inr (inr (inr (inr (inr (inr (inr (inr (inr (inr (inl (in_targets p TakeFill past n s named h))))))))))))
among_steps p past (FillDone n s) named h = pick_steps p past (inr (inr (inr (inr (inr (inr (inr (inr (inr (inr (inr (inl (in_targets p FillDone past n s named h)))))))))))))
among_steps p past (Deliver n s) named h = pick_steps p past (inr (inr (inr (inr (inr (inr (inr (inr (inr (inr (inr (inr (inl (in_targets p Deliver past n s named h))))))))))))))
among_steps p past (Early n s) named h = pick_steps p past (inr (inr (inr (inr (inr (inr (inr (inr (inr (inr (inr (inr (inr (inl (in_targets p Early past n s named h)))))))))))))))
among_steps p past (Finish n s) named h = pick_steps p past (inr (inr (inr (inr (inr (inr (inr (inr (inr (inr (inr (inr (inr (inr (in_targets p Finish past n s named h)))))))))))))))

some_kept : (p : StepName → Bool) (xs : List StepName) → list_any p xs ≡ true → 0 < length (filter p xs)
some_kept p [] h = absurd (false≢true h)
some_kept p (x ∷ xs) h =
    elim (cases_Bool (p x)) [
      | inl here ↦ rw here (omega arith)
      | inr other ↦ (let h' = rw other at h in rw other (some_kept p xs h'))
    ]

pub some-candidate : (script : Script) (h : List Move) (step : StepName) → is_ready script h step ≡ true → is_named (trace_of h) step ≡ true → 0 < length (candidates script h)
some-candidate script h step ready named = some_kept (is_ready script h) (steps (trace_of h)) (among_steps (is_ready script h) (trace_of h) step named ready)

-- a step that is ready and named
abbrev pub GoesOn : Script → List Move → Type 0
GoesOn script h = (step : StepName) × (is_ready script h step ≡ true) × (is_named (trace_of h) step ≡ true)
