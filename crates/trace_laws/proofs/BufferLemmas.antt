-- The bound on buffers, and the numbers of a configuration's buffers.
use Rattle.std.proofs.Common.{◌≡◌, ℕ, ◌+◌, ◌*◌, ◌≤◌, true, List, [], ◌∷◌, Option, Some, None, arith, max, sum_by}
use Rattle.std.proofs.Math.Nat.{mul-le-mul_left}
use Rattle.std.proofs.lemmas.Bool.{false≢true}
use Rattle.std.proofs.lemmas.List.Sums.{sum_by-cons}
use Rattle.cam_types.specs.Four.{four_list, four_of}
use Rattle.cam_types.specs.declared.reply.Made.{Made}
use Rattle.cam_types.specs.declared.reply.Reply.{Reply}
use Rattle.cam_types.specs.declared.reply.Reply.TheVariants.{Ok, Submitted, Configured, Refused}
use Rattle.cam_types.specs.declared.script.Command.{Command}
use Rattle.cam_types.specs.declared.script.Command.TheVariants.{Configure}
use Rattle.cam_types.specs.declared.profile.Profile.{Profile}
use Rattle.cam_types.specs.declared.script.Script.{Script}
use Rattle.cam_types.specs.declared.stream.Format.{Format}
use Rattle.cam_types.specs.declared.stream.Format.TheVariants.{Raw16, Yuv, Other}
use Rattle.cam_types.specs.declared.stream.StreamSpec.{StreamSpec}
use Rattle.trace_model.specs.declared.entry.Entry.{Entry}
use Rattle.trace_model.specs.declared.entry.Entry.TheVariants.{Call}
use Rattle.trace_model.specs.Calls.{word_of}
use Rattle.trace_model.specs.Configuration.{made_by, made_count}
use Rattle.cam_types.specs.Profile.{max_buffers}
use Rattle.trace_model.specs.Entry.{is_call}
use Rattle.trace_model.specs.Legal.{IsLegal}
use Rattle.trace_model.specs.Numbers.{call_count}
use Rattle.trace_model.specs.Reply.{acceptance, made_for, refusal, reply, reply_with}
use Rattle.trace_laws.specs.Bounds.{buffer_bound, configuration_bound}
use Rattle.trace_laws.proofs.Calls.{by-call, calls_bounded}
use Rattle.trace_laws.proofs.Refusals.{refuses, refusal-refuses}
use Rattle.basic_lemmas.proofs.Counts.{count-cons}

-- the most buffers of a stream at the device
abbrev pub most : Profile → ℕ
most p = max p.raw p.yuv

pub few-at-device : (p : Profile) (f : Format) → max_buffers p f ≤ most p
few-at-device p Raw16 = grind arith
few-at-device p Yuv = grind arith
few-at-device p (Other n) = omega arith

-- one more of k for each
one-more : (k c d m a n : ℕ) → m ≤ k * c → a ≤ k → d ≡ 1 + c → n ≡ a + m → n ≤ k * d
one-more k c d m a n l few next more =
    let e : k * (1 + c) ≡ k + k * c = grind arith in
    rw next (omega (arith, e, l, few, more))

made-few : (p : Profile) (m : ℕ) (specs : List StreamSpec) → sum_by (λ (x : Made). x.count) (four_list (four_of (made_for p m specs))) ≤ 4 * (most p + 2)
made-few p m [] = omega arith
made-few p m (a ∷ []) = let fa = few-at-device p a.format in omega (arith, fa)
made-few p m (a ∷ b ∷ []) = let fa = few-at-device p a.format in let fb = few-at-device p b.format in omega (arith, fa, fb)
made-few p m (a ∷ b ∷ c ∷ []) = let fa = few-at-device p a.format in let fb = few-at-device p b.format in let fc = few-at-device p c.format in omega (arith, fa, fb, fc)
made-few p m (a ∷ b ∷ c ∷ d ∷ specs) = let fa = few-at-device p a.format in let fb = few-at-device p b.format in let fc = few-at-device p c.format in let fd = few-at-device p d.format in omega (arith, fa, fb, fc, fd)

call_makes_few : (script : Script) (past : List Entry) (i : ℕ) (c : Command) (e : Option Reply) → refuses e ≡ true → made_by (Call i (word_of c) (reply_with e (acceptance script past c))) ≤ configuration_bound script
call_makes_few script past i c (Some (Refused code first second)) h = omega arith
call_makes_few script past i c (Some Ok) h = absurd (false≢true h)
call_makes_few script past i c (Some (Submitted r)) h = absurd (false≢true h)
call_makes_few script past i c (Some (Configured made)) h = absurd (false≢true h)
call_makes_few script past i (Configure specs) None h = made-few script.profile (made_count past) specs
call_makes_few script past i c None h = omega arith

pub made-by-calls : (script : Script) (past : List Entry) → IsLegal script past → made_count past ≤ configuration_bound script * call_count past
made-by-calls script [] legal = omega arith
made-by-calls script (Call i w r ∷ past) legal =
    let ih = made-by-calls script past legal.1 in
    by-call (λ e. made_count (e ∷ past) ≤ configuration_bound script * call_count (e ∷ past)) script past i w r legal.0
    (λ c at.
    let few = call_makes_few script past (call_count past) c (refusal script past c) (refusal-refuses script past c) in
    let one = count-cons is_call (Call (call_count past) (word_of c) (reply script past c)) past in
    let more = sum_by-cons made_by (Call (call_count past) (word_of c) (reply script past c)) past in
    one-more (configuration_bound script) (call_count past) (call_count (Call (call_count past) (word_of c) (reply script past c) ∷ past)) (made_count past) (made_by (Call (call_count past) (word_of c) (reply script past c))) (made_count (Call (call_count past) (word_of c) (reply script past c) ∷ past)) ih few one more)
made-by-calls script (e ∷ past) legal = made-by-calls script past legal.1

pub buffers_bounded : (script : Script) (past : List Entry) → IsLegal script past → made_count past ≤ buffer_bound script
buffers_bounded script past legal =
    let made = made-by-calls script past legal in
    let few = calls_bounded script past legal in
    let more = mul-le-mul_left (configuration_bound script) few in
    le-steps _ _ _ made more
  where
    le-steps : (a b c : ℕ) → a ≤ b → b ≤ c → a ≤ c
    le-steps a b c one two = omega (arith, one, two)
