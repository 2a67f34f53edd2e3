-- The derived `==` of a type decides equality.
use Rattle.std.proofs.Common.{◌≡◌, Bool, ◌&&◌, Option, Some, None, refl, ap, rules}
use Rattle.std.proofs.lemmas.Bool.{false≢true}
use Rattle.std.specs.Bool.{Decides}
use Rattle.std.proofs.lemmas.Bool.Decides.{Decides-and, Decides-like}
use Rattle.std.specs.Option.{option_eq}
use Rattle.cam_types.specs.declared.four.Four.{Four}
use Rattle.cam_types.specs.declared.number.FrameNo.{FrameNo}
use Rattle.cam_types.specs.declared.number.RequestId.{RequestId}
use Rattle.cam_types.specs.contracts.number.FrameNoPartialEq.TheImpl.{eq-value as frame_eq}
use Rattle.cam_types.specs.contracts.number.RequestIdPartialEq.TheImpl.{eq-value as request_eq}
use Rattle.cam_types.specs.declared.reply.Made.{Made}
use Rattle.cam_types.specs.declared.reply.Reply.{Reply}
use Rattle.cam_types.specs.declared.reply.Reply.TheVariants.{Ok, Submitted, Configured, Refused}
use Rattle.cam_types.specs.contracts.reply.MadePartialEq.TheImpl.{eq-value as made_eq}
use Rattle.cam_types.specs.contracts.reply.ReplyPartialEq.TheImpl.{eq-value as reply_eq}

pub Decides-option_eq : {T : Type 0} (E : T → T → Bool) → ((a b : T) → Decides (E a b) (a ≡ b)) → (x y : Option T) → Decides (option_eq E x y) (x ≡ y)
Decides-option_eq E each None None = (λ _. refl, λ _. refl)
Decides-option_eq E each None (Some b) = (λ h. absurd (false≢true h), λ h. absurd (cc))
Decides-option_eq E each (Some a) None = (λ h. absurd (false≢true h), λ h. absurd (cc))
Decides-option_eq E each (Some a) (Some b) = (λ h. ap Some ((each a b).0 h), λ h. (each a b).1 (cc))

four_same : {T : Type 0} (x y : Four T) → x.a ≡ y.a → x.b ≡ y.b → x.c ≡ y.c → x.d ≡ y.d → x ≡ y
four_same x y a b c d =
    let k : record { a = x.a; b = x.b; c = x.c; d = x.d } ≡ record { a = y.a; b = y.b; c = y.c; d = y.d } = rw (a, b, c, d) refl in k

pub Decides-four_eq : {T : Type 0} (E : T → T → Bool) → ((a b : T) → Decides (E a b) (a ≡ b)) → (x y : Four T) → Decides (option_eq E x.a y.a && (option_eq E x.b y.b && (option_eq E x.c y.c && option_eq E x.d y.d))) (x ≡ y)
Decides-four_eq {T} E each x y =
    let a = Decides-option_eq E each x.a y.a in
    let b = Decides-option_eq E each x.b y.b in
    let c = Decides-option_eq E each x.c y.c in
    let d = Decides-option_eq E each x.d y.d in
    Decides-like _ (λ h. four_same x y h.0 h.1.0 h.1.1.0 h.1.1.1) (λ h. (ap (λ (z : Four T). z.a) h, (ap (λ (z : Four T). z.b) h, (ap (λ (z : Four T). z.c) h, ap (λ (z : Four T). z.d) h)))) (Decides-and _ _ a (Decides-and _ _ b (Decides-and _ _ c d)))

pub Decides-made_eq : (a b : Made) → Decides (made_eq.it a b) (a ≡ b)
Decides-made_eq a b = search rules

pub Decides-reply_eq : (a b : Reply) → Decides (reply_eq.it a b) (a ≡ b)
Decides-reply_eq Ok Ok = (λ _. refl, λ _. refl)
Decides-reply_eq (Submitted r) (Submitted s) = search rules
Decides-reply_eq (Configured f) (Configured g) = Decides-like _ (λ h. ap Configured h) (λ h. cc) (Decides-four_eq made_eq.it Decides-made_eq f g)
Decides-reply_eq (Refused c f s) (Refused d g t) = search rules
Decides-reply_eq _ _ = (λ h. absurd (false≢true h), λ h. absurd (cc))

pub Decides-frame_eq : (a b : FrameNo) → Decides (frame_eq.it a b) (a ≡ b)
Decides-frame_eq a b = search rules

pub Decides-request_eq : (a b : RequestId) → Decides (request_eq.it a b) (a ≡ b)
Decides-request_eq a b = search rules
