-- A call of several causes that isn't refused has none of them.
use Rattle.std.proofs.Common.{◌≡◌, ℕ, Bool, true, false, Option, Some, None, refl}
use Rattle.cam_types.specs.Refusals.{at_place, or_else, where_true, with_value}
use Rattle.cam_types.specs.declared.reply.Reply.{Reply}

pub or-none : (a b : Option Reply) → or_else a b ≡ None → (a ≡ None) × (b ≡ None)
or-none (Some r) b h = absurd (cc)
or-none None b h = (refl, h)

pub no-value : (code i : ℕ) (o : Option ℕ) → with_value code i o ≡ None → o ≡ None
no-value code i None h = refl
no-value code i (Some v) h = absurd (cc)

pub where-none : (b : Bool) (r : Reply) → where_true b r ≡ None → b ≡ false
where-none true r h = absurd (cc)
where-none false r h = refl

pub placed-none : (code : ℕ) (o : Option ℕ) → at_place code o ≡ None → o ≡ None
placed-none code None h = refl
placed-none code (Some i) h = absurd (cc)
