-- What a handle owns says the same to every thread.
use mir.Raw.{raw}
use base.Fraction.{full_share}
use base.Shift.{Keyless}
use denote.Memory.{lone}
use denote.Param.Send.{IsSend, part_keyless}
use denote.RawPtr.{Ptr, block_ptr, null_ptr}
use Rattle.std.proofs.Crossing.{frees}
use Rattle.std.specs.declared.option.Option.{Option}
use Rattle.std.specs.declared.option.Option.TheVariants.{None, Some}
use Rattle.hal_device_c.proofs.handle.Held.TheSendSync as held_send
use Rattle.hal_device_c.specs.Room.{holds}
use Rattle.hal_device_c.specs.contracts.handle.Handle.{the_row}
use Rattle.hal_device_c.specs.contracts.handle.Held as held
use Rattle.hal_device_model.specs.State.{HalDeviceState}

holds_keyless : (p : Ptr) (d : Option HalDeviceState) → Keyless (holds p d)
holds_keyless p None = λ _. tt
holds_keyless null_ptr (Some state) = λ heap. (tt, frees.frees heap (raw (lone held.the_row.mir)) null_ptr)
holds_keyless (block_ptr b o) (Some state) = λ heap. (part_keyless held.the_row held_send.the_send full_share state b o, frees.frees heap (raw (lone held.the_row.mir)) (block_ptr b o))

pub send : IsSend the_row
send = record { owned = λ h vs. ((λ vss. (tt, (tt, tt))), holds_keyless h.at h.device); leaving = λ k d w. tt }
