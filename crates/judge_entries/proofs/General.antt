-- Tests of what is there of four values.
use Rattle.std.proofs.Common.{◌≡◌, Bool, ◌&&◌, ◌||◌, arith, option_to_list}
use Rattle.std.specs.List.{list_any, list_all}
use Rattle.std.proofs.lemmas.Grind.{common_steps}
use Rattle.cam_types.specs.Four.{four_list}
use Rattle.cam_types.specs.declared.four.Four.{Four}

pub four_any : {T : Type 0} (p : T → Bool) (f : Four T) → list_any p (four_list f) ≡ (list_any p (option_to_list f.a) || (list_any p (option_to_list f.b) || (list_any p (option_to_list f.c) || list_any p (option_to_list f.d))))
four_any p f = grind (arith, common_steps)

pub four_all : {T : Type 0} (p : T → Bool) (f : Four T) → list_all p (four_list f) ≡ (list_all p (option_to_list f.a) && (list_all p (option_to_list f.b) && (list_all p (option_to_list f.c) && list_all p (option_to_list f.d))))
four_all p f = grind (arith, common_steps)
