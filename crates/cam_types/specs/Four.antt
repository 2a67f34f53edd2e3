use Rattle.std.specs.Prelude.{List, ◌++◌, option_to_list, slice_get}
use Rattle.cam_types.specs.declared.four.Four.{Four}

-- the values that are there, in order
abbrev pub four_list : {T : Type 0} → Four T → List T
four_list f = option_to_list f.a ++ (option_to_list f.b ++ (option_to_list f.c ++ option_to_list f.d))

-- the first four values of a list, from the first place on
abbrev pub four_of : {T : Type 0} → List T → Four T
four_of xs = record { a = slice_get xs 0; b = slice_get xs 1; c = slice_get xs 2; d = slice_get xs 3 }
