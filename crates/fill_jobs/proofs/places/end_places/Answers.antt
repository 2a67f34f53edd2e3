use Rattle.std.proofs.Common.{arith}
use Rattle.std.proofs.lemmas.Grind.{common_steps}
use Rattle.fill_jobs.proofs.places.end_places.Goals as goal

pub end-requires : goal.end-requires
end-requires c = grind (arith, common_steps, c.requires 0)

pub end-requires-2 : goal.end-requires-2
end-requires-2 c = grind (arith, common_steps, c.requires 1)

pub end-requires-3 : goal.end-requires-3
end-requires-3 c = grind (arith, common_steps, c.requires 2)

pub end-requires-4 : goal.end-requires-4
end-requires-4 c = grind (arith, common_steps, c.requires 3)

pub end-requires-5 : goal.end-requires-5
end-requires-5 c = grind (arith, common_steps, c.requires 4)

pub end-requires-6 : goal.end-requires-6
end-requires-6 c = grind (arith, common_steps, c.requires 5)

pub end-requires-7 : goal.end-requires-7
end-requires-7 c = grind (arith, common_steps, c.requires 6)

pub end-requires-8 : goal.end-requires-8
end-requires-8 c = grind (arith, common_steps, c.requires 7)

pub end-requires-9 : goal.end-requires-9
end-requires-9 c = grind (arith, common_steps, c.requires 8)

pub end-requires-10 : goal.end-requires-10
end-requires-10 c = grind (arith, common_steps, c.requires 9)

pub end-requires-11 : goal.end-requires-11
end-requires-11 c = grind (arith, common_steps, c.requires 10)

pub end-requires-12 : goal.end-requires-12
end-requires-12 c = grind (arith, common_steps, c.requires 11)

pub end-requires-13 : goal.end-requires-13
end-requires-13 c = grind (arith, common_steps, c.requires 12)

pub end-requires-14 : goal.end-requires-14
end-requires-14 c = grind (arith, common_steps, c.requires 13)

pub end-requires-15 : goal.end-requires-15
end-requires-15 c = grind (arith, common_steps, c.requires 14)

pub end-requires-16 : goal.end-requires-16
end-requires-16 c = grind (arith, common_steps, c.requires 15)
