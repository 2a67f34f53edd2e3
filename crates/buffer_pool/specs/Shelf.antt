use Rattle.std.specs.Prelude.{ℕ}

-- Our own choice, as all that concerns blocks.

-- blocks of one length: how many bytes each has, how many are free and how many are lent
pub record Shelved : Type 0 where
  pub size : ℕ
  pub free : ℕ
  pub lent : ℕ

abbrev pub full_shelf : ℕ → ℕ → Shelved
full_shelf size count = record { size = size; free = count; lent = 0 }
