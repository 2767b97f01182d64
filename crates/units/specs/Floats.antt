-- Document 01, module 3, "Records keep the Rust's f32 fields". Definitions only.
-- `binary32` is IEEE 754's format of an `f32`; `of_int` and `div` round once to the nearest value, a tie to the even one.
use Rattle.std.specs.Prelude.{ℕ, ℤ, pos, ◌-ℤ◌, Float}
use Rattle.std.specs.Float.{binary32}
use Rattle.std.specs.Float.Ieee.{of_int, div}

-- "rounded to the nearest f32 with ties to even"; a count below 2 ^ 24 stays as it is
abbrev pub nearest : ℤ → Float
nearest z = of_int binary32 z

-- "tenths are the count divided by 10.0 .. one rounding"
abbrev pub tenths : ℤ → Float
tenths z = div binary32 (nearest z) (nearest (pos 10))

-- "thousandths by 1000.0"; the capacity is "first rounded to the nearest f32 .. then divided by 1000.0"
abbrev pub thousandths : ℤ → Float
thousandths z = div binary32 (nearest z) (nearest (pos 1000))

-- "Current is (count − 30000) / 10.0": the whole count, whose tenths are the current
abbrev pub current_count : ℕ → ℤ
current_count count = pos count -ℤ pos 30000
